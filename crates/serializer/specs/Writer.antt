-- What the writer's calls answer and leave: the state, the two lent areas and the output, on every input.
-- Assumes nothing.
use Rattle.format.specs.declared.refusal.Refusal.TheVariants.{CountMismatch, NoRoom, StateBroken}
use Rattle.std.specs.Prelude.{ℕ, ◌+◌, ◌-◌, ◌/◌, Bool, not, ◌&&◌ as and, ◌||◌ as or, List, [], ◌∷◌, length, take, replicate, ◌==◌, nat_le, nat_lt, slice_set, Ok, Err}
use Rattle.format.specs.declared.IndexRecordOption.{IndexRecordOption}
use Rattle.format.specs.Basics.{Outcome, and_then, ask, choose, last_of, put_at, fits_at, or_before, TERMINATED}
use Rattle.format.specs.Values.{rising, countable}
use Rattle.format.specs.SkipEntry.{has_freq_of}
use Rattle.format.specs.Written.{entry_of, block_of, Parts, blocks_of, image_with}
use Rattle.format.specs.Accepted.{known_mode_of, kept_in, take_doc, written}
use Rattle.serializer.specs.declared.block.Places.{Places}
use Rattle.serializer.specs.declared.PostingsSerializer.{PostingsSerializer}

-- ---- the state

unfoldable pub fresh : ℕ → Bool → PostingsSerializer
fresh mode recording = record {
  docs = replicate 128 0;
  freqs = replicate 128 0;
  mode = mode;
  recording = recording;
  waiting = 0;
  last_doc = 0;
  taken = 0;
  skips_at = 0;
  postings_at = 0;
}

unfoldable pub option_of : PostingsSerializer → IndexRecordOption
unfolding kept_in
option_of s = kept_in s.mode s.recording

unfoldable pub waiting_docs : PostingsSerializer → List ℕ
waiting_docs s = take s.waiting s.docs

unfoldable pub waiting_freqs : PostingsSerializer → List ℕ
waiting_freqs s = take s.waiting s.freqs

-- the least id that the first waiting document may have: there is a last block where more documents were taken than wait
unfoldable pub first_least_of : PostingsSerializer → ℕ
unfolding choose
first_least_of s = choose (nat_lt s.waiting s.taken) (λ _. s.last_doc + 1) (λ _. 0)

-- the least id that may come behind ds
unfoldable pub least_after_of : ℕ → List ℕ → ℕ
unfolding last_of
least_after_of least [] = least
least_after_of least (d ∷ ds) = last_of d ds + 1

-- question 16: at most 127 documents wait, their ids strictly rising, below TERMINATED and above the last block's last id, their
-- kept frequencies at least 1; at most 2147483647 are taken; the areas reach no further than their slices; the mode is 0 or 1
unfoldable pub bounds_hold : PostingsSerializer → ℕ → ℕ → Bool
unfolding rising countable has_freq_of known_mode_of option_of waiting_docs waiting_freqs first_least_of
bounds_hold s skips postings =
    and (nat_le s.waiting 127)
    (and (rising (first_least_of s) (waiting_docs s))
    (and (or (not (has_freq_of (option_of s))) (countable (waiting_freqs s)))
    (and (nat_le s.taken TERMINATED)
    (and (and (nat_le s.skips_at skips) (nat_le s.postings_at postings))
    (known_mode_of s.mode)))))

unfoldable pub in_bounds_of : PostingsSerializer → List ℕ → List ℕ → Bool
unfolding bounds_hold
in_bounds_of s skips postings = bounds_hold s (length skips) (length postings)

-- ---- the calls

-- the state and the areas after a call
pub record Areas : Type 0 where
  pub state : PostingsSerializer
  pub skips : List ℕ
  pub postings : List ℕ

-- the document waits
unfoldable pub stored : PostingsSerializer → ℕ → ℕ → PostingsSerializer
stored s d f = record {
  docs = slice_set s.docs s.waiting d;
  freqs = slice_set s.freqs s.waiting f;
  mode = s.mode;
  recording = s.recording;
  waiting = s.waiting + 1;
  last_doc = s.last_doc;
  taken = s.taken + 1;
  skips_at = s.skips_at;
  postings_at = s.postings_at;
}

-- no document waits, and the areas are filled up to these places
unfoldable pub emptied : PostingsSerializer → Places → PostingsSerializer
unfolding last_of
emptied s at = record {
  docs = s.docs;
  freqs = s.freqs;
  mode = s.mode;
  recording = s.recording;
  waiting = 0;
  last_doc = last_of 0 s.docs;
  taken = s.taken;
  skips_at = at.skips;
  postings_at = at.postings;
}

-- 128 wait: their block and its entry go into the areas, from the places reached so far, if they fit
unfoldable pub finished : PostingsSerializer → ℕ → List ℕ → List ℕ → Outcome Areas
unfolding ask fits_at put_at emptied entry_of block_of option_of
finished s least skips postings =
    let entry : List ℕ = entry_of (option_of s) least s.docs s.freqs in
    let block : List ℕ = block_of (option_of s) least s.docs s.freqs in
    ask (and (fits_at s.skips_at entry skips) (fits_at s.postings_at block postings)) NoRoom λ _.
    Ok (record {
      state = emptied s (record { skips = s.skips_at + length entry; postings = s.postings_at + length block });
      skips = put_at s.skips_at entry skips;
      postings = put_at s.postings_at block postings;
    })

-- one document more: 16, then 11 to 13, 16 where as many are taken as can be, and 15 where it fills a block without room
unfoldable pub taking : PostingsSerializer → ℕ → ℕ → List ℕ → List ℕ → Outcome Areas
unfolding and_then ask choose in_bounds_of take_doc option_of least_after_of first_least_of waiting_docs stored finished
taking s d f skips postings =
    ask (in_bounds_of s skips postings) StateBroken λ _.
    and_then (take_doc (option_of s) (least_after_of (first_least_of s) (waiting_docs s)) d f) λ _.
    ask (nat_lt s.taken TERMINATED) StateBroken λ _.
    choose (nat_lt s.waiting 127)
    (λ _. Ok (record { state = stored s d f; skips = skips; postings = postings }))
    (λ _. finished (stored s d f) (first_least_of s) skips postings)

-- the image: what the areas hold so far, and the tail
unfoldable pub image_of : PostingsSerializer → List ℕ → List ℕ → List ℕ
unfolding image_with option_of first_least_of waiting_docs waiting_freqs
image_of s skips postings =
    image_with (s.taken / 128) (take s.skips_at skips) (take s.postings_at postings) (option_of s) (first_least_of s - 1)
    (waiting_docs s) (waiting_freqs s)

-- closing: 16, then 14, then 15 where the image doesn't fit the output
unfoldable pub closing : PostingsSerializer → ℕ → List ℕ → List ℕ → List ℕ → Outcome (List ℕ)
unfolding ask fits_at in_bounds_of image_of
closing s announced skips postings output =
    ask (in_bounds_of s skips postings) StateBroken λ _.
    ask (s.taken == announced) CountMismatch λ _.
    let image : List ℕ = image_of s skips postings in
    ask (fits_at 0 image output) NoRoom λ _. Ok image

-- documents handed in one by one, each call with the state and the areas as the last one left them
unfoldable pub take_all_docs : PostingsSerializer → List ℕ → List ℕ → List ℕ → List ℕ → Outcome Areas
unfolding and_then taking
take_all_docs s [] fs skips postings = Ok (record { state = s; skips = skips; postings = postings })
take_all_docs s (d ∷ ds) [] skips postings = Err CountMismatch
take_all_docs s (d ∷ ds) (f ∷ fs) skips postings =
    and_then (taking s d f skips postings) λ a. take_all_docs a.state ds fs a.skips a.postings

-- how many documents at the front of a list are accepted
unfoldable pub accepted_count : IndexRecordOption → ℕ → List ℕ → List ℕ → ℕ
unfolding or_before take_doc
accepted_count option least [] fs = 0
accepted_count option least (d ∷ ds) [] = 0
accepted_count option least (d ∷ ds) (f ∷ fs) = or_before (λ next. 1 + accepted_count option next ds fs) (take_doc option least d f) 0

-- ---- a whole list

-- 1, 14 for slices of different length, 11 to 13 document by document, and 15 last
unfoldable pub listing : ℕ → Bool → List ℕ → List ℕ → List ℕ → List ℕ → List ℕ → Outcome (List ℕ)
unfolding and_then ask fits_at written kept_in blocks_of
listing mode recording ds fs skips postings output =
    and_then (written mode recording ds fs) λ image.
    let blocks : Parts = blocks_of (kept_in mode recording) (length ds / 128) 0 ds fs in
    ask (and (and (fits_at 0 blocks.skips skips) (fits_at 0 blocks.postings postings)) (fits_at 0 image output)) NoRoom λ _.
    Ok image

-- .. under an announced count: 14 for another one behind the documents' questions, and before 15
unfoldable pub announcing : ℕ → Bool → ℕ → List ℕ → List ℕ → List ℕ → List ℕ → List ℕ → Outcome (List ℕ)
unfolding and_then ask written listing
announcing mode recording announced ds fs skips postings output =
    and_then (written mode recording ds fs) λ _.
    ask (length ds == announced) CountMismatch λ _.
    listing mode recording ds fs skips postings output
