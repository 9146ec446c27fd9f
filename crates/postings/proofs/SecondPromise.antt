-- The second promise of the order, as far as it is proved:
--   "Proved: they are what the definitions say, and a written list reads back as itself, frequencies not kept as 1".
-- What `write_list` leaves at the front of the output is the image that the definitions give; it is admitted, its documents are the
-- list's and its frequencies the list's, or 1 for each where they aren't kept or not requested. So any list of calls on it answers what
-- the model answers of the list itself; ranks and totals are its counts and sums. The runs against the Rust are in differential/.
-- Assumes nothing.
use Rattle.std.specs.Prelude.{Ok, Err}
use Rattle.format.specs.declared.refusal.Refusal.{Refusal}
use Rattle.format.specs.declared.refusal.Refusal.TheVariants.{TargetTooLarge}
use mathlib.Core.Bool.{Bool, ◌&&◌ as and}
use mathlib.Core.List.{List, [], ◌∷◌, map}
use mathlib.Core.Path.{◌≡◌, refl, ap, ◌∙◌}
use Prim.Native.Nat.{ℕ, ◌≤◌, ◌<◌, ◌^◌}
use borrow.Author.Tests.{lt-leb}
use lib.Dec.{ltb}
use lib.ListN.{length, take}
use Rattle.format.specs.declared.Term.{Term}
use Rattle.format.specs.Basics.{and_then, ask, put_at, or_before, TERMINATED, AllBelow, Outcome}
use Rattle.format.specs.SkipEntry.{has_freq_of}
use Rattle.format.specs.Refusal.{number_of}
use Rattle.format.specs.Written.{image}
use Rattle.format.specs.Accepted.{kept_in}
use Rattle.format.specs.Reading.{reading, soundness, docs_of, freqs_of}
use Rattle.format.specs.Counts.{total, ids_below, sum_below}
use Rattle.format.specs.Model.{answers}
use Rattle.format.specs.ReadsBack.{read_freqs, ReadsBack}
use Rattle.format.proofs.Area.{take-put_at-front}
use Rattle.format.proofs.Accepted.{written-ok}
use Rattle.format.proofs.Blocks.{docs_many}
use Rattle.format.proofs.Requested.{sound_requested}
use Rattle.format.proofs.Sound.{Sound, sound-image, sound-blocks, whole-count}
use Rattle.format.proofs.Totals.{total-below, total_unsound}
use Rattle.serializer.specs.Writer.{listing}
use Rattle.serializer.specs.Calls.{Listed}
use Rattle.serializer.proofs.Laws.AnswerTells.{answered-bytes}
use Rattle.serializer.proofs.Laws.WholeList.{whole-list-writes, whole-list-sound, whole-list-reads-back}
use Rattle.segment_postings.specs.declared.Answer.{Answer}
use Rattle.segment_postings.specs.declared.SegmentPostings.{SegmentPostings}
use Rattle.segment_postings.specs.Cursor.{ranking}
use Rattle.segment_postings.specs.ReadWhole.{read_whole, WholeRead}
use Rattle.segment_postings.specs.Called.{shown, value_numbers}
use Rattle.segment_postings.proofs.Laws.ReadQuestions.{whole_is}
use Rattle.segment_postings.proofs.Simulation.RankCounts.{rank_ids, rank_refused}
use Rattle.postings.specs.MixedCalls.{MadeCall, calls_of, Opened, Called}
use Rattle.postings.proofs.ThirdPromise.{third_promise}
use Rattle.postings.proofs.ValueNumbers.{told, told-refused}

module _ (mode : ℕ) (recording : Bool) (ds fs skips postings output : List ℕ) (small : AllBelow (2 ^ 32) fs)
    {skips' postings' output' : List ℕ} {n : ℕ} (listed : Listed mode recording ds fs skips postings output skips' postings' output' (Ok n)) where
  -- the bytes written are the image
  written-image : (listing mode recording ds fs skips postings output ≡ Ok (take n output')) × (take n output' ≡ image (kept_in mode recording) ds fs)
  unfolding or_before
  written-image =
      let p = answered-bytes length (listing mode recording ds fs skips postings output) listed.answer refl in
      let room = (whole-list-writes mode recording ds fs skips postings output).0 p.1 in
      let out = rw p.1 at listed.output_after in
      let same : take n output' ≡ p.0 =
      ap (λ k. take k output') p.2 ∙ ap (take (length p.0)) out ∙ take-put_at-front p.0 output room.1.output_fit in
      (rw same p.1, same ∙ (written-ok mode recording ds fs small room.0).bytes)

  pub written-bytes : take n output' ≡ image (kept_in mode recording) ds fs
  written-bytes = written-image.1

  pub written_admitted : soundness mode (length ds) (take n output') ≡ Ok tt
  written_admitted = whole-list-sound mode recording ds fs skips postings output small written-image.0

  module _ (requested : ℕ) (known : requested ≤ 2) where
    abbrev term : Term
    term = record { mode = mode; requested = requested; count = length ds }

    -- the list's own frequencies where they are kept and requested, else a 1 for each
    abbrev freqs_read : List ℕ
    freqs_read = read_freqs (and (has_freq_of (kept_in mode recording)) (ltb 0 requested)) fs

    pub written-reads-back : ReadsBack ds freqs_read (reading term (take n output'))
    written-reads-back = whole-list-reads-back mode recording ds fs skips postings output requested known small written-image.0

    -- every list of calls on the written image answers what the model answers of the list
    pub written-answers : {first : Outcome Answer} {begun : SegmentPostings} → Opened (take n output') term first begun
        → {made : List MadeCall} {told : List (Outcome Answer)} {c : SegmentPostings} → Called (take n output') term begun made told c
        → map shown (first ∷ told) ≡ answers ds freqs_read (calls_of made)
    written-answers opens later =
        let b = written-reads-back in
        rw (b.docs, b.freqs) at (third_promise (take n output') term written_admitted known opens later).model_answers_is

-- ---- ranks and totals as numbers: 0 and the value, or a refusal's number and 0

total-refused : (mode count : ℕ) (bs : List ℕ) (target : ℕ) → TERMINATED < target → total mode count bs target ≡ Err TargetTooLarge
unfolding total ask
total-refused mode count bs target above = rw (lt-leb target TERMINATED above)

module _ (mode count : ℕ) (bs : List ℕ) (target : ℕ) where
  -- frequencies requested
  abbrev counted : Term
  counted = record { mode = mode; requested = 1; count = count }

  -- on an admitted image
  module _ (sound : soundness mode count bs ≡ Ok tt) (most : target ≤ TERMINATED) where
    -- `rank` counts the documents below the target
    pub rank_counted : {r : Outcome ℕ} → r ≡ ranking mode count bs target
        → value_numbers r ≡ 0 ∷ length (ids_below target (docs_of (reading counted bs).blocks)) ∷ []
    rank_counted answers = told answers (rank_ids mode count bs target sound most)

    -- `total` sums their frequencies
    pub total-sums : {r : Outcome ℕ} → r ≡ total mode count bs target
        → value_numbers r ≡ 0 ∷ sum_below target (docs_of (reading counted bs).blocks) (freqs_of (reading counted bs).blocks) ∷ []
    total-sums answers = told answers (total-below mode count bs sound target most)

  -- a target above 2147483647 is 10, on every image
  module _ (above : TERMINATED < target) where
    pub rank_too_large : {r : Outcome ℕ} → r ≡ ranking mode count bs target → value_numbers r ≡ 10 ∷ 0 ∷ []
    rank_too_large answers = told-refused answers (rank_refused mode count bs target above)

    pub total_too_large : {r : Outcome ℕ} → r ≡ total mode count bs target → value_numbers r ≡ 10 ∷ 0 ∷ []
    total_too_large answers = told-refused answers (total-refused mode count bs target above)

-- below 2147483647 `total` is exact: of an image that isn't admitted it is refused as `validate` refuses it
pub unsound_total : (mode count : ℕ) (bs : List ℕ) {n : Refusal} → soundness mode count bs ≡ Err n
    → {r : Outcome ℕ} → r ≡ total mode count bs TERMINATED → value_numbers r ≡ number_of n ∷ 0 ∷ []
unsound_total mode count bs unsound answers = told-refused answers (total_unsound mode count bs unsound)

-- ---- a whole list: `read` is lent an admitted image, and room in both slices

module _ (t : Term) (bs docs freqs : List ℕ) (sound : soundness t.mode t.count bs ≡ Ok tt) (known : t.requested ≤ 2)
    (docs_fit : t.count ≤ length docs) (freqs_fit : t.count ≤ length freqs) where
  readable : Sound t bs
  readable = sound-image t bs (sound_requested t.mode t.requested t.count bs known sound)

  read_is : read_whole t bs (length docs) (length freqs) ≡ Ok (reading t bs).blocks
  read_is = whole_is t bs (length docs) (length freqs) readable.found sound docs_fit freqs_fit

  -- it answers the count, and leaves the documents and the frequencies that are read from the image at the front of the two
  pub list_read : {docs' freqs' : List ℕ} {r : Outcome ℕ} → WholeRead (read_whole t bs (length docs) (length freqs)) docs freqs docs' freqs' r
      → (value_numbers r ≡ 0 ∷ t.count ∷ [])
      × (docs' ≡ put_at 0 (docs_of (reading t bs).blocks) docs)
      × (freqs' ≡ put_at 0 (freqs_of (reading t bs).blocks) freqs)
  unfolding and_then or_before
  list_read k =
      let blocks = sound-blocks readable in (
        told k.answer (rw read_is (ap Ok (docs_many blocks ∙ whole-count t))),
        rw read_is at k.docs_after,
        rw read_is at k.freqs_after,
      )
