-- A list whose documents are handed in one by one. From a term just begun, whatever its arrays hold, the calls go on as long as the
-- definitions accept a document and the areas have room for its block; behind the last one the areas hold the full blocks and their
-- entries, and the state the tail, so that closing puts together the image.
-- Assumes nothing.
use Rattle.format.specs.declared.refusal.Refusal.{Refusal}
use Rattle.format.specs.declared.refusal.Refusal.TheVariants.{NoRoom, CountMismatch, StateBroken}
use Rattle.std.specs.Prelude.{◌≡◌, ℕ, suc, ◌+◌, ◌-◌, ◌/◌, ◌^◌, ◌<◌, ◌≤◌, Bool, true, false, eqb, ◌⊎◌, List, [], ◌∷◌, ◌++◌, length, take, Ok, Err}
use mathlib.Core.Bool.{and-false}
use mathlib.Core.List.{append-nil}
use mathlib.Core.Logic.{inl, inr}
use mathlib.Core.Path.{refl, sym, ap, ◌∙◌}
use native.Mathlib.Nat.{zero-add, le_trans}
use native.Mathlib.Numerals.{one-add}
use native.Mathlib.Omega.{arith}
use borrow.Author.Tests.{le-leb, lt-leb, eq-eqb, ne_eqb}
use Rattle.format.specs.declared.IndexRecordOption.{IndexRecordOption}
use Rattle.format.specs.Basics.{Outcome, and_then, ask, choose, put_at, fits_at, AllBelow, or_before}
use Rattle.format.specs.Values.{rising, countable}
use Rattle.format.specs.Written.{Parts, blocks_of, tail_of_of, image_with, image}
use Rattle.format.specs.Accepted.{kept_in, begin, take_doc, take_docs, written}
use Rattle.format.proofs.Outcome.{refused≢ok, and_then-ok}
use Rattle.format.proofs.ImageParts.{headed, image-is}
use Rattle.format.proofs.Accepted.{known_mode_lem, written-ok}
use Rattle.serializer.specs.declared.PostingsSerializer.{PostingsSerializer}
use Rattle.serializer.specs.declared.Progress.{Progress}
use Rattle.serializer.specs.Calls.{progress_of_of, Begun}
use Rattle.serializer.specs.Lists.{accepted_blocks, WritesList}
use Rattle.serializer.specs.Writer.{Areas, fresh, option_of, waiting_docs, waiting_freqs, first_least_of, least_after_of}
use Rattle.serializer.specs.Writer.{in_bounds_of, image_of, closing, take_all_docs, accepted_count}
use Rattle.serializer.proofs.list.Blocks.{blocks_fewer}
use Rattle.serializer.proofs.document.OneDocument.{next_least, Held, in_bounds}
use Rattle.serializer.proofs.SingleCalls.BlocksAhead.{Maker, ahead, room}
use Rattle.serializer.proofs.SingleCalls.AllDocuments.{Ended, Answers, answers-room, answers-refused, answers-ok, all-calls}

-- ---- the definitions, opened by one turn

closing-is : (s : PostingsSerializer) (announced : ℕ) (skips postings output : List ℕ)
    → closing s announced skips postings output
    ≡ (ask (in_bounds_of s skips postings) StateBroken λ _.
    ask (eqb s.taken announced) CountMismatch λ _.
    ask (fits_at 0 (image_of s skips postings) output) NoRoom λ _. Ok (image_of s skips postings))
unfolding closing
closing-is s announced skips postings output = refl

image_of-is : (s : PostingsSerializer) (skips postings : List ℕ)
    → image_of s skips postings
    ≡ headed (s.taken / 128) (record {
      skips = take s.skips_at skips;
      postings = take s.postings_at postings ++ tail_of_of (option_of s) (first_least_of s - 1) (waiting_docs s) (waiting_freqs s);
    })
unfolding image_of image_with headed
image_of-is s skips postings = refl

-- ---- how many documents are accepted

pub accepted-all : (option : IndexRecordOption) (least : ℕ) (ds fs : List ℕ) {next : ℕ} → take_docs option least ds fs ≡ Ok next
    → accepted_count option least ds fs ≡ length ds
unfolding accepted_count take_docs or_before
accepted-all option least [] fs t = refl
accepted-all option least (d ∷ ds) [] t = absurd (refused≢ok t)
accepted-all option least (d ∷ ds) (f ∷ fs) t =
    let p = and_then-ok (take_doc option least d f) (λ next. take_docs option next ds fs) t in
    rw (p.1, accepted-all option p.0 ds fs p.2, one-add)

one-more-le : {n : ℕ} (count : ℕ → ℕ) → ((next : ℕ) → count next ≤ n) → (o : Outcome ℕ) → or_before (λ next. 1 + count next) o 0 ≤ suc n
unfolding or_before
one-more-le count h (Ok next) = omega (arith, h next)
one-more-le count h (Err m) = omega arith

accepted-le : (option : IndexRecordOption) (least : ℕ) (ds fs : List ℕ) → accepted_count option least ds fs ≤ length ds
unfolding accepted_count
accepted-le option least [] fs = omega arith
accepted-le option least (d ∷ ds) [] = omega arith
accepted-le option least (d ∷ ds) (f ∷ fs) = one-more-le _ (λ next. accepted-le option next ds fs) (take_doc option least d f)

-- ---- a refusal comes from the documents

and_then-refused : {A B : Type 0} {n : Refusal} (o : Outcome A) (f : A → B) → and_then o (λ a. Ok (f a)) ≡ Err n → o ≡ Err n
unfolding and_then
and_then-refused (Ok a) f e = absurd (refused≢ok (sym e))
and_then-refused (Err m) f e = cc

-- ---- a term just begun

module _ {mode : ℕ} {recording : Bool} {s : PostingsSerializer} (begun : Begun mode recording s) where
  begun_mode : s.mode ≡ mode
  unfolding progress_of_of fresh
  begun_mode = ap (λ (p : Progress). p.mode) begun.numbers

  begun_none : s.waiting ≡ 0
  unfolding progress_of_of fresh
  begun_none = ap (λ (p : Progress). p.waiting) begun.numbers

  begun_taken : s.taken ≡ 0
  unfolding progress_of_of fresh
  begun_taken = ap (λ (p : Progress). p.taken) begun.numbers

  pub begun_skips : s.skips_at ≡ 0
  unfolding progress_of_of fresh
  begun_skips = ap (λ (p : Progress). p.skips_at) begun.numbers

  pub begun_postings : s.postings_at ≡ 0
  unfolding progress_of_of fresh
  begun_postings = ap (λ (p : Progress). p.postings_at) begun.numbers

  pub begun_option : option_of s ≡ kept_in mode recording
  unfolding option_of progress_of_of fresh
  begun_option = ap (λ (p : Progress). kept_in p.mode p.recording) begun.numbers

  begun_least : first_least_of s ≡ 0
  unfolding first_least_of choose
  begun_least = rw (begun_none, begun_taken)

  begun_docs : waiting_docs s ≡ []
  unfolding waiting_docs
  begun_docs = rw begun_none

  begun_freqs : waiting_freqs s ≡ []
  unfolding waiting_freqs
  begun_freqs = rw begun_none

  pub begun_next : next_least s ≡ 0
  unfolding least_after_of
  begun_next = rw (begun_docs, begun_least)

  begun_held : (skips postings : List ℕ) → mode ≤ 1 → Held s skips postings
  unfolding rising countable
  begun_held skips postings known =
      record {
        docs_long = begun.docs_long;
        freqs_long = begun.freqs_long;
        few = omega (arith, begun_none);
        rises = rw begun_docs;
        counts = λ _. rw begun_freqs;
        placed = omega (arith, begun_none, begun_taken);
        least_most = rw begun_next (omega arith);
        skips_within = omega (arith, begun_skips);
        postings_within = omega (arith, begun_postings);
        mode_known = omega (arith, begun_mode);
      }

  begun_ahead : (ds fs : List ℕ) (F : Maker)
      → ahead F s ds fs ≡ F (kept_in mode recording) (accepted_count (kept_in mode recording) 0 ds fs / 128) 0 ds fs
  unfolding ahead
  begun_ahead ds fs F = rw (begun_next, begun_least, begun_docs, begun_freqs, begun_option, begun_none, zero-add)

-- ---- all documents, from there on

module _ {mode : ℕ} {recording : Bool} {s : PostingsSerializer} (begun : Begun mode recording s) (ds fs skips postings : List ℕ)
    (small : AllBelow (2 ^ 32) fs) (known : mode ≤ 1) (as_many : length ds ≡ length fs) where
  abbrev option : IndexRecordOption
  option = kept_in mode recording

  abbrev blocks : Parts
  blocks = accepted_blocks mode recording ds fs

  written_is : written mode recording ds fs ≡ and_then (take_docs option 0 ds fs) λ _. Ok (image option ds fs)
  unfolding written begin ask and_then
  written_is = rw (known_mode_lem _ known, eq-eqb _ _ as_many)

  pub answers :
      Answers (Ended s ds fs skips postings) (room blocks s skips postings)
      (take_docs option 0 ds fs) (take_all_docs s ds fs skips postings)
  answers =
      rw (begun_ahead begun, begun_next begun, begun_option begun)
      at (all-calls s ds fs skips postings (begun_held begun skips postings known) small as_many)

  room-there : length blocks.skips ≤ length skips → length blocks.postings ≤ length postings
      → room blocks s skips postings ≡ true
  unfolding fits_at
  room-there a b = rw (begun_skips begun, begun_postings begun, zero-add (length blocks.skips), zero-add (length blocks.postings), le-leb _ _ a, le-leb _ _ b)

  room_missing : (length skips < length blocks.skips) ⊎ (length postings < length blocks.postings)
      → room blocks s skips postings ≡ false
  unfolding fits_at
  room_missing (inl a) = rw (begun_skips begun, begun_postings begun, zero-add (length blocks.skips), lt-leb _ _ a)
  room_missing (inr b) = rw (begun_skips begun, begun_postings begun, zero-add (length blocks.skips), zero-add (length blocks.postings), lt-leb _ _ b, and-false)

  module _ {r : Outcome Areas} (ended : Ended s ds fs skips postings r)
      (all : accepted_count option 0 ds fs ≡ length ds) where
    taken-all : ended.areas.state.taken ≡ length ds
    taken-all = ended.taken ∙ rw (begun_taken begun, zero-add)

    -- the areas hold the image's parts
    ended-image : image_of ended.areas.state ended.areas.skips ended.areas.postings ≡ image option ds fs
    ended-image =
        let skips_are = rw (append-nil, begun_ahead begun, begun_skips begun, all) at ended.skips_wrote.holds in
        let postings_are = rw (begun_ahead begun, begun_postings begun, all) at ended.postings_wrote.holds in
        rw (image_of-is, image-is, skips_are, postings_are, taken-all)

    pub ended-closes : (announced : ℕ) (output : List ℕ)
        → closing ended.areas.state announced ended.areas.skips ended.areas.postings output
        ≡ (ask (eqb (length ds) announced) CountMismatch λ _.
        ask (fits_at 0 (image option ds fs) output) NoRoom λ _. Ok (image option ds fs))
    unfolding ask
    ended-closes announced output = rw (closing-is, in_bounds ended.held, ended-image, taken-all)

    -- the areas have the full blocks and their entries at the front
    pub ended-areas : (ended.areas.skips ≡ put_at 0 (blocks_of option (length ds / 128) 0 ds fs).skips skips)
        × (ended.areas.postings ≡ put_at 0 (blocks_of option (length ds / 128) 0 ds fs).postings postings)
    ended-areas = (
      rw (begun_ahead begun, begun_skips begun, all) at ended.skips_wrote.put,
      rw (begun_ahead begun, begun_postings begun, all) at ended.postings_wrote.put,
    )

    ended-writes : take_all_docs s ds fs skips postings ≡ r
        → WritesList mode recording s ds fs skips postings (image option ds fs)
    unfolding ask fits_at
    ended-writes e =
        record {
          areas = ended.areas;
          takes = e ∙ ended.answer;
          skips_after = ended-areas.0;
          postings_after = ended-areas.1;
          closes = λ output fits. ended-closes (length ds) output ∙ rw (eq-eqb (length ds) _ refl, zero-add, le-leb _ _ fits);
          without_room = λ output fits. ended-closes (length ds) output ∙ rw (eq-eqb (length ds) _ refl, zero-add, lt-leb _ _ fits);
          miscounted = λ announced output other. ended-closes announced output ∙ rw (ne_eqb (length ds) announced (λ e. other (sym e)));
        }

  calls_write : {bytes : List ℕ} → written mode recording ds fs ≡ Ok bytes → bytes ≡ image option ds fs
      → length (blocks_of option (length ds / 128) 0 ds fs).skips ≤ length skips
      → length (blocks_of option (length ds / 128) 0 ds fs).postings ≤ length postings
      → WritesList mode recording s ds fs skips postings bytes
  calls_write e same a b =
      let t = and_then-ok (take_docs option 0 ds fs) (λ _. Ok (image option ds fs)) (sym written_is ∙ e) in
      let all : accepted_count option 0 ds fs ≡ length ds = accepted-all option 0 ds fs t.1 in
      rw same (ended-writes (answers-ok answers (room-there (rw all a) (rw all b)) t.1) all refl)

  -- A list refused for a document (11 to 13) is refused by the call that it is handed to, where there is room for the full blocks of
  -- the documents before it ..
  pub single_calls_refuse : {n : Refusal} → written mode recording ds fs ≡ Err n
      → length (accepted_blocks mode recording ds fs).skips ≤ length skips
      → length (accepted_blocks mode recording ds fs).postings ≤ length postings
      → take_all_docs s ds fs skips postings ≡ Err n
  single_calls_refuse e a b =
      answers-refused answers (room-there a b) (and_then-refused _ (λ _. image option ds fs) (sym written_is ∙ e))

  -- .. so too where there is room for all full blocks of the list ..
  pub single_calls_refuse_alike : {n : Refusal} → written mode recording ds fs ≡ Err n
      → length (blocks_of (kept_in mode recording) (length ds / 128) 0 ds fs).skips ≤ length skips
      → length (blocks_of (kept_in mode recording) (length ds / 128) 0 ds fs).postings ≤ length postings
      → take_all_docs s ds fs skips postings ≡ Err n
  single_calls_refuse_alike e a b =
      let some = accepted-le option 0 ds fs in
      let fewer = blocks_fewer option (accepted_count option 0 ds fs / 128) (length ds / 128) 0 ds fs (omega arith) (omega arith) in
      single_calls_refuse e (le_trans fewer.0 a) (le_trans fewer.1 b)

  -- .. and under 15, as an accepted one is, where there is none
  pub single_calls-no-room :
      (length skips < length (accepted_blocks mode recording ds fs).skips)
      ⊎ (length postings < length (accepted_blocks mode recording ds fs).postings)
      → take_all_docs s ds fs skips postings ≡ Err NoRoom
  single_calls-no-room short = answers-room answers (room_missing short)

-- Promise 2 of the order, "a written list", for single calls; and the writer never answers 15 where the room is there
pub single_calls_write : {mode : ℕ} {recording : Bool} {s : PostingsSerializer} → Begun mode recording s → (ds fs skips postings : List ℕ) {bytes : List ℕ}
    → AllBelow (2 ^ 32) fs
    → written mode recording ds fs ≡ Ok bytes
    → length (blocks_of (kept_in mode recording) (length ds / 128) 0 ds fs).skips ≤ length skips
    → length (blocks_of (kept_in mode recording) (length ds / 128) 0 ds fs).postings ≤ length postings
    → WritesList mode recording s ds fs skips postings bytes
single_calls_write {mode} {recording} begun ds fs skips postings small e =
    let w = written-ok mode recording ds fs small e in
    calls_write begun ds fs skips postings small w.mode_known w.accepted.as_many e w.bytes
