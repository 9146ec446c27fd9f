-- Laws of closing a term: the questions in turn, and what is left where the image fits and where it doesn't.
-- Assumes nothing.
use Rattle.format.specs.declared.refusal.Refusal.{Refusal}
use Rattle.format.specs.declared.refusal.Refusal.TheVariants.{CountMismatch, NoRoom, StateBroken}
use Rattle.std.specs.Prelude.{◌≡◌, ℕ, ◌-◌, ◌/◌, Bool, true, false, List, length, take, Ok, Err}
use mathlib.Core.Path.{refl, ◌∙◌}
use borrow.Author.Tests.{eq-eqb, ne_eqb, leb-false}
use Rattle.format.specs.declared.IndexRecordOption.{IndexRecordOption}
use Rattle.format.specs.Basics.{ask, choose, fits_at, or_before, Outcome}
use Rattle.format.specs.Written.{image_with}
use Rattle.format.proofs.Area.{put_at-refused}
use Rattle.serializer.specs.declared.PostingsSerializer.{PostingsSerializer}
use Rattle.serializer.specs.Pieces.{ImagePut, TermClosed}
use Rattle.serializer.specs.Calls.{answered, progress_of_of, ClosedFrom}
use Rattle.serializer.proofs.Laws.AnswerTells.{answered-bytes, answered-refused}
use Rattle.serializer.specs.Writer.{fresh, in_bounds_of, option_of, first_least_of, waiting_docs, waiting_freqs, image_of, closing}

-- the image of a state, by its parts: a tail's differences begin at the id before the least that may come
pub image-of : (s : PostingsSerializer) (skips postings : List ℕ) {option : IndexRecordOption} {offset : ℕ} {ds fs : List ℕ}
    → option ≡ option_of s → offset ≡ first_least_of s - 1 → ds ≡ waiting_docs s → fs ≡ waiting_freqs s
    → image_of s skips postings
    ≡ image_with (s.taken / 128) (take s.skips_at skips) (take s.postings_at postings) option offset ds fs
unfolding image_of
image-of s skips postings Option-is offset_is docs_are freqs_are = rw (Option-is, offset_is, docs_are, freqs_are)

module _ (s : PostingsSerializer) (announced : ℕ) (skips postings output : List ℕ) where
  stopped : {n : Refusal} → closing s announced skips postings output ≡ Err n → TermClosed s announced skips postings output output (Err n)
  unfolding answered or_before
  stopped e = record { answer = rw e; output_after = rw e }

  pub closed_broken : in_bounds_of s skips postings ≡ false → TermClosed s announced skips postings output output (Err StateBroken)
  unfolding closing ask
  closed_broken e = stopped (rw e)

  pub closed_mismatch : in_bounds_of s skips postings ≡ true → (s.taken ≡ announced → ⊥)
      → TermClosed s announced skips postings output output (Err CountMismatch)
  unfolding closing ask
  closed_mismatch e h = stopped (rw (e, ne_eqb _ _ h))

  module _ (e : in_bounds_of s skips postings ≡ true) (h : s.taken ≡ announced) where
    fitting : closing s announced skips postings output
        ≡ (ask (fits_at 0 (image_of s skips postings) output) NoRoom λ _. Ok (image_of s skips postings))
    unfolding closing ask
    fitting = rw (e, eq-eqb _ _ h)

    -- whether the image fits
    by_fit : {output' : List ℕ} {r : Outcome ℕ} (t : Bool) → fits_at 0 (image_of s skips postings) output ≡ t
        → ImagePut (image_of s skips postings) output output' r → TermClosed s announced skips postings output output' r
    unfolding ask choose answered or_before fits_at
    by_fit true room put = record { answer = put.answer ∙ rw (fitting, room); output_after = put.output_after ∙ rw (fitting, room) }
    by_fit false small put =
        let same = put_at-refused 0 (image_of s skips postings) output (leb-false _ _ small) in
        record { answer = put.answer ∙ rw (fitting, small); output_after = put.output_after ∙ rw (fitting, small) same }

    pub closed_put : {output' : List ℕ} {r : Outcome ℕ} → ImagePut (image_of s skips postings) output output' r
        → TermClosed s announced skips postings output output' r
    closed_put = by_fit _ refl

-- what closing from two arrays leaves, by the answer: where it is a no, the numbers as they were ..
module _ {s : PostingsSerializer} {announced : ℕ} {skips postings output output' : List ℕ} {r : Outcome ℕ}
    (closed : TermClosed s announced skips postings output output' r) where
  pub closed_refused : {k : Refusal} → r ≡ Err k
      → ClosedFrom s announced skips postings output output' (record { answer = r; progress = progress_of_of s })
  unfolding or_before
  closed_refused told =
      let e = answered-refused length (closing s announced skips postings output) closed.answer told in
      record { answer = closed.answer; progress = rw e; output_after = closed.output_after }

  -- .. or those of a fresh state
  pub closed_done : {k : ℕ} → r ≡ Ok k
      → ClosedFrom s announced skips postings output output' (record { answer = r; progress = progress_of_of (fresh s.mode s.recording) })
  unfolding or_before
  closed_done told =
      let k = answered-bytes length (closing s announced skips postings output) closed.answer told in
      record { answer = closed.answer; progress = rw k.1; output_after = closed.output_after }
