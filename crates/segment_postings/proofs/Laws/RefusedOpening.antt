-- A refused opening leaves a cursor that every call refuses (16), whatever the image and its term: it is at no place.
-- Assumes nothing.
use Rattle.format.specs.declared.refusal.Refusal.TheVariants.{StateBroken}
use Rattle.std.specs.Prelude.{◌≡◌, ℕ, ◌<◌, false, List, length, Err}
use mathlib.Core.Path.{sym}
use native.Mathlib.Omega.{arith}
use Rattle.format.specs.declared.Term.{Term}
use Rattle.format.specs.Basics.{ask}
use Rattle.segment_postings.specs.Cursor.{in_bounds_of, blank, stepping, seeking, value_at}
use Rattle.segment_postings.proofs.arrays.Question16.{Bounded, out-of_bounds}
use Rattle.segment_postings.proofs.Laws.CursorTurns.{stepping-is}
use Rattle.segment_postings.proofs.Laws.SeekQuestions.{seeking_broken}

module _ (bs : List ℕ) (t : Term) where
  at_none : Bounded t (length bs) blank.held → 128 < 128
  unfolding blank
  at_none b = b.place_below

  blank_outside : in_bounds_of t (length bs) blank.held ≡ false
  blank_outside = sym (out-of_bounds t (length bs) blank.held (λ b. omega (arith, at_none b)))

  pub unopened_stepping : stepping blank bs t ≡ Err StateBroken
  unfolding ask
  unopened_stepping = rw (stepping-is, blank_outside)

  pub unopened_seeking : (target : ℕ) → seeking blank bs t target ≡ Err StateBroken
  unopened_seeking target = seeking_broken blank bs t target blank_outside

  pub unopened_value : (values : List ℕ) (end : ℕ) → value_at values end blank.held bs t ≡ Err StateBroken
  unfolding value_at ask
  unopened_value values end = rw blank_outside
