-- Questions 11 to 13 as a loop asks them: of the document at a place, then of those behind it. A list that passes has ids that rise.
-- Assumes nothing.
use Rattle.format.specs.declared.refusal.Refusal.{Refusal}
use Rattle.std.specs.Prelude.{◌≡◌, ℕ, ◌+◌, ◌<◌, ◌≤◌, true, List, [], ◌∷◌, length, get_or, drop, Ok, Err}
use mathlib.Core.Bool.{and-eq-true_iff}
use mathlib.Core.Path.{refl, ◌∙◌}
use native.Mathlib.Omega.{arith}
use lib.ListN.{drop_of_length-le}
use Rattle.format.specs.declared.IndexRecordOption.{IndexRecordOption}
use Rattle.format.specs.Basics.{and_then}
use Rattle.format.specs.Values.{rising}
use Rattle.format.specs.Accepted.{take_doc, take_docs}
use Rattle.format.proofs.Accepted.{take_doc-ok}
use Rattle.format.proofs.Gaps.{drop-next}
use Rattle.format.proofs.Outcome.{refused≢ok, and_then-ok}

-- the documents from place i on answer what all of them answer
abbrev pub Asked : IndexRecordOption → List ℕ → List ℕ → ℕ → ℕ → Type 0
Asked option ds fs least i = take_docs option 0 ds fs ≡ take_docs option least (drop i ds) (drop i fs)

module _ (option : IndexRecordOption) (ds fs : List ℕ) (least i : ℕ) (asked : Asked option ds fs least i) where
  pub asked-end : length ds ≤ i → take_docs option 0 ds fs ≡ Ok least
  unfolding take_docs
  asked-end h = asked ∙ rw (drop_of_length-le ds h)

  module _ (same : length ds ≡ length fs) (more : i < length ds) where
    -- the document at place i
    turn : take_docs option 0 ds fs
        ≡ and_then (take_doc option least (get_or ds i 0) (get_or fs i 0)) λ next. take_docs option next (drop (i + 1) ds) (drop (i + 1) fs)
    unfolding take_docs
    turn = asked ∙ rw (drop-next ds i more, drop-next fs i (omega arith))

    pub asked-refused : {n : Refusal} → take_doc option least (get_or ds i 0) (get_or fs i 0) ≡ Err n → take_docs option 0 ds fs ≡ Err n
    unfolding and_then
    asked-refused e = turn ∙ rw e

    pub asked-next : {next : ℕ} → take_doc option least (get_or ds i 0) (get_or fs i 0) ≡ Ok next → Asked option ds fs next (i + 1)
    unfolding and_then
    asked-next e = turn ∙ rw e

pub taken-rises : (option : IndexRecordOption) (least : ℕ) (ds fs : List ℕ) {next : ℕ} → take_docs option least ds fs ≡ Ok next
    → rising least ds ≡ true
unfolding take_docs rising
taken-rises option least [] fs t = refl
taken-rises option least (d ∷ ds) [] t = absurd (refused≢ok t)
taken-rises option least (d ∷ ds) (f ∷ fs) t =
    let p = and_then-ok _ _ t in
    let first = take_doc-ok option least d f p.1 in
    let rest = taken-rises option p.0 ds fs p.2 in
    (and-eq-true_iff _ _).1 ((and-eq-true_iff _ _).1 (first.above, first.below), rw first.next_is at rest)
