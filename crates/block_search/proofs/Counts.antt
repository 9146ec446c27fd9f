-- In a list that never falls the elements below a target stand at the front: the element at k lies below it exactly where k is
-- below `count_below`. By induction on the list: where the first element lies below the target, both sides move on to the tail;
-- where it doesn't, no later one does.
-- Assumes nothing.
use mathlib.Core.Bool.{Bool, true, false}
use mathlib.Core.List.{List, [], ◌∷◌}
use mathlib.Core.Logic.{◌↔◌}
use mathlib.Core.Path.{◌≡◌, refl}
use Prim.Native.Nat.{ℕ, zero, suc, ◌+◌, ◌≤◌, ◌<◌}
use native.Mathlib.Nat.{le_refl, le_trans, not-suc-le-zero}
use native.Mathlib.Numerals.{add-one}
use native.Mathlib.Omega.{arith}
use borrow.Author.Tests.{ltb-true, ltb-false}
use lib.Dec.{ltb}
use lib.ListN.{length, get_or}
use Rattle.format.specs.Basics.{choose}
use Rattle.format.specs.Counts.{count_below}
use Rattle.block_search.specs.Search.{NeverFalls}

pub never_falls_tail : (x : ℕ) (xs : List ℕ) → NeverFalls (x ∷ xs) → NeverFalls xs
never_falls_tail x xs never i h = rw add-one (rw (add-one (suc i)) at (never (suc i) (omega arith)))

first-least : (xs : List ℕ) → NeverFalls xs → (k : ℕ) → k < length xs → get_or xs 0 0 ≤ get_or xs k 0
first-least xs never zero h = le_refl (get_or xs 0 0)
first-least xs never (suc k) h =
    le_trans (first-least xs never k (omega arith)) (rw add-one at (never k (omega arith)))

pub below_iff : (target : ℕ) (xs : List ℕ) → NeverFalls xs → (k : ℕ) → k < length xs →
    get_or xs k 0 < target ↔ k < count_below target xs
unfolding count_below choose
below_iff target [] never k h = absurd (not-suc-le-zero h)
below_iff target (x ∷ xs) never zero h = by_test (ltb x target) refl
  where
    by_test : (t : Bool) → ltb x target ≡ t → x < target ↔ 0 < choose t (λ _. 1 + count_below target xs) (λ _. 0)
    by_test true e = omega (arith, ltb-true x target e)
    by_test false e = omega (arith, ltb-false x target e)
below_iff target (x ∷ xs) never (suc k) h =
    by_test (below_iff target xs (never_falls_tail x xs never) k (omega arith)) (ltb x target) refl
  where
    by_test : get_or xs k 0 < target ↔ k < count_below target xs → (t : Bool) → ltb x target ≡ t →
        get_or xs k 0 < target ↔ suc k < choose t (λ _. 1 + count_below target xs) (λ _. 0)
    by_test tail true e = (λ p. omega (arith, tail.0 p), λ q. tail.1 (omega arith))
    by_test tail false e = omega (arith, ltb-false x target e, first-least (x ∷ xs) never (suc k) h)
