-- On 128 elements that never fall and whose last reaches the target, the target stands at the place that the search answers exactly
-- where it is among them. By induction on the list: where the first element lies below the target, both sides move on to the tail;
-- where it doesn't, it stands at the place, and where it lies above the target, so does every later one.
-- Assumes nothing.
use mathlib.Core.Bool.{false}
use mathlib.Core.List.{List, [], ◌∷◌}
use mathlib.Core.Path.{◌≡◌, sym}
use Prim.Native.Nat.{ℕ, ◌≤◌, ◌<◌}
use native.Mathlib.Nat.{not-suc-le-zero}
use native.Mathlib.Decide.{dec_le}
use native.Mathlib.Omega.{arith}
use borrow.Author.Tests.{lt-ltb, eq-eqb, ne_eqb}
use lib.Dec.{eqb}
use lib.ListN.{length, get_or}
use Rattle.format.specs.Counts.{count_below}
use Rattle.format.specs.Model.{member}
use Rattle.format.proofs.Below.{count-passes, count_stops}
use Rattle.block_search.specs.Search.{search_block_of, stands_at, NeverFalls}
use Rattle.block_search.proofs.Counts.{never_falls_tail}
use Rattle.block_search.proofs.Search.{search_is-count}

-- at a place of the block, whether the target stands there is one comparison
pub stands_there : (arr : List ℕ) (target place : ℕ) → place < 128 → stands_at arr target place ≡ eqb (get_or arr place 0) target
unfolding stands_at
stands_there arr target place h = rw (lt-ltb place 128 h)

-- a list that never falls has nothing that lies below its first element
first_above : (target x : ℕ) (xs : List ℕ) → NeverFalls (x ∷ xs) → target < x → member target (x ∷ xs) ≡ false
unfolding member
first_above target x [] never h = rw (ne_eqb target x (λ e. omega arith))
first_above target x (y ∷ ys) never h =
    let above : target < y = omega (arith, never 0 (omega arith)) in
    rw (ne_eqb target x (λ e. omega arith)) (first_above target y ys (never_falls_tail x (y ∷ ys) never) above)

-- the first element that is at least the target tells whether the target is in the list
stands-member : (target : ℕ) (xs : List ℕ) → NeverFalls xs → count_below target xs < length xs
    → eqb (get_or xs (count_below target xs) 0) target ≡ member target xs
unfolding member
stands-member target [] never h = absurd (not-suc-le-zero h)
stands-member target (x ∷ xs) never h = elim (dec_le target x) [
  | yes a ↦
      rw (count_stops target x xs a)
      (elim (dec_le x target) [
        | yes b ↦ rw (eq-eqb x target (omega arith), eq-eqb target x (omega arith))
        | no b ↦ rw (ne_eqb x target (λ e. omega arith)) (sym (first_above target x xs never (omega arith)))
      ])
  | no a ↦
      let passes = count-passes target x xs (omega arith) in
      rw (passes, ne_eqb target x (λ e. omega arith)) (stands-member target xs (never_falls_tail x xs never) (omega arith))
]

pub search_hits : (arr : List ℕ) (target : ℕ) → length arr ≡ 128 → NeverFalls arr → target ≤ get_or arr 127 0
    → stands_at arr target (search_block_of arr target) ≡ member target arr
search_hits arr target full never reaches =
    let k = search_is-count arr target never reaches in
    rw (stands_there arr target (search_block_of arr target) k.1, k.0)
    (stands-member target arr never (omega arith))
