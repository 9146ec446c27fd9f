-- The search answers `count_below`, which is then below 128, on an array that never falls and whose last element reaches the
-- target. A pivot lies below the target exactly where its index is below `count_below` (Counts.antt). So the number of pivots
-- below the target is the quotient of `count_below`, less the base, by the step, capped at the number of pivots: each reduction
-- leaves the segment that `count_below` is in, of 16 places, then of 2, then of 1.
-- Assumes nothing.
use mathlib.Core.Bool.{Bool, true, false}
use mathlib.Core.List.{List}
use mathlib.Core.Logic.{◌↔◌}
use mathlib.Core.Path.{◌≡◌, refl}
use Prim.Native.Nat.{ℕ, zero, suc, ◌+◌, ◌-◌, ◌*◌, ◌/◌, min, ◌≤◌, ◌<◌}
use native.Mathlib.Nat.{le-div_iff_mul-le}
use native.Mathlib.Numerals.{add-one}
use native.Mathlib.Omega.{arith, by_contra}
use borrow.Author.Tests.{le-ltb, leb-true, leb-false}
use lib.Dec.{ltb, leb}
use Rattle.std.proofs.lemmas.Bool.Decides.{nat_tests}
use lib.ListN.{length, get_or, get_or-eq_default}
use mir.Val.{bool_byte}
use Rattle.format.specs.Counts.{count_below}
use Rattle.format.proofs.Below.{count-below}
use Rattle.block_search.specs.Search.{pivots_below_of, search_block_of, NeverFalls}
use Rattle.block_search.proofs.Counts.{below_iff}

bool_byte-le : (b : Bool) → bool_byte b ≤ 1
bool_byte-le true = omega arith
bool_byte-le false = omega arith

module _ (arr : List ℕ) (target base step : ℕ) where
  pub pivots_le : (n : ℕ) → pivots_below_of arr target base step n ≤ n
  unfolding pivots_below_of
  pivots_le zero = omega arith
  pivots_le (suc n) = omega (arith, pivots_le n, bool_byte-le (ltb (get_or arr (base + suc n * step - 1) 0) target))

  -- one pivot more, with `n + 1` as in code
  pub pivots_more : (n : ℕ) →
      pivots_below_of arr target base step (n + 1) ≡ pivots_below_of arr target base step n + bool_byte (ltb (get_or arr (base + (n + 1) * step - 1) 0) target)
  unfolding pivots_below_of
  pivots_more n = rw add-one

same_test : (a b c d : ℕ) → a < b ↔ c < d → ltb a b ≡ ltb c d
same_test a b c d iff = grind (arith, nat_tests)

-- a quotient capped at n grows with its cap exactly where the next segment ends below c
min-div-suc : (c base step n : ℕ) → 0 < step →
    min n ((c - base) / step) + bool_byte (ltb (base + suc n * step - 1) c) ≡ min (suc n) ((c - base) / step)
min-div-suc c base step n pos =
    grind (arith, nat_tests, le-div_iff_mul-le {x = suc n} {y = c - base} pos)

pub pivots_quotient : (arr : List ℕ) (target : ℕ) → NeverFalls arr → (base step : ℕ) → 0 < step → (n : ℕ) → base + n * step ≤ length arr →
    pivots_below_of arr target base step n ≡ min n ((count_below target arr - base) / step)
unfolding pivots_below_of
pivots_quotient arr target never base step pos zero fits = omega arith
pivots_quotient arr target never base step pos (suc n) fits =
    rw (
      pivots_quotient arr target never base step pos n (omega arith),
      same_test _ _ _ _ (below_iff target arr never (base + suc n * step - 1) (omega arith)),
    )
    (min-div-suc (count_below target arr) base step n pos)

-- nothing lies below 0, which is all that the last of fewer than 128 elements, read as 0, reaches
none_below : (arr : List ℕ) (base step n : ℕ) → pivots_below_of arr 0 base step n ≡ 0
unfolding pivots_below_of
none_below arr base step zero = refl
none_below arr base step (suc n) = rw (none_below arr base step n, le-ltb (get_or arr (base + suc n * step - 1) 0) 0 (omega arith))

search_short : (arr : List ℕ) → (search_block_of arr 0 ≡ count_below 0 arr) × (search_block_of arr 0 < 128)
unfolding search_block_of
search_short arr =
    let none : count_below 0 arr ≤ 0 = by_contra (count_below 0 arr) 0 (λ h. omega (arith, count-below 0 arr 0 0 h)) in
    simp none_below (omega arith)

pub search_is-count : (arr : List ℕ) (target : ℕ) → NeverFalls arr → target ≤ get_or arr 127 0 →
    (search_block_of arr target ≡ count_below target arr) × (search_block_of arr target < 128)
unfolding search_block_of
search_is-count arr target never reaches = by_length (leb 128 (length arr)) refl
  where
    by_length : (t : Bool) → leb 128 (length arr) ≡ t → (search_block_of arr target ≡ count_below target arr) × (search_block_of arr target < 128)
    by_length true e =
        let full : 128 ≤ length arr = leb-true 128 (length arr) e in
        let n : ℕ = count_below target arr in
        let short : n ≤ 127 = by_contra n 127 (λ h. omega (arith, (below_iff target arr never 127 (omega arith)).1 h)) in
        let b₁ : ℕ = pivots_below_of arr target 0 16 7 * 16 in
        let b₂ : ℕ = b₁ + pivots_below_of arr target b₁ 2 7 * 2 in
        let in₁ : (b₁ ≤ n) × (n < b₁ + 16) = omega (arith, pivots_quotient arr target never 0 16 (omega arith) 7 (omega arith)) in
        let in₂ : (b₂ ≤ n) × (n < b₂ + 2) = omega (arith, pivots_quotient arr target never b₁ 2 (omega arith) 7 (omega arith)) in
        omega (arith, pivots_quotient arr target never b₂ 1 (omega arith) 2 (omega arith))
    by_length false e =
        let past : get_or arr 127 0 ≡ 0 = get_or-eq_default arr 0 (omega (arith, leb-false 128 (length arr) e)) in
        let least : target ≡ 0 = omega arith in
        rw least (search_short arr)
