-- What the 8-ary search of a block answers: on any array the place `search_block_of`, and whether the target stands there (`stands_at`).
-- On one that never falls and whose last element reaches the target, the place is how many elements are smaller than the target (law
-- `search_is-count`), and the target stands there exactly where it is in the array (law `search_hits`).
-- Assumes nothing.
use Rattle.std.specs.Prelude.{Bool, ◌&&◌ as and, List, ◌≡◌, ℕ, zero, suc, ◌+◌, ◌-◌, ◌*◌, ◌≤◌, ◌<◌, length, get_or, eqb, ltb}
use mir.Val.{bool_byte}
use Rattle.format.specs.Counts.{count_below}
use Rattle.format.specs.Model.{member}

-- of n segments of `step` elements each, from `base` on: how many end on an element below the target
unfoldable pub pivots_below_of : List ℕ → ℕ → ℕ → ℕ → ℕ → ℕ
pivots_below_of arr target base step zero = 0
pivots_below_of arr target base step (suc n) =
    pivots_below_of arr target base step n + bool_byte (ltb (get_or arr (base + suc n * step - 1) 0) target)

-- seven pivots at step 16, then seven at step 2, then the two elements left; each count leads to where the next begins
unfoldable pub search_block_of : List ℕ → ℕ → ℕ
search_block_of arr target =
    let b₁ : ℕ = pivots_below_of arr target 0 16 7 * 16 in
    let b₂ : ℕ = b₁ + pivots_below_of arr target b₁ 2 7 * 2 in
    b₂ + pivots_below_of arr target b₂ 1 2

-- whether the target stands at a place; behind the 128 nothing does
unfoldable pub stands_at : List ℕ → ℕ → ℕ → Bool
stands_at arr target place = and (ltb place 128) (eqb (get_or arr place 0) target)

-- no element is smaller than the one before it
abbrev pub NeverFalls : List ℕ → Type 0
NeverFalls xs = (i : ℕ) → i + 1 < length xs → get_or xs i 0 ≤ get_or xs (i + 1) 0

-- where the elements never fall and the last of the 128 reaches the target, the place is the count of the smaller ones, which then all
-- stand at the front; so it is that of the first element that is at least the target
abbrev pub CountsSmaller : List ℕ → ℕ → ℕ → Type 0
CountsSmaller arr target place = NeverFalls arr → target ≤ get_or arr 127 0 → place ≡ count_below target arr

-- .. and a hit tells whether the target is among them
abbrev pub HitsMember : List ℕ → ℕ → Bool → Type 0
HitsMember arr target hit = NeverFalls arr → target ≤ get_or arr 127 0 → hit ≡ member target arr
