-- The values that stand for ids and frequencies, in the strict form and the non-strict one.
-- `least` is, here and in all that follows, the least id that may come next: 0 at the beginning of a list, else one more than
-- the id before.
-- Assumes nothing.
use Rattle.std.specs.Prelude.{Bool, true, false, ◌&&◌ as and, List, [], ◌∷◌, map, ℕ, ◌+◌, ◌-◌, leb, ltb}
use Rattle.format.specs.Basics.{TERMINATED}

-- what the strict form leaves out of each difference and each frequency
unfoldable pub reduction : Bool → ℕ
reduction true = 1
reduction false = 0

-- the id that the value 0 stands for. Strict form: the least that may come, so that a list's first value is its id and any
-- other is id - previous id - 1. Non-strict form: the previous id, 0 before the first
unfoldable pub origin : Bool → ℕ → ℕ
origin true least = least
origin false least = least - 1

-- differences from `from` on, less `less` each behind the first
unfoldable pub gaps_from : ℕ → ℕ → List ℕ → List ℕ
gaps_from less from [] = []
gaps_from less from (d ∷ ds) = (d - from) ∷ gaps_from less (d + less) ds

-- the values of ids
unfoldable pub gaps : Bool → ℕ → List ℕ → List ℕ
unfolding gaps_from reduction origin
gaps strict least ds = gaps_from (reduction strict) (origin strict least) ds

unfoldable pub ids_from : ℕ → ℕ → List ℕ → List ℕ
ids_from less from [] = []
ids_from less from (v ∷ vs) = (from + v) ∷ ids_from less (from + v + less) vs

-- the ids of values
unfoldable pub ids : Bool → ℕ → List ℕ → List ℕ
unfolding ids_from reduction origin
ids strict least vs = ids_from (reduction strict) (origin strict least) vs

-- the values of frequencies
unfoldable pub reduced : Bool → List ℕ → List ℕ
unfolding reduction
reduced strict fs = map (λ f. f - reduction strict) fs

-- the frequencies of values
unfoldable pub restored : Bool → List ℕ → List ℕ
unfolding reduction
restored strict vs = map (λ v. v + reduction strict) vs

-- ids strictly rising, above the previous id, below TERMINATED
unfoldable pub rising : ℕ → List ℕ → Bool
rising least [] = true
rising least (d ∷ ds) = and (and (leb least d) (ltb d TERMINATED)) (rising (d + 1) ds)

-- frequencies 1 to 4294967295
unfoldable pub countable : List ℕ → Bool
countable [] = true
countable (f ∷ fs) = and (and (leb 1 f) (leb f 4294967295)) (countable fs)
