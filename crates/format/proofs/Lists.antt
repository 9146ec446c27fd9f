-- Lists of numbers below a bound.
-- Assumes nothing.
use mathlib.Core.Path.{◌≡◌, refl, ap₂}
use mathlib.Core.List.{List, [], ◌∷◌}
use Prim.Native.Nat.{ℕ, zero, suc, ◌<◌, ◌≤◌}
use native.Mathlib.Nat.{lt_of_lt_of_le}
use lib.Arith.{lt-one}
use lib.ListN.{length, get_or, replicate}
use Rattle.format.specs.Basics.{AllBelow}

-- below a bound, and so below any larger one
pub AllBelow-le : {m k : ℕ} (ns : List ℕ) → m ≤ k → AllBelow m ns → AllBelow k ns
AllBelow-le [] h a = tt
AllBelow-le (n ∷ ns) h a = (lt_of_lt_of_le a.0 h, AllBelow-le ns h a.1)

-- .. at every place, where 0 stands past the end
pub AllBelow-get_or : {m : ℕ} (ns : List ℕ) → zero < m → AllBelow m ns → (i : ℕ) → get_or ns i 0 < m
AllBelow-get_or [] pos a i = pos
AllBelow-get_or (n ∷ ns) pos a zero = a.0
AllBelow-get_or (n ∷ ns) pos a (suc i) = AllBelow-get_or ns pos a.1 i

pub AllBelow-of : {m : ℕ} (ns : List ℕ) → ((i : ℕ) → get_or ns i 0 < m) → AllBelow m ns
AllBelow-of [] h = tt
AllBelow-of (n ∷ ns) h = (h 0, AllBelow-of ns (λ i. h (suc i)))

-- what lies below 1 is 0
pub AllBelow-one : (ns : List ℕ) → AllBelow 1 ns → ns ≡ replicate (length ns) 0
AllBelow-one [] a = refl
AllBelow-one (n ∷ ns) a = ap₂ ◌∷◌ (lt-one a.0) (AllBelow-one ns a.1)
