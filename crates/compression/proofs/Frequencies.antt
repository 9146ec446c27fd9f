-- Question 7 of frequencies in places of 32 bits. Of numbers up to 2 ^ 32 those that are no frequency, 0 and 2 ^ 32, are those whose
-- remainder is 0; every other is its own remainder.
-- Assumes nothing.
use mathlib.Core.Path.{◌≡◌, refl, sym, ap₂}
use mathlib.Core.Bool.{Bool, true, false, not, ◌&&◌ as and, ◌||◌ as or}
use mathlib.Core.List.{List, [], ◌∷◌, map}
use mathlib.Core.Logic.{⊎_elim}
use Prim.Native.Nat.{ℕ, ◌+◌, ◌%◌, ◌^◌, ◌≤◌}
use native.Mathlib.Nat.{mod-eq_of_lt, eq-or-lt_of_le, eq-zero-or-pos}
use native.Mathlib.Omega.{arith}
use lib.Dec.{leb, eqb}
use borrow.Author.Tests.{le-leb, ne_eqb}
use Rattle.format.specs.Basics.{AllBelow}
use Rattle.format.specs.Model.{member}
use Rattle.format.specs.Values.{countable}
use Rattle.format.proofs.Lists.{AllBelow-le}
use Rattle.format.proofs.Values.{countable-below}

-- numbers below 2 ^ 32 are their own remainders
pub kept-below : (ns : List ℕ) → AllBelow (2 ^ 32) ns → map (λ n. n % 2 ^ 32) ns ≡ ns
kept-below [] a = refl
kept-below (n ∷ ns) a = ap₂ (λ (k : ℕ) (ks : List ℕ). k ∷ ks) (mod-eq_of_lt a.0) (kept-below ns a.1)

-- so a place of 32 bits holds each frequency that passes question 7
pub countable-kept : (fs : List ℕ) → countable fs ≡ true → map (λ f. f % 2 ^ 32) fs ≡ fs
countable-kept fs h = kept-below fs (countable-below fs h)

-- question 7 of one number, by its remainder
counts_wrapped : (f : ℕ) → f ≤ 2 ^ 32 → and (leb 1 f) (leb f 4294967295) ≡ not (eqb 0 (f % 2 ^ 32))
counts_wrapped f h =
    ⊎_elim
    (λ none. rw none)
    (λ some. rw (le-leb 1 f some)
    (⊎_elim
    (λ most. rw most)
    (λ below. rw (le-leb f 4294967295 (omega arith), ne_eqb 0 (f % 2 ^ 32) (omega arith)))
    (eq-or-lt_of_le h)))
    (eq-zero-or-pos f)

neither : (a b : Bool) → and (not a) (not b) ≡ not (or a b)
neither true b = refl
neither false b = refl

-- .. and of all
pub countable_wrapped : (fs : List ℕ) → AllBelow (2 ^ 32 + 1) fs → not (member 0 (map (λ f. f % 2 ^ 32) fs)) ≡ countable fs
unfolding member countable
countable_wrapped [] a = refl
countable_wrapped (f ∷ fs) a =
    sym (rw (counts_wrapped f (omega (arith, a.0)), ← countable_wrapped fs a.1) (neither (eqb 0 (f % 2 ^ 32)) (member 0 (map (λ f. f % 2 ^ 32) fs))))

pub countable_nonzero : (fs : List ℕ) → AllBelow (2 ^ 32) fs → not (member 0 fs) ≡ countable fs
countable_nonzero fs a = rw (kept-below fs a) at (countable_wrapped fs (AllBelow-le fs (omega arith) a))
