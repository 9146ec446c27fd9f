-- What the loops over a slice need of walks (`specs/Fold.antt`), tests and numbers: the elements ys are behind, and one of the rest
-- is next.
--     along-end, along_snoc    ys in front of a walk that stops at once; one more element joins ys
--     serving, refusing        a walk whose first turn serves, or refuses
--     cases, is_zero, is-more  the two ways that a refusal's number goes, and how the test for it comes out
--     next_fits                the index after one within the slice is a number of 64 bits
-- Assumes nothing.
use mathlib.Core.Path.{◌≡◌, refl, ap, sym, subst, ◌∙◌}
use Prim.Native.Nat.{ℕ, zero, suc, ◌+◌, ◌<◌, ◌^◌}
use native.Mathlib.Nat.{lt_of_le_of_lt, suc-ne-zero}
use native.Mathlib.Numerals.{add-one}
use mathlib.Core.Bool.{true, false, not}
use mathlib.Core.List.{List, [], ◌∷◌, ◌++◌}
use lib.Dec.{eqb}
use lib.ListN.{length}
use mir.Syntax.{w64}
use mir.Val.{Fits}
use borrow.Author.Tests.{eq-eqb, ne_eqb}
use Rattle.thin.specs.Fold.{Turn, Ran, after, along, serves}

pub along-end :
    {X Z : Type 0} (ys : List X) (k : ℕ) (zs : List X) (z : Z) → along ys (k, (0, (zs, z))) ≡ (k, (length ys, (ys ++ zs, z)))
along-end [] k zs z = refl
along-end (y ∷ ys) k zs z = ap (after y) (along-end ys k zs z)

pub along_snoc : {X Z : Type 0} (ys : List X) (y : X) (w : Ran X Z) → along (ys ++ (y ∷ [])) w ≡ along ys (after y w)
along_snoc [] y w = refl
along_snoc (u ∷ ys) y w = ap (after u) (along_snoc ys y w)

module _ {X Z : Type 0} (f : X → Z → Turn X Z) (x : X) (xs : List X) (z : Z) where
  pub serving : (f x z).0 ≡ 0 → serves f (x ∷ xs) z ≡ after (f x z).1.0 (serves f xs (f x z).1.1)
  serving e = simp e

  pub refusing : (j : ℕ) → (f x z).0 ≡ suc j → serves f (x ∷ xs) z ≡ ((f x z).0, (0, (x ∷ xs, z)))
  refusing j e = simp e

pub cases : {P : Type 1} (k : ℕ) → (k ≡ 0 → P) → ((j : ℕ) → k ≡ suc j → P) → P
cases zero a b = a refl
cases (suc j) a b = b j refl

pub is_zero : (k : ℕ) → k ≡ 0 → not (eqb k 0) ≡ false
is_zero k e = ap not (eq-eqb k 0 e)

pub is-more : (k j : ℕ) → k ≡ suc j → not (eqb k 0) ≡ true
is-more k j e = ap not (ne_eqb k 0 (λ none. suc-ne-zero j (sym e ∙ none)))

pub next_fits : (i m : ℕ) → i < m → m < 2 ^ 64 → Fits w64 (i + 1)
next_fits i m small fits = record { fits = subst (λ (j : ℕ). j < 2 ^ 64) (sym (add-one i)) (lt_of_le_of_lt small fits) }
