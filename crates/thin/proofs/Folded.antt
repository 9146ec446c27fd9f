-- Laws of the walks of `specs/Fold.antt`, for whoever reads a contract that names them.
--     by-turns             an induction: what holds of an empty list, is kept by a turn that serves, and holds where the first turn
--                          refuses, holds of the walk
--     same_length          the list keeps its length
--     served-most, all-served      at most all are served, and all are where there is no refusal
--     rest-stays           from the place at which the walk stopped on, the list is as it was
--     last-state           the state that is left is that of as many turns as served
--     served-at            an element that is served is as its turn left it, from the state that the turns before it led to, and
--                          its turn gave no refusal
--     refused-at           where there is a refusal, it is what the turn of the next element gave
--     in_two               a walk over two lists in a row, where all of the first are served: the first walk, then the second from
--                          the state that it left
--     state-keeps          what every turn that serves keeps of the state holds of the state that is left
--     unopened, begun      where opening is refused nothing changes; else it is the walk
-- Assumes nothing.
use mathlib.Core.Path.{◌≡◌, refl, ap, sym, ◌∙◌}
use Prim.Native.Nat.{ℕ, zero, suc, ◌<◌, ◌≤◌}
use native.Mathlib.Nat.{not-suc-le-zero, le_of_suc-le-suc, suc-ne-zero}
use native.Mathlib.Omega.{arith}
use mathlib.Core.List.{List, [], ◌∷◌, ◌++◌}
use lib.ListN.{length, get_or, take, drop}
use Rattle.thin.specs.Fold.{Turn, Ran, unless_refused, after, along, serves, state_behind, begins}
use Rattle.thin.proofs.Along.{serving}

-- the two ways that a turn goes
either :
    {A : Type 0} (P : A → Type 0) (k : ℕ) (a b : A) → (k ≡ 0 → P a) → ((j : ℕ) → k ≡ suc j → P b) → P (unless_refused k a b)
either P zero a b p q = p refl
either P (suc j) a b p q = q j refl

no_zero : (k j : ℕ) → k ≡ suc j → k ≡ 0 → ⊥
no_zero k j e z = suc-ne-zero j (sym e ∙ z)

module _ {X Z : Type 0} (f : X → Z → Turn X Z) where
  pub by-turns :
      (P : List X → Z → Ran X Z → Type 0) → ((z : Z) → P [] z (0, (0, ([], z)))) →
      ((x : X) (xs : List X) (z : Z) (w : Ran X Z) → (f x z).0 ≡ 0 → P xs (f x z).1.1 w → P (x ∷ xs) z (after (f x z).1.0 w)) →
      ((x : X) (xs : List X) (z : Z) (j : ℕ) → (f x z).0 ≡ suc j → P (x ∷ xs) z ((f x z).0, (0, (x ∷ xs, z)))) →
      (xs : List X) (z : Z) → P xs z (serves f xs z)
  by-turns P none serves-one refuses-one [] z = none z
  by-turns P none serves-one refuses-one (x ∷ xs) z =
      either (P (x ∷ xs) z) (f x z).0 _ _
      (λ e. serves-one x xs z (serves f xs (f x z).1.1) e (by-turns P none serves-one refuses-one xs (f x z).1.1))
      (refuses-one x xs z)

  pub same_length : (xs : List X) (z : Z) → length (serves f xs z).1.1.0 ≡ length xs
  same_length = by-turns (λ xs z w. length w.1.1.0 ≡ length xs) (λ z. refl) (λ x xs z w e h. ap suc h) (λ x xs z j e. refl)

  pub served-most : (xs : List X) (z : Z) → (serves f xs z).1.0 ≤ length xs
  served-most =
      by-turns (λ xs z w. w.1.0 ≤ length xs) (λ z. omega arith) (λ x xs z w e h. omega arith) (λ x xs z j e. omega arith)

  pub all-served : (xs : List X) (z : Z) → (serves f xs z).0 ≡ 0 → (serves f xs z).1.0 ≡ length xs
  all-served =
      by-turns (λ xs z w. w.0 ≡ 0 → w.1.0 ≡ length xs) (λ z h. refl) (λ x xs z w e h k. ap suc (h k))
      (λ x xs z j e h. absurd (no_zero (f x z).0 j e h))

  pub rest-stays : (xs : List X) (z : Z) → drop (serves f xs z).1.0 (serves f xs z).1.1.0 ≡ drop (serves f xs z).1.0 xs
  rest-stays =
      by-turns (λ xs z w. drop w.1.0 w.1.1.0 ≡ drop w.1.0 xs) (λ z. refl) (λ x xs z w e h. h) (λ x xs z j e. refl)

  pub last-state : (xs : List X) (z : Z) → (serves f xs z).1.1.1 ≡ state_behind f (take (serves f xs z).1.0 xs) z
  last-state =
      by-turns (λ xs z w. w.1.1.1 ≡ state_behind f (take w.1.0 xs) z) (λ z. refl) (λ x xs z w e h. h) (λ x xs z j e. refl)

  -- of the element i of xs, d where there is none: its turn from the state before it made y of it, and served
  abbrev Served : X → List X → Z → ℕ → X → Type 0
  Served d xs z i y =
      (y ≡ (f (get_or xs i d) (state_behind f (take i xs) z)).1.0) × ((f (get_or xs i d) (state_behind f (take i xs) z)).0 ≡ 0)

  pub served-at :
      (d : X) (xs : List X) (z : Z) (i : ℕ) → i < (serves f xs z).1.0 →
      (get_or (serves f xs z).1.1.0 i d ≡ (f (get_or xs i d) (state_behind f (take i xs) z)).1.0) ×
      ((f (get_or xs i d) (state_behind f (take i xs) z)).0 ≡ 0)
  served-at d =
      by-turns (λ xs z w. (i : ℕ) → i < w.1.0 → Served d xs z i (get_or w.1.1.0 i d))
      (λ z i h. absurd (not-suc-le-zero h)) (λ x xs z w e h i. next x xs z w e h i) (λ x xs z j e i h. absurd (not-suc-le-zero h))
    where
      next :
          (x : X) (xs : List X) (z : Z) (w : Ran X Z) → (f x z).0 ≡ 0 →
          ((i : ℕ) → i < w.1.0 → Served d xs (f x z).1.1 i (get_or w.1.1.0 i d)) →
          (i : ℕ) → i < suc w.1.0 → Served d (x ∷ xs) z i (get_or ((f x z).1.0 ∷ w.1.1.0) i d)
      next x xs z w e h zero l = (refl, e)
      next x xs z w e h (suc i) l = h i (le_of_suc-le-suc l)

  pub refused-at :
      (d : X) (xs : List X) (z : Z) (j : ℕ) → (serves f xs z).0 ≡ suc j →
      ((serves f xs z).1.0 < length xs) × ((f (get_or xs (serves f xs z).1.0 d) (serves f xs z).1.1.1).0 ≡ suc j)
  refused-at d =
      by-turns (λ xs z w. (j : ℕ) → w.0 ≡ suc j → (w.1.0 < length xs) × ((f (get_or xs w.1.0 d) w.1.1.1).0 ≡ suc j))
      (λ z j h. absurd (no_zero 0 j h refl))
      (λ x xs z w e h j k. (let l : w.1.0 < length xs = (h j k).0 in omega arith, (h j k).1))
      (λ x xs z i e j h. (omega arith, h))

  pub in_two :
      (xs ys : List X) (z : Z) → (serves f xs z).0 ≡ 0 →
      serves f (xs ++ ys) z ≡ along (serves f xs z).1.1.0 (serves f ys (serves f xs z).1.1.1)
  in_two [] ys z = λ h. refl
  in_two (x ∷ xs) ys z =
      either
      (λ (w : Ran X Z). w.0 ≡ 0 → serves f (x ∷ (xs ++ ys)) z ≡ along w.1.1.0 (serves f ys w.1.1.1)) (f x z).0 _ _
      (λ e h. serving f x (xs ++ ys) z e ∙ ap (after (f x z).1.0) (in_two xs ys (f x z).1.1 h))
      (λ j e h. absurd (no_zero (f x z).0 j e h))

  pub state-keeps :
      (P : Z → Type 0) → ((x : X) (z : Z) → (f x z).0 ≡ 0 → P z → P (f x z).1.1) →
      (xs : List X) (z : Z) → P z → P (serves f xs z).1.1.1
  state-keeps P keeps = by-turns (λ xs z w. P z → P w.1.1.1) (λ z p. p) (λ x xs z w e h p. h (keeps x z e p)) (λ x xs z j e p. p)

  pub unopened : (b : ℕ × Z) (xs : List X) (j : ℕ) → b.0 ≡ suc j → begins f b xs ≡ (b.0, (0, (xs, b.1)))
  unopened b xs j e = simp e

  pub begun : (b : ℕ × Z) (xs : List X) → b.0 ≡ 0 → begins f b xs ≡ serves f xs b.1
  begun b xs e = simp e
