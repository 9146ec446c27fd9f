-- A loop that overwrites a list from the front: what its next stores make of it. And lists of four.
-- Assumes nothing.
use mathlib.Core.Path.{◌≡◌, refl, sym, ap, ◌∙◌}
use mathlib.Core.List.{List, append-nil, map}
use Prim.Native.Nat.{ℕ, zero, suc, ◌+◌, ◌<◌, ◌≤◌}
use native.Mathlib.Omega.{arith}
use lib.ListN.{length, get_or, set, drop_of_length-le}
use Rattle.format.specs.Basics.{tabulate, tabulate_from}
use Rattle.format.proofs.Tabulate.{tabulate-store, tabulate-is, tabulate-at, tabulate-map, tabulate-same}
use Rattle.bitpacking.specs.Packed.{filled}

fill_next :
    {A : Type 0} (i j : ℕ) (v : A) (f : ℕ → A) (before l : List A) → i + 1 ≡ j → j ≤ length l → v ≡ f i → before ≡ filled i f l → set before i v ≡ filled j f l
unfolding filled
fill_next i j v f before l e h is same = rw (same, is, ← e) (tabulate-store f l i (omega arith))

-- .. and four, side by side
pub fill_four :
    {A : Type 0} (p : ℕ) {a b c d : A} (f : ℕ → A) (before l : List A) → p + 4 ≤ length l → a ≡ f p → b ≡ f (p + 1) → c ≡ f (p + 2) → d ≡ f (p + 3)
    → before ≡ filled p f l → set (set (set (set before p a) (p + 1) b) (p + 2) c) (p + 3) d ≡ filled (p + 4) f l
fill_four p f before l h is-a is_b is_c is-d same =
    fill_next (p + 3) (p + 4) _ f _ l (omega arith) h is-d
    (fill_next (p + 2) (p + 3) _ f _ l (omega arith) (omega arith) is_c
    (fill_next (p + 1) (p + 2) _ f _ l (omega arith) (omega arith) is_b
    (fill_next p (p + 1) _ f _ l (omega arith) (omega arith) is-a same)))

pub fill_none : {A : Type 0} (f : ℕ → A) (l : List A) → l ≡ filled 0 f l
unfolding filled tabulate_from
fill_none f l = refl

-- filled to the end, nothing of l is left
pub fill_all : {A : Type 0} (n : ℕ) (f : ℕ → A) (l : List A) → length l ≤ n → filled n f l ≡ tabulate n f
unfolding filled
fill_all n f l h = rw (drop_of_length-le l h) (append-nil (tabulate n f))

-- the elements of a list of four
pub at_four : {A : Type 0} (f : ℕ → A) (d : A) {l : List A} → l ≡ tabulate 4 f → (m : ℕ) → m < 4 → get_or l m d ≡ f m
at_four f d e m h = ap (λ (four : List _). get_or four m d) e ∙ tabulate-at 4 f m d h

-- .. by which it is known
pub four_of :
    {A : Type 0} (d : A) (f : ℕ → A) {l : List A} → length l ≡ 4 → get_or l 0 d ≡ f 0 → get_or l 1 d ≡ f 1 → get_or l 2 d ≡ f 2
    → get_or l 3 d ≡ f 3 → l ≡ tabulate 4 f
four_of d f {l} four e₀ e₁ e₂ e₃ = sym (tabulate-is 4 f l d four each)
  where
    each : (i : ℕ) → i < 4 → f i ≡ get_or l i d
    each zero h = sym e₀
    each (suc zero) h = sym e₁
    each (suc (suc zero)) h = sym e₂
    each (suc (suc (suc zero))) h = sym e₃
    each (suc (suc (suc (suc i)))) h = absurd (omega arith)

-- a function of each of four
pub four_are : {A B : Type 0} (g : A → B) (f : ℕ → A) (r : ℕ → B) {xs : List A} → xs ≡ tabulate 4 f → ((m : ℕ) → m < 4 → g (f m) ≡ r m) → map g xs ≡ tabulate 4 r
four_are g f r e h = ap (map g) e ∙ tabulate-map 4 f g ∙ tabulate-same 4 (λ m. g (f m)) r h
