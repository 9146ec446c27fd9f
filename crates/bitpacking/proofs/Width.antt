-- The bits of a number and its leading zeros make up the word; and the largest of some numbers has as many bits as all of them together,
-- taken by `|`.
-- Assumes nothing.
use mathlib.Core.Path.{◌≡◌, refl, sym, ap}
use mathlib.Core.List.{List, [], ◌∷◌}
use Prim.Native.Nat.{ℕ, zero, suc, ◌+◌, ◌-◌, ◌/◌, ◌≤◌, ◌<◌, max}
use native.Mathlib.Nat.{suc-add, zero-add, suc-ne-zero, eq-sub_of_add-eq}
use native.Mathlib.Numerals.{one-add}
use native.Mathlib.Omega.{arith}
use borrow.Author.Tests.{ne_eqb}
use lib.Bits.{bit_or, or_zero_r, or_shr, or_add_and, and_le_r}
use lib.Count.{count_leading_zeros}
use Rattle.std.specs.List.{fold}
use Rattle.format.specs.Bitpacking.{bits_f, largest, width}

pub bits-and-zeros : (f n : ℕ) → bits_f f n + count_leading_zeros f n ≡ f
unfolding bits_f count_leading_zeros
bits-and-zeros zero n = refl
bits-and-zeros (suc f) zero = zero-add (suc f)
bits-and-zeros (suc f) (suc n) =
    rw (ne_eqb (suc n) 0 (suc-ne-zero n), one-add (bits_f f (suc n / 2)), suc-add) (ap suc (bits-and-zeros f (suc n / 2)))

pub bits_are : (f n : ℕ) → f - count_leading_zeros f n ≡ bits_f f n
bits_are f n = sym (eq-sub_of_add-eq (bits_f f n) (count_leading_zeros f n) (bits-and-zeros f n))

pub bits_none : (f : ℕ) → bits_f f 0 ≡ 0
unfolding bits_f
bits_none zero = refl
bits_none (suc f) = refl

bits-at-most-none : (n : ℕ) → bits_f 0 n ≡ 0
unfolding bits_f
bits-at-most-none n = refl

-- a number other than 0 has one bit more than its half
bits_half : (f n : ℕ) → 0 < n → bits_f (suc f) n ≡ 1 + bits_f f (n / 2)
unfolding bits_f
bits_half f n h = rw (ne_eqb n 0 (λ e. omega arith))

-- An operation whose result is at least its first operand, is the other operand where one is 0, and is halved where both are halved: its
-- result has as many bits as the operand that has more.
module _ (op : ℕ → ℕ → ℕ) (first : (b : ℕ) → op 0 b ≡ b) (second : (a : ℕ) → op a 0 ≡ a) (least : (a b : ℕ) → a ≤ op a b)
    (half : (a b : ℕ) → op a b / 2 ≡ op (a / 2) (b / 2)) where
  bits_joint : (f a b : ℕ) → bits_f f (op a b) ≡ max (bits_f f a) (bits_f f b)
  bits_joint zero a b = rw (bits-at-most-none (op a b), bits-at-most-none a, bits-at-most-none b) (omega arith)
  bits_joint (suc f) zero b = rw (first b, bits_none (suc f)) (omega arith)
  bits_joint (suc f) (suc a) zero = rw (second (suc a), bits_none (suc f)) (omega arith)
  bits_joint (suc f) (suc a) (suc b) =
      let some : 0 < op (suc a) (suc b) = omega (arith, least (suc a) (suc b)) in
      rw (bits_half f _ some, bits_half f (suc a) (omega arith), bits_half f (suc b) (omega arith), half (suc a) (suc b), bits_joint f (suc a / 2) (suc b / 2)) (omega arith)

-- the larger of two numbers is such a result
bits-max : (f a b : ℕ) → bits_f f (max a b) ≡ max (bits_f f a) (bits_f f b)
bits-max = bits_joint max (λ b. omega arith) (λ a. omega arith) (λ a b. omega arith) (λ a b. omega arith)

-- .. and so are the bits that any of two numbers has
bits-or : (f a b : ℕ) → bits_f f (bit_or a b) ≡ max (bits_f f a) (bits_f f b)
bits-or = bits_joint bit_or (λ b. refl) or_zero_r (λ a b. omega (arith, or_add_and a b, and_le_r a b)) (λ a b. or_shr a b 1)

-- any of some numbers, taken one after another
bits-folded : (vs : List ℕ) (any : ℕ) → bits_f 32 (fold bit_or any vs) ≡ max (bits_f 32 any) (bits_f 32 (largest vs))
unfolding largest
bits-folded [] any = rw (bits_none 32) (omega arith)
bits-folded (v ∷ vs) any = rw (bits-folded vs (bit_or any v), bits-or 32 any v, bits-max 32 v (largest vs)) (omega arith)

pub bits_of_all : (vs : List ℕ) → bits_f 32 (fold bit_or 0 vs) ≡ width vs
unfolding width
bits_of_all vs = rw (bits-folded vs 0, bits_none 32) (omega arith)
