-- The fewest digits to the base 10 that hold a number are its decimal digits. By induction on how many they are: all but the last are
-- those of a tenth of the number. A line of three numbers has 63 bytes at most.
-- Assumes nothing.
use mathlib.Core.Bool.{Bool}
use mathlib.Core.List.{[], ◌∷◌, ◌++◌}
use mathlib.Core.Path.{◌≡◌, refl, sym}
use Prim.Native.Nat.{ℕ, zero, suc, ◌+◌, ◌-◌, ◌*◌, ◌/◌, ◌%◌, ◌≤◌, ◌<◌, ◌^◌}
use native.Mathlib.Nat.{pow-suc, one-le-pow, pow-le-pow_right}
use native.Mathlib.Decide.{dec_le, dec_lt}
use native.Mathlib.Omega.{arith}
use borrow.Author.Tests.{lt-ltb, le-ltb}
use lib.ListN.{length, length-append}
use Rattle.io.specs.Digits.{last_digits, hex_digit_ascii, IsDigitCount}
use Rattle.format.specs.declared.refusal.Refusal.{Refusal}
use Rattle.format.specs.Basics.{choose}
use Rattle.format.specs.Model.{Answer}
use Rattle.format.specs.Model as model
use Rattle.listing.specs.Output.{decimal_f, decimal, field, line}

-- ---- one turn

decimal_f-last : (f n : ℕ) → n < 10 → decimal_f f n ≡ (48 + n) ∷ []
unfolding decimal_f choose
decimal_f-last zero n h = refl
decimal_f-last (suc f) n h = rw (lt-ltb n 10 h)

decimal_f-more : (f n : ℕ) → 10 ≤ n → decimal_f (suc f) n ≡ decimal_f f (n / 10) ++ ((48 + n % 10) ∷ [])
unfolding decimal_f choose
decimal_f-more f n h = rw (le-ltb n 10 h)

glyph_is : (d : ℕ) → d < 10 → hex_digit_ascii d ≡ 48 + d
glyph_is d h = rw (lt-ltb d 10 h)

-- ---- the digits

digits_are : (k f n : ℕ) → n < 10 ^ suc k → (1 ≤ k → 10 ^ k ≤ n) → k ≤ f → last_digits 10 (suc k) n ≡ decimal_f f n
digits_are zero f n hi lo few =
    let small : n < 10 = omega (arith, pow-suc 10 0) in
    let own : n % 10 ≡ n = omega arith in
    rw (own, glyph_is n small) (sym (decimal_f-last f n small))
digits_are (suc k) zero n hi lo few = absurd (omega arith)
digits_are (suc k) (suc f) n hi lo few =
    let p : ℕ = 10 ^ k in
    let ten : 10 ^ suc k ≡ 10 * p = omega (arith, pow-suc 10 k) in
    let hundred : 10 ^ suc (suc k) ≡ 10 * (10 * p) = omega (arith, pow-suc 10 (suc k)) in
    let least : 10 * p ≤ n = omega (arith, lo (omega arith)) in
    let most : n < 10 * (10 * p) = omega arith in
    let some : 1 ≤ p = one-le-pow k 10 (omega arith) in
    let digit : n % 10 < 10 = omega arith in
    let later = digits_are k f (n / 10) (rw ten (omega arith)) (λ _. omega arith) (omega arith) in
    rw (glyph_is (n % 10) digit, later) (sym (decimal_f-more f n (omega arith)))

pub decimal-is : (n r : ℕ) → IsDigitCount 10 1 n r → r ≤ 20 → last_digits 10 r n ≡ decimal n
unfolding decimal
decimal-is n zero h few = absurd (omega (arith, h.0))
decimal-is n (suc k) h few =
    let one_less : suc k - 1 ≡ k = omega arith in
    digits_are k 19 n h.1 (λ some. rw one_less at (h.2 (omega arith))) (omega arith)

-- ---- lengths

decimal_f-most : (f n : ℕ) → length (decimal_f f n) ≤ f + 1
unfolding decimal_f choose
decimal_f-most zero n = omega arith
decimal_f-most (suc f) n = elim (dec_lt n 10) [
  | yes h ↦ rw (decimal_f-last (suc f) n h) (omega arith)
  | no h ↦ rw (decimal_f-more f n (omega arith), length-append) (omega (arith, decimal_f-most f (n / 10)))
]

pub field-most : (n b : ℕ) → length (field n b) ≤ 21
unfolding field decimal
field-most n b = rw length-append (omega (arith, decimal_f-most 19 n))

pub line-is : (d f u : ℕ) (hit : Bool) → line (model.at d f u hit) ≡ field d 32 ++ (field f 32 ++ field u 10)
unfolding line
line-is d f u hit = refl

pub line-none : (n : Refusal) → line (model.refused n) ≡ []
unfolding line
line-none n = refl

pub line-most : (a : Answer) → length (line a) ≤ 63
line-most (model.at d f u hit) =
    rw (line-is, length-append, length-append) (omega (arith, field-most d 32, field-most f 32, field-most u 10))
line-most (model.refused n) = rw line-none (omega arith)

-- a number of 64 bits has 20 digits at most
pub fewest_few : (n r : ℕ) → n < 2 ^ 64 → IsDigitCount 10 1 n r → r ≤ 20
fewest_few n r small h = elim (dec_le r 20) [
  | yes few ↦ few
  | no many ↦
      absurd (omega (arith, h.2 (omega arith), pow-le-pow_right {n = 10} (omega arith) {i = 20} {j = r - 1} (omega arith)))
]
