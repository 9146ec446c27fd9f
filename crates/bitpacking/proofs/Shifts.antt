-- Shifts, `|` and masks as sums, quotients and remainders.
--     lowest         the lowest of some bits
--     upper          .. and those above them
-- .. on words of 32 bits
--     joined         the lowest bits of a value of two parts, put together by a shift and `|`
--     masked_lowest  the lowest bits, by a mask of w ones
-- .. on words of 64 bits
--     one_shifted    one more than the mask of w ones
--     shifted_below  a value of 32 bits, shifted, has room
--     masked_shift   a value's lowest bits, by such a mask, put above other bits
-- Assumes nothing.
use mathlib.Core.Path.{◌≡◌, sym, ap, ◌∙◌}
use Prim.Native.Nat.{ℕ, ◌+◌, ◌-◌, ◌*◌, ◌/◌, ◌%◌, ◌^◌, ◌≤◌, ◌<◌}
use native.Mathlib.Nat.{mod-eq_of_lt, mod-le, mod-add-mod, mul-mod_left, add-zero, add_comm, one-mul, le_of_lt, lt_trans, lt_of_lt_of_le, lt_of_le_of_lt}
use lib.Dec.{lit<}
use native.Mathlib.Omega.{arith}
use lib.Bits.{bit_or, bit_and, or_shifted_r, and_mask}
use lib.Pow.{pow-lt, pow_mono, mod-pow-add, mod-mod-pow, field, shl-shr, shl_lt, ones_split, ones_lt, high}

parts : (n k : ℕ) → k ≤ n → n ≡ n - k + k
parts n k h = omega arith

pub lowest : (x n k : ℕ) → k ≤ n → x % 2 ^ n % 2 ^ k ≡ x % 2 ^ k
lowest x n k h = ap (λ (i : ℕ). x % 2 ^ i % 2 ^ k) (parts n k h) ∙ mod-mod-pow x (n - k) k

pub upper : (x n k : ℕ) → k ≤ n → x % 2 ^ n / 2 ^ k ≡ x / 2 ^ k % 2 ^ (n - k)
upper x n k h = ap (λ (i : ℕ). x % 2 ^ i / 2 ^ k) (parts n k h) ∙ field x (n - k) k

-- what is a multiple of 2 ^ k keeps its lower o digits below 2 ^ (o + k)
shifted_mod : (x o k : ℕ) → x * 2 ^ k % 2 ^ (o + k) ≡ x % 2 ^ o * 2 ^ k
shifted_mod x o k = rw (mod-pow-add (x * 2 ^ k) o k, shl-shr x k, mul-mod_left x (2 ^ k)) (add-zero _)

-- what the shift drops lies above the lowest bits
pub joined :
    (w bits low up : ℕ) → w ≤ 32 → bits < 32 → low < 2 ^ bits → bit_or low (up * 2 ^ bits % 2 ^ 32) % 2 ^ w ≡ (low + up * 2 ^ bits) % 2 ^ w
joined w bits low up hw hb h =
    rw sum
    (sym (mod-add-mod (x % 2 ^ 32) (2 ^ w) low)
    ∙ ap (λ (y : ℕ). (y + low) % 2 ^ w) (lowest x 32 w hw)
    ∙ mod-add-mod x (2 ^ w) low
    ∙ ap (λ (y : ℕ). y % 2 ^ w) (add_comm x low))
  where
    x : ℕ
    x = up * 2 ^ bits

    kept : x % 2 ^ 32 ≡ up % 2 ^ (32 - bits) * 2 ^ bits
    kept = ap (λ (n : ℕ). x % 2 ^ n) (parts 32 bits (le_of_lt hb)) ∙ shifted_mod up (32 - bits) bits

    sum : bit_or low (x % 2 ^ 32) ≡ x % 2 ^ 32 + low
    sum = rw kept (or_shifted_r (up % 2 ^ (32 - bits)) bits low h)

-- w ones, left of 32 ones by a shift
mask_ones : (v w : ℕ) → v + w ≡ 32 → 4294967295 / 2 ^ v ≡ 2 ^ w - 1
mask_ones v w e =
    ap (λ (n : ℕ). (2 ^ n - 1) / 2 ^ v) (sym e ∙ add_comm v w)
    ∙ ap (λ (n : ℕ). n / 2 ^ v) (ones_split w v)
    ∙ high (2 ^ w - 1) v (ones_lt v)

pub masked_lowest : (x w : ℕ) → w ≤ 32 → bit_and x (4294967295 / 2 ^ (32 - w)) ≡ x % 2 ^ w
masked_lowest x w h = rw (mask_ones (32 - w) w (omega arith)) (and_mask x w)

-- 32 bits shifted by less than 32 stay below 2 ^ 63
pub shifted_below : (x k : ℕ) → x < 2 ^ 32 → k < 32 → x * 2 ^ k < 2 ^ 63
shifted_below x k hx hk = lt_of_lt_of_le (shl_lt 32 k hx) (pow_mono {i = 32 + k} {j = 63} (omega arith))

-- a value's low w bits, shifted
pub masked_shift : (v w k : ℕ) → v < 2 ^ 32 → k < 32 → bit_and v (2 ^ w - 1) * 2 ^ k % 2 ^ 64 ≡ v % 2 ^ w * 2 ^ k
masked_shift v w k hv hk =
    rw (and_mask v w) (mod-eq_of_lt (lt_trans (shifted_below (v % 2 ^ w) k (lt_of_le_of_lt (mod-le v (2 ^ w)) hv) hk) (lit< tt)))

-- a 1 with w zeros behind it; one less is w ones
pub one_shifted : (w : ℕ) → w ≤ 32 → 1 * 2 ^ w % 2 ^ 64 ≡ 2 ^ w
one_shifted w h = rw (one-mul (2 ^ w)) (mod-eq_of_lt (pow-lt {i = w} {j = 64} (omega arith)))
