-- A number by its digits to the base 2 ^ b, lowest first, where digit k is d (i + s * k). A lane is such a number of its
-- values, and of the words that it's written as; and a word is one of its bytes.
-- A shift by k digits leaves the digits from k on, so each digit can be taken out; and a number is known by its digits.
-- Assumes nothing.
use mathlib.Core.Path.{◌≡◌, sym, ap, ap₂, ◌∙◌}
use Prim.Native.Nat.{ℕ, zero, suc, ◌+◌, ◌-◌, ◌*◌, ◌/◌, ◌%◌, ◌^◌, ◌<◌, suc-le-suc}
use native.Mathlib.Nat.{add-zero, zero-add, add_comm, mul-zero, zero-mul, suc-mul, sub-zero, zero-sub, suc-sub-suc, zero-lt-suc}
use native.Mathlib.Nat.{div-one, zero-div, div-eq_of_lt, add-mul-div_left, mod-one, mod-eq_of_lt, add-mul-mod_self_left}
use native.Mathlib.Omega.{arith}
use lib.Arith.{digits_lt}
use lib.Pow.{pow_pos, pow-add, shr-shr, mod-pow-add}

-- n digits, the lowest at i
unfoldable pub number : (b s : ℕ) (d : ℕ → ℕ) → ℕ → ℕ → ℕ
number b s d zero i = 0
number b s d (suc n) i = d i + 2 ^ b * number b s d n (i + s)

-- what is above the lowest digit
above : (b : ℕ) {l : ℕ} (u : ℕ) → l < 2 ^ b → (l + 2 ^ b * u) / 2 ^ b ≡ u
above b {l} u h = add-mul-div_left l u (pow_pos b) ∙ rw (div-eq_of_lt h, zero-add)

-- the lowest n digits of x are x up to 2 ^ (n * b)
pub number_of : (b s : ℕ) (d : ℕ → ℕ) (n i x : ℕ) → ((k : ℕ) → k < n → d (i + s * k) ≡ x / 2 ^ (k * b) % 2 ^ b)
    → number b s d n i ≡ x % 2 ^ (n * b)
unfolding number
number_of b s d zero i x h = rw zero-mul (sym (mod-one x))
number_of b s d (suc n) i x h =
    ap₂ (λ (l u : ℕ). l + 2 ^ b * u)
    (rw (mul-zero, add-zero, zero-mul, div-one) at (h 0 (zero-lt-suc n)))
    (number_of b s d n (i + s) (x / 2 ^ b)
    (λ k l. ap d (omega arith) ∙ h (suc k) (suc-le-suc l) ∙ rw (suc-mul, add_comm (k * b) b, ← shr-shr)))
    ∙ rw (suc-mul, mod-pow-add) (omega arith)

module _ (b s : ℕ) (d : ℕ → ℕ) (small : (i : ℕ) → d i < 2 ^ b) where
  pub number-below : (n i : ℕ) → number b s d n i < 2 ^ (n * b)
  unfolding number
  number-below zero i = rw zero-mul (zero-lt-suc 0)
  number-below (suc n) i =
      rw (suc-mul, pow-add) (omega (arith, digits_lt (number-below n (i + s)) (small i)))

  -- a shift by k digits
  pub number-from : (n k i : ℕ) → number b s d n i / 2 ^ (k * b) ≡ number b s d (n - k) (i + s * k)
  unfolding number
  number-from n zero i = simp (zero-mul, div-one, sub-zero, mul-zero, add-zero)
  number-from zero (suc k) i = simp (zero-div, zero-sub)
  number-from (suc n) (suc k) i =
      rw (suc-mul, add_comm (k * b) b, ← shr-shr, above b _ (small i), suc-sub-suc)
      (number-from n k (i + s) ∙ ap (number b s d (n - k)) (omega arith))

  -- .. where digit k is one of them
  number_step : (n k i : ℕ) → k < n
      → number b s d n i / 2 ^ (k * b) ≡ d (i + s * k) + 2 ^ b * number b s d (n - suc k) (i + s * k + s)
  unfolding number
  number_step n k i h =
      let more : n - k ≡ suc (n - suc k) = omega arith in
      number-from n k i ∙ rw more

  pub number_digit : (n k i : ℕ) → k < n → number b s d n i / 2 ^ (k * b) % 2 ^ b ≡ d (i + s * k)
  number_digit n k i h = rw (number_step n k i h, add-mul-mod_self_left) (mod-eq_of_lt (small (i + s * k)))
