-- A lane is one number. Written from 32 values its digits to the base 2 ^ w are the values, read from words its digits to the
-- base 2 ^ 32 are the words; what is said of either is said of digits (proofs/Digits).
-- Assumes nothing.
use mathlib.Core.Path.{◌≡◌, refl, ap}
use mathlib.Core.List.{List}
use Prim.Native.Nat.{ℕ, zero, suc, ◌+◌, ◌*◌, ◌/◌, ◌%◌, ◌^◌, ◌<◌}
use native.Mathlib.Nat.{add_assoc, mod-lt, zero-lt-suc}
use native.Mathlib.Omega.{arith}
use lib.ListN.{get_or}
use lib.Pow.{pow_pos}
use Rattle.format.specs.Basics.{word, AllBelow}
use Rattle.format.specs.Bitpacking.{lane_of, lane_at}
use Rattle.format.proofs.Lists.{AllBelow-get_or}
use Rattle.format.proofs.Digits.{number, number-below, number_digit}

-- the w lowest bits of value i
abbrev low : ℕ → List ℕ → ℕ → ℕ
low w vs i = get_or vs i 0 % 2 ^ w

low_below : (w : ℕ) (vs : List ℕ) (i : ℕ) → low w vs i < 2 ^ w
low_below w vs i = mod-lt (get_or vs i 0) (pow_pos w)

lane_of-number : (n w : ℕ) (vs : List ℕ) (i : ℕ) → lane_of n w vs i ≡ number w 4 (low w vs) n i
unfolding lane_of number
lane_of-number zero w vs i = refl
lane_of-number (suc n) w vs i = ap (λ (u : ℕ). low w vs i + 2 ^ w * u) (lane_of-number n w vs (i + 4))

pub lane_of-below : (n w : ℕ) (vs : List ℕ) (i : ℕ) → lane_of n w vs i < 2 ^ (n * w)
lane_of-below n w vs i = rw lane_of-number (number-below w 4 (low w vs) (low_below w vs) n i)

-- digit k of a lane is its value k
pub lane_of_digit : (n w : ℕ) (vs : List ℕ) (i k : ℕ) → k < n
    → lane_of n w vs i / 2 ^ (k * w) % 2 ^ w ≡ get_or vs (i + 4 * k) 0 % 2 ^ w
lane_of_digit n w vs i k h = rw lane_of-number (number_digit w 4 (low w vs) (low_below w vs) n k i h)

-- a word is such a number too, of four bytes
pub word_number : (bs : List ℕ) (p : ℕ) → word bs p ≡ number 8 1 (λ i. get_or bs i 0) 4 p
unfolding word number
word_number bs p = rw (add_assoc p 1, add_assoc p 2) (omega arith)

pub lane_at-number : (n : ℕ) (bs : List ℕ) (p : ℕ) → lane_at n bs p ≡ number 32 16 (word bs) n p
unfolding lane_at number
lane_at-number zero bs p = refl
lane_at-number (suc n) bs p = ap (λ (u : ℕ). word bs p + 2 ^ 32 * u) (lane_at-number n bs (p + 16))

module _ (bs : List ℕ) (bytes : AllBelow 256 bs) where
  pub word_below : (p : ℕ) → word bs p < 2 ^ 32
  word_below p =
      rw word_number (number-below 8 1 (λ i. get_or bs i 0) (AllBelow-get_or bs (zero-lt-suc 255) bytes) 4 p)

  -- digit j of a lane is its word j
  pub lane_at_digit : (n p j : ℕ) → j < n → lane_at n bs p / 2 ^ (j * 32) % 2 ^ 32 ≡ word bs (p + 16 * j)
  lane_at_digit n p j h = rw lane_at-number (number_digit 32 16 (word bs) word_below n j p h)
