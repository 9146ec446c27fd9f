-- Packed values read back, and the width that values are given is the least that holds them all.
-- Packing, one proof for every width: word j of a packed lane is digit j of the lane to the base 2 ^ 32; the lane is below
-- 2 ^ (32 * w), so its w words are all of it; and its digits to the base 2 ^ w are the values.
-- Width: a number has at most k bits just if it is below 2 ^ k, and all values lie below a bound just if the largest does.
-- Assumes nothing.
use mathlib.Core.Path.{◌≡◌, sym, ap, ap₂, ◌∙◌}
use mathlib.Core.List.{List, [], ◌∷◌, ◌++◌}
use Prim.Native.Nat.{ℕ, zero, suc, ◌+◌, ◌*◌, ◌/◌, ◌%◌, ◌^◌, ◌≤◌, ◌<◌, zero-le}
use native.Mathlib.Nat.{mul_comm, mod-lt, mod-eq_of_lt, zero-lt-suc}
use native.Mathlib.Numerals.{one-add}
use native.Mathlib.Omega.{arith}
use lib.ListN.{length, get_or, get_or-append}
use lib.Dec.{eqb-suc-zero}
use lib.Pow.{pow_pos, shr-shr}
use Rattle.format.specs.Basics.{choose, word, AllBelow}
use Rattle.format.specs.Bitpacking.{lane_of, lane_at, packed_at, pack, unpacked_at, unpack, bits_f, largest, width}
use Rattle.format.proofs.Lists.{AllBelow-get_or}
use Rattle.format.proofs.Tabulate.{tabulate-length, tabulate-at, tabulate-is, tabulate-below}
use Rattle.format.proofs.Digits.{number_of}
use Rattle.format.proofs.Lanes.{lane_of-below, lane_of_digit, word_number, lane_at-number}

pub pack-length : (w : ℕ) (vs : List ℕ) → length (pack w vs) ≡ 16 * w
unfolding pack
pack-length w vs = tabulate-length (16 * w) (packed_at w vs)

pub unpack-length : (w : ℕ) (bs : List ℕ) → length (unpack w bs) ≡ 128
unfolding unpack
unpack-length w bs = tabulate-length 128 (unpacked_at w bs)

pub unpack-below : (w : ℕ) (bs : List ℕ) → AllBelow (2 ^ w) (unpack w bs)
unfolding unpack
unpack-below w bs = tabulate-below 128 (unpacked_at w bs) (λ i h. mod-lt _ (pow_pos w))

-- where lane and bit of a byte are known
packed_at-lane : (w : ℕ) (vs : List ℕ) (p m e : ℕ) → p % 16 / 4 ≡ m → 32 * (p / 16) + 8 * (p % 4) ≡ e
    → packed_at w vs p ≡ lane_of 32 w vs m / 2 ^ e % 256
unfolding packed_at
packed_at-lane w vs p m e lane place = ap₂ (λ (l k : ℕ). lane_of 32 w vs l / 2 ^ k % 256) lane place

pub pack-at : (w : ℕ) (vs rest : List ℕ) (p : ℕ) → p < 16 * w → get_or (pack w vs ++ rest) p 0 ≡ packed_at w vs p
unfolding pack
pack-at w vs rest p h =
    get_or-append (pack w vs) rest 0 p (rw pack-length h) ∙ tabulate-at (16 * w) (packed_at w vs) p 0 h

module _ (w : ℕ) (vs rest : List ℕ) where
  -- byte c of word j of lane m
  packed_byte : (m j c : ℕ) → m < 4 → j < w → c < 4
      → get_or (pack w vs ++ rest) (4 * m + 16 * j + 1 * c) 0 ≡ lane_of 32 w vs m / 2 ^ (j * 32) / 2 ^ (c * 8) % 2 ^ 8
  packed_byte m j c hm hj hc =
      let p : ℕ = 4 * m + 16 * j + 1 * c in
      pack-at w vs rest p (omega arith)
      ∙ packed_at-lane w vs p m (j * 32 + c * 8) (omega arith) (omega arith)
      ∙ ap (λ (x : ℕ). x % 256) (sym (shr-shr _ (j * 32) (c * 8)))

  packed-word : (m j : ℕ) → m < 4 → j < w → word (pack w vs ++ rest) (4 * m + 16 * j) ≡ lane_of 32 w vs m / 2 ^ (j * 32) % 2 ^ 32
  packed-word m j hm hj =
      word_number _ _
      ∙ number_of 8 1 (λ i. get_or (pack w vs ++ rest) i 0) 4 (4 * m + 16 * j) (lane_of 32 w vs m / 2 ^ (j * 32))
      (λ c hc. packed_byte m j c hm hj hc)

  packed-lane : (m : ℕ) → m < 4 → lane_at w (pack w vs ++ rest) (4 * m) ≡ lane_of 32 w vs m
  packed-lane m hm =
      lane_at-number w _ (4 * m)
      ∙ number_of 32 16 (word (pack w vs ++ rest)) w (4 * m) (lane_of 32 w vs m) (λ j hj. packed-word m j hm hj)
      ∙ mod-eq_of_lt (rw (mul_comm w 32) (lane_of-below 32 w vs m))

  packed-value : (i : ℕ) → i < 128 → unpacked_at w (pack w vs ++ rest) i ≡ get_or vs i 0 % 2 ^ w
  unfolding unpacked_at
  packed-value i h =
      let place : i % 4 + 4 * (i / 4) ≡ i = omega arith in
      ap (λ (x : ℕ). x / 2 ^ (i / 4 * w) % 2 ^ w) (packed-lane (i % 4) (omega arith))
      ∙ lane_of_digit 32 w vs (i % 4) (i / 4) (omega arith)
      ∙ rw place

-- values below 2 ^ w are read back from their packed bytes, whatever follows those
pub pack-reads-back : (w : ℕ) (vs rest : List ℕ) → length vs ≡ 128 → AllBelow (2 ^ w) vs → unpack w (pack w vs ++ rest) ≡ vs
unfolding unpack
pack-reads-back w vs rest e small =
    tabulate-is 128 (unpacked_at w (pack w vs ++ rest)) vs 0 e
    (λ i h. packed-value w vs rest i h ∙ mod-eq_of_lt (AllBelow-get_or vs (pow_pos w) small i))

-- a number below 2 ^ k has at most k bits
pub bits-le : (f n k : ℕ) → n < 2 ^ k → bits_f f n ≤ k
unfolding bits_f choose
bits-le zero n k h = zero-le
bits-le (suc f) zero k h = zero-le
bits-le (suc f) (suc n) zero h = omega arith
bits-le (suc f) (suc n) (suc k) h = rw eqb-suc-zero (omega (arith, bits-le f (suc n / 2) k (omega arith)))

-- .. and has enough that it is below 2 to their number, if it is below 2 ^ f
pub bits_fit : (f n : ℕ) → n < 2 ^ f → n < 2 ^ bits_f f n
unfolding bits_f choose
bits_fit zero n h = h
bits_fit (suc f) zero h = zero-lt-suc 0
bits_fit (suc f) (suc n) h = rw (eqb-suc-zero, one-add) (omega (arith, bits_fit f (suc n / 2) (omega arith)))

-- .. never more than f
pub bits_most : (f n : ℕ) → bits_f f n ≤ f
unfolding bits_f choose
bits_most zero n = zero-le
bits_most (suc f) zero = zero-le
bits_most (suc f) (suc n) = rw eqb-suc-zero (omega (arith, bits_most f (suc n / 2)))

-- the largest is below a bound if all are
pub largest-below : {m : ℕ} (vs : List ℕ) → 0 < m → AllBelow m vs → largest vs < m
unfolding largest
largest-below [] pos a = pos
largest-below (v ∷ vs) pos a = omega (arith, a.0, largest-below vs pos a.1)

-- .. and all are if it is
pub below-largest : {m : ℕ} (vs : List ℕ) → largest vs < m → AllBelow m vs
unfolding largest
below-largest [] h = tt
below-largest (v ∷ vs) h = (omega arith, below-largest vs (omega arith))

pub width-le : (vs : List ℕ) → width vs ≤ 32
unfolding width
width-le vs = bits_most 32 (largest vs)

pub width_fits : (vs : List ℕ) → AllBelow (2 ^ 32) vs → AllBelow (2 ^ width vs) vs
unfolding width
width_fits vs a = below-largest vs (bits_fit 32 (largest vs) (largest-below vs (pow_pos 32) a))

pub width-least : (vs : List ℕ) (k : ℕ) → AllBelow (2 ^ k) vs → width vs ≤ k
unfolding width
width-least vs k a = bits-le 32 (largest vs) k (largest-below vs (pow_pos k) a)
