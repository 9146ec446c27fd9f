-- A lane while it is unpacked, as one number from the row on: its lowest w bits are the row's value, and those above are the lane
-- from the next row on. What is left of the lane's words read last are the lowest bits of that number, the `rest`, and the lane's
-- next word stands above them.
--     rest-value    where the rest has enough bits, its lowest are the value
--     rest-taken    .. and the others are the rest behind the row
--     word_value    else the rest with the next word above it has the value lowest
--     word-taken    .. and what the value leaves of that word is the rest behind the row
-- Assumes nothing.
use mathlib.Core.Path.{◌≡◌, sym, ap, ap₂, ◌∙◌}
use mathlib.Core.List.{List}
use Prim.Native.Nat.{ℕ, ◌+◌, ◌-◌, ◌*◌, ◌/◌, ◌%◌, ◌^◌, ◌≤◌, ◌<◌}
use native.Mathlib.Nat.{add_comm, add-mul, one-mul, mod-lt}
use native.Mathlib.Omega.{arith}
use lib.Pow.{pow_pos, mod-pow-add, shr-shr}
use Rattle.format.specs.Bitpacking.{lane_at, unpacked_at}
use Rattle.bitpacking.specs.Packed.{rest}
use Rattle.bitpacking.proofs.Shifts.{lowest, upper}

pub row_more : (w row : ℕ) → (row + 1) * w ≡ row * w + w
row_more w row = add-mul row 1 w ∙ ap (λ (n : ℕ). row * w + n) (one-mul w)

module _ (w row : ℕ) (bs : List ℕ) (m : ℕ) where
  -- the lane from the row on
  abbrev pub lane : ℕ
  lane = lane_at w bs (4 * m) / 2 ^ (row * w)

  pub rest_below : (bits : ℕ) → rest w row bs m bits < 2 ^ bits
  unfolding rest
  rest_below bits = mod-lt lane (pow_pos bits)

  value : (i : ℕ) → m < 4 → i ≡ 4 * row + m → lane % 2 ^ w ≡ unpacked_at w bs i
  unfolding unpacked_at
  value i hm e = ap₂ (λ (l r : ℕ). lane_at w bs (4 * l) / 2 ^ (r * w) % 2 ^ w) own_lane own_row
    where
      own_lane : m ≡ i % 4
      own_lane = omega arith

      own_row : row ≡ i / 4
      own_row = omega arith

  behind : lane / 2 ^ w ≡ lane_at w bs (4 * m) / 2 ^ ((row + 1) * w)
  behind = shr-shr (lane_at w bs (4 * m)) (row * w) w ∙ ap (λ (n : ℕ). lane_at w bs (4 * m) / 2 ^ n) (sym (row_more w row))

  pub rest-value : (i bits : ℕ) → m < 4 → i ≡ 4 * row + m → w ≤ bits → rest w row bs m bits % 2 ^ w ≡ unpacked_at w bs i
  unfolding rest
  rest-value i bits hm e enough = lowest lane bits w enough ∙ value i hm e

  pub rest-taken : (bits : ℕ) → w ≤ bits → rest w row bs m bits / 2 ^ w ≡ rest w (row + 1) bs m (bits - w)
  unfolding rest
  rest-taken bits enough = upper lane bits w enough ∙ ap (λ (x : ℕ). x % 2 ^ (bits - w)) behind

  module _ (bits next : ℕ) (above : next ≡ lane / 2 ^ bits % 2 ^ 32) where
    pub word_value : (i : ℕ) → m < 4 → i ≡ 4 * row + m → w ≤ 32 → (rest w row bs m bits + next * 2 ^ bits) % 2 ^ w ≡ unpacked_at w bs i
    unfolding rest
    word_value i hm e most =
        ap (λ (y : ℕ). (lane % 2 ^ bits + y * 2 ^ bits) % 2 ^ w) above
        ∙ ap (λ (y : ℕ). y % 2 ^ w) (add_comm _ _ ∙ sym (mod-pow-add lane 32 bits))
        ∙ lowest lane (32 + bits) w (omega arith)
        ∙ value i hm e

    pub word-taken : (k : ℕ) → k + bits ≡ w → k ≤ 32 → next / 2 ^ k ≡ rest w (row + 1) bs m (32 - k)
    unfolding rest
    word-taken k e most =
        ap (λ (y : ℕ). y / 2 ^ k) above
        ∙ upper (lane / 2 ^ bits) 32 k most
        ∙ ap (λ (y : ℕ). y % 2 ^ (32 - k)) (shr-shr lane bits k ∙ ap (λ (n : ℕ). lane / 2 ^ n) (add_comm bits k ∙ e) ∙ behind)
