-- A lane while it is packed, as a number: the bits not yet written are `pending`.
--     pending-below   they are fewer than a word where fewer than 32 are
--     pending-more    a row's value goes above them
--     pending-word    once a word is full, it is the lane's next word, byte for byte
--     pending_less    taken off, the rest is what is pending behind it
-- Assumes nothing.
use mathlib.Core.Path.{◌≡◌, refl, sym, ap, ap₂, ◌∙◌}
use mathlib.Core.List.{List, [], ◌∷◌, map}
use Prim.Native.Nat.{ℕ, ◌+◌, ◌-◌, ◌*◌, ◌/◌, ◌%◌, ◌^◌, ◌≤◌, ◌<◌}
use native.Mathlib.Nat.{mod-lt, mul_assoc, add_comm, mul-add-div_right, add-mul, zero-mul, one-mul, mod-one, div-one, lt_of_lt_of_le, le_of_lt}
use native.Mathlib.Omega.{arith}
use lib.Dec.{lit<}
use lib.ListN.{get_or, replicate}
use lib.Pow.{pow_pos, pow-add, pow_mono, mod-pow-add, shr_lt, shr-shr}
use Rattle.format.specs.Basics.{tabulate, le32}
use Rattle.format.specs.Bitpacking.{lane_of, packed_at}
use Rattle.format.proofs.Lanes.{lane_of_digit}
use Rattle.format.proofs.Tabulate.{tabulate-map, tabulate-same, tabulate-at}
use Rattle.bitpacking.proofs.Filled.{four_are}
use Rattle.bitpacking.proofs.Shifts.{lowest, upper}
use Rattle.bitpacking.specs.declared.Lanes.{Lanes}
use Rattle.bitpacking.specs.Packed.{pending, words_taken_of, WordIs, WordsAre, LanesHold, LanesAt}

-- digit d of x goes above its n lower bits, of which the lowest are cut off
digit_above :
    (x n w d bits low : ℕ) → bits + low ≡ n → x / 2 ^ n % 2 ^ w ≡ d → x % 2 ^ n / 2 ^ low + d * 2 ^ bits ≡ x % 2 ^ (w + n) / 2 ^ low
digit_above x n w d bits low e digit =
    add_comm _ _
    ∙ sym (mul-add-div_right (pow_pos low) (d * 2 ^ bits) (x % 2 ^ n))
    ∙ ap (λ (y : ℕ). (y + x % 2 ^ n) / 2 ^ low) (mul_assoc d (2 ^ bits) (2 ^ low) ∙ ap₂ ◌*◌ (sym digit) (sym (pow-add 2 bits low) ∙ ap (λ (k : ℕ). 2 ^ k) e))
    ∙ ap (λ (y : ℕ). y / 2 ^ low) (sym (mod-pow-add x w n))

-- b bits of x from bit `at` on, read of its lower n
lower_bits : (x n at b : ℕ) → b + at ≤ n → x % 2 ^ n / 2 ^ at % 2 ^ b ≡ x / 2 ^ at % 2 ^ b
lower_bits x n at b h = ap (λ (y : ℕ). y % 2 ^ b) (upper x n at (omega arith)) ∙ lowest (x / 2 ^ at) (n - at) b (omega arith)

packed_byte : (w : ℕ) (vs : List ℕ) (p : ℕ) → packed_at w vs p ≡ lane_of 32 w vs (p % 16 / 4) / 2 ^ (32 * (p / 16) + 8 * (p % 4)) % 256
unfolding packed_at
packed_byte w vs p = refl

module _ (w : ℕ) (vs : List ℕ) (m : ℕ) where
  pub pending-below : (bits words n : ℕ) → bits + 32 * words ≡ n → pending w vs m n words < 2 ^ bits
  unfolding pending
  pending-below bits words n e = shr_lt bits (32 * words) (rw e (mod-lt (lane_of 32 w vs m) (pow_pos n)))

  pub pending-more :
      (bits words row : ℕ) → row < 32 → bits + 32 * words ≡ row * w
      → pending w vs m (row * w) words + get_or vs (m + 4 * row) 0 % 2 ^ w * 2 ^ bits ≡ pending w vs m ((row + 1) * w) words
  unfolding pending
  pending-more bits words row h e =
      digit_above (lane_of 32 w vs m) (row * w) w (get_or vs (m + 4 * row) 0 % 2 ^ w) bits (32 * words) e (lane_of_digit 32 w vs m row h)
      ∙ ap (λ (n : ℕ). lane_of 32 w vs m % 2 ^ n / 2 ^ (32 * words)) (rw (add-mul row 1 w, one-mul w) (add_comm w (row * w)))

  pub pending_less : (n words : ℕ) → pending w vs m n words / 2 ^ 32 ≡ pending w vs m n (words + 1)
  unfolding pending
  pending_less n words =
      shr-shr (lane_of 32 w vs m % 2 ^ n) (32 * words) 32 ∙ ap (λ (k : ℕ). lane_of 32 w vs m % 2 ^ n / 2 ^ k) (omega arith)

  -- byte b of the word
  byte : (n words b : ℕ) → m < 4 → b < 4 → 32 * words + 32 ≤ n
      → packed_at w vs (16 * words + 4 * m + b) ≡ pending w vs m n words % 2 ^ 32 / 2 ^ (8 * b) % 256
  unfolding pending
  byte n words b hm hb full =
      packed_byte w vs p
      ∙ ap (λ (k : ℕ). lane_of 32 w vs k / 2 ^ (32 * (p / 16) + 8 * (p % 4)) % 256) lane
      ∙ ap (λ (k : ℕ). x / 2 ^ k % 256) place
      ∙ sym (lower_bits x n (32 * words + 8 * b) 8 (omega arith))
      ∙ ap (λ (y : ℕ). y % 256) (sym (shr-shr (x % 2 ^ n) (32 * words) (8 * b)))
      ∙ sym (lower_bits (x % 2 ^ n / 2 ^ (32 * words)) 32 (8 * b) 8 (omega arith))
    where
      p : ℕ
      p = 16 * words + 4 * m + b

      x : ℕ
      x = lane_of 32 w vs m

      lane : p % 16 / 4 ≡ m
      lane = omega arith

      place : 32 * (p / 16) + 8 * (p % 4) ≡ 32 * words + 8 * b
      place = omega arith

  pub pending-word : (n words : ℕ) → m < 4 → 32 * words + 32 ≤ n → WordIs (packed_at w vs) (16 * words + 4 * m) (pending w vs m n words % 2 ^ 32)
  unfolding le32 tabulate
  pending-word n words hm full =
      ap (λ (y : ℕ). y % 256 ∷ x / 2 ^ 8 % 256 ∷ x / 2 ^ 16 % 256 ∷ x / 2 ^ 24 % 256 ∷ []) (sym (div-one x))
      ∙ tabulate-same 4 (λ b. x / 2 ^ (8 * b) % 256) (λ b. packed_at w vs (16 * words + 4 * m + b)) (λ b h. sym (byte n words b hm h full))
    where
      x : ℕ
      x = pending w vs m n words % 2 ^ 32

  pub pending-small : (bits words n : ℕ) → bits < 32 → bits + 32 * words ≡ n → pending w vs m n words < 2 ^ 32
  pending-small bits words n h e = lt_of_lt_of_le (pending-below bits words n e) (pow_mono {i = bits} {j = 32} (le_of_lt h))

-- the lanes' next words are the block's
pub words_are :
    (w n : ℕ) (vs : List ℕ) (s : Lanes) → LanesHold w n vs s → 32 * s.words + 32 ≤ n
    → WordsAre (packed_at w vs) (16 * s.words) (map (λ x. x % 2 ^ 32) s.held)
words_are w n vs s h full m hm =
    rw (h.held, tabulate-map, tabulate-at {A = ℕ} 4 _ m 0 hm) (pending-word w vs m n s.words hm full)

-- .. and with them taken off the lanes hold the rest
pub taken_hold : (w n : ℕ) (vs : List ℕ) (s : Lanes) → LanesHold w n vs s → 32 ≤ s.bits → LanesHold w n vs (words_taken_of s)
unfolding words_taken_of
taken_hold w n vs s h full =
    record {
      packed = omega arith;
      held = four_are (λ x. x / 2 ^ 32) _ _ h.held (λ m _. pending_less w vs m n s.words);
    }

none-pending : (w : ℕ) (vs : List ℕ) (m : ℕ) → 0 ≡ pending w vs m (0 * w) 0
unfolding pending
none-pending w vs m = rw (zero-mul w, mod-one (lane_of 32 w vs m))

-- before the first row the lanes hold nothing
pub none-held : (w : ℕ) (vs : List ℕ) → LanesAt w 0 vs (record { held = replicate 4 0; bits = 0; words = 0 })
unfolding tabulate
none-held w vs =
    record {
      holds = record {
        packed = sym (zero-mul w);
        held = tabulate-same 4 (λ m. 0) _ (λ m _. none-pending w vs m);
      };
      below = lit< tt;
    }
