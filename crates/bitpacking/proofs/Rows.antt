-- A row of a packed block: the four lanes' values, and what is left behind them.
--     none_left     nothing is left before the first row
--     row_within    where enough bits are left, the values are their lowest
--     left-within   .. and the others are left behind the row
--     next_inside   else the lanes' next words lie within the block,
--     row_across    the values begin with what is left and go on in these words,
--     left_across   and what they leave of the words is left behind the row
-- Assumes nothing.
use mathlib.Core.Path.{◌≡◌, refl, sym, ap, ◌∙◌}
use mathlib.Core.List.{List, map}
use Prim.Native.Nat.{ℕ, ◌+◌, ◌-◌, ◌*◌, ◌/◌, ◌%◌, ◌^◌, ◌≤◌, ◌<◌}
use native.Mathlib.Nat.{zero-mul, mul-le-mul_right}
use native.Mathlib.Omega.{arith}
use lib.Arith.{lt-one}
use lib.Dec.{lit<}
use lib.ListN.{replicate}
use lib.Pow.{shr-shr}
use Rattle.format.specs.Basics.{tabulate, word, AllBelow}
use Rattle.format.specs.Bitpacking.{lane_at}
use Rattle.format.proofs.Lanes.{lane_at_digit}
use Rattle.format.proofs.Tabulate.{tabulate-same}
use Rattle.bitpacking.specs.declared.Left.{Left}
use Rattle.bitpacking.specs.Packed.{with_more_of, more_at, words_from, bits_taken_of, rest, LeftAt, RowThere}
use Rattle.bitpacking.proofs.Filled.{four_are}
use Rattle.bitpacking.proofs.Rest.{row_more, lane, rest_below, rest-value, rest-taken, word_value, word-taken}

pub none_left : (w : ℕ) (bs : List ℕ) → LeftAt w 0 bs (record { rests = replicate 4 0; bits = 0; at = 0 })
unfolding tabulate
none_left w bs =
    record {
      whole = refl;
      read = omega (arith, zero-mul w);
      below = lit< tt;
      rests = tabulate-same 4 (λ m. 0) (λ m. rest w 0 bs m 0) (λ m h. sym (lt-one (rest_below w 0 bs m 0)));
    }

module _ {w row : ℕ} {bs : List ℕ} {s : Left} (t : RowThere w row bs s) where
  module _ (enough : w ≤ s.bits) where
    pub row_within :
        (more : ℕ) → map (with_more_of more) (map (λ x. x % 2 ^ w) s.rests) ≡ tabulate 4 (λ m. more_at w more bs (4 * row + m))
    unfolding more_at
    row_within more =
        four_are (with_more_of more) _ _
        (four_are (λ x. x % 2 ^ w) _ _ t.left.rests (λ m h. rest-value w row bs m _ s.bits h refl enough))
        (λ m h. refl)

    pub left-within : LeftAt w (row + 1) bs (bits_taken_of w s)
    unfolding bits_taken_of
    left-within =
        record {
          whole = t.left.whole;
          read = omega (arith, row_more w row);
          below = omega arith;
          rests = four_are (λ x. x / 2 ^ w) _ _ t.left.rests (λ m h. rest-taken w row bs m s.bits enough);
        }

  module _ (short : s.bits < w) where
    -- the next words are none of those behind the block's last
    at-word : s.at / 16 < w
    at-word = omega (arith, mul-le-mul_right w t.row_below, row_more w row)

    pub next_inside : s.at + 16 ≤ 16 * w
    next_inside = omega (arith, at-word)

    module _ (bytes : AllBelow 256 bs) where
      next : (m : ℕ) → word bs (s.at + 4 * m) ≡ lane w row bs m / 2 ^ s.bits % 2 ^ 32
      next m =
          ap (word bs) at-place
          ∙ sym (lane_at_digit bs bytes w (4 * m) (s.at / 16) at-word)
          ∙ ap (λ (n : ℕ). lane_at w bs (4 * m) / 2 ^ n % 2 ^ 32) at_bit
          ∙ ap (λ (x : ℕ). x % 2 ^ 32) (sym (shr-shr (lane_at w bs (4 * m)) (row * w) s.bits))
        where
          at-place : s.at + 4 * m ≡ 4 * m + 16 * (s.at / 16)
          at-place = omega arith

          at_bit : s.at / 16 * 32 ≡ row * w + s.bits
          at_bit = omega arith

      pub row_across :
          (more : ℕ) {row-values : List ℕ} → row-values ≡ tabulate 4 (λ m. (rest w row bs m s.bits + word bs (s.at + 4 * m) * 2 ^ s.bits) % 2 ^ w)
          → map (with_more_of more) row-values ≡ tabulate 4 (λ m. more_at w more bs (4 * row + m))
      unfolding more_at
      row_across more e =
          four_are (with_more_of more) _ _ e
          (λ m h. ap (with_more_of more) (word_value w row bs m s.bits (word bs (s.at + 4 * m)) (next m) _ h refl t.block.w_most))

      pub left_across : (k : ℕ) → k + 1 + s.bits ≡ w → LeftAt w (row + 1) bs (bits_taken_of 1 (bits_taken_of k (words_from bs s.at)))
      unfolding bits_taken_of words_from
      left_across k e =
          record {
            whole = omega arith;
            read = omega (arith, row_more w row);
            below = omega arith;
            rests = four_are (λ x. x / 2 ^ 1) _ _ (four_are (λ x. x / 2 ^ k) (λ m. word bs (s.at + 4 * m)) (λ m. word bs (s.at + 4 * m) / 2 ^ k) refl (λ m h. refl)) taken;
          }
        where
          taken : (m : ℕ) → m < 4 → word bs (s.at + 4 * m) / 2 ^ k / 2 ^ 1 ≡ rest w (row + 1) bs m (32 - k - 1)
          taken m h =
              shr-shr (word bs (s.at + 4 * m)) k 1
              ∙ word-taken w row bs m s.bits _ (next m) (k + 1) e (omega arith)
              ∙ ap (rest w (row + 1) bs m) (omega arith)
