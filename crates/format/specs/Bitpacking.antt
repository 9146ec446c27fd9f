-- 128 values at a width of w bits, in 16 * w bytes. Value i goes to lane i mod 4, at bits (i div 4) * w onward of that lane,
-- lowest bit first; 32-bit word j of lane m is little-endian at byte 16 * j + 4 * m. So a lane is one number of 32 * w bits,
-- whose digits to the base 2 ^ w are its values.
-- Assumes nothing.
use Rattle.std.specs.Prelude.{List, [], ◌∷◌, ℕ, zero, suc, ◌+◌, ◌*◌, ◌/◌, ◌%◌, ◌^◌, max, get_or, eqb}
use Rattle.format.specs.Basics.{choose, tabulate, word}

-- the lane whose first value is value i, from n values; of a value its lowest w bits
unfoldable pub lane_of : ℕ → ℕ → List ℕ → ℕ → ℕ
lane_of zero w vs i = 0
lane_of (suc n) w vs i = get_or vs i 0 % 2 ^ w + 2 ^ w * lane_of n w vs (i + 4)

-- byte p of the packed block
unfoldable pub packed_at : ℕ → List ℕ → ℕ → ℕ
unfolding lane_of
packed_at w vs p = lane_of 32 w vs (p % 16 / 4) / 2 ^ (32 * (p / 16) + 8 * (p % 4)) % 256

unfoldable pub pack : ℕ → List ℕ → List ℕ
unfolding tabulate packed_at
pack w vs = tabulate (16 * w) (packed_at w vs)

-- the lane whose first word is at byte p, from n words
unfoldable pub lane_at : ℕ → List ℕ → ℕ → ℕ
unfolding word
lane_at zero bs p = 0
lane_at (suc n) bs p = word bs p + 2 ^ 32 * lane_at n bs (p + 16)

-- value i of the packed block
unfoldable pub unpacked_at : ℕ → List ℕ → ℕ → ℕ
unfolding lane_at
unpacked_at w bs i = lane_at w bs (4 * (i % 4)) / 2 ^ (i / 4 * w) % 2 ^ w

unfoldable pub unpack : ℕ → List ℕ → List ℕ
unfolding tabulate unpacked_at
unpack w bs = tabulate 128 (unpacked_at w bs)

-- how many bits n has, at most f
unfoldable pub bits_f : ℕ → ℕ → ℕ
unfolding choose
bits_f zero n = 0
bits_f (suc f) n = choose (eqb n 0) (λ _. 0) (λ _. 1 + bits_f f (n / 2))

unfoldable pub largest : List ℕ → ℕ
largest [] = 0
largest (v ∷ vs) = max v (largest vs)

-- the width of values: the bits of the largest, 0 if all are 0
unfoldable pub width : List ℕ → ℕ
unfolding bits_f largest
width vs = bits_f 32 (largest vs)
