-- Short numbers (vints): seven bits a byte, lowest first, the top bit set on the last byte alone.
-- Assumes nothing.
use Rattle.std.specs.Prelude.{Bool, true, false, List, [], ◌∷◌, ◌++◌, ℕ, zero, suc, ◌+◌, ◌-◌, ◌*◌, ◌/◌, ◌%◌, ◌^◌, drop, ltb, Option, None, Some}
use Rattle.format.specs.Basics.{choose}

-- at most f + 1 bytes
unfoldable pub vint_f : ℕ → ℕ → List ℕ
unfolding choose
vint_f zero n = (n + 128) ∷ []
vint_f (suc f) n = choose (ltb n 128) (λ _. (n + 128) ∷ []) (λ _. (n % 128) ∷ vint_f f (n / 128))

-- the bytes of n, which is below 2 ^ 64
unfoldable pub vint : ℕ → List ℕ
unfolding vint_f
vint n = vint_f 9 n

unfoldable pub vints : List ℕ → List ℕ
unfolding vint
vints [] = []
vints (n ∷ ns) = vint n ++ vints ns

-- a lower group in front
unfoldable pub onward : ℕ → Option (ℕ × ℕ) → Option (ℕ × ℕ)
onward g None = None
onward g (Some (value, used)) = Some (g + 128 * value, 1 + used)

-- the number at the beginning of bs, of at most `most` bytes; zero groups at the upper end are accepted
unfoldable pub read_f : ℕ → List ℕ → Option (ℕ × ℕ)
unfolding choose onward
read_f zero bs = None
read_f (suc most) [] = None
read_f (suc most) (b ∷ bs) = choose (ltb b 128) (λ _. onward b (read_f most bs)) (λ _. Some (b - 128, 1))

unfoldable pub below : ℕ → Option (ℕ × ℕ) → Option (ℕ × ℕ)
unfolding choose
below limit None = None
below limit (Some (value, used)) = choose (ltb value limit) (λ _. Some (value, used)) (λ _. None)

-- .. and below `limit`
unfoldable pub read_vint_of : ℕ → ℕ → List ℕ → Option (ℕ × ℕ)
unfolding below read_f
read_vint_of most limit bs = below limit (read_f most bs)

-- a tail's number: at most 5 bytes and below 2 ^ 32
unfoldable pub tail_number : List ℕ → Option (ℕ × ℕ)
unfolding read_vint_of
tail_number bs = read_vint_of 5 (2 ^ 32) bs

-- a skip length: at most 10 bytes and below 2 ^ 64
unfoldable pub skip_length : List ℕ → Option (ℕ × ℕ)
unfolding read_vint_of
skip_length bs = read_vint_of 10 (2 ^ 64) bs

-- as many of a tail's numbers as could be read, the bytes that they took, and whether that is all of them
pub record Numbers : Type 0 where
  pub values : List ℕ
  pub used : ℕ
  pub complete : Bool

-- a number in front of those read of the bytes behind it
unfoldable pub in_front : Option (ℕ × ℕ) → (ℕ → Numbers) → Numbers
in_front None rest = record { values = []; used = 0; complete = false }
in_front (Some (value, used)) rest =
    let ns : Numbers = rest used in
    record { values = value ∷ ns.values; used = used + ns.used; complete = ns.complete }

-- n of a tail's numbers, from the beginning of bs
unfoldable pub tail_numbers : ℕ → List ℕ → Numbers
unfolding in_front tail_number
tail_numbers zero bs = record { values = []; used = 0; complete = true }
tail_numbers (suc n) bs = in_front (tail_number bs) (λ used. tail_numbers n (drop used bs))
