-- Short numbers as code goes through them, byte after byte from the lowest group on. Writing: a number is its lowest group and
-- then the number of the groups above, however many bytes `vint_f` allows. Reading: what is read of the whole is what was read so
-- far put before what is read of the rest, and a value that has passed the limit stays above it.
-- Assumes nothing.
use Rattle.std.specs.Prelude.{Option, None, Some}
use mathlib.Core.Path.{◌≡◌, refl, sym, ap, ◌∙◌}
use mathlib.Core.List.{List, [], ◌∷◌, ◌++◌}
use Prim.Native.Nat.{ℕ, zero, suc, ◌+◌, ◌-◌, ◌*◌, ◌/◌, ◌%◌, ◌^◌, ◌≤◌, ◌<◌}
use native.Mathlib.Nat.{pow-suc, div-lt_iff_lt-mul, add_assoc, add-zero, zero-add, zero-mul, mul-add, add-mul, mul_assoc, mul_comm, mul-one, mod-eq_of_lt, sub-zero, sub_self, zero-lt-suc}
use native.Mathlib.Decide.{dec_lt}
use native.Mathlib.Omega.{arith}
use lib.Pow.{pow-add}
use lib.Dec.{ltb}
use lib.ListN.{length, drop, length-append}
use borrow.Author.Tests.{lt-ltb, le-ltb}
use Rattle.format.proofs.Vints.{vint-length-pos, vint-length-le, Read, read-used, numbers-used}
use Rattle.format.specs.Basics.{choose}
use Rattle.format.specs.Vint.{vint_f, vint, vints, onward, read_f, below, read_vint_of, in_front, tail_number, tail_numbers}

-- a number's upper groups are one group less
div_below : (f n : ℕ) → n < 128 ^ suc f → n / 128 < 128 ^ f
div_below f n h = (div-lt_iff_lt-mul {k = 128} (omega arith)).1 (rw pow-suc at h)

vint_f-last : (f n : ℕ) → n < 128 → vint_f f n ≡ (n + 128) ∷ []
unfolding vint_f choose
vint_f-last zero n h = refl
vint_f-last (suc f) n h = rw (lt-ltb _ _ h)

vint_f-more : (f n : ℕ) → 128 ≤ n → vint_f (suc f) n ≡ (n % 128) ∷ vint_f f (n / 128)
unfolding vint_f choose
vint_f-more f n h = rw (le-ltb _ _ h)

-- more bytes allowed than needed change nothing
vint_f-suc : (f n : ℕ) → n < 128 ^ suc f → vint_f (suc f) n ≡ vint_f f n
vint_f-suc zero n h = vint_f-last 1 n h ∙ sym (vint_f-last 0 n h)
vint_f-suc (suc f) n h =
    elim (dec_lt n 128) [
      | yes l ↦ vint_f-last (suc (suc f)) n l ∙ sym (vint_f-last (suc f) n l)
      | no g ↦ rw (vint_f-more (suc f) n (omega arith), vint_f-more f n (omega arith), vint_f-suc f (n / 128) (div_below (suc f) n h))
    ]

-- the last byte
pub vint-last : (n : ℕ) → n < 128 → vint n ≡ (n + 128) ∷ []
unfolding vint
vint-last n h = vint_f-last 9 n h

-- a byte before the last
pub vint-more : (n : ℕ) → 128 ≤ n → n < 2 ^ 64 → vint n ≡ (n % 128) ∷ vint (n / 128)
unfolding vint
vint-more n g h =
    rw (vint_f-more 8 n g) (ap (λ (l : List ℕ). n % 128 ∷ l) (sym (vint_f-suc 8 (n / 128) (div_below 9 n (omega arith)))))

-- a number of at most k + 1 groups takes at least one byte, and at most k + 1
pub length-vint : (k n : ℕ) → n < 128 ^ suc k → (1 ≤ length (vint n)) × (length (vint n) ≤ suc k)
length-vint k n h = (vint-length-pos n, vint-length-le (suc k) n (zero-lt-suc k) h)

-- numbers one behind the other
pub vints-nil : vints [] ≡ []
unfolding vints
vints-nil = refl

pub vints-cons : (n : ℕ) (ns : List ℕ) → vints (n ∷ ns) ≡ vint n ++ vints ns
unfolding vints
vints-cons n ns = refl

pub length-vints : (n : ℕ) (ns : List ℕ) → length (vints (n ∷ ns)) ≡ length (vint n) + length (vints ns)
length-vints n ns = rw vints-cons (length-append (vint n) (vints ns))

-- lower groups in front, `used` of them, of this value together
onward_by : ℕ → ℕ → Option (ℕ × ℕ) → Option (ℕ × ℕ)
onward_by used value None = None
onward_by used value (Some (v, u)) = Some (value + v * 2 ^ (7 * used), used + u)

onward_by-zero : (r : Option (ℕ × ℕ)) → onward_by 0 0 r ≡ r
unfolding onward_by
onward_by-zero None = refl
onward_by-zero (Some (v, u)) = simp (zero-add, mul-one)

-- a group's weight is 128 times that of the group below
weight : (used : ℕ) → 2 ^ (7 * (used + 1)) ≡ 128 * 2 ^ (7 * used)
weight used = rw (mul-add, pow-add) (mul_comm _ _)

onward_by-onward : (used value g : ℕ) (r : Option (ℕ × ℕ)) → onward_by used value (onward g r) ≡ onward_by (used + 1) (value + g * 2 ^ (7 * used)) r
unfolding onward_by onward
onward_by-onward used value g None = refl
onward_by-onward used value g (Some (v, u)) = rw (weight, add-mul, mul_comm 128 v, mul_assoc, add_assoc value, add_assoc used)

-- a value that has reached the limit stays so
below-reached : (limit used value : ℕ) (r : Option (ℕ × ℕ)) → limit ≤ value → below limit (onward_by used value r) ≡ None
unfolding onward_by below choose
below-reached limit used value None h = refl
below-reached limit used value (Some (v, u)) h = rw (le-ltb (value + v * 2 ^ (7 * used)) limit (omega arith))

read_f-nil : (most : ℕ) → read_f most [] ≡ None
unfolding read_f
read_f-nil zero = refl
read_f-nil (suc most) = refl

-- what is read behind a number's last byte: no group
ended : Option (ℕ × ℕ)
ended = Some (0, 0)

-- a byte is its group before what follows
read_f_byte : (most b : ℕ) (bs : List ℕ) → b < 256
    → read_f (suc most) (b ∷ bs) ≡ onward (b % 128) (choose (ltb b 128) (λ _. read_f most bs) (λ _. ended))
unfolding read_f choose onward ended
read_f_byte most b bs h =
    elim (dec_lt b 128) [
      | yes l ↦ rw (lt-ltb _ _ l, mod-eq_of_lt l)
      | no g ↦ rw (le-ltb b 128 (omega arith)) (ap (λ (n : ℕ). Some (n, 1)) (omega arith))
    ]

-- what a reader answers that has read `used` groups, of this value together, and goes on with bs
pub resumed : ℕ → ℕ → ℕ → ℕ → List ℕ → Option (ℕ × ℕ)
resumed most limit used value bs = below limit (onward_by used value (read_f (most - used) bs))

-- the value with the group of byte b added
abbrev pub grown : ℕ → ℕ → ℕ → ℕ
grown used value b = value + b % 128 * 2 ^ (7 * used)

module _ (most limit : ℕ) where
  -- the beginning
  pub resumed_zero : (bs : List ℕ) → read_vint_of most limit bs ≡ resumed most limit 0 0 bs
  unfolding read_vint_of resumed
  resumed_zero bs = rw (onward_by-zero, sub-zero)

  -- no byte left, or none allowed
  pub resumed_nil : (used value : ℕ) → resumed most limit used value [] ≡ None
  unfolding resumed onward_by below
  resumed_nil used value = rw read_f-nil

  pub resumed_most : (value : ℕ) (bs : List ℕ) → resumed most limit most value bs ≡ None
  unfolding resumed onward_by below read_f
  resumed_most value bs = rw sub_self

  module _ (used value b : ℕ) (bs : List ℕ) (allowed : used < most) (byte : b < 256) where
    -- one byte more
    resumed_byte : resumed most limit used value (b ∷ bs)
        ≡ below limit (onward_by (used + 1) (grown used value b) (choose (ltb b 128) (λ _. read_f (most - (used + 1)) bs) (λ _. ended)))
    unfolding resumed
    resumed_byte =
        let one : most - used ≡ suc (most - (used + 1)) = omega arith in
        rw (one, read_f_byte (most - (used + 1)) b bs byte, onward_by-onward)

    -- .. with which the limit is reached
    pub resumed_reached : limit ≤ grown used value b → resumed most limit used value (b ∷ bs) ≡ None
    resumed_reached h = rw resumed_byte (below-reached _ _ _ _ h)

    -- .. that is not the last
    pub resumed_more : b < 128 → resumed most limit used value (b ∷ bs) ≡ resumed most limit (used + 1) (grown used value b) bs
    unfolding resumed choose
    resumed_more h = rw (resumed_byte, lt-ltb _ _ h)

    -- .. that is
    pub resumed_last : 128 ≤ b → grown used value b < limit → resumed most limit used value (b ∷ bs) ≡ Some (grown used value b, used + 1)
    unfolding choose onward_by below ended
    resumed_last h l = rw (resumed_byte, le-ltb _ _ h) (simp (zero-mul, add-zero, lt-ltb _ _ l))

-- a number that was read takes at least one byte, no more than there are, and lies below the limit
abbrev pub Within : ℕ → List ℕ → Option (ℕ × ℕ) → Type 0
Within limit bs None = Unit {0}
Within limit bs (Some (value, used)) = (value < limit) × (1 ≤ used) × (used ≤ length bs)

within_of :
    (most limit : ℕ) (bs : List ℕ) (r : Option (ℕ × ℕ)) → ((value used : ℕ) → r ≡ Some (value, used) → Read most limit bs value used) → Within limit bs r
within_of most limit bs None h = tt
within_of most limit bs (Some (value, used)) h =
    let r = h value used refl in
    (r.value_below, r.used_pos, r.used_length)

pub read_vint_of-within : (most limit : ℕ) (bs : List ℕ) → Within limit bs (read_vint_of most limit bs)
read_vint_of-within most limit bs = within_of most limit bs (read_vint_of most limit bs) (λ value used e. read-used most limit bs e)

pub tail_number-within : (bs : List ℕ) → Within (2 ^ 32) bs (tail_number bs)
unfolding tail_number
tail_number-within bs = read_vint_of-within 5 (2 ^ 32) bs

-- a tail's numbers: the first, and those of the bytes behind it
pub tail_numbers-suc : (n : ℕ) (bs : List ℕ) → tail_numbers (suc n) bs ≡ in_front (tail_number bs) (λ used. tail_numbers n (drop used bs))
unfolding tail_numbers
tail_numbers-suc n bs = refl

-- there are never more than asked for
pub length-tail_numbers : (n : ℕ) (bs : List ℕ) → length (tail_numbers n bs).values ≤ n
length-tail_numbers n bs = (numbers-used n bs).values_length
