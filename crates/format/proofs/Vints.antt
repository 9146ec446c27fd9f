-- Short numbers read back. A number's bytes are one, with the top bit set, or its lowest group before the bytes of what is left,
-- which is 128 times smaller; their length and what is read of them follow by one induction each. A list of numbers goes by its
-- first, behind whose bytes the others begin. Whatever is read, of any bytes, took some of those that were there and lies below
-- its limit.
-- Assumes nothing.
use Rattle.std.specs.Prelude.{Option, None, Some}
use mathlib.Core.Bool.{true, false≢true}
use mathlib.Core.List.{List, [], ◌∷◌, ◌++◌, append_assoc}
use mathlib.Core.Path.{◌≡◌, refl, ap}
use Prim.Native.Nat.{ℕ, zero, suc, ◌+◌, ◌*◌, ◌/◌, ◌%◌, ◌^◌, ◌<◌, ◌≤◌, suc-le-suc, zero-le}
use native.Mathlib.Nat.{not-suc-le-zero, zero-lt-suc, le_refl, le_trans, le_of_suc-le-suc}
use native.Mathlib.Nat.{add-sub_cancel, mod-lt, mod-add-div, pow-suc, div-lt_iff_lt-mul}
use native.Mathlib.Numerals.{one-add}
use native.Mathlib.Omega.{arith}
use borrow.Author.Tests.{lt-ltb, le-ltb, ltb-true, ltb-false}
use lib.Dec.{ltb}
use lib.ListN.{length, drop, length-append, length-drop}
use lib.Seq.{drop-append_seam}
use Rattle.format.specs.Basics.{choose, AllBelow}
use Rattle.format.specs.Vint.{vint_f, vint, vints, onward, read_f, below, read_vint_of, tail_number, skip_length}
use Rattle.format.specs.Vint.{Numbers, in_front, tail_numbers}
use Rattle.format.proofs.Choice.{choose_elim}

-- ---- a number's bytes

-- one with the top bit set, or the lowest group before the bytes of the rest
data Spelled : ℕ → List ℕ → Type 0 where
  last : {n : ℕ} → Spelled n ((n + 128) ∷ [])
  more : {n : ℕ} {bs : List ℕ} → 128 ≤ n → Spelled (n / 128) bs → Spelled n ((n % 128) ∷ bs)

spelled : (f n : ℕ) → Spelled n (vint_f f n)
unfolding vint_f
spelled zero n = last
spelled (suc f) n =
    choose_elim (Spelled n) (ltb n 128) _ _ (λ _. last) (λ t. more (ltb-false n 128 t) (spelled f (n / 128)))

spelled_pos : {n : ℕ} {bs : List ℕ} → Spelled n bs → 1 ≤ length bs
spelled_pos last = le_refl 1
spelled_pos (more g s) = zero-lt-suc _

spelled_le : {n : ℕ} {bs : List ℕ} (k : ℕ) → Spelled n bs → 1 ≤ k → n < 128 ^ k → length bs ≤ k
spelled_le k last p h = p
spelled_le zero (more g s) p h = absurd (not-suc-le-zero p)
spelled_le (suc zero) (more g s) p h = absurd (omega arith)
spelled_le (suc (suc k)) (more g s) p h =
    let less = (div-lt_iff_lt-mul (zero-lt-suc 127)).1 (rw (pow-suc 128 (suc k)) at h) in
    suc-le-suc (spelled_le (suc k) s (zero-lt-suc k) less)

spelled_reads : {n : ℕ} {bs : List ℕ} (most : ℕ) (rest : List ℕ) → Spelled n bs → length bs ≤ most
    → read_f most (bs ++ rest) ≡ Some (n, length bs)
unfolding read_f choose onward
spelled_reads zero rest s h = absurd (not-suc-le-zero (le_trans (spelled_pos s) h))
spelled_reads (suc most) rest (last {n}) h = rw (le-ltb (n + 128) 128 (omega arith), add-sub_cancel)
spelled_reads (suc most) rest (more {n} g s) h =
    rw (lt-ltb (n % 128) 128 (mod-lt n (zero-lt-suc 127)), spelled_reads {n = n / 128} most rest s (le_of_suc-le-suc h), mod-add-div, one-add)

pub vint-length-pos : (n : ℕ) → 1 ≤ length (vint n)
unfolding vint
vint-length-pos n = spelled_pos (spelled 9 n)

pub vint-length-le : (k n : ℕ) → 1 ≤ k → n < 128 ^ k → length (vint n) ≤ k
unfolding vint
vint-length-le k n = spelled_le k (spelled 9 n)

pub vint-reads-back : (most limit n : ℕ) (rest : List ℕ) → length (vint n) ≤ most → n < limit
    → read_vint_of most limit (vint n ++ rest) ≡ Some (n, length (vint n))
unfolding vint read_vint_of below choose
vint-reads-back most limit n rest m l = rw (spelled_reads most rest (spelled 9 n) m, lt-ltb n limit l)

pub tail-number-reads-back : (n : ℕ) (rest : List ℕ) → n < 2 ^ 32 → tail_number (vint n ++ rest) ≡ Some (n, length (vint n))
unfolding tail_number
tail-number-reads-back n rest h = vint-reads-back 5 (2 ^ 32) n rest (vint-length-le 5 n (omega arith) (omega arith)) h

pub skip-length-reads-back : (n : ℕ) (rest : List ℕ) → n < 2 ^ 64 → skip_length (vint n ++ rest) ≡ Some (n, length (vint n))
unfolding skip_length
skip-length-reads-back n rest h = vint-reads-back 10 (2 ^ 64) n rest (vint-length-le 10 n (omega arith) (omega arith)) h

-- ---- a list's bytes

pub vints-append : (a b : List ℕ) → vints (a ++ b) ≡ vints a ++ vints b
unfolding vints
vints-append [] b = refl
vints-append (n ∷ a) b = rw (vints-append a b, append_assoc)

pub vints-length-le : (ns : List ℕ) → AllBelow (2 ^ 32) ns → length (vints ns) ≤ 5 * length ns
unfolding vints
vints-length-le [] a = omega arith
vints-length-le (n ∷ ns) a =
    simp length-append (omega (arith, vint-length-le 5 n (omega arith) (omega arith), vints-length-le ns a.1))

pub numbers-read-back : (ns rest : List ℕ) → AllBelow (2 ^ 32) ns
    → tail_numbers (length ns) (vints ns ++ rest) ≡ record { values = ns; used = length (vints ns); complete = true }
unfolding tail_numbers in_front vints
numbers-read-back [] rest a = refl
numbers-read-back (n ∷ ns) rest a =
    let first = tail-number-reads-back n (vints ns ++ rest) a.0 in
    rw (append_assoc (vint n) (vints ns) rest, first, drop-append_seam, numbers-read-back ns rest a.1, length-append)

-- ---- whatever is read

-- of a number and the bytes it took, if there is one
abbrev OfNumber : (ℕ → ℕ → Type 0) → Option (ℕ × ℕ) → Type 0
OfNumber P None = Unit {0}
OfNumber P (Some (value, used)) = P value used

-- at most `most` bytes, of those that are there
abbrev Within : ℕ → List ℕ → ℕ → ℕ → Type 0
Within most bs value used = (1 ≤ used) × (used ≤ most) × (used ≤ length bs)

onward-within : (most b : ℕ) (bs : List ℕ) (r : Option (ℕ × ℕ)) → OfNumber (Within most bs) r
    → OfNumber (Within (suc most) (b ∷ bs)) (onward b r)
unfolding onward
onward-within most b bs None h = tt
onward-within most b bs (Some (value, used)) h = omega arith

read_f-within : (most : ℕ) (bs : List ℕ) → OfNumber (Within most bs) (read_f most bs)
unfolding read_f
read_f-within zero bs = tt
read_f-within (suc most) [] = tt
read_f-within (suc most) (b ∷ bs) =
    choose_elim (OfNumber (Within (suc most) (b ∷ bs))) (ltb b 128) _ _
    (λ _. onward-within most b bs (read_f most bs) (read_f-within most bs))
    (λ _. omega arith)

-- a number that was read
pub record Read (most limit : ℕ) (bs : List ℕ) (value used : ℕ) : Type 0 where
  pub used_pos : 1 ≤ used
  pub used_most : used ≤ most
  pub used_length : used ≤ length bs
  pub value_below : value < limit

below-read : (most limit : ℕ) (bs : List ℕ) (r : Option (ℕ × ℕ)) → OfNumber (Within most bs) r
    → OfNumber (Read most limit bs) (below limit r)
unfolding below
below-read most limit bs None h = tt
below-read most limit bs (Some (value, used)) h =
    choose_elim (OfNumber (Read most limit bs)) (ltb value limit) _ _
    (λ t. record { used_pos = h.0; used_most = h.1; used_length = h.2; value_below = ltb-true value limit t })
    (λ _. tt)

read-within : (most limit : ℕ) (bs : List ℕ) → OfNumber (Read most limit bs) (read_vint_of most limit bs)
unfolding read_vint_of
read-within most limit bs = below-read most limit bs (read_f most bs) (read_f-within most bs)

pub read-used : (most limit : ℕ) (bs : List ℕ) {value used : ℕ} → read_vint_of most limit bs ≡ Some (value, used)
    → Read most limit bs value used
read-used most limit bs e = rw e at (read-within most limit bs)

-- numbers that were read, of n wanted
pub record NumbersRead (n : ℕ) (bs : List ℕ) (ns : Numbers) : Type 0 where
  pub used_length : ns.used ≤ length bs
  pub values_length : length ns.values ≤ n
  pub values_below : AllBelow (2 ^ 32) ns.values
  pub complete_length : ns.complete ≡ true → length ns.values ≡ n

in_front-read : (n : ℕ) (bs : List ℕ) (r : Option (ℕ × ℕ)) (rest : ℕ → Numbers)
    → OfNumber (Read 5 (2 ^ 32) bs) r → ((used : ℕ) → NumbersRead n (drop used bs) (rest used))
    → NumbersRead (suc n) bs (in_front r rest)
unfolding in_front
in_front-read n bs None rest h k =
    record { used_length = zero-le; values_length = zero-le; values_below = tt; complete_length = λ e. absurd (false≢true e) }
in_front-read n bs (Some (value, used)) rest h k =
    let later = k used in
    record {
      used_length = omega (arith, later.used_length, length-drop used bs);
      values_length = suc-le-suc later.values_length;
      values_below = (h.value_below, later.values_below);
      complete_length = λ e. ap suc (later.complete_length e);
    }

pub numbers-used : (n : ℕ) (bs : List ℕ) → NumbersRead n bs (tail_numbers n bs)
unfolding tail_numbers tail_number
numbers-used zero bs =
    record { used_length = zero-le; values_length = zero-le; values_below = tt; complete_length = λ _. refl }
numbers-used (suc n) bs =
    in_front-read n bs (read_vint_of 5 (2 ^ 32) bs) _ (read-within 5 (2 ^ 32) bs) (λ used. numbers-used n (drop used bs))
