-- Numbers as text, opened by one turn. A value that has reached 2 ^ 32 never falls below it again, so that reading may stop there.
-- Assumes nothing.
use Rattle.std.specs.Prelude.{Option, None, Some}
use Rattle.std.specs.Char.{is_ascii_digit}
use Rattle.std.proofs.lemmas.Option.{some_pair_parts}
use mathlib.Core.Bool.{Bool, true, false}
use mathlib.Core.List.{List, [], ◌∷◌}
use mathlib.Core.Path.{◌≡◌, refl, sym, ap, ◌∙◌}
use Prim.Native.Nat.{ℕ, suc, ◌+◌, ◌-◌, ◌*◌, ◌≤◌, ◌<◌, ◌^◌}
use native.Mathlib.Numerals.{add-one}
use native.Mathlib.Omega.{arith}
use borrow.Author.Tests.{lt-ltb, le-ltb}
use lib.ListN.{length, get_or, take, drop, length-drop, drop_of_length-le}
use lib.Seq.{take_all, drop-cons, drop-length}
use Rattle.format.specs.Basics.{choose}
use Rattle.listing.specs.Input.{number_from, number, up_to, behind, both, row}
use Rattle.listing.proofs.Lines.{up_to-take, behind-drop, up_to-long}

-- ---- one turn

number_from-none : (value : ℕ) → value < 2 ^ 32 → number_from value [] ≡ Some value
unfolding number_from choose
number_from-none value h = rw (lt-ltb value (2 ^ 32) h)

number_from_over : (value : ℕ) → 2 ^ 32 ≤ value → number_from value [] ≡ None
unfolding number_from choose
number_from_over value h = rw (le-ltb value (2 ^ 32) h)

number_from_digit : (value b : ℕ) (bs : List ℕ) → is_ascii_digit b ≡ true → number_from value (b ∷ bs) ≡ number_from (10 * value + (b - 48)) bs
unfolding number_from choose
number_from_digit value b bs e = rw e

number_from_other : (value b : ℕ) (bs : List ℕ) → is_ascii_digit b ≡ false → number_from value (b ∷ bs) ≡ None
unfolding number_from choose
number_from_other value b bs e = rw e

-- ---- a value that is too large

pub too_large : (value : ℕ) (bs : List ℕ) → 2 ^ 32 ≤ value → number_from value bs ≡ None
too_large value [] h = number_from_over value h
too_large value (b ∷ bs) h = go (is_ascii_digit b) refl (too_large (10 * value + (b - 48)) bs (omega arith))
  where
    go : (t : Bool) → is_ascii_digit b ≡ t → number_from (10 * value + (b - 48)) bs ≡ None → number_from value (b ∷ bs) ≡ None
    go true e later = number_from_digit value b bs e ∙ later
    go false e later = number_from_other value b bs e

-- ---- from a place on

module _ (text : List ℕ) (i value : ℕ) where
  pub ends : i ≡ length text → value < 2 ^ 32 → number_from value (drop i text) ≡ Some value
  ends e h = rw (e, drop-length text) (number_from-none value h)

  module _ (more : i < length text) where
    pub stops : is_ascii_digit (get_or text i 0) ≡ false → number_from value (drop i text) ≡ None
    stops e = rw (drop-cons text i 0) (number_from_other value _ _ e)

    module _ (digit : is_ascii_digit (get_or text i 0) ≡ true) where
      pub goes_on : number_from value (drop i text) ≡ number_from (10 * value + (get_or text i 0 - 48)) (drop (i + 1) text)
      goes_on = rw (drop-cons text i 0, add-one) (number_from_digit value _ _ digit)

      pub overflows : 2 ^ 32 ≤ 10 * value + (get_or text i 0 - 48) → number_from value (drop i text) ≡ None
      overflows h = goes_on ∙ too_large _ _ h

-- ---- a whole number

pub number-none : (text : List ℕ) → length text ≡ 0 → number text ≡ None
unfolding number
number-none [] e = refl
number-none (b ∷ bs) e = absurd (omega arith)

pub number-some : (text : List ℕ) → (length text ≡ 0 → ⊥) → number text ≡ number_from 0 text
unfolding number
number-some [] n = absurd (n refl)
number-some (b ∷ bs) n = refl

number-long : (text : List ℕ) (n : ℕ) → number text ≡ Some n → 1 ≤ length text
unfolding number
number-long [] n e = grind arith
number-long (b ∷ bs) n e = omega arith

-- ---- a row

pub both-none : (n : Option ℕ) → both n None ≡ None
unfolding both
both-none (Some a) = refl
both-none None = refl

both_of : (m n : Option ℕ) (a b : ℕ) → both m n ≡ Some (a, b) → (m ≡ Some a) × (n ≡ Some b)
unfolding both
both_of (Some a) (Some b) c d e = let p = some_pair_parts a c b d e in (ap Some p.0, ap Some p.1)
both_of (Some a) None c d e = grind arith
both_of None n c d e = grind arith

-- a row has a digit, a space and a digit at least
pub row-long : (line : List ℕ) (a b : ℕ) → row line ≡ Some (a, b) → 3 ≤ length line
unfolding row
row-long line a b e =
    let p = both_of (number (up_to 32 line)) (number (behind 32 line)) a b e in
    let u = number-long (up_to 32 line) a p.0 in
    let v = number-long (behind 32 line) b p.1 in
    omega (arith, up_to-long 32 line v)

-- ---- a line in two parts at its first space

pub no_space : (line : List ℕ) → length (up_to 32 line) ≡ length line → row line ≡ None
unfolding row number
no_space line all =
    let none : behind 32 line ≡ [] = sym (behind-drop 32 line) ∙ drop_of_length-le line {i = suc (length (up_to 32 line))} (omega (arith, all)) in
    rw none (both-none (number (up_to 32 line)))

module _ (line : List ℕ) (space : ℕ) (size : space ≡ length (up_to 32 line)) where
  abbrev rest : List ℕ
  rest = take (length line - (space + 1)) (drop (space + 1) line)

  rest-is : rest ≡ behind 32 line
  rest-is =
      let same : drop (space + 1) line ≡ behind 32 line = rw (size, add-one) (behind-drop 32 line) in
      take_all (length line - (space + 1)) (drop (space + 1) line) (rw length-drop (omega arith)) ∙ same

  row-parts : row line ≡ both (number (take space line)) (number rest)
  unfolding row
  row-parts = let front : take space line ≡ up_to 32 line = rw size (up_to-take 32 line) in rw (front, rest-is)

  pub first_broken : number (take space line) ≡ None → row line ≡ None
  unfolding both
  first_broken e = row-parts ∙ rw e

  pub second_broken : number rest ≡ None → row line ≡ None
  second_broken e = row-parts ∙ rw e (both-none (number (take space line)))

  pub both-there : (a b : ℕ) → number (take space line) ≡ Some a → number rest ≡ Some b → row line ≡ Some (a, b)
  unfolding both
  both-there a b e f = row-parts ∙ rw (e, f)
