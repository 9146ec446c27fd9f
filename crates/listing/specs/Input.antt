-- Which texts are tables, and the columns that they give. A text is a list of bytes: 10 is a line feed, 32 a space, 48 to 57 are the digits.
-- Assumes nothing.
use Rattle.std.specs.Prelude.{◌≡◌, List, [], ◌∷◌, ℕ, ◌+◌, ◌-◌, ◌*◌, ◌≤◌, ◌^◌, eqb, ltb, take, Option, None, Some, IfSome, option_map, option_and_then}
use Rattle.std.specs.Char.{is_ascii_digit}
use Rattle.std.specs.Str.{bytes_eq}
use Rattle.format.specs.Basics.{choose}
use Rattle.listing.specs.declared.table.Order.{Order}
use Rattle.listing.specs.declared.table.Order.TheVariants.{DocFreq, FreqDoc}

-- ---- lines and their parts

-- the bytes up to the first b, all of them where there is none
unfoldable pub up_to : ℕ → List ℕ → List ℕ
unfolding choose
up_to b [] = []
up_to b (x ∷ xs) = choose (eqb x b) (λ _. []) (λ _. x ∷ up_to b xs)

-- .. and those behind it
unfoldable pub behind : ℕ → List ℕ → List ℕ
unfolding choose
behind b [] = []
behind b (x ∷ xs) = choose (eqb x b) (λ _. xs) (λ _. behind b xs)

-- a byte in front of the first line
unfoldable pub onto : ℕ → List (List ℕ) → List (List ℕ)
onto b [] = (b ∷ []) ∷ []
onto b (l ∷ ls) = (b ∷ l) ∷ ls

-- lines end in a line feed, the last one's is optional
unfoldable pub lines : List ℕ → List (List ℕ)
unfolding choose onto
lines [] = []
lines (b ∷ bs) = choose (eqb b 10) (λ _. [] ∷ lines bs) (λ _. onto b (lines bs))

-- ---- numbers

-- digits alone, the value below 2 ^ 32; `value` is that of the digits so far
unfoldable pub number_from : ℕ → List ℕ → Option ℕ
unfolding choose
number_from value [] = choose (ltb value (2 ^ 32)) (λ _. Some value) (λ _. None)
number_from value (b ∷ bs) = choose (is_ascii_digit b) (λ _. number_from (10 * value + (b - 48)) bs) (λ _. None)

-- .. and one digit at least
unfoldable pub number : List ℕ → Option ℕ
unfolding number_from
number [] = None
number (b ∷ bs) = number_from 0 (b ∷ bs)

-- ---- rows

unfoldable pub both : Option ℕ → Option ℕ → Option (ℕ × ℕ)
both (Some a) (Some b) = Some (a, b)
both (Some a) None = None
both None n = None

-- two numbers, one space between
unfoldable pub row : List ℕ → Option (ℕ × ℕ)
unfolding both number up_to behind
row line = both (number (up_to 32 line)) (number (behind 32 line))

-- the first numbers and the second ones
pub record Columns : Type 0 where
  pub firsts : List ℕ
  pub seconds : List ℕ

-- a line in front
unfoldable pub with_row : Option (ℕ × ℕ) → Option Columns → Option Columns
with_row (Some (a, b)) (Some c) = Some (record { firsts = a ∷ c.firsts; seconds = b ∷ c.seconds })
with_row (Some (a, b)) None = None
with_row None c = None

-- the columns of these lines, if each is one of two numbers
unfoldable pub rows : List (List ℕ) → Option Columns
unfolding with_row row
rows [] = Some (record { firsts = []; seconds = [] })
rows (l ∷ ls) = with_row (row l) (rows ls)

-- ---- tables

-- doc freq
abbrev pub doc_freq : List ℕ
doc_freq = 100 ∷ 111 ∷ 99 ∷ 32 ∷ 102 ∷ 114 ∷ 101 ∷ 113 ∷ []

-- freq doc
abbrev pub freq_doc : List ℕ
freq_doc = 102 ∷ 114 ∷ 101 ∷ 113 ∷ 32 ∷ 100 ∷ 111 ∷ 99 ∷ []

unfoldable pub names : List ℕ → Option Order
unfolding choose
names line =
    choose (bytes_eq line doc_freq) (λ _. Some DocFreq) λ _.
    choose (bytes_eq line freq_doc) (λ _. Some FreqDoc) λ _.
    None

-- the documents first
unfoldable pub in_order : Order → Columns → Columns
in_order DocFreq c = c
in_order FreqDoc c = record { firsts = c.seconds; seconds = c.firsts }

-- the line of names, then lines of two numbers: the documents and the frequencies
unfoldable pub table : List ℕ → Option Columns
unfolding in_order names rows lines up_to behind
table text = option_and_then (λ order. option_map (in_order order) (rows (lines (behind 10 text)))) (names (up_to 10 text))

-- ---- columns in two slices

abbrev pub taken : ℕ → List ℕ → List ℕ → Columns
taken n firsts seconds = record { firsts = take n firsts; seconds = take n seconds }

-- the columns c stand at the fronts of two slices, if there are any
pub record Reads (c : Option Columns) (firsts seconds : List ℕ) (r : Option ℕ) : Type 0 where
  pub columns_are : option_map (λ n. taken n firsts seconds) r ≡ c
  pub within : IfSome r (λ n. n ≤ 16384)
