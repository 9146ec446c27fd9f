-- What the program prints: a line for each answer of the model on the table's columns, opening first, then a step for each document.
-- Assumes nothing.
use Rattle.std.specs.Prelude.{◌≡◌, true, List, [], ◌∷◌, ◌++◌, ℕ, zero, suc, ◌+◌, ◌/◌, ◌%◌, ◌≤◌, leb, ltb, length, replicate, Option, None, Some, Ok, Err}
use Rattle.format.specs.Basics.{Outcome, choose, put_at}
use Rattle.format.specs.Accepted.{written}
use Rattle.format.specs.Model.{Answer, step, answers}
use Rattle.format.specs.Model as model
use Rattle.listing.specs.Input.{Columns, table}

-- ---- numbers

-- a number's decimal digits, at most f + 1 of them
unfoldable pub decimal_f : ℕ → ℕ → List ℕ
unfolding choose
decimal_f zero n = (48 + n) ∷ []
decimal_f (suc f) n = choose (ltb n 10) (λ _. (48 + n) ∷ []) (λ _. decimal_f f (n / 10) ++ ((48 + n % 10) ∷ []))

-- .. of a number below 10 ^ 20
unfoldable pub decimal : ℕ → List ℕ
unfolding decimal_f
decimal n = decimal_f 19 n

-- .. with the byte behind them
unfoldable pub field : ℕ → ℕ → List ℕ
unfolding decimal
field n b = decimal n ++ (b ∷ [])

-- ---- lines

-- document, frequency, blocks unpacked; steps have no hit
unfoldable pub line : Answer → List ℕ
unfolding field
line (model.at d f u hit) = field d 32 ++ (field f 32 ++ field u 10)
line (model.refused n) = []

unfoldable pub lines_of : List Answer → List ℕ
unfolding line
lines_of [] = []
lines_of (a ∷ rest) = line a ++ lines_of rest

-- opening, and steps to the end
unfoldable pub steps : List ℕ → List ℕ → List ℕ
unfolding lines_of answers
steps ds fs = lines_of (answers ds fs (replicate (length ds) step))

-- doc freq unpacked
abbrev pub header : List ℕ
header = 100 ∷ 111 ∷ 99 ∷ 32 ∷ 102 ∷ 114 ∷ 101 ∷ 113 ∷ 32 ∷ 117 ∷ 110 ∷ 112 ∷ 97 ∷ 99 ∷ 107 ∷ 101 ∷ 100 ∷ 10 ∷ []

-- refused
abbrev pub refusal : List ℕ
refusal = 114 ∷ 101 ∷ 102 ∷ 117 ∷ 115 ∷ 101 ∷ 100 ∷ 10 ∷ []

-- ---- the program

unfoldable pub unless_refused : Outcome (List ℕ) → List ℕ → List ℕ
unless_refused (Ok image) text = text
unless_refused (Err why) text = refusal

-- a list in mode 1, frequencies recorded
unfoldable pub listing : List ℕ → List ℕ → List ℕ
unfolding unless_refused written steps
listing ds fs = unless_refused (written 1 true ds fs) (header ++ steps ds fs)

unfoldable pub listing_in : Option Columns → List ℕ
unfolding listing
listing_in (Some c) = listing c.firsts c.seconds
listing_in None = refusal

-- of an input of 64 KiB at most
unfoldable pub listing_of : List ℕ → List ℕ
unfolding choose listing_in table
listing_of text = choose (leb (length text) 65536) (λ _. listing_in (table text)) (λ _. refusal)

-- ---- text in an area

-- bs stands in the area from place `at` on, every other byte as before; the answer is the place behind it
pub record Puts (bs : List ℕ) (at : ℕ) (area area' : List ℕ) (r : ℕ) : Type 0 where
  pub area_after : area' ≡ put_at at bs area
  pub behind : r ≡ at + length bs
  pub inside : at + length bs ≤ length area
