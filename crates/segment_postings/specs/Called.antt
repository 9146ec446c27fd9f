-- A list of calls on a cursor, each of which gets the cursor as the last one left it: what they answer, and the cursor after them. A
-- refused call leaves the cursor, so the next one gets the same again. A call on a lent cursor is the same call: it leaves in the
-- caller's record what the call by value hands back.
-- Assumes nothing.
use Rattle.std.specs.Prelude.{◌≡◌, ℕ, ◌-◌, Bool, List, [], ◌∷◌, ◌++◌, length, replicate, Ok, Err}
use mir.Val.{bool_byte}
use Rattle.format.specs.declared.Term.{Term}
use Rattle.format.specs.declared.refusal.Refusal.{Refusal}
use Rattle.format.specs.Refusal.{number_of}
use Rattle.format.specs.Basics.{Outcome}
use Rattle.format.specs.Model.{Answer as Shown, at, refused, Call, step, seek, State, after, entries_read}
use Rattle.format.specs.Model as model
use Rattle.segment_postings.specs.declared.Answer.{Answer}
use Rattle.segment_postings.specs.declared.Held.{Held}
use Rattle.segment_postings.specs.declared.Moved.{Moved}
use Rattle.segment_postings.specs.declared.SegmentPostings.{SegmentPostings}
use Rattle.segment_postings.specs.Cursor.{position, answering, no_hit, opened, stepping, advanced, seeking, hit_of, sought}
use Rattle.segment_postings.specs.Calls.{cursor_of}

-- what the model says of an answer: document, frequency, blocks unpacked and the hit
unfoldable pub shown : Outcome Answer → Shown
shown (Ok a) = at a.doc a.freq a.unpacked a.hit
shown (Err n) = refused n

-- .. and the answer that says the same, with the entries read
unfoldable pub with_entries : Shown → ℕ → Outcome Answer
with_entries (at doc freq unpacked hit) entries =
    Ok (record { doc = doc; freq = freq; unpacked = unpacked; entries = entries; hit = hit })
with_entries (refused n) entries = Err n

-- where a call comes to, as the contracts of `advance_in` and `seek_in` say it
unfoldable pub reaching : SegmentPostings → List ℕ → Term → Call → Outcome SegmentPostings
unfolding stepping seeking
reaching c bs t step = stepping c bs t
reaching c bs t (seek target) = seeking c bs t target

-- .. whether its target is the document there: a step has none
unfoldable pub hit_by : Term → Call → SegmentPostings → Bool
unfolding hit_of
hit_by t step = no_hit
hit_by t (seek target) = hit_of t target

-- .. and what it hands back, as those of `advance` and `seek` say it
unfoldable pub called : SegmentPostings → List ℕ → Term → Call → Moved
unfolding advanced sought
called c bs t step = advanced c bs t
called c bs t (seek target) = sought c bs t target

-- each call gets the cursor as the last one left it
unfoldable pub calls_from : List ℕ → Term → SegmentPostings → List Call → List (Outcome Answer)
unfolding called
calls_from bs t c [] = []
calls_from bs t c (call ∷ cs) = let m : Moved = called c bs t call in m.answer ∷ calls_from bs t m.cursor cs

-- what opening and then the calls answer
unfoldable pub calls : List ℕ → Term → List Call → List (Outcome Answer)
unfolding opened calls_from
calls bs t cs = let m : Moved = opened bs t in m.answer ∷ calls_from bs t m.cursor cs

-- the cursor after them
unfoldable pub cursor_after : List ℕ → Term → SegmentPostings → List Call → SegmentPostings
unfolding called
cursor_after bs t c [] = c
cursor_after bs t c (call ∷ cs) = cursor_after bs t (called c bs t call).cursor cs

-- ---- answers as numbers

-- how many numbers an answer is, and the place of the entries read among them
abbrev pub answer_length : ℕ
answer_length = 6

abbrev pub entries_place : ℕ
entries_place = 4

-- the number and the values of each case of an answer, in order: 0, document, frequency, blocks unpacked, entries read, and 1 for a hit or 0; or
-- a refusal's number and zeros
unfoldable pub numbers : Outcome Answer → List ℕ
numbers (Ok a) = 0 ∷ a.doc ∷ a.freq ∷ a.unpacked ∷ a.entries ∷ bool_byte a.hit ∷ []
numbers (Err r) = number_of r ∷ replicate (answer_length - 1) 0

-- the same of a number that was asked for: 0 and the number, or a refusal's number and 0
unfoldable pub value_numbers : Outcome ℕ → List ℕ
value_numbers (Ok n) = 0 ∷ n ∷ []
value_numbers (Err r) = number_of r ∷ 0 ∷ []

unfoldable pub all_numbers : List (Outcome Answer) → List ℕ
unfolding numbers
all_numbers [] = []
all_numbers (a ∷ rest) = numbers a ++ all_numbers rest

-- the model's position after each call
unfoldable pub positions_from : List ℕ → State → List Call → List ℕ
unfolding after
positions_from ds s [] = []
positions_from ds s (call ∷ cs) = let s' : State = after ds s call in s'.position ∷ positions_from ds s' cs

-- .. and after opening
unfoldable pub positions : List ℕ → List Call → List ℕ
unfolding positions_from
positions ds cs = (model.opened).position ∷ positions_from ds model.opened cs

-- the model's answers over a list of n documents, each with the entries that lead to the block of its position
unfoldable pub model_numbers : ℕ → List Shown → List ℕ → List ℕ
unfolding numbers with_entries entries_read
model_numbers n [] ps = []
model_numbers n (a ∷ rest) [] = []
model_numbers n (a ∷ rest) (p ∷ ps) = numbers (with_entries a (entries_read n p)) ++ model_numbers n rest ps

-- ---- beside the model, and beside a call on two lent arrays

-- a cursor beside the model's state
pub record Counts (t : Term) (c : SegmentPostings) (m : State) : Type 0 where
  pub at_position : position c.held ≡ m.position
  pub unpacked_visited : c.held.unpacked ≡ length m.visited
  pub entries_are : c.held.entries ≡ entries_read t.count m.position

-- what `answer_at` answers, with the hit that a call on lent arrays told beside
unfoldable pub with_hit : Bool → Outcome Answer → Outcome Answer
with_hit hit (Ok a) = Ok (record { doc = a.doc; freq = a.freq; unpacked = a.unpacked; entries = a.entries; hit = hit })
with_hit hit (Err n) = Err n

-- a call on lent arrays, with the hit that it tells of where it came to, beside the call by value on the cursor `was`, which gives m
pub record SameCall (t : Term) (hit : SegmentPostings → Bool) (was : SegmentPostings) (m : Moved) (docs freqs docs' freqs' : List ℕ) (r : Outcome Held) : Type 0 where
  pub came : {held : Held} → r ≡ Ok held
      → (let c : SegmentPostings = cursor_of held docs' freqs' in m ≡ record { answer = with_hit (hit c) (answering t c); cursor = c })
  pub stayed : {why : Refusal} → r ≡ Err why
      → (m ≡ record { answer = Err why; cursor = was }) × (docs' ≡ docs) × (freqs' ≡ freqs)
