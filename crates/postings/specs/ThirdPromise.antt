-- What the third promise of the order asks after a list of calls, of the model (crates/format/specs/Model.antt; 01: the book), which is
-- fed the documents and frequencies that the definitions read from the image in the requested mode, and the calls; nothing of a cursor
-- enters it.
-- Assumes nothing.
use Rattle.std.specs.Prelude.{Bool, true, false, not, ◌&&◌ as and, List, [], ◌∷◌, map, ◌≡◌, ℕ, ◌+◌, ◌*◌, ◌/◌, ◌≤◌, get_or}
use Rattle.format.specs.declared.Term.{Term}
use Rattle.format.specs.Basics.{TERMINATED, Outcome}
use Rattle.format.specs.Reading.{reading, docs_of, freqs_of}
use Rattle.format.specs.Model.{Call, State, member, here, answers, after_all}
use Rattle.format.specs.Model as model
use Rattle.segment_postings.specs.declared.Answer.{Answer}
use Rattle.segment_postings.specs.declared.SegmentPostings.{SegmentPostings}
use Rattle.segment_postings.specs.Cursor.{answering, doc_at, freq_at}
use Rattle.segment_postings.specs.Called.{shown, answer_length, entries_place, value_numbers, all_numbers, positions, model_numbers, Counts}

-- no number twice
unfoldable pub distinct : List ℕ → Bool
unfolding member
distinct [] = true
distinct (v ∷ vs) = and (not (member v vs)) (distinct vs)

-- the block of each position
abbrev pub blocks_of : List ℕ → List ℕ
blocks_of ps = map (λ p. p / 128) ps

-- the model's state after the calls
abbrev pub state_after : List ℕ → Term → List Call → State
state_after bs t cs = after_all (docs_of (reading t bs).blocks) model.opened cs

-- `told` are opening's answer and those of the calls, `c` the cursor after them
pub record Promised (bs : List ℕ) (t : Term) (cs : List Call) (told : List (Outcome Answer)) (c : SegmentPostings) : Type 0 where
  -- document, frequency, blocks unpacked and hit of every answer are the model's, and so are its refusals
  pub model_answers_is : map shown told ≡ answers (docs_of (reading t bs).blocks) (freqs_of (reading t bs).blocks) cs
  -- .. with the entries read that lead to the block of the model's position, at most as many as full blocks
  pub model_entries : all_numbers told
      ≡ model_numbers t.count (answers (docs_of (reading t bs).blocks) (freqs_of (reading t bs).blocks) cs) (positions (docs_of (reading t bs).blocks) cs)
  pub entries_most : (i : ℕ) → get_or (all_numbers told) (answer_length * i + entries_place) 0 ≤ t.count / 128
  -- and after the list the cursor is at the model's position, with as many blocks unpacked as the model has visited
  pub model_state : Counts t c (state_after bs t cs)
  -- .. `doc` and `term_freq` give the document and the frequency at that position, at the end TERMINATED and 0, and `answer_at` gives
  -- both with the blocks unpacked, and no hit, since it has no target
  pub model_doc : {r : Outcome ℕ} → r ≡ doc_at c bs t
      → value_numbers r ≡ 0 ∷ get_or (docs_of (reading t bs).blocks) (state_after bs t cs).position TERMINATED ∷ []
  pub model_freq : {r : Outcome ℕ} → r ≡ freq_at c bs t
      → value_numbers r ≡ 0 ∷ get_or (freqs_of (reading t bs).blocks) (state_after bs t cs).position 0 ∷ []
  pub model_there : {r : Outcome Answer} → r ≡ answering t c
      → shown r ≡ here (docs_of (reading t bs).blocks) (freqs_of (reading t bs).blocks) (state_after bs t cs) false
  -- the size of the model's set is the number of different blocks in which its positions lie: the set holds no block twice, and a block
  -- exactly where one of the positions, opening's included, lies in it
  pub visited_once : distinct (state_after bs t cs).visited ≡ true
  pub visited_are : (b : ℕ) → member b (state_after bs t cs).visited ≡ member b (blocks_of (positions (docs_of (reading t bs).blocks) cs))
