-- A list of calls on one cursor in any mixture of three manners, each call as the contract of its function says its outcome: by value
-- (`open`, `advance`, `seek`), on a lent cursor (`advance_mut`, `seek_mut`), and on two lent arrays with the cursor's numbers beside
-- them (`open_in`, `advance_in`, `seek_in`, which tells the hit, and `answer_at` for what stands where they came to).
-- Assumes nothing.
use Rattle.format.specs.Basics.{Outcome}
use Rattle.std.specs.Prelude.{◌≡◌, Bool, List, [], ◌∷◌, map, ℕ, ◌+◌, ◌*◌, ◌^◌, ◌<◌, Ok, Err}
use Rattle.format.specs.declared.refusal.Refusal.{Refusal}
use Rattle.format.specs.declared.Term.{Term}
use Rattle.format.specs.Model.{Call, step, seek}
use Rattle.segment_postings.specs.declared.Answer.{Answer}
use Rattle.segment_postings.specs.declared.Held.{Held}
use Rattle.segment_postings.specs.declared.Moved.{Moved}
use Rattle.segment_postings.specs.declared.SegmentPostings.{SegmentPostings}
use Rattle.segment_postings.specs.Cursor.{answering, blank, opening, opened}
use Rattle.segment_postings.specs.Calls.{Leaves, cursor_of, Reaches}
use Rattle.segment_postings.specs.Called.{reaching, hit_by, called, with_hit}

-- how a call gets the cursor
pub data Manner : Type 0 where
  by_value : Manner
  lent : Manner
  on_arrays : Manner

pub record MadeCall : Type 0 where
  pub manner : Manner
  pub call : Call

abbrev pub calls_of : List MadeCall → List Call
calls_of made = map (λ m. m.call) made

-- what opening answered, and the cursor that there is then
pub data Opened (bs : List ℕ) (t : Term) : Outcome Answer → SegmentPostings → Type 0 where
  -- `open` hands back both
  handed_out : {r : Moved} → r ≡ opened bs t → Opened bs t r.answer r.cursor
  -- `open_in` hands back the cursor's numbers and fills two arrays, whatever they held; `answer_at` answers
  filled : {docs freqs docs' freqs' : List ℕ} {held : Held} {answer : Outcome Answer}
      → Reaches (opening bs t) docs freqs docs' freqs' (Ok held)
      → answer ≡ answering t (cursor_of held docs' freqs')
      → Opened bs t answer (cursor_of held docs' freqs')
  -- .. or is refused and hands back no numbers: the cursor that every call refuses stands for none
  unfilled : {docs freqs docs' freqs' : List ℕ} {r : Refusal}
      → Reaches (opening bs t) docs freqs docs' freqs' (Err r)
      → Opened bs t (Err r) blank

-- a call, its manner, the cursor that it gets, what it answered and the cursor after it
pub data Meets (bs : List ℕ) (t : Term) (call : Call) : Manner → SegmentPostings → Outcome Answer → SegmentPostings → Type 0 where
  -- by value it hands back both
  handed_back : {c : SegmentPostings} {r : Moved} → r ≡ called c bs t call → Meets bs t call by_value c r.answer r.cursor
  -- on a lent cursor it answers, and leaves the other in the caller's record
  left_there : {c after : SegmentPostings} {answer : Outcome Answer} → Leaves (called c bs t call) answer after → Meets bs t call lent c answer after
  -- on two arrays, which make the cursor together with its numbers, it came somewhere: it hands back other numbers, a seek with its hit, and
  -- `answer_at` answers of them and of the arrays as they are left. What is told is that answer with that hit, a step's with none
  came : (held : Held) {docs freqs docs' freqs' : List ℕ} {held' : Held} {hit : Bool} {answer : Outcome Answer}
      → Reaches (reaching (cursor_of held docs freqs) bs t call) docs freqs docs' freqs' (Ok held')
      → hit ≡ hit_by t call (cursor_of held' docs' freqs')
      → answer ≡ answering t (cursor_of held' docs' freqs')
      → Meets bs t call on_arrays (cursor_of held docs freqs) (with_hit hit answer) (cursor_of held' docs' freqs')
  -- .. or was refused: the caller still has its numbers, and the arrays as they are left
  stayed : (held : Held) {docs freqs docs' freqs' : List ℕ} {r : Refusal}
      → Reaches (reaching (cursor_of held docs freqs) bs t call) docs freqs docs' freqs' (Err r)
      → Meets bs t call on_arrays (cursor_of held docs freqs) (Err r) (cursor_of held docs' freqs')

-- a cursor, the calls, their answers, and the cursor after them: each call gets it as the last one left it
pub data Called (bs : List ℕ) (t : Term) : SegmentPostings → List MadeCall → List (Outcome Answer) → SegmentPostings → Type 0 where
  none : {c : SegmentPostings} → Called bs t c [] [] c
  next : {c c' d : SegmentPostings} {made : MadeCall} {rest : List MadeCall} {a : Outcome Answer} {answers : List (Outcome Answer)}
      → Meets bs t made.call made.manner c a c' → Called bs t c' rest answers d
      → Called bs t c (made ∷ rest) (a ∷ answers) d

-- ---- the numbers by which `run_calls` is told to make calls: a kind, and a target of 32 bits. It makes them by value and on a lent
-- cursor, none on arrays

pub data Code : MadeCall → ℕ → Type 0 where
  steps : Code (record { manner = by_value; call = step }) 0
  seeks : {target : ℕ} → target < 2 ^ 32 → Code (record { manner = by_value; call = seek target }) (1 * 2 ^ 32 + target)
  steps_lent : Code (record { manner = lent; call = step }) (2 * 2 ^ 32)
  seeks_lent : {target : ℕ} → target < 2 ^ 32 → Code (record { manner = lent; call = seek target }) (3 * 2 ^ 32 + target)

pub data Codes : List MadeCall → List ℕ → Type 0 where
  ended : Codes [] []
  coded : {made : MadeCall} {rest : List MadeCall} {n : ℕ} {ns : List ℕ} → Code made n → Codes rest ns → Codes (made ∷ rest) (n ∷ ns)
