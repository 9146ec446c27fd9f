-- What `run_calls` answers and leaves in the lent answers, on every input, and what that is where the image is admitted.
-- Assumes nothing.
use Rattle.std.specs.Prelude.{◌≡◌, Bool, true, ◌&&◌ as and, ◌||◌ as or, List, [], ◌∷◌, map, ℕ, ◌+◌, ◌*◌, ◌/◌, ◌%◌, ◌^◌, ◌≤◌, eqb, leb, ltb, length, get_or, Option, Some, is_some, Ok, Err}
use Rattle.format.specs.declared.Term.{Term}
use Rattle.format.specs.Basics.{choose, put_at, Outcome}
use Rattle.format.specs.Reading.{reading, soundness, docs_of, freqs_of}
use Rattle.format.specs.Model.{Call, step, seek, answers}
use Rattle.segment_postings.specs.declared.Answer.{Answer}
use Rattle.segment_postings.specs.declared.Moved.{Moved}
use Rattle.segment_postings.specs.Cursor.{opened}
use Rattle.postings.specs.declared.calls.Coded.{Coded}
use Rattle.postings.specs.declared.calls.Coded.TheVariants.{Advance, Seek, AdvanceByLending, SeekByLending}
use Rattle.segment_postings.specs.Called.{calls_from, answer_length, entries_place, all_numbers, positions, model_numbers}

-- ---- calls as numbers: kind * 2 ^ 32 + target

unfoldable pub kind_of : ℕ → ℕ
kind_of n = n / 2 ^ 32

unfoldable pub target_of : ℕ → ℕ
target_of n = n % 2 ^ 32

-- kind 0 steps and 1 seeks by value, 2 steps and 3 seeks on a lent cursor: the call is the same. A step's target is ignored
unfoldable pub call_of : ℕ → Call
unfolding choose kind_of target_of
call_of n = choose (or (eqb (kind_of n) 0) (eqb (kind_of n) 2)) (λ _. step) (λ _. seek (target_of n))

unfoldable pub all_known : List ℕ → Bool
unfolding kind_of
all_known [] = true
all_known (n ∷ ns) = and (ltb (kind_of n) 4) (all_known ns)

-- what a call means, made by value or on a lent cursor
unfoldable pub meant : Coded → Call
meant Advance = step
meant (Seek target) = seek target
meant AdvanceByLending = step
meant (SeekByLending target) = seek target

-- a number codes something exactly if its kind is known, and that means the same call
pub record Decodes (n : ℕ) (r : Option Coded) : Type 0 where
  pub known : is_some r ≡ ltb (kind_of n) 4
  pub meaning : {c : Coded} → r ≡ Some c → meant c ≡ call_of n

-- ---- what is answered

-- places for the numbers of opening and of each call, asked even where opening would be refused, and every kind known
unfoldable pub taken : List ℕ → List ℕ → Bool
unfolding all_known
taken ns out = and (leb (answer_length * (length ns + 1)) (length out)) (all_known ns)

-- where opening was refused there is no cursor to call
unfoldable pub unless_refused : Outcome Answer → List (Outcome Answer) → List (Outcome Answer)
unless_refused (Ok a) rest = rest
unless_refused (Err r) rest = []

-- opening's answer, then that of each call
unfoldable pub answered : List ℕ → Term → List ℕ → List (Outcome Answer)
unfolding opened unless_refused calls_from call_of
answered bs t ns = let m : Moved = opened bs t in m.answer ∷ unless_refused m.answer (calls_from bs t m.cursor (map call_of ns))

-- how many answers were written; 0 where the answers' places or a kind was refused
unfoldable pub how_many : List ℕ → Term → List ℕ → List ℕ → ℕ
unfolding choose taken answered
how_many bs t ns out = choose (taken ns out) (λ _. length (answered bs t ns)) (λ _. 0)

-- the numbers of each answer, from the first place on; every place behind them as before
unfoldable pub answers_after : List ℕ → Term → List ℕ → List ℕ → List ℕ
unfolding choose taken answered all_numbers put_at
answers_after bs t ns out = choose (taken ns out) (λ _. put_at 0 (all_numbers (answered bs t ns)) out) (λ _. out)

-- ---- the third promise

-- the model's answers to opening and the calls, fed with the documents and the frequencies that are read from the image in the
-- requested mode and with the calls alone: nothing of a cursor
unfoldable pub model_answers : List ℕ → Term → List ℕ → List ℕ
unfolding answers positions model_numbers call_of
model_answers bs t ns =
    let docs : List ℕ = docs_of (reading t bs).blocks in
    let cs : List Call = map call_of ns in
    model_numbers t.count (answers docs (freqs_of (reading t bs).blocks) cs) (positions docs cs)

-- where the image is admitted: every call is answered, as the model answers, and entries read never exceed the full blocks
pub record AsModel (bs : List ℕ) (t : Term) (ns out out' : List ℕ) (r : ℕ) : Type 0 where
  pub all_answered : r ≡ length ns + 1
  pub model_answers_is : out' ≡ put_at 0 (model_answers bs t ns) out
  pub entries_most : (i : ℕ) → i ≤ length ns → get_or out' (answer_length * i + entries_place) 0 ≤ t.count / 128

pub record Runs (bs : List ℕ) (t : Term) (ns out out' : List ℕ) (r : ℕ) : Type 0 where
  pub answer : r ≡ how_many bs t ns out
  pub answers_after_is : out' ≡ answers_after bs t ns out
  pub third_promise : taken ns out ≡ true → soundness t.mode t.count bs ≡ Ok tt → t.requested ≤ 2 → AsModel bs t ns out out' r
