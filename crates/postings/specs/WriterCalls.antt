-- A term written by single calls in any mixture of two manners, each call as the contract of its function says its outcome: on a whole
-- state (`new_term`, `write_doc`, `close_term`), and on two lent arrays with the state's numbers beside them (`new_term_in`,
-- `write_doc_in`, `close_term_in`). Each call gets the state and the two areas as the last one left them, and nobody else writes them. A
-- document that is refused isn't taken, and the caller may go on with another.
-- Assumes nothing.
use Rattle.format.specs.Basics.{Outcome}
use Rattle.std.specs.Prelude.{Bool, true, false, ◌≡◌, List, [], ◌∷◌, ℕ, length, Ok, Err}
use Rattle.format.specs.declared.refusal.Refusal.{Refusal}
use Rattle.format.specs.Accepted.{begin}
use Rattle.serializer.specs.declared.ClosedIn.{ClosedIn}
use Rattle.serializer.specs.declared.ClosedTerm.{ClosedTerm}
use Rattle.serializer.specs.declared.PostingsSerializer.{PostingsSerializer}
use Rattle.serializer.specs.declared.Progress.{Progress}
use Rattle.serializer.specs.declared.Step.{Step}
use Rattle.serializer.specs.Writer.{Areas, fresh}
use Rattle.serializer.specs.Calls.{accepted_number, written_numbers, beginning, Took, Closed, state_of, progressed, acceptance, TookIn, ClosedFrom}

abbrev pub areas_of : PostingsSerializer → (skips postings : List ℕ) → Areas
areas_of s skips postings = record { state = s; skips = skips; postings = postings }

-- ---- one call

-- what beginning a term answered, and the state that there is then
pub data Begins (mode : ℕ) (recording : Bool) : Outcome (Unit {0}) → PostingsSerializer → Type 0 where
  -- `new_term` hands back both
  handed_out : {r : Step} → r ≡ beginning mode recording → Begins mode recording r.answer r.state
  -- `new_term_in` hands back the state's numbers, which make it together with two arrays of 128 places, whatever these hold
  numbered : (p : Progress) (docs freqs : List ℕ) → Ok p ≡ progressed (λ _. fresh mode recording) (begin mode recording)
      → length docs ≡ 128 → length freqs ≡ 128 → Begins mode recording (acceptance (Ok p)) (state_of p docs freqs)
  -- .. or refuses: it hands back no numbers, and the caller may go on with any state
  unnumbered : {r : Refusal} {s : PostingsSerializer} → Err r ≡ progressed (λ _. fresh mode recording) (begin mode recording)
      → Begins mode recording (acceptance (Err r)) s

-- a state with its areas, what a document handed in was answered, and what the call left
pub data Hands (d f : ℕ) : Areas → Outcome (Unit {0}) → Areas → Type 0 where
  -- `write_doc` hands back a state
  handed_back : {a : Areas} {skips' postings' : List ℕ} {r : Step} → Took a.state d f a.skips a.postings skips' postings' r
      → Hands d f a r.answer (areas_of r.state skips' postings')
  -- `write_doc_in`, on two arrays that make the state together with its numbers, took it and hands back other numbers
  went_on : (p : Progress) (docs freqs : List ℕ) {skips postings docs' freqs' skips' postings' : List ℕ} {p' : Progress}
      → TookIn (state_of p docs freqs) d f skips postings docs' freqs' skips' postings' (Ok p')
      → Hands d f (areas_of (state_of p docs freqs) skips postings) (acceptance (Ok p')) (areas_of (state_of p' docs' freqs') skips' postings')
  -- .. or refused it: the caller still has its numbers, and the arrays as they are left
  stayed : (p : Progress) (docs freqs : List ℕ) {skips postings docs' freqs' skips' postings' : List ℕ} {r : Refusal}
      → TookIn (state_of p docs freqs) d f skips postings docs' freqs' skips' postings' (Err r)
      → Hands d f (areas_of (state_of p docs freqs) skips postings) (acceptance (Err r)) (areas_of (state_of p docs' freqs') skips' postings')

-- a state with its areas and the output, what closing under an announced count answered, and the output and the state that it left
pub data Closes (announced : ℕ) : Areas → List ℕ → Outcome ℕ → List ℕ → PostingsSerializer → Type 0 where
  -- `close_term` hands back a state
  closed_whole : {a : Areas} {output output' : List ℕ} {r : ClosedTerm} → Closed a.state announced a.skips a.postings output output' r
      → Closes announced a output r.answer output' r.state
  -- `close_term_in` hands back numbers; the arrays are lent to be read
  closed_parts : (p : Progress) (docs freqs : List ℕ) {skips postings output output' : List ℕ} {r : ClosedIn}
      → ClosedFrom (state_of p docs freqs) announced skips postings output output' r
      → Closes announced (areas_of (state_of p docs freqs) skips postings) output r.answer output' (state_of r.progress docs freqs)

-- ---- a term

-- a state with its areas, documents handed in one by one and their frequencies, the answers, and what the calls left
pub data Handed : Areas → (ds fs : List ℕ) → List (Outcome (Unit {0})) → Areas → Type 0 where
  none : {a : Areas} → Handed a [] [] [] a
  next : {a b c : Areas} {d f : ℕ} {ds fs : List ℕ} {answer : Outcome (Unit {0})} {answers : List (Outcome (Unit {0}))}
      → Hands d f a answer b → Handed b ds fs answers c → Handed a (d ∷ ds) (f ∷ fs) (answer ∷ answers) c

-- a term begun, documents handed in, what the calls left; and what closing it under an announced count answers and leaves
pub record TermWritten (mode : ℕ) (recording : Bool) (ds fs : List ℕ) (announced : ℕ) (skips postings output : List ℕ)
    (begun : Outcome (Unit {0})) (answers : List (Outcome (Unit {0}))) (closed : Outcome ℕ) (output' : List ℕ) : Type 0 where
  pub first : PostingsSerializer
  pub begins : Begins mode recording begun first
  pub left : Areas
  pub handed : Handed (areas_of first skips postings) ds fs answers left
  pub last : PostingsSerializer
  pub closes : Closes announced left output closed output' last

-- the documents, or the frequencies, of the calls that were answered yes
unfoldable pub taken : List (Outcome (Unit {0})) → List ℕ → List ℕ
taken [] ds = []
taken (a ∷ answers) [] = []
taken (Ok tt ∷ answers) (d ∷ ds) = d ∷ taken answers ds
taken (Err r ∷ answers) (d ∷ ds) = taken answers ds

unfoldable pub all_yes : List (Outcome (Unit {0})) → Bool
all_yes [] = true
all_yes (Ok tt ∷ answers) = all_yes answers
all_yes (Err r ∷ answers) = false

-- every call says yes, and closing answers 0 and a number of bytes
pub record AllAccepted (begun : Outcome (Unit {0})) (answers : List (Outcome (Unit {0}))) (closed : Outcome ℕ) : Type 0 where
  pub begins : accepted_number begun ≡ 0
  pub takes : all_yes answers ≡ true
  pub bytes : ℕ
  pub closes : written_numbers closed ≡ 0 ∷ bytes ∷ []
