-- The outcomes of `Writer.antt` as the contracts cite them: answer, state and every lent byte.
-- Assumes nothing.
use Rattle.std.specs.Prelude.{◌≡◌, ℕ, ◌/◌, Bool, List, [], ◌∷◌, length, Ok, Err}
use Rattle.format.specs.declared.IndexRecordOption.{IndexRecordOption}
use Rattle.format.specs.Basics.{Outcome, put_at, or_before}
use Rattle.format.specs.Refusal.{number_of}
use Rattle.format.specs.Written.{blocks_of}
use Rattle.format.specs.Accepted.{kept_in, begin}
use Rattle.serializer.specs.declared.PostingsSerializer.{PostingsSerializer}
use Rattle.serializer.specs.declared.ClosedIn.{ClosedIn}
use Rattle.serializer.specs.declared.ClosedTerm.{ClosedTerm}
use Rattle.serializer.specs.declared.Progress.{Progress}
use Rattle.serializer.specs.declared.Step.{Step}
use Rattle.serializer.specs.Writer.{Areas, fresh, taking, closing, listing, announcing}

-- what an outcome answers: of a call that gives no bytes ..
unfoldable pub accepted : {A : Type 0} → Outcome A → Outcome (Unit {0})
accepted (Ok a) = Ok tt
accepted (Err r) = Err r

-- .. and of one that writes an image, given the number of bytes that a good outcome has
unfoldable pub answered : {A : Type 0} → (A → ℕ) → Outcome A → Outcome ℕ
answered bytes (Ok a) = Ok (bytes a)
answered bytes (Err r) = Err r

-- document 01's number for each answer: 0 for yes, else the refusal's ..
unfoldable pub accepted_number : Outcome (Unit {0}) → ℕ
accepted_number (Ok u) = 0
accepted_number (Err r) = number_of r

-- .. with the number of bytes behind it where an image is written, 0 where it is refused
unfoldable pub written_numbers : Outcome ℕ → List ℕ
written_numbers (Ok n) = 0 ∷ n ∷ []
written_numbers (Err r) = number_of r ∷ 0 ∷ []

-- a term begins: question 1
unfoldable pub beginning : ℕ → Bool → Step
unfolding accepted begin fresh
beginning mode recording = record { answer = accepted (begin mode recording); state = fresh mode recording }

-- what a call that may write into the areas answers and leaves; a refusal leaves all as it was
pub record Settled (o : Outcome Areas) (s : PostingsSerializer) (skips postings skips' postings' : List ℕ) (r : Step) : Type 0 where
  pub answer : r.answer ≡ accepted o
  pub state : r.state ≡ or_before (λ a. a.state) o s
  pub skips_after : skips' ≡ or_before (λ a. a.skips) o skips
  pub postings_after : postings' ≡ or_before (λ a. a.postings) o postings

-- one document more
abbrev pub Took : PostingsSerializer → ℕ → ℕ → (skips postings skips' postings' : List ℕ) → Step → Type 0
Took s d f skips postings skips' postings' r = Settled (taking s d f skips postings) s skips postings skips' postings' r

-- closing: the image at the output's front, and a fresh state
pub record Closed (s : PostingsSerializer) (announced : ℕ) (skips postings output output' : List ℕ) (r : ClosedTerm) : Type 0 where
  pub answer : r.answer ≡ answered length (closing s announced skips postings output)
  pub state : r.state ≡ or_before (λ _. fresh s.mode s.recording) (closing s announced skips postings output) s
  pub output_after : output' ≡ or_before (λ image. put_at 0 image output) (closing s announced skips postings output) output

-- ---- the state in parts: its numbers, and two arrays in which documents and frequencies wait

unfoldable pub state_of : Progress → List ℕ → List ℕ → PostingsSerializer
state_of p docs freqs = record {
  docs = docs;
  freqs = freqs;
  mode = p.mode;
  recording = p.recording;
  waiting = p.waiting;
  last_doc = p.last_doc;
  taken = p.taken;
  skips_at = p.skips_at;
  postings_at = p.postings_at;
}

unfoldable pub progress_of_of : PostingsSerializer → Progress
progress_of_of s = record {
  mode = s.mode;
  recording = s.recording;
  waiting = s.waiting;
  last_doc = s.last_doc;
  taken = s.taken;
  skips_at = s.skips_at;
  postings_at = s.postings_at;
}

-- a state behind the call that began a term: the numbers of a fresh one, and two arrays of 128 places that may hold anything
pub record Begun (mode : ℕ) (recording : Bool) (s : PostingsSerializer) : Type 0 where
  pub numbers : progress_of_of s ≡ progress_of_of (fresh mode recording)
  pub docs_long : length s.docs ≡ 128
  pub freqs_long : length s.freqs ≡ 128

-- what an outcome answers, given the state that a good one has
unfoldable pub progressed : {A : Type 0} → (A → PostingsSerializer) → Outcome A → Outcome Progress
unfolding progress_of_of
progressed state (Ok a) = Ok (progress_of_of (state a))
progressed state (Err r) = Err r

-- .. and what such an answer says beside the numbers: yes, or a refusal
unfoldable pub acceptance : Outcome Progress → Outcome (Unit {0})
acceptance (Ok p) = Ok tt
acceptance (Err r) = Err r

-- what a call on two lent arrays that may write into the areas answers and leaves; a refusal leaves all as it was
pub record SettledIn (o : Outcome Areas) (docs freqs skips postings docs' freqs' skips' postings' : List ℕ) (r : Outcome Progress) : Type 0 where
  pub answer : r ≡ progressed (λ a. a.state) o
  pub docs_after : docs' ≡ or_before (λ a. a.state.docs) o docs
  pub freqs_after : freqs' ≡ or_before (λ a. a.state.freqs) o freqs
  pub skips_after : skips' ≡ or_before (λ a. a.skips) o skips
  pub postings_after : postings' ≡ or_before (λ a. a.postings) o postings

-- one document more
abbrev pub TookIn : PostingsSerializer → ℕ → ℕ → (skips postings docs' freqs' skips' postings' : List ℕ) → Outcome Progress → Type 0
TookIn s d f skips postings docs' freqs' skips' postings' r =
    SettledIn (taking s d f skips postings) s.docs s.freqs skips postings docs' freqs' skips' postings' r

-- closing: the image at the output's front, and the numbers of a fresh state
pub record ClosedFrom (s : PostingsSerializer) (announced : ℕ) (skips postings output output' : List ℕ) (r : ClosedIn) : Type 0 where
  pub answer : r.answer ≡ answered length (closing s announced skips postings output)
  pub progress : r.progress ≡ progress_of_of (or_before (λ _. fresh s.mode s.recording) (closing s announced skips postings output) s)
  pub output_after : output' ≡ or_before (λ image. put_at 0 image output) (closing s announced skips postings output) output

-- ---- a whole list

-- what a whole list answers and leaves, by its outcome: the image at the output's front, the full blocks and their entries at the fronts
-- of the areas; a refusal leaves all as it was
pub record ListLeft (o : Outcome (List ℕ)) (option : IndexRecordOption) (ds fs skips postings output skips' postings' output' : List ℕ) (r : Outcome ℕ) : Type 0 where
  pub answer : r ≡ answered length o
  pub skips_after : skips' ≡ or_before (λ _. put_at 0 (blocks_of option (length ds / 128) 0 ds fs).skips skips) o skips
  pub postings_after : postings' ≡ or_before (λ _. put_at 0 (blocks_of option (length ds / 128) 0 ds fs).postings postings) o postings
  pub output_after : output' ≡ or_before (λ image. put_at 0 image output) o output

abbrev pub Listed : ℕ → Bool → (ds fs skips postings output skips' postings' output' : List ℕ) → Outcome ℕ → Type 0
Listed mode recording ds fs skips postings output skips' postings' output' r =
    ListLeft (listing mode recording ds fs skips postings output) (kept_in mode recording) ds fs skips postings output skips' postings' output' r

-- .. under an announced count
abbrev pub ListedAs : ℕ → Bool → ℕ → (ds fs skips postings output skips' postings' output' : List ℕ) → Outcome ℕ → Type 0
ListedAs mode recording announced ds fs skips postings output skips' postings' output' r =
    ListLeft (announcing mode recording announced ds fs skips postings output) (kept_in mode recording) ds fs skips postings output skips' postings' output' r
