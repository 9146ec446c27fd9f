-- What the exported functions answer, one number for each answer of the library, and what they leave in all that is lent.
-- Assumes nothing.
use Rattle.std.specs.Prelude.{◌≡◌, Bool, not, List, ℕ, ◌+◌, ◌^◌, eqb, Ok, Err}
use Rattle.format.specs.declared.refusal.Refusal.{Refusal}
use Rattle.format.specs.Basics.{Outcome}
use Rattle.format.specs.Refusal.{number_of}
use Rattle.format.specs.Accepted.{kept_in}
use Rattle.serializer.specs.declared.PostingsSerializer.{PostingsSerializer}
use Rattle.serializer.specs.Writer.{Areas, listing, announcing, take_all_docs}
use Rattle.serializer.specs.Calls.{ListLeft}

-- a refusal's number above 2 ^ 63, which no count, rank, total or image's length reaches (proofs/ToldApart.antt)
abbrev pub marked : Refusal → ℕ
marked r = 2 ^ 63 + number_of r

-- the number that was asked for, or a refusal's number with its mark
abbrev pub coded : Outcome ℕ → ℕ
coded (Ok n) = n
coded (Err r) = marked r

-- whether frequencies are recorded: 0 says no, any other number yes
abbrev pub recorded : ℕ → Bool
recorded n = not (eqb n 0)

-- what a whole list answers as a number, and leaves, by its outcome
pub record LeftCoded (o : Outcome (List ℕ)) (mode recording : ℕ) (ds fs skips postings output skips' postings' output' : List ℕ) (r : ℕ) : Type 0 where
  pub answer : Outcome ℕ
  pub left : ListLeft o (kept_in mode (recorded recording)) ds fs skips postings output skips' postings' output' answer
  pub number : r ≡ coded answer

-- a whole list in one call
abbrev pub ListCoded : (mode recording : ℕ) (ds fs skips postings output skips' postings' output' : List ℕ) (r : ℕ) → Type 0
ListCoded mode recording ds fs skips postings output skips' postings' output' r =
    LeftCoded (listing mode (recorded recording) ds fs skips postings output) mode recording ds fs skips postings output skips' postings' output' r

-- .. by single calls, under an announced count
abbrev pub DocsCoded : (mode recording : ℕ) (ds fs : List ℕ) (announced : ℕ) (skips postings output skips' postings' output' : List ℕ) (r : ℕ) → Type 0
DocsCoded mode recording ds fs announced skips postings output skips' postings' output' r =
    LeftCoded (announcing mode (recorded recording) announced ds fs skips postings output) mode recording ds fs skips postings output skips' postings' output' r

-- ---- the private functions below it

-- every document is taken
abbrev pub Takes : PostingsSerializer → (ds fs skips postings : List ℕ) → Areas → Type 0
Takes s ds fs skips postings a = take_all_docs s ds fs skips postings ≡ Ok a
