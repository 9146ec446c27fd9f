-- Seeks in order on one cursor, up to the first refusal, and what is stored of their answers.
-- Assumes nothing.
use Rattle.std.specs.Prelude.{List, [], ◌∷◌, map, ◌≡◌, ℕ, min, nat_le, length, Ok, Err}
use mir.Val.{bool_byte}
use Rattle.format.specs.declared.Term.{Term}
use Rattle.format.specs.Basics.{Outcome, choose, put_at, or_before}
use Rattle.segment_postings.specs.declared.Answer.{Answer}
use Rattle.segment_postings.specs.declared.Moved.{Moved}
use Rattle.segment_postings.specs.declared.SegmentPostings.{SegmentPostings}
use Rattle.segment_postings.specs.Cursor.{opening, sought}

-- ---- the slices that are lent

pub record Slices : Type 0 where
  pub docs : List ℕ
  pub freqs : List ℕ
  pub hits : List ℕ

abbrev pub slices : (docs freqs hits : List ℕ) → Slices
slices docs freqs hits = record { docs = docs; freqs = freqs; hits = hits }

-- how many answers all three have places for
unfoldable pub room : Slices → ℕ
room s = min (min (length s.docs) (length s.freqs)) (length s.hits)

-- answers put in from a place on: their documents, their frequencies, and 1 for each hit and 0 for each other; the rest as before
unfoldable pub put_answers : ℕ → List Answer → Slices → Slices
unfolding put_at
put_answers at answers s = record {
  docs = put_at at (map (λ (a : Answer). a.doc) answers) s.docs;
  freqs = put_at at (map (λ (a : Answer). a.freq) answers) s.freqs;
  hits = put_at at (map (λ (a : Answer). bool_byte a.hit) answers) s.hits;
}

-- ---- the answers

-- a seek's answer before those of the seeks behind it; behind a refused one there are none
unfoldable pub before_those : Outcome Answer → List Answer → List Answer
before_those (Ok a) behind = a ∷ behind
before_those (Err n) behind = []

-- the answer of each target that is served: each seek goes on from where the one before came to
unfoldable pub seeks_from : List ℕ → Term → SegmentPostings → List ℕ → List Answer
unfolding before_those sought
seeks_from bs t c [] = []
seeks_from bs t c (target ∷ targets) =
    let m : Moved = sought c bs t target in
    before_those m.answer (seeks_from bs t m.cursor targets)

-- .. from opening on, which may be refused
unfoldable pub seeks : List ℕ → Term → List ℕ → List Answer
unfolding or_before seeks_from
seeks bs t targets = or_before (λ c. seeks_from bs t c targets) (opening bs t) []

-- .. where the slices have a place for each target
unfoldable pub served_in : Term → List ℕ → List ℕ → Slices → List Answer
unfolding choose room seeks
served_in t bs targets s = choose (nat_le (length targets) (room s)) (λ _. seeks bs t targets) (λ _. [])

-- how many were served, and what the slices hold
pub record Served (answers : List Answer) (before after : Slices) (r : ℕ) : Type 0 where
  pub answer : r ≡ length answers
  pub stored : after ≡ put_answers 0 answers before
