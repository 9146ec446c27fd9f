-- A whole list read into two slices.
-- Assumes nothing.
use Rattle.format.specs.declared.refusal.Refusal.TheVariants.{NoRoom}
use Rattle.std.specs.Prelude.{◌≡◌, ℕ, ◌≤◌, ◌&&◌ as and, List, length, nat_le, Ok}
use Rattle.format.specs.declared.Term.{Term}
use Rattle.format.specs.Basics.{Outcome, and_then, ask, put_at, or_before}
use Rattle.format.specs.Layout.{layout}
use Rattle.format.specs.Reading.{Block, reading, soundness, docs_of, freqs_of}

-- in turn: 1 to 4, of the requested mode too; what validation answers, 1 to 9; 15 where a slice is shorter than the count; then the blocks
unfoldable pub read_whole : Term → List ℕ → (docs_room freqs_room : ℕ) → Outcome (List Block)
unfolding and_then ask layout soundness reading
read_whole t bs docs_room freqs_room =
    and_then (layout t bs) λ _.
    and_then (soundness t.mode t.count bs) λ _.
    ask (and (nat_le t.count docs_room) (nat_le t.count freqs_room)) NoRoom λ _.
    Ok (reading t bs).blocks

-- how many documents were read, and what both slices hold: theirs at the start, the rest as before; a refusal leaves both as they were
pub record WholeRead (o : Outcome (List Block)) (docs freqs docs' freqs' : List ℕ) (r : Outcome ℕ) : Type 0 where
  pub answer : r ≡ and_then o λ blocks. Ok (length (docs_of blocks))
  pub docs_after : docs' ≡ or_before (λ blocks. put_at 0 (docs_of blocks) docs) o docs
  pub freqs_after : freqs' ≡ or_before (λ blocks. put_at 0 (freqs_of blocks) freqs) o freqs

-- what the walk starts from: an image that is sound in the requested mode, and room for all that it reads
pub record Walks (t : Term) (bs : List ℕ) (docs_room freqs_room : ℕ) : Type 0 where
  pub sound : (reading t bs).verdict ≡ Ok tt
  pub docs_fit : t.count ≤ docs_room
  pub freqs_fit : t.count ≤ freqs_room

-- .. and what it leaves
pub record Written (t : Term) (bs docs freqs docs' freqs' : List ℕ) : Type 0 where
  pub docs_after : docs' ≡ put_at 0 (docs_of (reading t bs).blocks) docs
  pub freqs_after : freqs' ≡ put_at 0 (freqs_of (reading t bs).blocks) freqs
