-- What it means that a written list reads back as itself, frequencies not kept as 1.
-- Assumes nothing.
use Rattle.std.specs.Prelude.{Bool, true, false, List, ◌≡◌, ℕ, length, replicate, Ok}
use Rattle.format.specs.Reading.{Reading, docs_of, freqs_of}

-- the frequencies that a reader answers: a list's own where they are read, else a 1 for each
unfoldable pub read_freqs : Bool → List ℕ → List ℕ
read_freqs true fs = fs
read_freqs false fs = replicate (length fs) 1

-- a walk to the end, and the documents and frequencies that it reads
pub record ReadsBack (ds fs : List ℕ) (r : Reading) : Type 0 where
  pub sound : r.verdict ≡ Ok tt
  pub docs : docs_of r.blocks ≡ ds
  pub freqs : freqs_of r.blocks ≡ fs
