-- What the exported functions answer that read an image.
-- Assumes nothing.
use Rattle.std.specs.Prelude.{List, ◌≡◌, ℕ}
use Rattle.format.specs.Basics.{Outcome}
use Rattle.format.specs.Reading.{Block}
use Rattle.segment_postings.specs.ReadWhole.{WholeRead}
use Rattle.exports.specs.Exports.{coded}

-- a whole list read into two slices
pub record ReadCoded (o : Outcome (List Block)) (docs freqs docs' freqs' : List ℕ) (r : ℕ) : Type 0 where
  pub answer : Outcome ℕ
  pub read : WholeRead o docs freqs docs' freqs' answer
  pub number : r ≡ coded answer
