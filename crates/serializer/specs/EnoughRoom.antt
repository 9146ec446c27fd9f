-- How long two areas and an output are always enough for a list of n documents, by whether its frequencies are kept.
-- Assumes nothing.
use Rattle.std.specs.Prelude.{ℕ, ◌*◌, ◌/◌, ◌≤◌, List, length}
use Rattle.format.specs.declared.IndexRecordOption.{IndexRecordOption}
use Rattle.format.specs.declared.IndexRecordOption.TheVariants.{Basic, WithFreqs}

-- an entry for each full block
unfoldable pub skips_enough : IndexRecordOption → ℕ → ℕ
skips_enough Basic n = 5 * (n / 128)
skips_enough WithFreqs n = 8 * (n / 128)

-- 16 bytes for each of the 31 bits of an id, and of the 32 of a frequency
unfoldable pub postings_enough : IndexRecordOption → ℕ → ℕ
postings_enough Basic n = 496 * (n / 128)
postings_enough WithFreqs n = 1008 * (n / 128)

-- 5 bytes for each number of a tail, which is more than a block takes
unfoldable pub output_enough : IndexRecordOption → ℕ → ℕ
output_enough Basic n = 5 * n
output_enough WithFreqs n = 10 * n

pub record Enough (option : IndexRecordOption) (n : ℕ) (skips postings output : List ℕ) : Type 0 where
  pub skips_long : skips_enough option n ≤ length skips
  pub postings_long : postings_enough option n ≤ length postings
  pub output_long : output_enough option n ≤ length output
