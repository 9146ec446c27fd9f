-- The order's sentence on a list that `write_list` or the single calls accept.
-- Assumes nothing.
use Rattle.std.specs.Prelude.{Bool, List, ℕ, ◌≤◌}
use Rattle.format.specs.Written.{image}
use Rattle.format.specs.Accepted.{kept_in, Accepted}
use Rattle.serializer.specs.Lists.{HasRoom}

-- a known mode, ids that rise strictly and stay below 2147483647, kept frequencies of at least 1, as many of the one as of the other,
-- and room
pub record Acceptable (mode : ℕ) (recording : Bool) (ds fs skips postings output : List ℕ) : Type 0 where
  pub mode_known : mode ≤ 1
  pub accepted : Accepted (kept_in mode recording) 0 ds fs
  pub has_room : HasRoom mode recording ds fs skips postings output (image (kept_in mode recording) ds fs)
