-- Which entry stands at a place that the bytes reach beyond.
-- Assumes nothing.
use mathlib.Core.Path.{◌≡◌}
use mathlib.Core.List.{List}
use Prim.Native.Nat.{ℕ, ◌+◌, ◌≤◌}
use lib.ListN.{length, drop}
use borrow.Author.Tests.{le-leb}
use Rattle.format.specs.declared.IndexRecordOption.{IndexRecordOption}
use Rattle.format.specs.Basics.{choose}
use Rattle.format.specs.SkipEntry.{entry_size_of, read_entry}
use Rattle.std.specs.Prelude.{Some}
use Rattle.skip.specs.Entry.{entry_at}

pub entry_at-within : (option : IndexRecordOption) (bs : List ℕ) (at : ℕ)
    → at + entry_size_of option ≤ length bs → entry_at option bs at ≡ Some (read_entry option (drop at bs))
unfolding choose entry_at
entry_at-within option bs at h = rw (le-leb _ _ h)
