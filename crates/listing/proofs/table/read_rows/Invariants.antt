-- The loop's invariant: the rows read so far stand in front of what the lines from the present place on give, and four bytes or more were read
-- for each. The measure is the bytes left.
use Rattle.std.proofs.Common.{◌-◌, length}
use Rattle.listing.proofs.Columns.{ReadTo}
use Rattle.listing.proofs.table.read_rows.Given as goal

abbrev pub invariant-loop-at : goal.invariant-loop-at
invariant-loop-at l = ReadTo l.text l.start l.at l.n l.firsts l.seconds

abbrev pub decreases-loop-at : goal.decreases-loop-at
decreases-loop-at l = length l.text - l.at
