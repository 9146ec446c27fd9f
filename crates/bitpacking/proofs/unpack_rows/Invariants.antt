-- The bits behind the rows so far are left, and the values are filled up to the row.
use Rattle.std.proofs.Common.{◌≡◌, ◌*◌}
use Rattle.bitpacking.specs.Packed.{filled, more_at, LeftAt}
use Rattle.bitpacking.proofs.unpack_rows.Given as goal

abbrev pub invariant-loop-row : goal.invariant-loop-row
invariant-loop-row l = record {
  left : LeftAt l.w l.row l.bytes l.left;
  values : l.values ≡ filled (4 * l.row) (more_at l.w l.more l.bytes) l.initial.values;
}
