-- The lanes hold what the rows so far make, and the area is filled up to the words written.
use Rattle.std.proofs.Common.{◌≡◌, ◌*◌, length}
use Rattle.format.specs.Bitpacking.{packed_at}
use Rattle.bitpacking.specs.Packed.{filled, LanesAt}
use Rattle.bitpacking.proofs.pack_rows.Given as goal

abbrev pub invariant-loop-row : goal.invariant-loop-row
invariant-loop-row l = record {
  same_length : length l.area ≡ length l.initial.area;
  lanes : LanesAt l.w l.row l.values l.lanes;
  area : l.area ≡ filled (16 * l.lanes.words) (packed_at l.w l.values) l.initial.area;
}
