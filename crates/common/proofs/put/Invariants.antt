-- What is written so far is a copy of the first `i` bytes, all of which fit; the measure is the bytes left.
use Rattle.std.proofs.Common.{length, ◌-◌, ◌≡◌, ◌+◌, ◌≤◌}
use Rattle.std.proofs.Math.Seq.{paste}
use Rattle.common.proofs.put.Given as goal

abbrev pub invariant-loop-i : goal.invariant-loop-i
invariant-loop-i l = record {
  within : l.i ≤ length l.bytes;
  room : l.at + length l.bytes ≤ length l.initial.area;
  same_length : length l.area ≡ length l.initial.area;
  copied : l.area ≡ paste l.initial.area l.at l.bytes l.i;
}

abbrev pub decreases-loop-i : goal.decreases-loop-i
decreases-loop-i l = length l.bytes - l.i
