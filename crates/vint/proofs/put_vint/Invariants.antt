-- Putting the remaining bytes from `i` on gives what putting all of them from `at` on gives, and they end at the same place; the
-- measure is what remains of the value.
use Rattle.std.proofs.Common.{◌≡◌, ◌+◌, ◌^◌, ◌<◌, length}
use Rattle.format.specs.Basics.{put_at}
use Rattle.format.specs.Vint.{vint}
use Rattle.vint.proofs.put_vint.Given as goal

abbrev pub invariant-loop-remaining : goal.invariant-loop-remaining
invariant-loop-remaining l = record {
  fits : l.remaining < 2 ^ 64;
  place : l.i + length (vint l.remaining) ≡ l.at + length (vint l.value);
  put : put_at l.i (vint l.remaining) l.dst ≡ put_at l.at (vint l.value) l.initial.dst;
  kept : length l.dst ≡ length l.initial.dst;
}

abbrev pub decreases-loop-remaining : goal.decreases-loop-remaining
decreases-loop-remaining l = l.remaining
