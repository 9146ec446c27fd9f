use Rattle.std.proofs.Common.{◌≡◌, ◌≤◌, length}
use Rattle.std.proofs.Common.{◌&&◌ as and}
use Rattle.format.specs.Values.{countable}
use Rattle.serializer.specs.Pieces.{climbing}
use Rattle.serializer.proofs.bounds.Waiting.{left}
use Rattle.serializer.proofs.bounds.climbs_counted.Given as goal

-- the ids climb and the frequencies count if those before place i did and those from there on do, of the ids from the one before it on
abbrev pub invariant-loop-i : goal.invariant-loop-i
invariant-loop-i l = record {
  some : 1 ≤ l.i;
  within : l.i ≤ length l.docs;
  as_many : length l.docs ≡ length l.freqs;
  so_far : and (climbing l.docs) (countable l.freqs) ≡ and l.holds (left l.docs l.freqs l.i);
}
