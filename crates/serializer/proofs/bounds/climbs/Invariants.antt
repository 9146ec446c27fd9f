use Rattle.std.proofs.Common.{◌≡◌, ◌-◌, ◌≤◌, length, drop}
use Rattle.std.proofs.Common.{◌&&◌ as and}
use Rattle.serializer.specs.Pieces.{climbing}
use Rattle.serializer.proofs.bounds.climbs.Given as goal

-- the ids climb if those before place i did and those from the one before it on do
abbrev pub invariant-loop-i : goal.invariant-loop-i
invariant-loop-i l = record {
  some : 1 ≤ l.i;
  within : l.i ≤ length l.docs;
  so_far : climbing l.docs ≡ and l.above (climbing (drop (l.i - 1) l.docs));
}
