-- `serializer::bounds::climbs` meets its contract. The invariant: the ids climb if those before place i did and those from the one before
-- it on do.
-- Assumes nothing.
use Rattle.std.proofs.Common.{arith}
use Rattle.serializer.proofs.bounds.Waiting.{climbing-on, climbing-end}
use Rattle.serializer.proofs.bounds.climbs.Goals as goal

pub loop-i-preserved : goal.loop-i-preserved
loop-i-preserved c =
    let l = c.loop-i in
    record { some = omega arith; within = omega arith; so_far = climbing-on _ l.i l.above l.invariant.some l.invariant.so_far (omega arith) }

pub returns : goal.returns
returns c =
    let l = c.loop-i in
    climbing-end _ l.i l.above l.invariant.some l.invariant.so_far (omega arith)
