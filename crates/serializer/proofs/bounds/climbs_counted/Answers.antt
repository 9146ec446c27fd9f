-- `serializer::bounds::climbs_counted` meets its contract. The invariant: the ids climb and the frequencies count if those before place i did
-- and those from there on do, of the ids from the one before it on.
-- Assumes nothing.
use Rattle.std.proofs.Common.{◌≤◌, arith, get_or}
use Rattle.serializer.proofs.bounds.Waiting.{both-begin, both-on, both_end}
use Rattle.serializer.proofs.bounds.climbs_counted.Goals as goal

pub loop-i-init : goal.loop-i-init
loop-i-init c = record {
  some = omega arith;
  within = omega arith;
  as_many = c.requires.1;
  so_far = both-begin c.args.docs.now c.args.freqs.now (omega arith) (omega (arith, c.type_inv.freqs 0));
}

pub loop-i-preserved : goal.loop-i-preserved
loop-i-preserved c =
    let l = c.loop-i in
    let fits : get_or c.args.freqs.now l.i 0 ≤ 4294967295 = omega (arith, c.type_inv.freqs l.i) in
    record {
      some = omega arith;
      within = omega arith;
      as_many = l.invariant.as_many;
      so_far = both-on _ _ l.i l.holds l.invariant.some l.invariant.so_far (omega arith) (omega arith) fits;
    }

pub returns : goal.returns
returns c = let l = c.loop-i in both_end _ _ l.i l.holds l.invariant.some l.invariant.so_far (omega arith) l.invariant.as_many
