-- `vint::put_vint` meets its contract: a turn puts the first of the remaining bytes, and behind the loop one is left.
use Rattle.std.proofs.Common.{sym, ap, ◌∙◌, length, arith}
use Rattle.std.proofs.Math.ListN.{length-set}
use Rattle.format.proofs.Area.{put_at-one, put_at-cons}
use Rattle.format.proofs.VintCode.{vint-last, vint-more}
use Rattle.vint.proofs.put_vint.Goals as goal

pub bounds-dst-i : goal.bounds-dst-i
bounds-dst-i c = omega (arith, ap length (vint-more _ c.loop-remaining-test.true c.loop-remaining.invariant.fits))

pub loop-remaining-preserved : goal.loop-remaining-preserved
loop-remaining-preserved c =
    let l = c.loop-remaining in
    let more = vint-more l.remaining c.loop-remaining-test.true l.invariant.fits in
    record {
      fits = omega arith;
      place = omega (arith, ap length more);
      put = put_at-cons _ _ _ l.dst (omega (arith, ap length more)) ∙ (rw more at l.invariant.put);
      kept = simp length-set (omega arith);
    }

pub bounds-dst-i-2 : goal.bounds-dst-i-2
bounds-dst-i-2 c = omega (arith, ap length (vint-last _ c.loop-remaining-test.false))

pub returns-clause-value : goal.returns-clause-value
returns-clause-value c = omega (arith, ap length (vint-last _ c.loop-remaining-test.false))

pub returns-clause-dst_after : goal.returns-clause-dst_after
returns-clause-dst_after c =
    let l = c.loop-remaining in
    let last = vint-last l.remaining c.loop-remaining-test.false in
    sym (put_at-one _ _ l.dst (omega (arith, ap length last))) ∙ (rw last at l.invariant.put)
