-- `vint::vint_size` meets its contract: a turn counts one byte, which `vint-more` takes from the rest, and behind the loop one is left.
use Rattle.std.proofs.Common.{ap, length, arith}
use Rattle.format.proofs.VintCode.{vint-last, vint-more, length-vint}
use Rattle.vint.proofs.vint_size.Goals as goal

pub overflow_add-size : goal.overflow_add-size
overflow_add-size c = omega (arith, length-vint 9 c.args.value (omega arith))

pub loop-rest-preserved : goal.loop-rest-preserved
loop-rest-preserved c = record {
  fits = omega arith;
  counted = omega (arith, ap length (vint-more c.loop-rest.rest c.loop-rest-test.true c.loop-rest.invariant.fits));
}

pub returns : goal.returns
returns c = omega (arith, ap length (vint-last c.loop-rest.rest c.loop-rest-test.false))
