-- `vint::size_of` meets its contract: a turn counts one value more, and at most five bytes for each, so the sum fits.
use Rattle.std.proofs.Common.{arith}
use Rattle.format.proofs.VintCode.{length-vint}
use Rattle.vint.proofs.Runs.{numbers-next, numbers-end, counted_next, counted-end}
use Rattle.vint.proofs.size_of.Goals as goal

pub overflow_add-size : goal.overflow_add-size
overflow_add-size g c = omega (arith, length-vint 4 c.written_number.result (omega arith))

pub loop-value-preserved : goal.loop-value-preserved
loop-value-preserved g c =
    let l = c.loop-value in
    rw (c.vint_size-size.ensures, c.written_number.ensures)
    (counted_next (numbers-next _ l.previous c.args.values.now l.value-index c.loop-value-test.true) (rw c.written_number.ensures at c.written_number.type_inv) l.invariant)

pub returns : goal.returns
returns g c = counted-end (numbers-end _ _ _ c.loop-value-test.false) c.loop-value.invariant
