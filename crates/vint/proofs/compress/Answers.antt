-- `vint::compress` meets its contract: the size is asked first, and a turn puts the number of one value more.
use Rattle.vint.proofs.Runs.{numbers-next, numbers-end, written-room, written_next, written-end}
use Rattle.vint.proofs.compress.Goals as goal

pub put_vint-next-requires : goal.put_vint-next-requires
put_vint-next-requires g c =
    rw c.written_number.ensures (written-room (numbers-next _ _ _ c.loop-value.value-index c.loop-value-test.true) c.loop-value.invariant)

pub loop-value-preserved : goal.loop-value-preserved
loop-value-preserved g c =
    let put = c.put_vint-next.ensures in
    rw (put.value, put.dst_after, c.written_number.ensures)
    (written_next (numbers-next _ _ _ c.loop-value.value-index c.loop-value-test.true) c.loop-value.invariant)

pub returns : goal.returns
returns g c =
    let p = written-end (numbers-end _ _ _ c.loop-value-test.false) c.loop-value.invariant in
    record { value = p.0; dst_after = p.1 }
