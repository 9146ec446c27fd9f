-- `serializer::image::Image::put_head` meets its contract: the entries go behind their length.
-- Assumes nothing.
use Rattle.std.proofs.Common.{◌+◌, ◌≤◌, ◌++◌, length, arith, zero-add}
use Rattle.format.specs.Vint.{vint}
use Rattle.format.proofs.Area.{fits-front}
use Rattle.serializer.proofs.Laws.ImagePieces.{head_none, head_some, put-none, put_there, put_next, put_both, room-behind}
use Rattle.serializer.proofs.image.Image.put_head.Goals as goal

pub returns-then-self-eq0 : goal.returns-then-self-eq0
returns-then-self-eq0 c = rw (head_none _ _ c.if-self-eq0.true) (put-none 0 _)

pub unwrap-at-requires : goal.unwrap-at-requires
unwrap-at-requires c =
    let skips = c.args.self.now.skips.now in
    let output = c.args.output.now in
    let room = rw (head_some _ skips c.if-self-eq0.false) at c.requires in
    put_there 0 (vint (length skips)) output (fits-front 0 (vint (length skips)) skips output (rw zero-add room)) c.write_vint.ensures.value

pub unwrap-requires : goal.unwrap-requires
unwrap-requires c =
    let skips = c.args.self.now.skips.now in
    let output = c.args.output.now in
    let room = rw (head_some _ skips c.if-self-eq0.false) at c.requires in
    let first = put_next 0 (vint (length skips)) output (fits-front 0 (vint (length skips)) skips output (rw zero-add room))
    c.unwrap-at.ensures c.write_vint.ensures.value c.write_vint.ensures.dst_after in
    put_there _ skips _ (room-behind 0 (vint (length skips)) skips output (rw zero-add room) first) c.put.ensures.next

pub returns : goal.returns
returns c =
    let skips = c.args.self.now.skips.now in
    let output = c.args.output.now in
    let some = head_some _ skips c.if-self-eq0.false in
    let room : 0 + length (vint (length skips) ++ skips) ≤ length output = rw (← some) (omega (arith, c.requires)) in
    let first = put_next 0 (vint (length skips)) output (fits-front 0 (vint (length skips)) skips output room)
    c.unwrap-at.ensures c.write_vint.ensures.value c.write_vint.ensures.dst_after in
    let second = put_next _ skips _ (room-behind 0 (vint (length skips)) skips output room first)
    c.unwrap.ensures c.put.ensures.next c.put.ensures.area in
    rw some (put_both 0 (vint (length skips)) skips output room first second)
