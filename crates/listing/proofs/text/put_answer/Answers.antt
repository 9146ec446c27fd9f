-- `listing::text::put_answer` meets its contract: the three numbers one behind the other are the line of the answer, and each has 21 bytes of room.
-- Assumes nothing.
use Rattle.std.proofs.Common.{arith}
use Rattle.listing.proofs.Putting.{field_room, puts-line, puts-refused}
use Rattle.listing.proofs.text.put_answer.Goals as goal

pub returns-in_default : goal.returns-in_default
returns-in_default c = puts-refused _ c.in_default.is (omega arith)

pub put_number-last-requires : goal.put_number-last-requires
put_number-last-requires c = field_room _ _ 21 c.put_number-next.ensures (omega arith)

pub put_number-requires : goal.put_number-requires
put_number-requires c =
    field_room _ _ 21 c.put_number-last.ensures (omega (arith, field_room _ _ 42 c.put_number-next.ensures (omega arith)))

pub returns : goal.returns
returns c = puts-line _ c.in-Ok.is c.put_number-next.ensures c.put_number-last.ensures c.put_number.ensures
