-- What a branch answers is its definition, opened, at the test that led there.
use Rattle.std.proofs.Common.{rules}
use Rattle.serves.specs.Mark.{marks, marks_seen, marks_last}
use Rattle.serves.proofs.mark.Goals as goal

pub returns-then-next-lt16 : goal.returns-then-next-lt16
unfolding marks marks_seen marks_last
returns-then-next-lt16 c = search rules

pub returns-else-next-lt16 : goal.returns-else-next-lt16
unfolding marks marks_seen marks_last
returns-else-next-lt16 c = search rules
