-- `serializer::arrays::close_term_in` meets its contract: what `close` answers says which numbers are left.
-- Assumes nothing.
use Rattle.serializer.specs.Calls.{progress_of_of, state_of}
use Rattle.serializer.proofs.image.CloseCases.{closed_refused, closed_done}
use Rattle.serializer.proofs.arrays.close_term_in.Goals as goal

pub returns-in-Err : goal.returns-in-Err
unfolding state_of progress_of_of
returns-in-Err c = closed_refused c.close-answer.ensures c.in-Err.is

pub returns-in-Ok : goal.returns-in-Ok
unfolding state_of progress_of_of
returns-in-Ok c = rw c.fresh.ensures (closed_done c.close-answer.ensures c.in-Ok.is)
