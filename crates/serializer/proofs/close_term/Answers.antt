-- `serializer::close_term` meets its contract: the state is taken apart, and what the call on its numbers and arrays answers says which is
-- left, the same or a fresh one.
-- Assumes nothing.
use Rattle.serializer.specs.Calls.{ClosedFrom}
use Rattle.serializer.proofs.Laws.ByValue.{closed_again, closed_yes, closed_no}
use Rattle.serializer.proofs.close_term.Goals as goal
use Rattle.serializer.proofs.close_term.Goals.{After-close_term_in-closed}

-- what the call left, of the state that was passed
left : (c : After-close_term_in-closed) → let a = c.args in
    ClosedFrom a.state a.announced a.skips.now a.postings.now a.output.now c.close_term_in-closed.new.output c.close_term_in-closed.result
left c = closed_again c.args.state c.into.ensures c.close_term_in-closed.ensures

pub returns-in-Err : goal.returns-in-Err
returns-in-Err c = closed_no (left (goal.at.returns-in-Err c).After-close_term_in-closed) c.in-Err.is

pub returns-in-Ok : goal.returns-in-Ok
returns-in-Ok c = rw c.fresh.ensures (closed_yes (left (goal.at.returns-in-Ok c).After-close_term_in-closed) c.in-Ok.is)
