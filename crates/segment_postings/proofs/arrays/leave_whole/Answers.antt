-- `segment_postings::arrays::leave_whole` meets its contract: its own arrays are stored where `leave` came somewhere.
-- Assumes nothing.
use Rattle.segment_postings.proofs.Laws.Exits.{passed_on}
use Rattle.segment_postings.proofs.Laws.LandingParts.{stored-reached, left-reached}
use Rattle.segment_postings.proofs.arrays.leave_whole.Goals as goal

pub returns : goal.returns
returns c = rw (← c.in_ok-reached.was) (stored-reached c.leave.ensures c.in_ok-reached.was)

pub returns-in_err-reached : goal.returns-in_err-reached
returns-in_err-reached c =
    rw (passed_on c.from_residual.ensures.1, ← c.in_err-reached.was) (left-reached c.leave.ensures c.in_err-reached.was)
