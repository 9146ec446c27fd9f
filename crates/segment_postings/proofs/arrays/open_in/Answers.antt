-- `segment_postings::arrays::open_in` meets its contract: its own arrays are stored where `land_first` came somewhere.
-- Assumes nothing.
use Rattle.segment_postings.proofs.Laws.Exits.{passed_on}
use Rattle.segment_postings.proofs.Laws.LandingParts.{stored-reached, left-reached}
use Rattle.segment_postings.proofs.arrays.open_in.Goals as goal

pub returns : goal.returns
returns c = rw (← c.in_ok-held.was) (stored-reached c.land_first.ensures c.in_ok-held.was)

pub returns-in_err-held : goal.returns-in_err-held
returns-in_err-held c =
    rw (passed_on c.from_residual.ensures.1, ← c.in_err-held.was) (left-reached c.land_first.ensures c.in_err-held.was)
