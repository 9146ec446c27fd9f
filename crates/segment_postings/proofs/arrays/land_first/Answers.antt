-- `segment_postings::arrays::land_first` meets its contract: opening is a landing from block 0 on, once questions 1 to 4 are answered.
-- Assumes nothing.
use Rattle.std.proofs.Common.{arith}
use Rattle.std.proofs.lemmas.Result.{IfOk-at_ok}
use Rattle.segment_postings.proofs.Laws.Exits.{passed_on, refuses_too}
use Rattle.segment_postings.proofs.Laws.LandingParts.{lands_as, none-lands, opening-laid, opening-refused, opens-from}
use Rattle.segment_postings.proofs.arrays.land_first.Goals as goal

pub land-requires : goal.land-requires
land-requires c = rw c.first_start.ensures (opens-from _ _ c.in_ok-laid.laid.laid_out, omega arith)

pub returns : goal.returns
returns c =
    let same = IfOk-at_ok _ c.in_ok-laid.was c.lay_out.ensures.image in
    lands_as (opening-laid _ _ (rw (same.0, same.1) at c.in_ok-laid.laid.laid_out)) (rw (c.first_start.ensures, same.0, same.1) at c.land.ensures)

pub returns-in_err-laid : goal.returns-in_err-laid
returns-in_err-laid c =
    rw (passed_on c.from_residual.ensures.1) (none-lands _ _ (opening-refused _ _ (refuses_too _ c.lay_out.ensures.answer c.in_err-laid.was)))
