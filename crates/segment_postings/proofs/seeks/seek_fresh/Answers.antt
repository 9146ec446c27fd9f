-- `segment_postings::seeks::seek_fresh` meets its contract: what opening came to, and then the seek.
-- Assumes nothing.
use Rattle.std.proofs.Common.{sym, ap, ◌∙◌}
use Rattle.segment_postings.proofs.Laws.Exits.{passed_on}
use Rattle.segment_postings.specs.Calls.{reached}
use Rattle.segment_postings.proofs.Laws.LandingParts.{landed_at, landed_nowhere}
use Rattle.segment_postings.proofs.Laws.SeekFinds.{found-at, found_nowhere}
use Rattle.segment_postings.proofs.seeks.SeekCases.{fresh_unopened, fresh-opened}
use Rattle.segment_postings.proofs.seeks.seek_fresh.Goals as goal

pub returns : goal.returns
unfolding reached
returns c =
    sym (ap reached (fresh-opened _ _ _ (landed_at c.land_first.ensures c.in_ok-first.was) ∙ found-at c.seek_in.ensures c.in_ok-sought.was))

pub returns-in_err-first : goal.returns-in_err-first
unfolding reached
returns-in_err-first c =
    rw (passed_on c.from_residual.ensures.1) (sym (ap reached (fresh_unopened _ _ _ (landed_nowhere c.land_first.ensures c.in_err-first.was))))

pub returns-in_err-sought : goal.returns-in_err-sought
unfolding reached
returns-in_err-sought c =
    rw (passed_on c.from_residual-in_err-sought.ensures.1)
    (sym (ap reached (fresh-opened _ _ _ (landed_at c.land_first.ensures c.in_ok-first.was) ∙ found_nowhere c.seek_in.ensures c.in_err-sought.was)))
