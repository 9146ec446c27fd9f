-- `segment_postings::seeks::seek_behind` meets its contract: from a full block, the block that `leave_whole` came to, and what the search
-- answers in it.
-- Assumes nothing.
use Rattle.std.proofs.Common.{◌/◌, ◌<◌, arith}
use Rattle.segment_postings.proofs.Laws.Exits.{passed_on}
use Rattle.segment_postings.proofs.Laws.SeekFinds.{none-found, finds_as}
use Rattle.segment_postings.proofs.seeks.SeekCases.{then_nowhere, then_placed, behind-tail, behind-full}
use Rattle.segment_postings.proofs.seeks.seek_behind.Goals as goal

pub returns-then-full_blocks-held : goal.returns-then-full_blocks-held
returns-then-full_blocks-held c = none-found _ _ (behind-tail _ _ _ _ (omega arith))

pub returns : goal.returns
returns c =
    let full : c.args.held.block < c.args.term.count / 128 = omega arith in
    finds_as (behind-full _ _ _ _ full) (then_placed c.leave_whole.ensures c.in_ok-landed.was (c.place_in.ensures _))

pub returns-in_err-landed : goal.returns-in_err-landed
returns-in_err-landed c =
    let full : c.args.held.block < c.args.term.count / 128 = omega arith in
    rw (passed_on c.from_residual.ensures.1) (finds_as (behind-full _ _ _ _ full) (then_nowhere c.leave_whole.ensures _ c.in_err-landed.was))
