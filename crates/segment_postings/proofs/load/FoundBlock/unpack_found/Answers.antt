-- `segment_postings::load::FoundBlock::unpack_found` meets its contract: what `load_block` leaves in the arrays is the cursor's, and its answer
-- with the numbers of the block found makes the cursor's numbers.
-- Assumes nothing.
use Rattle.std.proofs.Common.{arith}
use Rattle.segment_postings.proofs.Laws.Exits.{passed_on}
use Rattle.segment_postings.proofs.Laws.LandingParts.{first, unpacked_there, unpacked_refused}
use Rattle.segment_postings.proofs.load.FoundBlock.unpack_found.Goals as goal

pub overflow_add-result : goal.overflow_add-result
overflow_add-result c = omega (arith, c.block_size.ensures, c.args.self.now.there.2)

pub returns : goal.returns
unfolding first
returns c = unpacked_there c.load.ensures c.in_ok-loaded.was c.block_size.ensures

pub returns-in_err-loaded : goal.returns-in_err-loaded
returns-in_err-loaded c =
    rw (passed_on c.from_residual.ensures.1) (unpacked_refused c.load.ensures c.in_err-loaded.was)
