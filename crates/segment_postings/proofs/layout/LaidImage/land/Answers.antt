-- `segment_postings::layout::LaidImage::land` meets its contract: a landing is the block found, unpacked.
-- Assumes nothing.
use Rattle.std.proofs.Common.{sym, arith}
use Rattle.segment_postings.proofs.Laws.Exits.{passed_on}
use Rattle.segment_postings.proofs.find.FoundBlock.{found-there}
use Rattle.segment_postings.proofs.Laws.LandingParts.{lands_as, none-lands, landing-found, landing-refused}
use Rattle.segment_postings.proofs.layout.LaidImage.land.Goals as goal

pub invariant_of-block : goal.invariant_of-block
invariant_of-block c =
    let there = found-there _ _ _ _ _ c.requires.0 (sym c.in_ok-found.ensures) in
    record { there = (there, c.requires.1, omega (arith, there.bytes)) }

pub returns : goal.returns
returns c = lands_as (landing-found _ _ _ _ _ (sym c.in_ok-found.ensures)) c.unpack_found.ensures

pub returns-in_err-found : goal.returns-in_err-found
returns-in_err-found c =
    rw (passed_on c.from_residual.ensures.1) (none-lands _ _ (landing-refused _ _ _ _ _ (sym c.in_err-found.ensures)))
