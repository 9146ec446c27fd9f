-- `segment_postings::arrays::leave` meets its contract: another block is a landing from the next one on, once questions 1 to 4 are
-- answered again and the next block begins inside the posting bytes. The cursor's numbers are in bounds, so that no sum wraps.
-- Assumes nothing.
use Rattle.std.proofs.Common.{sym, ◌∙◌, ◌+◌, ◌^◌, ◌<◌, arith}
use Rattle.std.proofs.lemmas.Result.{IfOk-at_ok}
use Rattle.segment_postings.proofs.Laws.Exits.{passed_on, refuses_too}
use Rattle.segment_postings.proofs.arrays.Question16.{bounded}
use Rattle.segment_postings.proofs.Laws.LandingParts.{lands_as, none-lands, leaving-laid, leaving_early, leaving-refused, leaves-from}
use Rattle.segment_postings.proofs.arrays.leave.Goals as goal

pub returns-then-not-starts_inside : goal.returns-then-not-starts_inside
returns-then-not-starts_inside c =
    let same = IfOk-at_ok _ c.in_ok-laid.was c.lay_out.ensures.image in
    none-lands _ _
    (leaving_early _ _ _ _ (rw (same.0, same.1) at c.in_ok-laid.laid.laid_out)
    (rw (c.start_behind-from.ensures, same.0) at (sym c.starts_inside.ensures ∙ c.if-not-starts_inside.true)))

pub land-requires : goal.land-requires
land-requires c =
    let same = IfOk-at_ok _ c.in_ok-laid.was c.lay_out.ensures.image in
    let b = bounded _ _ _ c.requires.0 in
    let few : c.args.held.unpacked + 1 < 2 ^ 64 = omega (arith, b) in
    rw (c.start_behind-from.ensures, same.0, same.1) (leaves-from _ _ _ b c.requires.1, few)

pub returns : goal.returns
returns c =
    let same = IfOk-at_ok _ c.in_ok-laid.was c.lay_out.ensures.image in
    lands_as
    (leaving-laid _ _ _ _ (rw (same.0, same.1) at c.in_ok-laid.laid.laid_out)
    (rw (c.start_behind-from.ensures, same.0) at (sym c.starts_inside.ensures ∙ c.if-not-starts_inside.false)))
    (rw (c.start_behind-from.ensures, same.0, same.1) at c.land.ensures)

pub returns-in_err-laid : goal.returns-in_err-laid
returns-in_err-laid c =
    rw (passed_on c.from_residual.ensures.1) (none-lands _ _ (leaving-refused _ _ _ _ (refuses_too _ c.lay_out.ensures.answer c.in_err-laid.was)))
