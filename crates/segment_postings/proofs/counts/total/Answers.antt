-- Question 10, those of the layout, and then the walk.
use Rattle.std.proofs.Common.{sym, ◌∙◌}
use Rattle.std.proofs.lemmas.Result.{IfOk-at_ok}
use Rattle.segment_postings.proofs.Laws.Exits.{passed_on, refuses_too}
use Rattle.segment_postings.proofs.counts.TotalInBlocks.{total_too_far, total-within, total_unlaid}
use Rattle.segment_postings.proofs.counts.total.Goals as goal

pub returns-then-target-gt-TERMINATED : goal.returns-then-target-gt-TERMINATED
returns-then-target-gt-TERMINATED c = sym (total_too_far _ _ _ _ c.if-target-gt-TERMINATED.true)

pub returns-in_err-lay_out : goal.returns-in_err-lay_out
returns-in_err-lay_out c =
    rw (passed_on c.from_residual.ensures.1)
    (sym (total-within _ _ _ _ c.if-target-gt-TERMINATED.false ∙ total_unlaid _ _ _ (refuses_too _ c.lay_out.ensures.answer c.in_err-lay_out.was)))

pub returns : goal.returns
returns c =
    let same = IfOk-at_ok _ c.in_ok-lay_out.was c.lay_out.ensures.image in
    (rw (same.0, same.1) at c.total.ensures) ∙ sym (total-within _ _ _ _ c.if-target-gt-TERMINATED.false)
