-- `segment_postings::validate::validate` meets its contract: what a reading refuses is what the layout refuses, or what the walk finds.
-- Assumes nothing.
use Rattle.std.proofs.Common.{sym, ◌∙◌}
use Rattle.std.proofs.lemmas.Result.{IfOk-at_ok}
use Rattle.format.specs.Reading.{nothing, read_all}
use Rattle.format.proofs.Opened.{reading-is, soundness-is}
use Rattle.segment_postings.proofs.Laws.Exits.{passed_on, refuses_too}
use Rattle.segment_postings.proofs.validate.validate.Goals as goal

pub returns : goal.returns
returns c =
    let same = IfOk-at_ok _ c.in_ok-lay_out.was c.lay_out.ensures.image in
    (rw (same.0, same.1) at c.walk.ensures) ∙ sym (soundness-is _ _ _)

pub returns-in_err-lay_out : goal.returns-in_err-lay_out
unfolding read_all nothing
returns-in_err-lay_out c =
    let none = refuses_too _ c.lay_out.ensures.answer c.in_err-lay_out.was in
    rw (passed_on c.from_residual.ensures.1, soundness-is, reading-is, none)
