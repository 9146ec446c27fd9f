-- `segment_postings::whole::read` meets its contract: the questions in turn, and then the walk, which nothing refuses.
-- Assumes nothing.
use Rattle.std.proofs.Common.{sym}
use Rattle.std.proofs.lemmas.Result.{IfOk-at_ok}
use Rattle.segment_postings.proofs.Laws.Exits.{passed_on, refuses_too}
use Rattle.segment_postings.proofs.Laws.ReadQuestions.{unlaid, unsound, docs-short, freqs-short, whole_walks, whole_is}
use Rattle.segment_postings.proofs.Laws.ReadQuestions.{whole-refused, whole-written}
use Rattle.segment_postings.proofs.whole.read.Goals as goal
use Rattle.segment_postings.proofs.whole.read.Goals.{then-docs-count-via-then-docs-count, then-docs-count-via-else-docs-count+then-freqs-count}

pub returns-in_err-laid : goal.returns-in_err-laid
returns-in_err-laid c =
    rw (passed_on c.from_residual.ensures.1) (whole-refused (unlaid _ _ _ _ (refuses_too _ c.lay_out.ensures.answer c.in_err-laid.was)))

pub returns-in_err-validate : goal.returns-in_err-validate
returns-in_err-validate c =
    let same = IfOk-at_ok _ c.in_ok-laid.was c.lay_out.ensures.image in
    rw (passed_on c.from_residual-in_err-validate.ensures.1) (whole-refused (unsound _ _ _ _ (rw (same.0, same.1) at c.in_ok-laid.laid.laid_out) (sym c.in_err-validate.ensures)))

pub returns-then-docs-count : goal.returns-then-docs-count
returns-then-docs-count c =
    let same = IfOk-at_ok _ c.in_ok-laid.was c.lay_out.ensures.image in
    let found = rw (same.0, same.1) at c.in_ok-laid.laid.laid_out in
    let sound = sym c.in_ok-validate.ensures in
    whole-refused
    (elim c.then-docs-count.branch [
      | then-docs-count-via-then-docs-count w ↦ docs-short _ _ _ _ found sound w.if-docs-count.true
      | then-docs-count-via-else-docs-count+then-freqs-count w ↦ freqs-short _ _ _ _ found sound w.if-freqs-count.true
    ])

-- the image sound, and room in both slices
pub read-requires : goal.read-requires
read-requires c =
    let same = IfOk-at_ok _ c.in_ok-laid.was c.lay_out.ensures.image in
    rw (same.0, same.1) (whole_walks _ _ _ _ (rw (same.0, same.1) at c.in_ok-laid.laid.laid_out) (sym c.in_ok-validate.ensures) c.if-docs-count.false c.if-freqs-count.false)

pub returns : goal.returns
returns c =
    let same = IfOk-at_ok _ c.in_ok-laid.was c.lay_out.ensures.image in
    let found = rw (same.0, same.1) at c.in_ok-laid.laid.laid_out in
    let sound = sym c.in_ok-validate.ensures in
    let walks = whole_walks _ _ _ _ found sound c.if-docs-count.false c.if-freqs-count.false in
    whole-written _ _ (whole_is _ _ _ _ found sound c.if-docs-count.false c.if-freqs-count.false) walks.sound (rw (same.0, same.1) at c.read.ensures)
