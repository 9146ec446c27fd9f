-- `listing::table::read_rows` meets its contract: a line is the part of the text from the present place to the next line feed. One that is no
-- row ends the table, and a row has three bytes or more, so that there is room for all of them.
-- Assumes nothing.
use Rattle.std.proofs.Common.{ℕ, ◌+◌, ◌∙◌, sym, ap, arith}
use Rattle.listing.proofs.Columns.{none_read, all_read, not-read, one-read}
use Rattle.listing.proofs.Lines.{line_part}
use Rattle.listing.proofs.Numbers.{row-long}
use Rattle.listing.proofs.table.read_rows.Goals as goal

pub loop-at-init : goal.loop-at-init
loop-at-init c = none_read _ c.args.start (omega arith) (omega arith)

pub returns-in_err-first : goal.returns-in_err-first
returns-in_err-first c =
    let none = sym c.read_row.ensures ∙ c.in_err-first.was in
    rw c.from_residual.ensures
    (not-read _ c.loop-at.invariant c.loop-at-test.true (rw (line_part _ c.loop-at.at c.line_end-end.result c.line_end-end.ensures.0) at none))

pub loop-at-preserved : goal.loop-at-preserved
loop-at-preserved c =
    let told = sym c.read_row.ensures ∙ c.in_ok-first.was in
    let two = rw (line_part _ c.loop-at.at c.line_end-end.result c.line_end-end.ensures.0) at told in
    one-read _ c.loop-at.invariant c.loop-at-test.true _ _ _ two (row-long _ _ _ two) (omega arith) (ap (λ (n : ℕ). n + 1) c.line_end-end.ensures.0)

pub returns : goal.returns
returns c = all_read _ c.loop-at.invariant c.loop-at-test.false
