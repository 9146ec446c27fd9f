-- `listing::table::read_table` meets its contract: the first line is the line of names, and the rows are read from the place behind it on,
-- into the columns in the order of the names.
-- Assumes nothing.
use Rattle.std.proofs.Common.{◌∙◌, sym, ap, Some}
use Rattle.listing.proofs.Columns.{doc-freq, freq-doc, no_names}
use Rattle.listing.proofs.table.read_table.Goals as goal

pub returns-in-DocFreq : goal.returns-in-DocFreq
returns-in-DocFreq c =
    let named = sym c.read_names.ensures ∙ (c.in_ok-read_names.was ∙ ap Some c.in-DocFreq.is) in
    doc-freq _ c.line_end-end.result c.line_end-end.ensures.0 named c.read_rows.ensures

pub returns-in-FreqDoc : goal.returns-in-FreqDoc
returns-in-FreqDoc c =
    let named = sym c.read_names.ensures ∙ (c.in_ok-read_names.was ∙ ap Some c.in-FreqDoc.is) in
    freq-doc _ c.line_end-end.result c.line_end-end.ensures.0 named c.read_rows-in-FreqDoc.ensures

pub returns-in_err-read_names : goal.returns-in_err-read_names
returns-in_err-read_names c =
    rw c.from_residual.ensures
    (no_names _ c.line_end-end.result c.line_end-end.ensures.0 _ _ (sym c.read_names.ensures ∙ c.in_err-read_names.was))
