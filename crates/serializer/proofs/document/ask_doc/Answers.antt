-- `serializer::document::ask_doc` meets its contract: the questions are asked in the definition's order.
-- Assumes nothing.
use Rattle.std.proofs.Common.{sym, ◌∙◌}
use borrow.Author.Tests.{le-leb, lt-leb, lt-ltb, le-ltb}
use Rattle.format.specs.Accepted.{take_doc}
use Rattle.format.specs.Basics.{ask}
use Rattle.serializer.proofs.document.ask_doc.Goals as goal

pub returns-then-doc-ge-TERMINATED : goal.returns-then-doc-ge-TERMINATED
unfolding take_doc ask
returns-then-doc-ge-TERMINATED c = rw (le-ltb _ _ c.if-doc-ge-TERMINATED.true)

pub returns-then-doc-least : goal.returns-then-doc-least
unfolding take_doc ask
returns-then-doc-least c = rw (lt-ltb _ _ c.if-doc-ge-TERMINATED.false, lt-leb _ _ c.if-doc-least.true)

pub returns-then-not-freq_counts : goal.returns-then-not-freq_counts
unfolding take_doc ask
returns-then-not-freq_counts c =
    rw (lt-ltb _ _ c.if-doc-ge-TERMINATED.false, le-leb _ _ c.if-doc-least.false, sym c.freq_counts.ensures ∙ c.if-not-freq_counts.true)

pub returns : goal.returns
unfolding take_doc ask
returns c =
    rw (lt-ltb _ _ c.if-doc-ge-TERMINATED.false, le-leb _ _ c.if-doc-least.false, sym c.freq_counts.ensures ∙ c.if-not-freq_counts.false)
