-- `segment_postings::arrays::answer_at` meets its contract: its test is the definition's.
-- Assumes nothing.
use Rattle.std.proofs.Common.{sym, ap, ◌∙◌, Ok, arith}
use Rattle.segment_postings.proofs.Laws.LandingParts.{answering-at, answering_nowhere}
use Rattle.segment_postings.proofs.arrays.answer_at.Goals as goal

pub returns-then-held-ge-COMPRESSION_BLOCK_SIZE : goal.returns-then-held-ge-COMPRESSION_BLOCK_SIZE
returns-then-held-ge-COMPRESSION_BLOCK_SIZE c = sym (answering_nowhere _ _ c.if-held-ge-COMPRESSION_BLOCK_SIZE.true)

pub returns : goal.returns
returns c = ap Ok c.shown_at.ensures ∙ sym (answering-at _ _ (omega arith))
