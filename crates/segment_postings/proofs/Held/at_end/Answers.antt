-- `segment_postings::Held::at_end` meets its contract: a position's block and place are the quotient and the remainder of the count.
-- Assumes nothing.
use Rattle.std.proofs.Common.{◌∙◌}
use borrow.Author.Tests.{ne_eqb}
use Rattle.segment_postings.specs.Cursor.{position}
use Rattle.segment_postings.proofs.arrays.Question16.{other_block, last_block}
use Rattle.segment_postings.proofs.Held.at_end.Goals as goal

pub returns-then-self-full_blocks : goal.returns-then-self-full_blocks
unfolding position
returns-then-self-full_blocks c = last_block _ _ _ c.requires (c.if-self-full_blocks.true ∙ c.full_blocks.ensures)

pub returns-else-self-full_blocks : goal.returns-else-self-full_blocks
unfolding position
returns-else-self-full_blocks c =
    let other = rw c.full_blocks.ensures at c.if-self-full_blocks.false in
    rw c.full_blocks.ensures (ne_eqb _ _ other ∙ other_block _ _ _ c.requires other)
