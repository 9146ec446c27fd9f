-- `serializer::list::block_size` meets its contract: each width is at most 32.
-- Assumes nothing.
use Rattle.std.proofs.Common.{◌≤◌, ◌∙◌, arith}
use Rattle.format.proofs.Bitpacking.{width-le}
use Rattle.serializer.proofs.block.BlockPlaced.{block_of-length}
use Rattle.serializer.proofs.list.block_size.Goals as goal

pub overflow_add-docs_width : goal.overflow_add-docs_width
overflow_add-docs_width c =
    let docs : c.docs_width.result ≤ 32 = rw c.docs_width.ensures (width-le _) in
    let freqs : c.freqs_width.result ≤ 32 = rw c.freqs_width.ensures (width-le _) in
    omega arith

pub returns : goal.returns
returns c = c.compressed_block_size.ensures ∙ rw (c.docs_width.ensures, c.freqs_width.ensures, block_of-length)
