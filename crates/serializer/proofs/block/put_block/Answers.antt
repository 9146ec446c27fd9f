-- `serializer::block::put_block` meets its contract: the frequencies go behind the documents, so that both are put as one.
-- Assumes nothing.
use Rattle.std.proofs.Common.{rules}
use Rattle.format.specs.SkipEntry.{block_size_of}
use Rattle.serializer.proofs.block.BlockPlaced.{block-put}
use Rattle.serializer.proofs.block.put_block.Goals as goal

pub pack_at-requires : goal.pack_at-requires
unfolding block_size_of
pack_at-requires c = search rules

pub pack_at-requires-2 : goal.pack_at-requires-2
unfolding block_size_of
pack_at-requires-2 c = search rules

pub returns : goal.returns
returns c =
    let a = c.args in
    block-put a.option a.info a.at _ _ _ _
    c.requires c.entry_size.ensures c.compressed_block_size.ensures c.compressed_block_size-2.ensures
    c.write_entry.ensures.area c.pack_at.ensures c.pack_at-2.ensures
