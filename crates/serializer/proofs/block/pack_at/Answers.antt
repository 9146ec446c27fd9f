-- `serializer::block::pack_at` meets its contract: the part that is lent comes back with the packed values at its front.
-- Assumes nothing.
use Rattle.serializer.proofs.block.BlockPlaced.{packed_part}
use Rattle.serializer.proofs.block.pack_at.Goals as goal

pub returns : goal.returns
returns c = packed_part c.args.at c.args.width _ _ _ _ c.requires.0 c.requires.1 c.pack.ensures
