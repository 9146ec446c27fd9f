-- `serializer::block::last_of` meets its contract.
-- Assumes nothing.
use Rattle.std.proofs.lemmas.Option.{unwrap_or-slice_get}
use Rattle.serializer.proofs.block.BlockPlaced.{last-at}
use Rattle.serializer.proofs.block.last_of.Goals as goal

pub returns : goal.returns
returns c = rw (c.unwrap_or.ensures, c.copied.ensures, c.last.ensures.value, unwrap_or-slice_get, last-at)
