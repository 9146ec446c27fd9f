-- `serializer::list::WholeList::entries_size` meets its contract: a slice holds so few ids that the entries' bytes fit.
-- Assumes nothing.
use Rattle.std.proofs.Common.{◌/◌, length, arith}
use Rattle.serializer.proofs.Laws.BlockPlaces.{entries_fit}
use Rattle.serializer.proofs.list.WholeList.entries_size.Goals as goal

pub overflow_mul-result : goal.overflow_mul-result
overflow_mul-result c =
    rw c.entry_size.ensures (record { fits = entries_fit c.args.self.now.option (length c.args.self.now.ids.now / 128) (omega arith) })
