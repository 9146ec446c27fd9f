-- `serializer::list::WholeList::image` meets its contract: what lies behind the full blocks is the tail.
-- Assumes nothing.
use Rattle.serializer.proofs.Laws.BlockPlaces.{image-parts}
use Rattle.serializer.proofs.list.WholeList.image.Goals as goal

pub returns : goal.returns
returns c =
    let list = c.args.self.now in
    image-parts list.option list.ids.now list.freqs.now _ _ list.checked.as_many c.tail-tail.ensures
