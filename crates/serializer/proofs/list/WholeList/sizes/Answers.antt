-- `serializer::list::WholeList::sizes` meets its contract: the entries are as many as the full blocks, all of one size.
-- Assumes nothing.
use Rattle.std.proofs.Common.{sym, ◌∙◌}
use Rattle.serializer.proofs.Laws.BlockPlaces.{full-skips}
use Rattle.serializer.proofs.list.WholeList.sizes.Goals as goal

pub returns : goal.returns
returns c = record {
  checked = c.args.self.now.checked;
  entries_are = c.entries_size.ensures ∙ sym (full-skips _ c.args.self.now.ids.now c.args.self.now.freqs.now);
  blocks_are = c.blocks_size.ensures;
}
