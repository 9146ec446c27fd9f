-- `serializer::block::write_block` meets its contract: the values are the block's own and so is what its entry says, so what is tested
-- is whether its bytes fit, and what is written are its bytes.
-- Assumes nothing.
use Rattle.std.proofs.Common.{◌≡◌, true, sym, ◌∙◌}
use Rattle.format.specs.declared.BlockInfo.{BlockInfo}
use Rattle.format.specs.Written.{doc_values}
use Rattle.serializer.specs.Pieces.{block_fits}
use Rattle.serializer.proofs.block.BlockPlaced.{Valued, values_are, valued_fits, valued-room, block_refused, block_written}
use Rattle.serializer.proofs.block.write_block.Goals as goal
use Rattle.serializer.proofs.block.write_block.Goals.{After-has_room}

module _ (c : After-has_room) where
  abbrev info : BlockInfo
  info = record {
    last_doc = c.last_of.result;
    doc_width = c.num_bits.result;
    strict = true;
    freq_width = c.freq_width.result;
  }

  -- the values and what the entry says are the block's own
  valued : Valued c.args.option c.args.least c.args.docs.now c.args.freqs.now c.reduce_docs.new.docs c.reduce_freqs.new.freqs info
  unfolding doc_values
  valued =
      values_are _ _ _ _ c.reduce_docs.ensures c.reduce_freqs.ensures c.last_of.ensures c.num_bits.ensures
      c.freq_width.ensures

  -- whether both fit is what was asked
  room-is : let a = c.args in
      c.has_room.result ≡ block_fits a.option a.least a.docs.now a.freqs.now a.at a.skips.now a.postings.now
  room-is = c.has_room.ensures ∙ sym (valued_fits _ _ _ _ valued _ _ _)

pub returns-then-not-has_room : goal.returns-then-not-has_room
returns-then-not-has_room c =
    let asked = (goal.at.returns-then-not-has_room c).After-has_room in
    block_refused _ _ _ _ _ _ _ (sym (room-is asked) ∙ c.if-not-has_room.true)

pub put_block-requires : goal.put_block-requires
put_block-requires c =
    let asked = (goal.at.put_block-requires c).After-has_room in
    valued-room _ _ _ _ (valued asked) _ _ _ c.requires (sym c.has_room.ensures ∙ c.if-not-has_room.false)

pub returns : goal.returns
returns c =
    let asked = (goal.at.returns c).After-has_room in
    block_written _ _ _ _ (valued asked) _ _ _ (sym (room-is asked) ∙ c.if-not-has_room.false) c.put_block.ensures
