-- `serializer::list::WholeList::write_blocks` meets its contract: each turn writes one block more. As all blocks fit, none is refused.
-- Assumes nothing.
use Rattle.std.proofs.Common.{◌+◌, ◌*◌, [], length, take, drop, arith}
use Rattle.std.proofs.lemmas.List.{length_push}
use Rattle.std.proofs.lemmas.Slice.Zip.{zip_turn, zip_end}
use Rattle.serializer.specs.Pieces.{BlockWritten}
use Rattle.serializer.proofs.Laws.BlockPlaces.{block-rises, id_below}
use Rattle.serializer.proofs.list.AreasLoop.{written_none, written_next, written_all, not-refused}
use Rattle.serializer.proofs.list.Blocks.{BlockTurn, block-turn}
use Rattle.serializer.proofs.list.WholeList.write_blocks.Goals as goal
use Rattle.serializer.proofs.list.WholeList.write_blocks.Goals.{In-Some, After-write_block}

-- this turn's block is the next one of the list
turn : (c : In-Some) → let l = c.args.self.now in BlockTurn l.ids.now l.freqs.now c.in-Some.ids.now c.in-Some.freqs.now (length c.loop-ids.yielded)
turn c =
    let l = c.args.self.now in
    let at = zip_turn c.as_chunks.result.0.now c.as_chunks-2.result.0.now c.loop-ids.yielded _ _ c.next.new.self _ (cc) (cc) c.loop-ids.yielded_by _ c.in-Some.is c.next.ensures.steps in
    block-turn l.ids.now l.freqs.now l.checked.as_many c.as_chunks.ensures.front c.as_chunks.ensures.front_len c.as_chunks-2.ensures.front at.0 (at.2 []) (at.3 [])

pub loop-ids-init : goal.loop-ids-init
loop-ids-init c = written_none _ _ _ _ _

pub write_block-requires : goal.write_block-requires
write_block-requires c =
    let t = turn (goal.at.write_block-requires c).In-Some in
    let l = c.args.self.now in
    rw (t.docs_are, c.loop-ids.invariant.least_is) (block-rises (128 * length c.loop-ids.yielded) l.ids.now l.checked.rises)

module _ (c : After-write_block) where
  wrote : let l = c.args.self.now in
      let n = 128 * length c.loop-ids.yielded in
      BlockWritten l.option c.loop-ids.least (take 128 (drop n l.ids.now)) (take 128 (drop n l.freqs.now)) c.loop-ids.at
      c.loop-ids.skips c.loop-ids.postings c.write_block.new.skips c.write_block.new.postings c.write_block.result
  wrote =
      let t = turn (goal.at.After-write_block c).In-Some in
      rw (t.docs_are, t.freqs_are) at c.write_block.ensures

pub unwrap-at-requires : goal.unwrap-at-requires
unwrap-at-requires c =
    let at = goal.at.unwrap-at-requires c in
    not-refused _ _ _ _ _ c.loop-ids.invariant (turn at.In-Some).more c.requires (wrote at.After-write_block)

pub overflow_add-least : goal.overflow_add-least
overflow_add-least c =
    let t = turn (goal.at.overflow_add-least c).In-Some in
    let l = c.args.self.now in
    omega (arith, t.last_is, id_below l.ids.now (128 * length c.loop-ids.yielded + 127) l.checked.rises)

pub loop-ids-preserved : goal.loop-ids-preserved
loop-ids-preserved c =
    let at = goal.at.loop-ids-preserved c in
    let t = turn at.In-Some in
    rw (length_push, t.last_is)
    (written_next _ _ _ _ _ c.loop-ids.invariant t.more c.requires (wrote at.After-write_block) c.unwrap-at.ensures)

pub returns : goal.returns
returns c =
    let l = c.args.self.now in
    let many = zip_end c.as_chunks.result.0.now c.as_chunks-2.result.0.now c.loop-ids.yielded _ _ c.next.new.self _ (cc) (cc) c.loop-ids.yielded_by c.in-None.is c.next.ensures.steps in
    written_all _ _ _ _ _ (omega (arith, many, c.as_chunks.ensures.front_len, c.as_chunks-2.ensures.front_len, l.checked.as_many)) c.loop-ids.invariant
