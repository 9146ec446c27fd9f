-- `segment_postings::layout::LaidImage::read` meets its contract. The loop's invariant is `Copied`: the whole list put into the slices as they
-- were is what is still to be read, put behind the blocks written. A refusal would contradict that the image is sound. The measure is
-- the full blocks left.
-- Assumes nothing.
use Rattle.std.proofs.Common.{◌<◌, arith}
use Rattle.format.specs.declared.refusal.Refusal.{Refusal}
use Rattle.format.specs.Layout.{full_blocks_of}
use Rattle.segment_postings.proofs.Laws.Exits.{unrefused-ok}
use Rattle.segment_postings.proofs.Admission.WalkTurns.{lands-from, turn-held, turn}
use Rattle.segment_postings.proofs.Laws.LandingParts.{landed_at, landed_nowhere}
use Rattle.segment_postings.proofs.whole.ReadLoop.{copied_none, never_refused, docs_room, freqs_room, copy-goes-on, copy-ends}
use Rattle.segment_postings.proofs.layout.LaidImage.read.Goals as goal

pub loop-from-init : goal.loop-from-init
loop-from-init c = copied_none _ _ _ _ _ c.args.self.now.laid_out c.requires c.first_start-from.ensures

pub land-requires : goal.land-requires
land-requires c = lands-from _ _ _ c.loop-from.invariant.walks (omega arith)

pub unwrap-held-requires : goal.unwrap-held-requires
unwrap-held-requires c =
    unrefused-ok _ (λ (why : Refusal) refused. never_refused c.loop-from.invariant (landed_nowhere c.land.ensures refused))

pub put_block-requires : goal.put_block-requires
put_block-requires c =
    let held = turn-held _ _ _ c.loop-from.invariant.walks (landed_at c.land.ensures c.unwrap-held.ensures) in
    docs_room c.loop-from.invariant held

pub put_block-requires-in-loop-from : goal.put_block-requires-in-loop-from
put_block-requires-in-loop-from c =
    let held = turn-held _ _ _ c.loop-from.invariant.walks (landed_at c.land.ensures c.unwrap-held.ensures) in
    freqs_room c.loop-from.invariant held

pub returns-then-blocks-from : goal.returns-then-blocks-from
unfolding full_blocks_of
returns-then-blocks-from c =
    let held = turn-held _ _ _ c.loop-from.invariant.walks (landed_at c.land.ensures c.unwrap-held.ensures) in
    copy-ends c.loop-from.invariant held c.put_block.ensures c.put_block-in-loop-from.ensures
    (omega (arith, c.if-blocks-from.true, c.full_blocks-blocks.ensures))

pub start_behind-from-requires : goal.start_behind-from-requires
unfolding full_blocks_of
start_behind-from-requires c =
    let held = turn-held _ _ _ c.loop-from.invariant.walks (landed_at c.land.ensures c.unwrap-held.ensures) in
    let some : c.loop-from.from.block < full_blocks_of c.args.self.now.term = omega (arith, c.full_blocks-blocks.ensures) in
    omega (arith, (held.next some).block_is, some)

pub loop-from-smaller : goal.loop-from-smaller
unfolding full_blocks_of
loop-from-smaller c =
    let held = turn-held _ _ _ c.loop-from.invariant.walks (landed_at c.land.ensures c.unwrap-held.ensures) in
    let some : c.loop-from.from.block < full_blocks_of c.args.self.now.term = omega (arith, c.full_blocks-blocks.ensures) in
    omega (arith, some, (turn _ _ _ c.loop-from.invariant.walks held some c.start_behind-from.ensures).block_is)

pub loop-from-preserved : goal.loop-from-preserved
unfolding full_blocks_of
loop-from-preserved c =
    let held = turn-held _ _ _ c.loop-from.invariant.walks (landed_at c.land.ensures c.unwrap-held.ensures) in
    let some : c.loop-from.from.block < full_blocks_of c.args.self.now.term = omega (arith, c.full_blocks-blocks.ensures) in
    copy-goes-on c.loop-from.invariant held c.put_block.ensures c.put_block-in-loop-from.ensures some c.start_behind-from.ensures
