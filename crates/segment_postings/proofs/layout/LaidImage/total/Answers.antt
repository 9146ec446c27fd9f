-- Each turn holds the block that its landing came to, whose front is added up: a document at or above the target, the end and a refusal
-- each answer the total, and a block that is passed whole leaves it.
use Rattle.std.proofs.Common.{◌^◌, ◌<◌, sym, arith}
use borrow.Author.Tests.{not-true, not-false}
use Rattle.format.specs.Layout.{full_blocks_of}
use Rattle.segment_postings.proofs.Laws.Exits.{passed_on}
use Rattle.segment_postings.proofs.Admission.WalkTurns.{lands-from, turn-held, turn}
use Rattle.segment_postings.proofs.Laws.LandingParts.{landed_at, landed_nowhere}
use Rattle.segment_postings.proofs.counts.TotalLoop.{walked_none, walk_refused, walk_stops, walk_ends, walk-goes-on}
use Rattle.segment_postings.proofs.layout.LaidImage.total.Goals as goal
use Rattle.segment_postings.proofs.layout.LaidImage.total.Goals.{then-not-front-via-then-not-front, then-not-front-via-else-not-front+then-blocks-from}

pub loop-held-init : goal.loop-held-init
loop-held-init c = walked_none _ _ _ _ c.args.self.now.laid_out c.first_start-from.ensures

pub land-requires : goal.land-requires
land-requires c =
    let few : c.args.self.now.term.count < 2 ^ 32 = omega arith in
    lands-from _ _ _ c.loop-held.invariant.walks few

pub overflow_add-passed : goal.overflow_add-passed
unfolding full_blocks_of
overflow_add-passed c =
    let few : c.args.self.now.term.count < 2 ^ 32 = omega arith in
    omega (arith, c.loop-held.invariant.passed_most, c.loop-held.invariant.walks.block_most_is, c.block_below-front.ensures.freqs_most, few)

pub returns-then-not-front : goal.returns-then-not-front
unfolding full_blocks_of
returns-then-not-front c =
    let held = turn-held _ _ _ c.loop-held.invariant.walks (landed_at c.land.ensures c.in_ok-held.was) in
    sym
    (elim c.then-not-front.branch [
      | then-not-front-via-then-not-front w ↦
          walk_stops c.loop-held.invariant held _ c.block_below-front.ensures (not-true _ w.if-not-front.true)
      | then-not-front-via-else-not-front+then-blocks-from w ↦
          walk_ends c.loop-held.invariant held _ c.block_below-front.ensures (not-false _ w.if-not-front.false)
          (omega (arith, w.if-blocks-from.true, c.full_blocks-blocks.ensures))
    ])

-- a block that is passed whole, with others behind it
pub start_behind-from-requires : goal.start_behind-from-requires
unfolding full_blocks_of
start_behind-from-requires c =
    let held = turn-held _ _ _ c.loop-held.invariant.walks (landed_at c.land.ensures c.in_ok-held.was) in
    let few : c.args.self.now.term.count < 2 ^ 32 = omega arith in
    let some : c.loop-held.from.block < full_blocks_of c.args.self.now.term = omega (arith, c.if-blocks-from.false, c.full_blocks-blocks.ensures) in
    omega (arith, (held.next some).block_is, some, few)

pub loop-held-smaller : goal.loop-held-smaller
unfolding full_blocks_of
loop-held-smaller c =
    let held = turn-held _ _ _ c.loop-held.invariant.walks (landed_at c.land.ensures c.in_ok-held.was) in
    let some : c.loop-held.from.block < full_blocks_of c.args.self.now.term = omega (arith, c.if-blocks-from.false, c.full_blocks-blocks.ensures) in
    omega (arith, some, (turn _ _ _ c.loop-held.invariant.walks held some c.start_behind-from.ensures).block_is)

pub loop-held-preserved : goal.loop-held-preserved
unfolding full_blocks_of
loop-held-preserved c =
    let held = turn-held _ _ _ c.loop-held.invariant.walks (landed_at c.land.ensures c.in_ok-held.was) in
    let some : c.loop-held.from.block < full_blocks_of c.args.self.now.term = omega (arith, c.if-blocks-from.false, c.full_blocks-blocks.ensures) in
    walk-goes-on c.loop-held.invariant held _ c.block_below-front.ensures (not-false _ c.if-not-front.false) some c.start_behind-from.ensures

pub returns-in_err-held : goal.returns-in_err-held
returns-in_err-held c =
    rw (passed_on c.from_residual.ensures.1) (sym (walk_refused c.loop-held.invariant (landed_nowhere c.land.ensures c.in_err-held.was)))
