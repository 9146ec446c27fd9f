-- `bench::seek_each` meets its contract. The loop's invariant is `Serving`: what all targets store is what those still to come store
-- behind what is stored already.
-- Assumes nothing.
use Rattle.std.proofs.Common.{arith}
use Rattle.segment_postings.proofs.Laws.LandingParts.{reached-at, reached_nowhere}
use Rattle.segment_postings.proofs.Laws.ReachedBounds.{seeking_near}
use Rattle.segment_postings.proofs.Laws.SeekFinds.{found-at, found_nowhere}
use Rattle.bench.proofs.Serving.{none-served, seeks_unopened, serving_first, serving_on, serving_refused, serving_all}
use Rattle.bench.proofs.seek_each.Goals as goal

pub returns-in_default : goal.returns-in_default
returns-in_default c = none-served _ (seeks_unopened _ _ _ (reached_nowhere c.open_in.ensures c.in_default.is))

pub loop-i-init : goal.loop-i-init
loop-i-init c = serving_first _ _ _ _ c.requires (reached-at c.open_in.ensures c.in-Ok.is)

pub put_answer-requires : goal.put_answer-requires
put_answer-requires c =
    let near = seeking_near _ _ _ _ (found-at c.seek_in.ensures c.in-Ok-seek_in.is) in
    (near.0, omega (arith, c.loop-i.invariant.room_there))

pub returns-in_default-seek_in : goal.returns-in_default-seek_in
returns-in_default-seek_in c =
    serving_refused _ _ _ c.loop-i.invariant c.loop-i-test.true (found_nowhere c.seek_in.ensures c.in_default-seek_in.is)

pub loop-i-preserved : goal.loop-i-preserved
loop-i-preserved c =
    serving_on _ _ _ c.loop-i.invariant c.loop-i-test.true (found-at c.seek_in.ensures c.in-Ok-seek_in.is)
    (c.seek_in.ensures.hit_there c.in-Ok-seek_in.is) c.put_answer.ensures

pub returns : goal.returns
returns c = serving_all _ _ _ c.loop-i.invariant (omega arith)
