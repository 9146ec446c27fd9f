-- `listing::list::put_steps` meets its contract: the cursor goes with the model, so that each answer's line is the model's, and each has 63 bytes
-- of room.
-- Assumes nothing.
use Rattle.std.proofs.Common.{arith}
use Rattle.segment_postings.specs.Called.{shown}
use Rattle.listing.proofs.Decimal.{line-most}
use Rattle.listing.proofs.Putting.{puts-length, puts_then}
use Rattle.listing.proofs.Walked.{walk_first, walk_begins, walk_steps, walk_ends}
use Rattle.listing.proofs.list.put_steps.Goals as goal

pub loop-init : goal.loop-init
loop-init c =
    let first = c.put_answer-next.ensures in record {
      counted = omega arith;
      walked =
          rw c.open-moved.ensures
          (walk_begins _ _ c.requires.0 (omega arith)
          (omega (arith, first.behind, puts-length first, line-most (shown c.open-moved.result.answer), c.requires.1)));
    }

pub loop-preserved : goal.loop-preserved
loop-preserved c = record {
  counted = omega arith;
  walked =
      rw c.advance-moved.ensures
      (walk_steps _ _ c.loop.invariant.walked _ (omega arith) (rw c.advance-moved.ensures at c.put_answer-next-in-loop.ensures));
}

pub returns : goal.returns
returns c =
    let first = rw c.open-moved.ensures at c.put_answer-next.ensures in
    rw (← walk_first _ _ c.requires.0) (puts_then first (walk_ends _ _ c.loop.invariant.walked (omega arith)))
