-- The loop's invariant: the steps left are those not yet counted, and the text so far with their lines is the whole text. The measure is
-- their number.
use Rattle.std.proofs.Common.{◌-◌, ◌≤◌}
use Rattle.listing.proofs.Walked.{Walked}
use Rattle.listing.proofs.list.put_steps.Given as goal

abbrev pub invariant-loop : goal.invariant-loop
invariant-loop l = record {
  counted : l.counter ≤ l.term.count;
  walked : Walked l.term l.image l.initial.next (l.term.count - l.counter) l.next l.initial.output l.output l.moved.cursor;
}
