-- What all calls write from the start is what those still to come write behind what is written already.
use Rattle.std.proofs.Common.{◌≡◌, ◌≤◌, ◌+◌, ◌*◌, length}
use Rattle.format.specs.Basics.{put_at}
use Rattle.segment_postings.specs.Called.{answer_length}
use Rattle.postings.proofs.calls.CodedCalls.{numbers_from}
use Rattle.postings.proofs.calls.run_from.Given as goal

abbrev pub invariant-loop-i : goal.invariant-loop-i
invariant-loop-i l = record {
  within : l.i ≤ length l.calls;
  same_length : length l.answers ≡ length l.initial.answers;
  to_come : put_at answer_length (numbers_from l.image l.term l.calls 0 l.initial.moved.cursor) l.initial.answers ≡ put_at (answer_length * (l.i + 1)) (numbers_from l.image l.term l.calls l.i l.moved.cursor) l.answers;
}
