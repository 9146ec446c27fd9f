-- The first documents are passed, as many as the loop has turned, so that those below the target are these and the ones below it at the
-- front of the rest; their frequencies are summed up, each below 2 ^ 32.
use Rattle.std.proofs.Common.{length, ◌≡◌, ◌≤◌, take, drop, ◌+◌, ◌*◌}
use Rattle.format.specs.Counts.{count_below, sum}
use Rattle.segment_postings.proofs.counts.front_below.Given as goal

abbrev pub invariant-loop-doc : goal.invariant-loop-doc
invariant-loop-doc l = record {
  within : length l.yielded ≤ length l.docs;
  below : count_below l.target l.docs ≡ length l.yielded + count_below l.target (drop (length l.yielded) l.docs);
  summed : l.passed ≡ sum (take (length l.yielded) l.freqs);
  most : l.passed ≤ length l.yielded * 4294967295;
}
