-- Where the loop stands: what all targets store is what those still to come store behind what is stored already.
use Rattle.segment_postings.specs.Calls.{cursor_of}
use Rattle.bench.specs.Seeks.{slices}
use Rattle.bench.proofs.Serving.{Serving}
use Rattle.bench.proofs.seek_each.Given as goal

abbrev pub invariant-loop-i : goal.invariant-loop-i
invariant-loop-i l =
    Serving l.image l.term l.targets (slices l.initial.docs l.initial.freqs l.initial.hits) (slices l.docs l.freqs l.hits)
    (cursor_of l.held l.block_docs l.block_freqs) l.i
