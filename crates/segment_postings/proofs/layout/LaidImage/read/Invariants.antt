-- The whole list put into the slices as they were is what is still to be read, put behind the blocks written. The measure is the full
-- blocks left.
use Rattle.std.proofs.Common.{◌-◌}
use Rattle.format.specs.Layout.{full_blocks_of}
use Rattle.segment_postings.proofs.whole.ReadLoop.{Copied}
use Rattle.segment_postings.proofs.layout.LaidImage.read.Given as goal

abbrev pub invariant-loop-from : goal.invariant-loop-from
invariant-loop-from l = Copied l.self.term l.self.layout l.self.image.now l.initial.docs l.initial.freqs l.from l.docs l.freqs

abbrev pub decreases-loop-from : goal.decreases-loop-from
decreases-loop-from l = full_blocks_of l.self.term - l.from.block
