-- The loop keeps `Walked`: the total of the whole image is what was passed with the total of what is read from the block on. The measure
-- is the full blocks left.
use Rattle.std.proofs.Common.{◌-◌}
use Rattle.format.specs.Layout.{full_blocks_of}
use Rattle.segment_postings.proofs.counts.TotalLoop.{Walked}
use Rattle.segment_postings.proofs.layout.LaidImage.total.Given as goal

abbrev pub invariant-loop-held : goal.invariant-loop-held
invariant-loop-held l = Walked l.self.term l.self.layout l.self.image.now l.target l.from l.passed

abbrev pub decreases-loop-held : goal.decreases-loop-held
decreases-loop-held l = full_blocks_of l.self.term - l.from.block
