-- Of the blocks: what is read from the present block on has the refusal of the whole reading. Of the ids of a block: those passed are in
-- order, so that question 6 is answered by those to come. Of its frequencies: none passed is 0.
-- The measure is the blocks left.
use Rattle.std.proofs.Common.{◌≡◌, ◌-◌, ◌<◌, ◌≤◌, length, drop}
use Rattle.format.specs.Basics.{TERMINATED}
use Rattle.format.specs.Layout.{full_blocks_of}
use Rattle.format.specs.Reading.{reading}
use Rattle.segment_postings.proofs.Admission.WalkReads.{reading_at}
use Rattle.segment_postings.proofs.validate.PlaceByPlace.{Ordered, ZeroToCome}
use Rattle.segment_postings.proofs.layout.LaidImage.walk.Given as goal

abbrev pub invariant-ids : goal.invariant-ids
invariant-ids l = record {
  least_most : l.least ≤ TERMINATED;
  least_some : 0 < l.difference-index → 0 < l.least;
  ordered : Ordered l.initial.least l.least l.difference-items (drop l.difference-index l.difference-items);
}

abbrev pub invariant-counts : goal.invariant-counts
invariant-counts l = ZeroToCome l.freq-items (drop l.freq-index l.freq-items)

abbrev pub invariant-blocks-2 : goal.invariant-blocks-2
invariant-blocks-2 l = record {
  block_most_is : l.block ≤ full_blocks_of l.self.term;
  at_inside : l.at ≤ length l.self.image.now;
  least_most : l.least ≤ TERMINATED;
  same : (reading l.self.term l.self.image.now).verdict ≡ (reading_at l.self.term l.self.layout l.self.image.now l.block l.at l.least).verdict;
}

abbrev pub decreases-blocks-2 : goal.decreases-blocks-2
decreases-blocks-2 l = full_blocks_of l.self.term - l.block
