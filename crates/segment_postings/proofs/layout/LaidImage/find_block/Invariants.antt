-- The search from the present block on gives what the search from the first gives, the present entry stands at its place of the skip
-- bytes, and the block's bytes begin inside the image.
use Rattle.std.proofs.Common.{◌≡◌, ◌-◌, ◌*◌, ◌≤◌, length}
use Rattle.segment_postings.specs.Landing.{find_block_of}
use Rattle.segment_postings.proofs.layout.LaidImage.find_block.Given as goal

abbrev pub invariant-loop-block : goal.invariant-loop-block
invariant-loop-block l = record {
  goes_on :
      find_block_of l.option l.skips l.self.image.now l.target (l.blocks - l.fn.from.block) l.fn.from
      ≡ find_block_of l.option l.skips l.self.image.now l.target (l.blocks - l.block)
      (record { block = l.block; at = l.at; least = l.least; entries = l.entries; unpacked = l.fn.from.unpacked });
  place : l.entry ≡ l.size * l.block;
  inside : l.at ≤ length l.self.image.now;
  counted : l.entries ≤ l.block;
}
