-- The bytes of the blocks so far are counted, and `least` is the least id that may come behind them.
use Rattle.std.proofs.Common.{◌≡◌, ◌*◌, length, take}
use Rattle.format.specs.Written.{blocks_of}
use Rattle.serializer.specs.Writer.{least_after_of}
use Rattle.serializer.proofs.list.WholeList.blocks_size.Given as goal

abbrev pub invariant-loop-docs : goal.invariant-loop-docs
invariant-loop-docs l = record {
  counted : l.size ≡ length (blocks_of l.self.option (length l.yielded) 0 l.self.ids.now l.self.freqs.now).postings;
  least_is : l.least ≡ least_after_of 0 (take (128 * length l.yielded) l.self.ids.now);
}
