-- The blocks so far are written.
use Rattle.std.proofs.Common.{length}
use Rattle.serializer.proofs.list.AreasLoop.{Written}
use Rattle.serializer.proofs.list.WholeList.write_blocks.Given as goal

abbrev pub invariant-loop-ids : goal.invariant-loop-ids
invariant-loop-ids l =
    Written l.self.option l.self.ids.now l.self.freqs.now l.initial.skips l.initial.postings (length l.yielded) l.least l.at l.skips l.postings
