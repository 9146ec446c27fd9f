-- The documents still to come answer what all of them answer.
use Rattle.std.proofs.Common.{length}
use Rattle.serializer.proofs.list.CheckLoop.{Asked}
use Rattle.serializer.proofs.list.check_docs.Given as goal

abbrev pub invariant-loop-doc : goal.invariant-loop-doc
invariant-loop-doc l = Asked l.option l.ids l.freqs l.least (length l.yielded)
