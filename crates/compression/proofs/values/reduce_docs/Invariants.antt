-- The values left are those of the ids left, told from one more than the id before.
use Rattle.std.proofs.Common.{◌+◌}
use Rattle.format.specs.Values.{gaps_from}
use Rattle.compression.proofs.InPlace.{Replacing}
use Rattle.compression.proofs.values.reduce_docs.Given as goal

abbrev pub invariant-loop-value : goal.invariant-loop-value
invariant-loop-value l = Replacing (gaps_from 1) (l.initial.before + 1) l.initial.value-items (l.before + 1) l.value-index l.value-items
