-- The values left are those of the frequencies left.
use Rattle.std.proofs.Common.{ℕ, List, true}
use Rattle.format.specs.Values.{reduced}
use Rattle.compression.proofs.InPlace.{Replacing}
use Rattle.compression.proofs.values.reduce_freqs.Given as goal

-- the loop has no state
abbrev pub each : Unit {0} → List ℕ → List ℕ
each s fs = reduced true fs

abbrev pub invariant-loop-value : goal.invariant-loop-value
invariant-loop-value l = Replacing each tt l.initial.value-items tt l.value-index l.value-items
