-- One of the values is 0 where one came so far or one of those to come is.
use Rattle.std.proofs.Common.{◌≡◌, ◌||◌, drop}
use Rattle.format.specs.Model.{member}
use Rattle.compression.proofs.values.has_zero.Given as goal

abbrev pub invariant-loop-value : goal.invariant-loop-value
invariant-loop-value l = member 0 l.value-items ≡ (l.found || member 0 (drop l.value-index l.value-items))
