-- The bytes counted and those of the rest are one more than the bytes of the whole, since the last byte is counted from the start;
-- the measure is the rest.
use Rattle.std.proofs.Common.{◌≡◌, ◌+◌, ◌^◌, ◌<◌, length}
use Rattle.format.specs.Vint.{vint}
use Rattle.vint.proofs.vint_size.Given as goal

abbrev pub invariant-loop-rest : goal.invariant-loop-rest
invariant-loop-rest l = record {
  fits : l.rest < 2 ^ 64;
  counted : l.size + length (vint l.rest) ≡ length (vint l.value) + 1;
}

abbrev pub decreases-loop-rest : goal.decreases-loop-rest
decreases-loop-rest l = l.rest
