-- The value read so far is at most `largest`, and what is read of the whole is what a reader answers that goes on from here.
use Rattle.std.proofs.Common.{◌≡◌, ◌+◌, ◌≤◌, drop}
use Rattle.format.specs.Vint.{read_vint_of}
use Rattle.format.proofs.VintCode.{resumed}
use Rattle.vint.proofs.read_vint.Given as goal

abbrev pub invariant-loop-used : goal.invariant-loop-used
invariant-loop-used l = record {
  value_within : l.value ≤ l.largest;
  goes_on : read_vint_of l.most (l.largest + 1) (drop l.at l.src) ≡ resumed l.most (l.largest + 1) l.used l.value (drop l.used (drop l.at l.src));
}
