-- The first `i` places hold the first `i` numbers.
use Rattle.std.proofs.Common.{◌≡◌, ◌≤◌, length, take}
use Rattle.vectors.specs.Sample.{words}
use Rattle.vectors.proofs.sample.words_at.Given as goal

abbrev pub invariant-loop-i : goal.invariant-loop-i
invariant-loop-i l = record {
  within : l.i ≤ l.count;
  room : length l.values ≡ 512;
  so_far : take l.i l.values ≡ words l.input l.at l.i;
}
