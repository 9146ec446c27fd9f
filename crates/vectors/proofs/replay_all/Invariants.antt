-- The replay of all cases is that of the cases still to come, from the place reached and the number that differed so far.
use Rattle.std.proofs.Common.{◌≡◌, ◌-◌, ◌≤◌, length}
use Rattle.vectors.specs.Replay.{replay_from, replayed}
use Rattle.vectors.proofs.replay_all.Given as goal

abbrev pub invariant-loop-i : goal.invariant-loop-i
invariant-loop-i g l = record {
  within : l.i ≤ l.cases;
  there : l.at ≤ length l.input;
  few : l.differ ≤ l.i;
  rest : replayed l.input ≡ replay_from l.input l.cases (l.cases - l.i) l.at l.differ;
}
