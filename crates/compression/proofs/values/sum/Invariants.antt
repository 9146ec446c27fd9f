-- What is left to write and the last sum are the same told from the present sum on; each turn adds less than 2 ^ 32.
use Rattle.std.proofs.Common.{◌≡◌, ◌≤◌, ◌+◌, ◌*◌, ◌%◌, ◌^◌, ℕ, List, map, drop}
use Rattle.format.specs.Basics.{last_of}
use Rattle.format.specs.Values.{ids_from}
use Rattle.compression.proofs.InPlace.{Replacing}
use Rattle.compression.proofs.values.sum.Given as goal

abbrev pub sums : ℕ → List ℕ → List ℕ
sums s vs = map (λ k. k % 2 ^ 32) (ids_from 0 s vs)

abbrev pub last_sum : ℕ → List ℕ → ℕ
last_sum s vs = last_of s (ids_from 0 s vs)

abbrev pub invariant-loop-value : goal.invariant-loop-value
invariant-loop-value l = record {
  replaced : Replacing sums l.before l.initial.value-items l.last l.value-index l.value-items;
  bounded : l.last ≤ l.before + 4294967296 * l.value-index;
  same : last_sum l.before l.initial.value-items ≡ last_sum l.last (drop l.value-index l.value-items);
}
