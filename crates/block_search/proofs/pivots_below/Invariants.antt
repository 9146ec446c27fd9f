-- `count` is the number of pivots below the target among the first `i`.
use Rattle.std.proofs.Common.{◌≡◌}
use Rattle.block_search.specs.Search.{pivots_below_of}
use Rattle.block_search.proofs.pivots_below.Given as goal

abbrev pub invariant-loop-i : goal.invariant-loop-i
invariant-loop-i l = l.count ≡ pivots_below_of l.arr l.target l.base l.step l.i
