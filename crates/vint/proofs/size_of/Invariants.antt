-- The bytes counted and those of the numbers still to come are those of all, and at most five were counted for each value.
use mathlib.Core.Bool.{not}
use lib.Dec.{eqb}
use Rattle.std.proofs.Common.{drop}
use Rattle.vint.specs.Written.{numbers_written}
use Rattle.vint.proofs.Runs.{Counted}
use Rattle.vint.proofs.size_of.Given as goal

abbrev pub invariant-loop-value : goal.invariant-loop-value
invariant-loop-value g l = Counted (numbers_written (not (eqb g.row.SORTED 0)) l.offset l.values) (numbers_written (not (eqb g.row.SORTED 0)) l.previous (drop l.value-index l.values)) l.value-index l.size
