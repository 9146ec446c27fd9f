-- The numbers still to come, put at `next`, make of the slice what all of them make of it at entry.
use mathlib.Core.Bool.{not}
use lib.Dec.{eqb}
use Rattle.std.proofs.Common.{drop}
use Rattle.vint.specs.Written.{numbers_written}
use Rattle.vint.proofs.Runs.{Written}
use Rattle.vint.proofs.compress.Given as goal

abbrev pub invariant-loop-value : goal.invariant-loop-value
invariant-loop-value g l = Written (numbers_written (not (eqb g.row.SORTED 0)) l.offset l.values) (numbers_written (not (eqb g.row.SORTED 0)) l.previous (drop l.value-index l.values)) l.at l.next l.initial.dst l.dst
