-- The numbers still to come, read from `next` on, give the answer and leave the slice that all of them give and leave.
use Rattle.std.proofs.Common.{◌-◌, drop, length}
use Rattle.format.specs.Vint.{tail_numbers}
use Rattle.vint.proofs.Numbers.{Filling}
use Rattle.vint.proofs.uncompress_unsorted.Given as goal

abbrev pub invariant-loop-value : goal.invariant-loop-value
invariant-loop-value l = Filling (tail_numbers (length l.initial.values) (drop l.at l.src))
    (tail_numbers (length l.initial.values - l.value-index) (drop l.next l.src)) l.at l.next l.value-index l.initial.values l.values
