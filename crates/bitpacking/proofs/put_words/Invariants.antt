-- The words so far are in the area.
use Rattle.std.proofs.Common.{◌≡◌, ℕ, ◌+◌, ◌*◌, length}
use Rattle.bitpacking.specs.Packed.{Fills, WordsAre}
use Rattle.bitpacking.proofs.put_words.Given as goal

abbrev pub invariant-loop-m : goal.invariant-loop-m
invariant-loop-m l =
    (length l.area ≡ length l.initial.area)
    × ((f : ℕ → ℕ) → WordsAre f l.p l.fn.words → Fills l.p (l.p + 4 * l.m) f l.initial.area l.area)
