-- What reading as many of a tail's numbers as a slice has places answers and leaves.
-- Assumes nothing.
use Rattle.std.specs.Prelude.{List, ◌++◌, ℕ, ◌+◌, length, drop, Option, None, Some}
use Rattle.format.specs.Basics.{choose}
use Rattle.format.specs.Vint.{Numbers}

-- the place behind numbers read from `at` on, if all were there
unfoldable pub behind : ℕ → Numbers → Option ℕ
unfolding choose
behind at ns = choose ns.complete (λ _. Some (at + ns.used)) (λ _. None)

-- the values read, before a malformed number too, at the front of the slice; the rest of it as before
unfoldable pub filled : Numbers → List ℕ → List ℕ
filled ns slice = ns.values ++ drop (length ns.values) slice
