-- The frequencies that a reader answers, of two lists one behind the other.
-- Assumes nothing.
use mathlib.Core.Bool.{Bool, true, false}
use mathlib.Core.List.{List, ◌++◌}
use mathlib.Core.Path.{◌≡◌, refl}
use Prim.Native.Nat.{ℕ}
use lib.ListN.{length-append, replicate-append-replicate}
use Rattle.format.specs.ReadsBack.{read_freqs}

pub read_freqs-append : (read : Bool) (a b : List ℕ) → read_freqs read (a ++ b) ≡ read_freqs read a ++ read_freqs read b
unfolding read_freqs
read_freqs-append true a b = refl
read_freqs-append false a b = rw (length-append, replicate-append-replicate)
