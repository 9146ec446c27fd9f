-- `compression::values::reduce_freqs` meets its contract: each turn replaces one frequency by its value.
-- Assumes nothing.
use Rattle.std.proofs.Common.{◌≡◌, refl, ℕ, List, ◌∷◌, ◌-◌, arith}
use Rattle.format.specs.Values.{reduced, reduction}
use Rattle.compression.proofs.InPlace.{replacing_next, replacing_all}
use Rattle.compression.proofs.values.reduce_freqs.Invariants.{each}
use Rattle.compression.proofs.values.reduce_freqs.Goals as goal

turns : (s : Unit {0}) (f : ℕ) (fs : List ℕ) → each s (f ∷ fs) ≡ (f - 1) ∷ each s fs
unfolding reduced reduction
turns s f fs = refl

pub loop-value-preserved : goal.loop-value-preserved
loop-value-preserved c =
    rw c.saturating_sub.ensures (replacing_next each (λ s f. f - 1) (λ s f. s) turns (omega arith) c.loop-value.invariant)

pub returns : goal.returns
unfolding reduced
returns c = replacing_all each (λ s. refl) (omega arith) c.loop-value.invariant
