-- `compression::values::sum` meets its contract: each turn adds one value, less than 2 ^ 32, so 128 of them fit 64 bits.
-- Assumes nothing.
use Rattle.std.proofs.Common.{◌≡◌, refl, sym, ◌∙◌, ℕ, suc, List, ◌∷◌, ◌≤◌, ◌<◌, ◌+◌, ◌%◌, ◌^◌, length, get_or, drop, arith, rules, add-one}
use native.Mathlib.Nat.{add-zero}
use lib.ListN.{drop_of_length-le}
use Rattle.std.proofs.Math.ListN.{set}
use Rattle.std.proofs.Math.Seq.{drop-cons, drop-set-lt}
use Rattle.format.specs.Basics.{last_of}
use Rattle.format.specs.Values.{ids_from}
use Rattle.compression.proofs.InPlace.{replacing_next, replacing_all}
use Rattle.compression.proofs.values.sum.Invariants.{sums, last_sum}
use Rattle.compression.proofs.values.sum.Goals as goal

sums-turn : (s v : ℕ) (vs : List ℕ) → sums s (v ∷ vs) ≡ ((s + v) % 2 ^ 32) ∷ sums (s + v) vs
unfolding ids_from
sums-turn s v vs = rw add-zero

last_turn : (s i o : ℕ) (l : List ℕ) → i < length l → last_sum s (drop i l) ≡ last_sum (s + get_or l i 0) (drop (i + 1) (set l i o))
unfolding ids_from last_of
last_turn s i o l h = rw (add-one, drop-cons l i 0 h, drop-set-lt (suc i) l i o (omega arith), add-zero)

last_end : (s i : ℕ) (l : List ℕ) → length l ≤ i → last_sum s (drop i l) ≡ s
unfolding ids_from last_of
last_end s i l h = rw (drop_of_length-le l h)

pub loop-value-preserved : goal.loop-value-preserved
loop-value-preserved c =
    let l = c.loop-value in
    rw c.from-last.ensures
    record {
      replaced = replacing_next sums (λ s v. (s + v) % 2 ^ 32) (λ s v. s + v) sums-turn (omega arith) l.invariant.replaced;
      bounded = search rules;
      same = l.invariant.same ∙ last_turn l.last l.value-index _ l.value-items (omega arith);
    }

pub returns : goal.returns
unfolding ids_from
returns c =
    let l = c.loop-value in
    record {
      answered = sym (l.invariant.same ∙ last_end l.last l.value-index l.value-items (omega arith));
      left = rw (replacing_all sums (λ s. refl) (omega arith) l.invariant.replaced);
    }
