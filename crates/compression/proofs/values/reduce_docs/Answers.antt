-- `compression::values::reduce_docs` meets its contract: the first id's value is told from the least id that may come, and each turn
-- replaces one id more.
-- Assumes nothing.
use Rattle.std.proofs.Common.{◌≡◌, refl, ap, true, ℕ, List, [], ◌∷◌, ◌-◌, ◌+◌, length, get_or, arith}
use mathlib.Core.List.{append-nil}
use lib.ListN.{drop_of_length-le}
use borrow.Rule.Slice.PartMut.{put_mid, mid_of}
use Rattle.std.proofs.Math.ListN.{set}
use Rattle.std.proofs.Math.Seq.{take_all}
use Rattle.format.specs.Values.{gaps, gaps_from, reduction, origin}
use Rattle.compression.proofs.InPlace.{replacing_next, replacing_all}
use Rattle.compression.proofs.values.reduce_docs.Goals as goal

turns : (s v : ℕ) (vs : List ℕ) → gaps_from 1 s (v ∷ vs) ≡ (v - s) ∷ gaps_from 1 (v + 1) vs
unfolding gaps_from
turns s v vs = refl

-- the first value, and those behind it
joined : (least : ℕ) (docs items : List ℕ) → length docs ≡ 128
    → items ≡ gaps_from 1 (get_or docs 0 0 + 1) (mid_of 1 127 (set docs 0 (get_or docs 0 0 - least)))
    → put_mid 1 127 (set docs 0 (get_or docs 0 0 - least)) items ≡ gaps true least docs
unfolding gaps reduction origin gaps_from
joined least [] items long is = absurd (omega arith)
joined least (d ∷ ds) items long is =
    rw (is, take_all 127 ds (omega arith), drop_of_length-le ds {i = 127} (omega arith)) (ap (λ (l : List ℕ). (d - least) ∷ l) (append-nil _))

pub loop-value-preserved : goal.loop-value-preserved
loop-value-preserved c =
    rw c.gap.ensures (replacing_next (gaps_from 1) (λ s v. v - s) (λ s v. v + 1) turns (omega arith) c.loop-value.invariant)

pub returns : goal.returns
unfolding gaps_from
returns c =
    let all = replacing_all (gaps_from 1) (λ s. refl) (omega arith) c.loop-value.invariant in
    rw c.saturating_sub.ensures (joined c.args.least c.args.docs.now _ (omega arith) (rw c.saturating_sub.ensures at all))
