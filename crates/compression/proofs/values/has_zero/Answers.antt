-- `compression::values::has_zero` meets its contract: each turn asks one value more.
-- Assumes nothing.
use Rattle.std.proofs.Common.{◌≡◌, refl, sym, ap, ◌∙◌, Bool, true, false, ◌||◌ as or, ℕ, zero, suc, List, ◌∷◌, ◌+◌, get_or, drop, take, arith, add-one}
use mathlib.Core.Bool.{or-false}
use lib.ListN.{drop_of_length-le}
use Rattle.std.proofs.Math.Seq.{drop-cons}
use lib.Dec.{eqb}
use borrow.Author.Tests.{ne_eqb}
use Rattle.format.specs.Model.{member}
use Rattle.compression.proofs.InPlace.{take_clamped}
use Rattle.compression.proofs.values.has_zero.Goals as goal

-- a zero that came before, or comes now, or is to come
comes : (found : Bool) (v : ℕ) (vs : List ℕ) → or found (member 0 (v ∷ vs)) ≡ or (or found (eqb v 0)) (member 0 vs)
unfolding member
comes true v vs = refl
comes false zero vs = refl
comes false (suc v) vs = rw (ne_eqb 0 (suc v) (omega arith), ne_eqb (suc v) 0 (omega arith))

pub loop-value-preserved : goal.loop-value-preserved
loop-value-preserved c =
    let l = c.loop-value in
    let m : ℕ = c.min.result in
    let items : List ℕ = take m c.args.values.now in
    let first : drop l.value-index items ≡ get_or items l.value-index 0 ∷ drop (l.value-index + 1) items
    = rw add-one (drop-cons items l.value-index 0 (omega arith)) in
    l.invariant ∙ (ap (λ (vs : List ℕ). or l.found (member 0 vs)) first ∙ comes l.found _ _)

pub returns : goal.returns
unfolding member
returns c =
    let l = c.loop-value in
    let m : ℕ = c.min.result in
    let items : List ℕ = take m c.args.values.now in
    let none = drop_of_length-le items {i = l.value-index} (omega arith) in
    sym (ap (member 0) (sym (take_clamped m c.args.n c.args.values.now (omega arith))) ∙ (l.invariant ∙ rw none (or-false l.found)))
