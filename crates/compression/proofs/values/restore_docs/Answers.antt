-- `compression::values::restore_docs` meets its contract: where a 0 is found nothing is written; else `sum` is handed the differences, a
-- list's first one less, and makes the sums of the definition.
-- Assumes nothing.
use Rattle.std.proofs.Common.{◌≡◌, refl, sym, ap, ◌∙◌, Bool, true, false, not, ◌&&◌ as and, ℕ, zero, suc, List, [], ◌∷◌, ◌++◌, ◌-◌, ◌≤◌, ◌<◌, min, length, get_or, take, drop, arith, rules}
use mathlib.Core.Bool.{and-false}
use mathlib.Core.Logic.{⊎_elim}
use native.Mathlib.Nat.{eq-zero-or-pos}
use Rattle.std.proofs.Math.ListN.{set}
use Rattle.std.proofs.Math.Seq.{length-take-le, drop-set-lt}
use Rattle.format.specs.Basics.{choose, last_of}
use Rattle.format.specs.Model.{member}
use Rattle.format.specs.Values.{ids_from}
use Rattle.std.specs.Prelude.{Ok, Err}
use Rattle.format.specs.declared.refusal.Refusal.TheVariants.{DocsNotRising}
use Rattle.compression.specs.Restored.{in_place, ending, sums_behind, found_zero, DocsRestored, Summed}
use Rattle.compression.proofs.InPlace.{clamped}
use Rattle.compression.proofs.values.restore_docs.Goals as goal
use Rattle.compression.proofs.values.restore_docs.Goals.{else-not-nonzero-via-then-not-nonzero+else-has_zero, else-not-nonzero-via-else-not-nonzero, then-least-eq0, else-least-eq0}

-- the sums that `sum` makes are those of the definition, of a list ..
sums_first : (m : ℕ) (entry : List ℕ) → 0 < m → m ≤ length entry
    → ids_from 0 0 (take m (set entry 0 (get_or entry 0 0 - 1))) ≡ sums_behind 0 (take m entry)
unfolding sums_behind
sums_first zero entry some fits = absurd (omega arith)
sums_first (suc m) [] some fits = absurd (omega arith)
sums_first (suc m) (d ∷ entry) some fits = refl

-- .. and behind an id
sums_next : (least : ℕ) (ds : List ℕ) → 0 < least → 0 < length ds → ids_from 0 (least - 1) ds ≡ sums_behind least ds
unfolding sums_behind
sums_next zero ds pos some = absurd (omega arith)
sums_next (suc before) [] pos some = absurd (omega arith)
sums_next (suc before) (d ∷ ds) pos some = let one : suc before - 1 ≡ before = omega arith in rw one

-- the last of some is the same, whatever stands before them
sums-last : (y least : ℕ) (ds : List ℕ) → 0 < length ds → last_of y (sums_behind least ds) ≡ last_of 0 (sums_behind least ds)
unfolding sums_behind ids_from last_of
sums-last y least [] some = absurd (omega arith)
sums-last y zero (d ∷ ds) some = refl
sums-last y (suc before) (d ∷ ds) some = refl

-- what `sum` is handed: the differences, a list's first one less
module _ (least m : ℕ) (entry between : List ℕ) (some : 0 < m) (fits : m ≤ length entry)
    (first : least ≡ 0 → between ≡ set entry 0 (get_or entry 0 0 - 1)) (others : 0 < least → between ≡ entry) where
  many : 0 < length (take m entry)
  many = rw (length-take-le m entry fits) some

  sums : ids_from 0 (least - 1) (take m between) ≡ sums_behind least (take m entry)
  sums =
      ⊎_elim (λ z. rw (first z, z) (sums_first m entry some fits)) (λ pos. rw (others pos) (sums_next least (take m entry) pos many))
      (eq-zero-or-pos least)

  behind : drop m between ≡ drop m entry
  behind = ⊎_elim (λ z. rw (first z) (drop-set-lt m entry 0 (get_or entry 0 0 - 1) some)) (λ pos. rw (others pos)) (eq-zero-or-pos least)

  module _ (exit : List ℕ) (last : ℕ) (summed : Summed (least - 1) (take m between) exit last) (n : ℕ) (clamps : m ≡ min n (length entry)) where
    last_is : last ≡ last_of 0 (sums_behind least (take m entry))
    last_is = summed.answered ∙ rw sums (sums-last (least - 1) least (take m entry) many)

    left_is : exit ++ drop m between ≡ in_place m (sums_behind least (take m entry)) entry
    unfolding in_place
    left_is = rw (summed.left, sums, behind)

    pub restored_by : (nonzero : Bool) → found_zero nonzero (take m entry) ≡ false → {left : List ℕ} → left ≡ exit ++ drop m between
        → DocsRestored least n nonzero entry left (ending last)
    unfolding choose in_place
    restored_by nonzero none same =
        let c = clamped m n entry clamps in
        let untold = rw c.0 at none in
        rw same
        record {
          answered = rw untold (ap ending (rw c.0 at last_is));
          left = rw untold (rw (c.0, c.1) at left_is);
        }

-- there are no values, or a 0 is found
no-values : (least : ℕ) (nonzero : Bool) (entry : List ℕ) → DocsRestored least 0 nonzero entry entry (Ok 0)
unfolding choose found_zero member ending sums_behind last_of in_place
no-values least true entry = record { answered = refl; left = refl }
no-values least false entry = record { answered = refl; left = refl }

zero-found : (least n : ℕ) (entry : List ℕ) → member 0 (take n entry) ≡ true → DocsRestored least n false entry entry (Err DocsNotRising)
unfolding choose found_zero
zero-found least n entry e = record { answered = rw e; left = rw e }

pub returns-then-m-eq0 : goal.returns-then-m-eq0
returns-then-m-eq0 c =
    let none : c.args.n ≡ 0 = omega arith in
    rw none (no-values c.args.least c.args.nonzero c.args.values.now)

pub returns-then-has_zero : goal.returns-then-has_zero
returns-then-has_zero c =
    let some = sym c.has_zero.ensures ∙ c.if-has_zero.true in
    let found = rw (clamped c.min-m.result c.args.n c.args.values.now (omega arith)).0 at some in
    rw c.if-not-nonzero.true (zero-found c.args.least c.args.n c.args.values.now found)

-- no 0 was found: it was looked for, or the caller ruled it out. A list's first difference is made one less, every other is as it was
pub returns : goal.returns
unfolding found_zero
returns c =
    let args = c.args in
    let entry : List ℕ = args.values.now in
    let m : ℕ = c.min-m.result in
    let block : List ℕ = c.if-least-eq0.values in
    let none : found_zero args.nonzero (take m entry) ≡ false = elim c.else-not-nonzero.branch [
      | else-not-nonzero-via-then-not-nonzero+else-has_zero w ↦
          ap (and (not args.nonzero)) (sym w.has_zero.ensures ∙ w.if-has_zero.false) ∙ and-false (not args.nonzero)
      | else-not-nonzero-via-else-not-nonzero w ↦ rw w.if-not-nonzero.false
    ] in
    let first : args.least ≡ 0 → block ≡ set entry 0 (get_or entry 0 0 - 1) = λ z. elim c.if-least-eq0.branch [
      | then-least-eq0 w ↦ w.values-is ∙ ap (set entry 0) w.saturating_sub.ensures
      | else-least-eq0 w ↦ absurd (w.if-least-eq0.false z)
    ] in
    let others : 0 < args.least → block ≡ entry = λ some. elim c.if-least-eq0.branch [
      | then-least-eq0 w ↦ absurd (omega (arith, w.if-least-eq0.true))
      | else-least-eq0 w ↦ w.values-is
    ] in
    rw c.ending.ensures
    (restored_by args.least m entry block (omega arith) (omega arith)
    first others c.sum.new.values c.sum.result
    (rw (c.from-before.ensures, c.saturating_sub-2.ensures) at c.sum.ensures) args.n (omega arith) args.nonzero none (search rules))
