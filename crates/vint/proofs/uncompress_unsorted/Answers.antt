-- `vint::uncompress_unsorted` meets its contract: a turn reads and stores one number more. A number that is read lies inside `src`,
-- so `next` fits.
use Rattle.std.specs.Prelude.{Some}
use Rattle.std.proofs.Common.{◌≡◌, sym, ◌∙◌, ℕ, List, ◌+◌, ◌<◌, ◌≤◌, ◌^◌, length, drop, arith, length-drop}
use native.Mathlib.Nat.{sub-zero}
use Rattle.std.proofs.lemmas.List.{set-get_or}
use Rattle.format.specs.Vint.{tail_number}
use Rattle.format.proofs.VintCode.{Within, tail_number-within, length-tail_numbers}
use Rattle.vint.proofs.Numbers.{filling_none, filling_next, filling_malformed, filling_end}
use Rattle.vint.proofs.uncompress_unsorted.Goals as goal

-- the number that a turn reads
within : (src : List ℕ) (next : ℕ) {value used : ℕ} → tail_number (drop next src) ≡ Some (value, used)
    → (value < 2 ^ 32) × (next + used ≤ length src)
within src next {value} {used} e =
    let w : Within (2 ^ 32) (drop next src) (Some (value, used)) = rw e at (tail_number-within (drop next src)) in
    omega (arith, w, length-drop next src)

pub loop-value-init : goal.loop-value-init
loop-value-init c = rw sub-zero (filling_none _ _ _ (length-tail_numbers _ _))

pub returns-in_err-number : goal.returns-in_err-number
returns-in_err-number c =
    let p = filling_malformed _ _ _ _ c.loop-value-test.true (sym c.read_vint_u32.ensures ∙ c.in_err-number.was) c.loop-value.invariant in
    rw (c.from_residual.ensures, set-get_or) (record { value = p.0; values_after = p.1 })

pub overflow_cast-value : goal.overflow_cast-value
overflow_cast-value c = omega (arith, within c.args.src.now c.loop-value.next (sym c.read_vint_u32.ensures ∙ c.in_ok-number.was))

pub overflow_add-next : goal.overflow_add-next
overflow_add-next c = omega (arith, within c.args.src.now c.loop-value.next (sym c.read_vint_u32.ensures ∙ c.in_ok-number.was))

pub loop-value-preserved : goal.loop-value-preserved
loop-value-preserved c = filling_next _ _ _ _ c.loop-value-test.true (sym c.read_vint_u32.ensures ∙ c.in_ok-number.was) c.loop-value.invariant

pub returns : goal.returns
returns c =
    let p = filling_end _ _ _ _ c.loop-value-test.false c.loop-value.invariant in
    record { value = p.0; values_after = p.1 }
