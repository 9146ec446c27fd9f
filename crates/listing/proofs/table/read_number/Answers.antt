-- `listing::table::read_number` meets its contract: a byte that is no digit ends the number, as does a value that would reach 2 ^ 32, and a digit
-- is one turn of the definition.
-- Assumes nothing.
use Rattle.std.proofs.Common.{◌≡◌, ◌+◌, ◌-◌, ◌*◌, ◌∙◌, sym, length, get_or, arith}
use Rattle.listing.proofs.Numbers.{ends, stops, goes_on, overflows, number-none, number-some}
use Rattle.listing.proofs.table.read_number.Goals as goal

pub returns-then-is_empty : goal.returns-then-is_empty
returns-then-is_empty c = let none : length c.args.text.now ≡ 0 = grind arith in sym (number-none _ none)

pub loop-byte-init : goal.loop-byte-init
loop-byte-init c = let some : length c.args.text.now ≡ 0 → ⊥ = grind arith in record { fits = omega arith; reads_on = number-some _ some }

pub returns-then-not-is_ascii_digit : goal.returns-then-not-is_ascii_digit
returns-then-not-is_ascii_digit c =
    sym (c.loop-byte.invariant.reads_on
    ∙ stops c.args.text.now c.loop-byte.byte-index c.loop-byte.value (omega arith) (sym c.is_ascii_digit.ensures.value ∙ c.if-not-is_ascii_digit.true))

pub returns-in_err-checked_mul : goal.returns-in_err-checked_mul
returns-in_err-checked_mul c =
    rw c.from_residual.ensures
    (sym (c.loop-byte.invariant.reads_on
    ∙ overflows c.args.text.now c.loop-byte.byte-index c.loop-byte.value (omega arith)
    (sym c.is_ascii_digit.ensures.value ∙ c.if-not-is_ascii_digit.false)
    (omega (arith, c.in_err-checked_mul.ensures))))

pub returns-in_err-value : goal.returns-in_err-value
returns-in_err-value c =
    rw c.from_residual-in_err-value.ensures
    (sym (c.loop-byte.invariant.reads_on
    ∙ overflows c.args.text.now c.loop-byte.byte-index c.loop-byte.value (omega arith)
    (sym c.is_ascii_digit.ensures.value ∙ c.if-not-is_ascii_digit.false)
    (omega (arith, c.in_ok-checked_mul.ensures, c.in_err-value.ensures))))

pub loop-byte-preserved : goal.loop-byte-preserved
loop-byte-preserved c =
    let l = c.loop-byte in
    let next : 10 * l.value + (get_or c.args.text.now l.byte-index 0 - 48) ≡ c.in_ok-value.value =
    omega (arith, c.in_ok-checked_mul.ensures, c.in_ok-value.ensures) in
    let digit = sym c.is_ascii_digit.ensures.value ∙ c.if-not-is_ascii_digit.false in
    record {
      fits = omega (arith, c.in_ok-value.ensures);
      reads_on = l.invariant.reads_on ∙ rw next at (goes_on c.args.text.now l.byte-index l.value (omega arith) digit);
    }

pub returns : goal.returns
returns c = sym (c.loop-byte.invariant.reads_on ∙ ends _ c.loop-byte.byte-index c.loop-byte.value (omega arith) c.loop-byte.invariant.fits)
