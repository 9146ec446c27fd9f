-- `vint::read_vint` meets its contract. A group is added only where the value stays at most `largest`, which fits 64 bits, so the
-- shift loses no bit.
use Rattle.std.specs.Prelude.{Option}
use Rattle.std.specs.List.{slice_range}
use Rattle.std.proofs.Common.{◌≡◌, sym, ap, ◌∙◌, List, [], ◌∷◌, ℕ, ◌+◌, ◌-◌, ◌*◌, ◌/◌, ◌%◌, ◌^◌, ◌≤◌, ◌<◌, length, get_or, drop, length-drop, arith}
use native.Mathlib.Nat.{div-lt_iff_lt-mul, le-div_iff_mul-le, mod-eq_of_lt}
use Rattle.std.proofs.Math.Pow.{pow_pos}
use Rattle.std.proofs.Math.ListN.{drop_of_length-le}
use Rattle.std.proofs.lemmas.List.{get_or-drop, take_all}
use Rattle.format.proofs.Gaps.{drop-next}
use Rattle.format.proofs.VintCode.{resumed, resumed_zero, resumed_nil, resumed_most, resumed_reached, resumed_more, resumed_last}
use Rattle.vint.proofs.read_vint.Goals as goal

-- the test of a group g: adding it carries the value above `largest`, or it doesn't
module _ (value largest g shift : ℕ) where
  over : (largest - value) / 2 ^ shift < g → largest < value + g * 2 ^ shift
  over h = omega (arith, (div-lt_iff_lt-mul (pow_pos shift)).0 h)

  kept : value ≤ largest → g ≤ (largest - value) / 2 ^ shift → value + g * 2 ^ shift ≤ largest
  kept l h = omega (arith, (le-div_iff_mul-le (pow_pos shift)).0 h)

-- .. and then no bit of it is lost
exact : (value largest p : ℕ) → value + p ≤ largest → largest < 2 ^ 64 → p % 2 ^ 64 ≡ p
exact value largest p a f = mod-eq_of_lt (omega arith)

-- the bytes from `at` on
module _ (at : ℕ) (src bytes : List ℕ) (part : bytes ≡ slice_range src at (length src)) (used : ℕ) where
  whole : bytes ≡ drop at src
  whole = part ∙ take_all _ _ (omega (arith, length-drop at src))

  -- one that is there, and what is read at it
  at_byte : {r : Option (ℕ × ℕ)} {byte : ℕ} (most limit value : ℕ) → ((i : ℕ) → get_or src i 0 < 256) → used < length bytes → byte ≡ get_or bytes used 0
      → r ≡ resumed most limit used value (drop used (drop at src))
      → (byte < 256) × (r ≡ resumed most limit used value (byte ∷ drop (used + 1) (drop at src)))
  at_byte most limit value small there is e =
      let same = is ∙ ap (λ (bs : List ℕ). get_or bs used 0) whole in
      (rw (same, get_or-drop) (small (at + used)), e ∙ rw same (ap (resumed most limit used value) (drop-next (drop at src) used (omega (arith, ap length whole)))))

  -- .. and where none is
  nothing : length bytes ≤ used → drop used (drop at src) ≡ []
  nothing h = drop_of_length-le (drop at src) (omega (arith, ap length whole))

pub returns-in_err-bytes : goal.returns-in_err-bytes
returns-in_err-bytes c =
    let most = c.args.most in
    let limit = c.args.largest + 1 in
    let none : drop c.args.at c.args.src.now ≡ [] = drop_of_length-le c.args.src.now (omega (arith, c.in_err-bytes.ensures.lookup.0)) in
    rw (c.from_residual.ensures, none) (sym (resumed_zero most limit [] ∙ resumed_nil most limit 0 0))

pub loop-used-init : goal.loop-used-init
loop-used-init c = record { value_within = omega arith; goes_on = resumed_zero _ _ _ }

pub returns-in_err-byte : goal.returns-in_err-byte
returns-in_err-byte c =
    let l = c.loop-used in
    let none = nothing c.args.at c.args.src.now _ c.in_ok-bytes.ensures.lookup.0.2 l.used c.in_err-byte.ensures.lookup.3 in
    rw c.from_residual-in_err-byte.ensures (sym (l.invariant.goes_on ∙ rw none (resumed_nil c.args.most (c.args.largest + 1) l.used l.value)))

pub returns-then-largest-value : goal.returns-then-largest-value
returns-then-largest-value c =
    let l = c.loop-used in
    let there = c.in_ok-byte.ensures.lookup.3 in
    let t = at_byte c.args.at c.args.src.now _ c.in_ok-bytes.ensures.lookup.0.2 l.used _ _ _ (λ i. omega (arith, c.type_inv.src i)) there.0 (there.1 0) l.invariant.goes_on in
    let group = c.in_ok-byte.field-0.now % 128 in
    sym (t.1 ∙ resumed_reached _ _ _ _ _ _ c.loop-used-test.true t.0 (omega (arith, over l.value c.args.largest group (7 * l.used) c.if-largest-value.true)))

pub returns-then-byte-ge-STOP_BIT : goal.returns-then-byte-ge-STOP_BIT
returns-then-byte-ge-STOP_BIT c =
    let l = c.loop-used in
    let there = c.in_ok-byte.ensures.lookup.3 in
    let t = at_byte c.args.at c.args.src.now _ c.in_ok-bytes.ensures.lookup.0.2 l.used _ _ _ (λ i. omega (arith, c.type_inv.src i)) there.0 (there.1 0) l.invariant.goes_on in
    let group = c.in_ok-byte.field-0.now % 128 in
    let added = kept l.value c.args.largest group (7 * l.used) l.invariant.value_within c.if-largest-value.false in
    rw (exact l.value c.args.largest (group * 2 ^ (7 * l.used)) added (omega arith))
    (sym (t.1 ∙ resumed_last _ _ _ _ _ _ c.loop-used-test.true t.0 c.if-byte-ge-STOP_BIT.true (omega (arith, added))))

pub loop-used-preserved : goal.loop-used-preserved
loop-used-preserved c =
    let l = c.loop-used in
    let there = c.in_ok-byte.ensures.lookup.3 in
    let t = at_byte c.args.at c.args.src.now _ c.in_ok-bytes.ensures.lookup.0.2 l.used _ _ _ (λ i. omega (arith, c.type_inv.src i)) there.0 (there.1 0) l.invariant.goes_on in
    let group = c.in_ok-byte.field-0.now % 128 in
    let added = kept l.value c.args.largest group (7 * l.used) l.invariant.value_within c.if-largest-value.false in
    rw (exact l.value c.args.largest (group * 2 ^ (7 * l.used)) added (omega arith))
    (record { value_within = added; goes_on = t.1 ∙ resumed_more _ _ _ _ _ _ c.loop-used-test.true t.0 c.if-byte-ge-STOP_BIT.false })

pub returns : goal.returns
returns c =
    let l = c.loop-used in
    let all : l.used ≡ c.args.most = omega arith in
    sym (l.invariant.goes_on ∙ rw all (resumed_most _ _ _ _))
