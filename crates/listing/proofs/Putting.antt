-- Text put into an area piece by piece: a piece behind another is the two together.
-- Assumes nothing.
use Rattle.std.specs.Prelude.{Option, Some, Ok, Err}
use Rattle.std.proofs.lemmas.Option.{same_Some}
use mathlib.Core.List.{List, [], ◌++◌}
use mathlib.Core.Path.{◌≡◌, refl, sym, ap, ◌∙◌}
use Prim.Native.Nat.{ℕ, ◌+◌, ◌≤◌}
use native.Mathlib.Omega.{arith}
use lib.ListN.{length, set, length-append}
use Rattle.format.specs.declared.refusal.Refusal.{Refusal}
use Rattle.format.specs.Basics.{put_at, next_at, Outcome}
use Rattle.format.proofs.Area.{length-put_at, put_at-nil, put_at-one, put_at-append, next_at-fits}
use Rattle.segment_postings.specs.declared.Answer.{Answer}
use Rattle.segment_postings.specs.Called.{shown}
use Rattle.listing.specs.Output.{decimal, field, line, Puts}
use Rattle.listing.proofs.Decimal.{field-most, line-is, line-none}

pub puts_none : (at : ℕ) (area : List ℕ) → at ≤ length area → Puts [] at area area at
puts_none at area h = record { area_after = sym (put_at-nil at area); behind = omega arith; inside = omega arith }

-- bytes that fit are put, and the place behind them is answered
pub puts-next : (at : ℕ) (bs area : List ℕ) {area' : List ℕ} {next : Option ℕ} {r : ℕ} → at + length bs ≤ length area → next ≡ Some r
    → next ≡ next_at at bs area → area' ≡ put_at at bs area → Puts bs at area area' r
puts-next at bs area room place next put =
    record { area_after = put; behind = same_Some _ _ (sym place ∙ (next ∙ next_at-fits at bs area room)); inside = room }

pub puts-length : {bs : List ℕ} {at r : ℕ} {area area' : List ℕ} → Puts bs at area area' r → length area' ≡ length area
puts-length {bs} {at} {r} {area} h = ap length h.area_after ∙ length-put_at at bs area

-- the room left behind a field
pub field_room : (n b : ℕ) {at r : ℕ} {area area' : List ℕ} (left : ℕ) → Puts (field n b) at area area' r → at + 21 + left ≤ length area → r + left ≤ length area'
field_room n b left h room = omega (arith, h.behind, puts-length h, field-most n b)

pub puts_then : {a b : List ℕ} {at next r : ℕ} {area area' area'' : List ℕ}
    → Puts a at area area' next → Puts b next area' area'' r → Puts (a ++ b) at area area'' r
puts_then {a} {b} {at} {next} {r} {area} {area'} h k =
    let same : length area' ≡ length area = ap length h.area_after ∙ length-put_at at a area in
    let room : at + length (a ++ b) ≤ length area = rw length-append (omega (arith, h.behind, k.inside, same)) in
    record {
      area_after = k.area_after ∙ rw (h.behind, h.area_after) (put_at-append at a b area room);
      behind = rw length-append (omega (arith, h.behind, k.behind));
      inside = room;
    }

-- a number's digits, then the byte behind them
pub puts-field : (n b at next : ℕ) (text : List ℕ) {area area' area'' : List ℕ} → text ≡ decimal n → Puts text at area area' next
    → next + 1 ≤ length area → area'' ≡ set area' next b → Puts (field n b) at area area'' (next + 1)
unfolding field
puts-field n b at next text {area} {area'} digits first room second =
    let same : length area' ≡ length area = puts-length first in
    rw (← digits)
    (puts_then first
    (record {
      area_after = second ∙ sym (put_at-one next b area' (omega arith));
      behind = refl;
      inside = omega arith;
    }))

-- three numbers are a line
pub puts-line : {a : Answer} {at next last r : ℕ} {area area' area'' area''' : List ℕ} (answer : Outcome Answer) → answer ≡ Ok a
    → Puts (field a.doc 32) at area area' next → Puts (field a.freq 32) next area' area'' last → Puts (field a.unpacked 10) last area'' area''' r
    → Puts (line (shown answer)) at area area''' r
unfolding shown
puts-line {a} answer e h k l = rw (e, line-is a.doc a.freq a.unpacked a.hit) (puts_then h (puts_then k l))

pub puts-refused : {why : Refusal} {at : ℕ} {area : List ℕ} (answer : Outcome Answer) → answer ≡ Err why → at ≤ length area
    → Puts (line (shown answer)) at area area at
unfolding shown
puts-refused {why} {at} {area} answer e h = rw (e, line-none why) (puts_none at area h)
