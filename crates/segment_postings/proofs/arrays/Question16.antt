-- Question 16, taken apart into what it says of each number.
-- Assumes nothing.
use Rattle.std.specs.Prelude.{◌≡◌, ℕ, ◌+◌, ◌*◌, ◌/◌, ◌%◌, ◌<◌, ◌≤◌, Bool, true, false, eqb}
use mathlib.Core.Path.{refl, sym}
use mathlib.Core.Bool.{and-eq-true_iff}
use native.Mathlib.Nat.{le_trans, le-min, min-le_left, min-le_right}
use native.Mathlib.Omega.{arith}
use borrow.Author.Tests.{leb-true, ltb-true, eqb-true, eqb-false, le-leb, lt-ltb, eq-eqb, ne_eqb}
use Rattle.format.specs.declared.Term.{Term}
use Rattle.segment_postings.specs.declared.Held.{Held}
use Rattle.segment_postings.specs.Cursor.{position, in_bounds_of}

pub record Bounded (t : Term) (size : ℕ) (h : Held) : Type 0 where
  pub block_most_is : h.block ≤ t.count / 128
  pub place_below : h.place < 128
  pub position_most : 128 * h.block + h.place ≤ t.count
  pub next_inside : h.next ≤ size
  pub unpacked_most : h.unpacked ≤ h.block + 1
  pub entries_behind : h.entries ≤ h.block + 1
  pub entries_most : h.entries ≤ t.count / 128

module _ (t : Term) (size : ℕ) (h : Held) where
  pub bounded : in_bounds_of t size h ≡ true → Bounded t size h
  unfolding in_bounds_of position
  bounded e =
      let block = (and-eq-true_iff _ _).0 e in
      let place = (and-eq-true_iff _ _).0 block.1 in
      let at = (and-eq-true_iff _ _).0 place.1 in
      let next = (and-eq-true_iff _ _).0 at.1 in
      let counts = (and-eq-true_iff _ _).0 next.1 in
      record {
        block_most_is = leb-true _ _ block.0;
        place_below = ltb-true _ _ place.0;
        position_most = leb-true _ _ at.0;
        next_inside = leb-true _ _ next.0;
        unpacked_most = leb-true _ _ counts.0;
        entries_behind = le_trans (leb-true _ _ counts.1) (min-le_left _ _);
        entries_most = le_trans (leb-true _ _ counts.1) (min-le_right _ _);
      }

  pub in_bounds : Bounded t size h → in_bounds_of t size h ≡ true
  unfolding in_bounds_of position
  in_bounds b =
      rw (le-leb _ _ b.block_most_is, lt-ltb _ _ b.place_below, le-leb _ _ b.position_most, le-leb _ _ b.next_inside, le-leb _ _ b.unpacked_most)
      (le-leb _ _ (le-min b.entries_behind b.entries_most))

  pub out-of_bounds : (Bounded t size h → ⊥) → false ≡ in_bounds_of t size h
  out-of_bounds never = go (in_bounds_of t size h) refl
    where
      go : (r : Bool) → in_bounds_of t size h ≡ r → false ≡ r
      go true e = absurd (never (bounded e))
      go false e = refl

-- two tests of numbers are one where each holds with the other
same_test : (a b x y : ℕ) → (a ≡ b → x ≡ y) → (x ≡ y → a ≡ b) → eqb a b ≡ eqb x y
same_test a b x y there back = go (eqb a b) refl
  where
    go : (r : Bool) → eqb a b ≡ r → r ≡ eqb x y
    go true e = sym (eq-eqb x y (there (eqb-true a b e)))
    go false e = sym (ne_eqb x y (λ same. eqb-false a b e (back same)))

-- the end's block and place are the quotient and the remainder of the count
module _ (block place count : ℕ) (below : place < 128) where
  pub other_block : (block ≡ count / 128 → ⊥) → false ≡ eqb (128 * block + place) count
  other_block other = sym (ne_eqb _ _ (λ (same : 128 * block + place ≡ count). other (omega arith)))

  pub last_block : block ≡ count / 128 → eqb place (count % 128) ≡ eqb (128 * block + place) count
  last_block e = same_test place (count % 128) (128 * block + place) count (λ same. omega arith) (λ same. omega arith)
