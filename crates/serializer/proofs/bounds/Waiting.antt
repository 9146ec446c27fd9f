-- Question 16 of what waits, asked place by place without an early no. Ids that rise strictly from `least` on, below TERMINATED, are those of
-- which each lies above the one before it, where the first is at least `least` and the last lies below TERMINATED: no other is less than
-- the first or more than the last. A walk carries what it found so far, and what is asked of all is that and what is asked of the rest.
-- Assumes nothing.
use Rattle.std.specs.Prelude.{◌≡◌, ℕ, zero, suc, ◌+◌, ◌-◌, ◌<◌, ◌≤◌, Bool, true, false, not, ◌&&◌ as and, eqb, ltb, leb, List, [], ◌∷◌, length, get_or, drop}
use mathlib.Core.Bool.{and_assoc, and-true, and-false}
use mathlib.Core.Path.{refl, sym, ◌∙◌}
use native.Mathlib.Decide.{dec_lt}
use native.Mathlib.Nat.{not-suc-le-zero, zero-lt-suc}
use native.Mathlib.Omega.{arith}
use borrow.Author.Tests.{le-leb, lt-leb, lt-ltb, le-ltb, ne_eqb}
use lib.ListN.{drop_of_length-le}
use Rattle.format.specs.Basics.{last_of, TERMINATED}
use Rattle.format.specs.Values.{rising, countable}
use Rattle.format.proofs.Gaps.{drop-next}
use Rattle.format.proofs.Values.{rising-cons, rising-last}
use Rattle.serializer.specs.Pieces.{climbing}

-- ---- the first and the last

pub counting_none : (fs : List ℕ) → length fs ≡ 0 → countable fs ≡ true
unfolding countable
counting_none [] e = refl
counting_none (f ∷ fs) e = absurd (omega arith)

pub rising_none : (least : ℕ) (ds : List ℕ) → length ds ≡ 0 → rising least ds ≡ true
unfolding rising
rising_none least [] e = refl
rising_none least (d ∷ ds) e = absurd (omega arith)

pub rising-low : (least : ℕ) (ds : List ℕ) → 0 < length ds → get_or ds 0 0 < least → rising least ds ≡ false
unfolding rising
rising-low least [] some low = absurd (not-suc-le-zero some)
rising-low least (d ∷ ds) some low = rw (lt-leb least d low)

denied : (b : Bool) → (b ≡ true → ⊥) → b ≡ false
denied true never = absurd (never refl)
denied false never = refl

pub rising-high : (least : ℕ) (ds : List ℕ) → 0 < length ds → TERMINATED ≤ last_of 0 ds → rising least ds ≡ false
rising-high least ds some high = denied (rising least ds) (λ r. omega (arith, rising-last least ds r some))

-- ---- and those between them

-- an id below one from which the others rise lies below TERMINATED
next_climbs : (least d e : ℕ) (ds : List ℕ) (b : Bool) → rising (d + 1) (e ∷ ds) ≡ b → least ≤ d → rising least (d ∷ (e ∷ ds)) ≡ b
unfolding rising
next_climbs least d e ds false r h = rw (r, and-false)
next_climbs least d e ds true r h =
    let k = rising-cons (d + 1) e ds r in
    let below : d < TERMINATED = omega (arith, k.above, k.below) in
    rw (r, le-leb least d h, lt-ltb d TERMINATED below)

pub rising_climbs : (least : ℕ) (ds : List ℕ) → 0 < length ds → least ≤ get_or ds 0 0 → last_of 0 ds < TERMINATED → rising least ds ≡ climbing ds
unfolding rising climbing last_of
rising_climbs least [] some low high = absurd (not-suc-le-zero some)
rising_climbs least (d ∷ []) some low high = rw (le-leb least d low, lt-ltb d TERMINATED high)
rising_climbs least (d ∷ (e ∷ ds)) some low high =
    elim (dec_lt d e) [
      | yes up ↦ next_climbs least d e ds _ refl low ∙ rw (lt-ltb d e up) (rising_climbs (d + 1) (e ∷ ds) (zero-lt-suc _) (omega arith) high)
      | no down ↦ next_climbs least d e ds _ refl low ∙ rw (le-ltb d e (omega arith)) (rising-low (d + 1) (e ∷ ds) (zero-lt-suc _) (omega arith))
    ]

-- ---- a walk over ids: `above` says whether those before place i climb, and those from the one before it on are left

climbing-next : (ds : List ℕ) (i : ℕ) → i + 1 < length ds
    → climbing (drop i ds) ≡ and (ltb (get_or ds i 0) (get_or ds (i + 1) 0)) (climbing (drop (i + 1) ds))
unfolding climbing
climbing-next ds i h = rw (drop-next ds i (omega arith), drop-next ds (i + 1) h)

climbing-last : (ds : List ℕ) (i : ℕ) → i + 1 ≡ length ds → climbing (drop i ds) ≡ true
unfolding climbing
climbing-last ds i e = rw (drop-next ds i (omega arith), drop_of_length-le ds {i = i + 1} (omega arith))

module _ (ds : List ℕ) (i : ℕ) (above : Bool) (some : 1 ≤ i) (inv : climbing ds ≡ and above (climbing (drop (i - 1) ds))) where
  pub climbing-on : i < length ds → climbing ds ≡ and (and above (ltb (get_or ds (i - 1) 0) (get_or ds i 0))) (climbing (drop (i + 1 - 1) ds))
  climbing-on h =
      let here : i - 1 + 1 ≡ i = omega arith in
      let next : i + 1 - 1 ≡ i = omega arith in
      inv ∙ rw (climbing-next ds (i - 1) (omega arith), here, next, and_assoc above _ (climbing (drop i ds)))

  pub climbing-end : i ≡ length ds → above ≡ climbing ds
  climbing-end e = sym (inv ∙ rw (climbing-last ds (i - 1) (omega arith), and-true))

-- ---- a walk over ids and frequencies: `holds` says whether those before place i climb and count

some_is : (n : ℕ) → leb 1 n ≡ not (eqb n 0)
some_is zero = refl
some_is (suc n) = rw (le-leb 1 (suc n) (omega arith), ne_eqb (suc n) 0 (λ e. omega arith))

counting_next : (fs : List ℕ) (i : ℕ) → i < length fs → get_or fs i 0 ≤ 4294967295
    → countable (drop i fs) ≡ and (not (eqb (get_or fs i 0) 0)) (countable (drop (i + 1) fs))
unfolding countable
counting_next fs i h fits = rw (drop-next fs i h, le-leb (get_or fs i 0) 4294967295 fits, and-true, some_is)

-- what is asked of the documents at a place goes to what was found before it
to_the_front : (holds a b c k : Bool) → and holds (and (and a c) (and b k)) ≡ and (and (and holds a) b) (and c k)
to_the_front false a b c k = refl
to_the_front true false b c k = refl
to_the_front true true false c k = and-false c
to_the_front true true true c k = refl

module _ (ds fs : List ℕ) where
  abbrev pub left : ℕ → Bool
  left i = and (climbing (drop (i - 1) ds)) (countable (drop i fs))

  pub both-begin : 0 < length fs → get_or fs 0 0 ≤ 4294967295 → and (climbing ds) (countable fs) ≡ and (not (eqb (get_or fs 0 0) 0)) (left 1)
  both-begin h fits = rw (counting_next fs 0 h fits) (to_the_front true true (not (eqb (get_or fs 0 0) 0)) (climbing ds) (countable (drop 1 fs)))

  module _ (i : ℕ) (holds : Bool) (some : 1 ≤ i) (inv : and (climbing ds) (countable fs) ≡ and holds (left i)) where
    pub both-on : i < length ds → i < length fs → get_or fs i 0 ≤ 4294967295
        → and (climbing ds) (countable fs) ≡ and (and (and holds (ltb (get_or ds (i - 1) 0) (get_or ds i 0))) (not (eqb (get_or fs i 0) 0))) (left (i + 1))
    both-on h k fits =
        let here : i - 1 + 1 ≡ i = omega arith in
        let next : i + 1 - 1 ≡ i = omega arith in
        inv ∙ rw (climbing-next ds (i - 1) (omega arith), here, counting_next fs i k fits, next) (to_the_front holds _ (not (eqb (get_or fs i 0) 0)) (climbing (drop i ds)) (countable (drop (i + 1) fs)))

    pub both_end : i ≡ length ds → length ds ≡ length fs → holds ≡ and (climbing ds) (countable fs)
    both_end e same = sym (inv ∙ rw (climbing-last ds (i - 1) (omega arith), counting_none (drop i fs) (rw (drop_of_length-le fs {i = i} (omega arith))), and-true))
