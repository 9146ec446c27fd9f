-- Ids by their differences. In the strict form a value is one less than its difference; in the non-strict form it is the difference, but
-- for a list's first, which is the id. Either way the ids of the differences are the ids of the values, and question 6 is the same
-- question. Ids are sums of differences, so where no difference is 0 they rise, and the last one says whether all lie below TERMINATED.
-- Assumes nothing.
use mathlib.Core.Path.{◌≡◌, refl, sym, ap, ap₂, ◌∙◌}
use mathlib.Core.Bool.{Bool, true, false, not, false≢true, and-true, and-false, ◌&&◌ as and, and-eq-true_iff}
use mathlib.Core.List.{List, [], ◌∷◌, ◌++◌, map}
use Prim.Native.Nat.{ℕ, zero, suc, ◌+◌, ◌-◌, ◌%◌, ◌^◌, ◌≤◌, ◌<◌}
use native.Mathlib.Nat.{add-zero, zero-add, add-sub_cancel, zero-lt-suc}
use native.Mathlib.Numerals.{add-one}
use native.Mathlib.Omega.{arith}
use lib.Dec.{leb, ltb}
use lib.ListN.{length, take, drop}
use borrow.Author.Tests.{le-leb, lt-leb, lt-ltb, leb-true, ltb-true, ltb-false, ne_eqb}
use Rattle.format.specs.Basics.{Outcome, ask, choose, last_of, TERMINATED}
use Rattle.format.specs.Model.{member}
use Rattle.format.specs.Values.{ids_from, ids, restored, rising, reduction, origin}
use Rattle.format.proofs.Lists.{AllBelow-le}
use Rattle.format.proofs.Values.{rising-below}
use Rattle.compression.specs.Restored.{ids_behind, differences_rise, first_difference_of, as_differences, risen, in_place, ending, sums_behind, found_zero, DocsRestored}
use Rattle.compression.proofs.Frequencies.{kept-below}

pub length-ids_behind : (least : ℕ) (ds : List ℕ) → length (ids_behind least ds) ≡ length ds
unfolding ids_behind
length-ids_behind least [] = refl
length-ids_behind least (d ∷ ds) = ap suc (length-ids_behind (least + d) ds)

-- of some ids the last is the same, whatever stands before them
pub last_any : (y z least : ℕ) (ds : List ℕ) → 0 < length ds → last_of y (ids_behind least ds) ≡ last_of z (ids_behind least ds)
unfolding ids_behind last_of
last_any y z least [] h = absurd (omega arith)
last_any y z least (d ∷ ds) h = refl

-- ---- the differences of values

-- what is known of differences that stand for values: question 6 is the same, and where it is passed the ids are
pub record Differ (strict : Bool) (least : ℕ) (vs ds : List ℕ) : Type 0 where
  pub question : differences_rise least ds ≡ rising least (ids strict least vs)
  pub same : differences_rise least ds ≡ true → ids_behind least ds ≡ ids strict least vs

-- one below a bound
below-leb : (a b : ℕ) → leb (a + 1) b ≡ ltb a b
below-leb a b = go (ltb a b) refl
  where
    go : (t : Bool) → ltb a b ≡ t → leb (a + 1) b ≡ t
    go true e = le-leb (a + 1) b (omega (arith, ltb-true a b e))
    go false e = lt-leb (a + 1) b (omega (arith, ltb-false a b e))

-- the strict form: one more than the value
strict_question : (least : ℕ) (vs : List ℕ) → differences_rise least (restored true vs) ≡ rising least (ids_from 1 least vs)
unfolding differences_rise restored reduction rising ids_from
strict_question least [] = refl
strict_question least (v ∷ vs) =
    let next : least + (v + 1) ≡ least + v + 1 = omega arith in
    rw (le-leb 1 (v + 1) (omega arith), le-leb least (least + v) (omega arith), next, below-leb, strict_question (least + v + 1) vs)

strict_same : (least : ℕ) (vs : List ℕ) → ids_behind least (restored true vs) ≡ ids_from 1 least vs
unfolding ids_behind restored reduction ids_from
strict_same least [] = refl
strict_same least (v ∷ vs) =
    let next : least + (v + 1) ≡ least + v + 1 = omega arith in
    let here : least + v + 1 - 1 ≡ least + v = omega arith in
    rw (next, here) (ap (λ (ds : List ℕ). (least + v) ∷ ds) (strict_same (least + v + 1) vs))

pub differ_strict : (least : ℕ) (vs : List ℕ) → Differ true least vs (restored true vs)
unfolding ids origin reduction
differ_strict least vs = record { question = strict_question least vs; same = λ _. strict_same least vs }

-- the non-strict form, behind an id d
plain-question : (d : ℕ) (vs : List ℕ) → differences_rise (d + 1) vs ≡ rising (d + 1) (ids_from 0 d vs)
unfolding differences_rise rising ids_from
plain-question d [] = refl
plain-question d (zero ∷ vs) = rw (lt-leb (d + 1) (d + 0) (omega arith))
plain-question d (suc v ∷ vs) =
    let next : d + 1 + suc v ≡ d + suc v + 1 = omega arith in
    rw (le-leb 1 (suc v) (omega arith), le-leb (d + 1) (d + suc v) (omega arith), next, below-leb, add-zero, plain-question (d + suc v) vs)

plain-same : (d : ℕ) (vs : List ℕ) → ids_behind (d + 1) vs ≡ ids_from 0 d vs
unfolding ids_behind ids_from
plain-same d [] = refl
plain-same d (v ∷ vs) =
    let next : d + 1 + v ≡ d + v + 1 = omega arith in
    let here : d + v + 1 - 1 ≡ d + v = omega arith in
    rw (next, here, add-zero) (ap (λ (ds : List ℕ). (d + v) ∷ ds) (plain-same (d + v) vs))

-- a list's first id, whose difference is counted from before 0
ids-first : (v : ℕ) (vs : List ℕ) → ids_from 0 0 (v ∷ vs) ≡ v ∷ ids_from 0 v vs
unfolding ids_from
ids-first v vs = rw (zero-add, add-zero)

differences_rise-first : (d : ℕ) (ds : List ℕ) → differences_rise 0 (d ∷ ds) ≡ and (and (leb 1 d) (leb d TERMINATED)) (differences_rise d ds)
unfolding differences_rise
differences_rise-first d ds = rw zero-add

behind-first : (d : ℕ) (ds : List ℕ) → ids_behind 0 (d ∷ ds) ≡ (d - 1) ∷ ids_behind d ds
unfolding ids_behind
behind-first d ds = rw zero-add

first-question : (v : ℕ) (vs : List ℕ) → differences_rise 0 (first_difference_of v ∷ vs) ≡ rising 0 (ids_from 0 0 (v ∷ vs))
unfolding rising first_difference_of choose
first-question v vs = differences_rise-first (first_difference_of v) vs ∙ (go (ltb v TERMINATED) refl ∙ rw (ids-first v vs))
  where
    go : (t : Bool) → ltb v TERMINATED ≡ t
        → (let d : ℕ = choose t (λ _. v + 1) (λ _. 0) in
        and (and (leb 1 d) (leb d TERMINATED)) (differences_rise d vs) ≡ and (and (leb 0 v) (ltb v TERMINATED)) (rising (v + 1) (ids_from 0 v vs)))
    go true e = rw (le-leb 1 (v + 1) (omega arith), below-leb v TERMINATED, le-leb 0 v (omega arith), plain-question v vs)
    go false e = sym (rw (e, and-false (leb 0 v)))

first-same : (v : ℕ) (vs : List ℕ) → differences_rise 0 (first_difference_of v ∷ vs) ≡ true → ids_behind 0 (first_difference_of v ∷ vs) ≡ ids_from 0 0 (v ∷ vs)
unfolding first_difference_of choose
first-same v vs h =
    behind-first (first_difference_of v) vs ∙ (go (ltb v TERMINATED) (sym (differences_rise-first (first_difference_of v) vs) ∙ h) ∙ sym (ids-first v vs))
  where
    go : (t : Bool)
        → (let d : ℕ = choose t (λ _. v + 1) (λ _. 0) in
        and (and (leb 1 d) (leb d TERMINATED)) (differences_rise d vs) ≡ true → ((d - 1) ∷ ids_behind d vs) ≡ (v ∷ ids_from 0 v vs))
    go true h = ap₂ (λ (d : ℕ) (ds : List ℕ). d ∷ ds) (add-sub_cancel v 1) (plain-same v vs)
    go false h = absurd (false≢true h)

pub differ_plain : (least : ℕ) (vs : List ℕ) → Differ false least vs (as_differences least vs)
unfolding as_differences ids ids_from origin reduction differences_rise ids_behind rising
differ_plain zero [] = record { question = refl; same = λ _. refl }
differ_plain (suc d) [] = record { question = refl; same = λ _. refl }
differ_plain zero (v ∷ vs) = record { question = first-question v vs; same = first-same v vs }
differ_plain (suc d) (v ∷ vs) =
    let before : suc d - 1 ≡ d = omega arith in
    record {
      question = rw (add-one d) at (plain-question d (v ∷ vs)) ∙ ap (λ (e : ℕ). rising (suc d) (ids_from 0 e (v ∷ vs))) (sym before);
      same = λ _. rw (add-one d) at (plain-same d (v ∷ vs)) ∙ ap (λ (e : ℕ). ids_from 0 e (v ∷ vs)) (sym before);
    }

-- ---- question 6 by the last id

-- sums don't fall
last_least : (least : ℕ) (ds : List ℕ) → least ≤ last_of (least - 1) (ids_behind least ds) + 1
unfolding ids_behind last_of
last_least least [] = omega arith
last_least least (d ∷ ds) = omega (arith, last_least (least + d) ds)

-- what lies before the last id lies below TERMINATED if that does
absorbed : (least last : ℕ) → least ≤ last + 1 → and (leb least TERMINATED) (ltb last TERMINATED) ≡ ltb last TERMINATED
absorbed least last h = go (ltb last TERMINATED) refl
  where
    go : (t : Bool) → ltb last TERMINATED ≡ t → and (leb least TERMINATED) t ≡ t
    go true e = rw (le-leb least TERMINATED (omega (arith, ltb-true last TERMINATED e)))
    go false e = and-false (leb least TERMINATED)

-- where no difference is 0 the last id decides; z stands before them
differences_rise-last : (z least : ℕ) (ds : List ℕ) → 0 < length ds → member 0 ds ≡ false
    → differences_rise least ds ≡ ltb (last_of z (ids_behind least ds)) TERMINATED
unfolding differences_rise ids_behind last_of member
differences_rise-last z least [] some h = absurd (omega arith)
differences_rise-last z least (zero ∷ ds) some h = absurd (false≢true (sym h))
differences_rise-last z least (suc d ∷ []) some h =
    let one : least + suc d - 1 + 1 ≡ least + suc d = omega arith in
    rw (le-leb 1 (suc d) (omega arith), and-true, ← one, below-leb (least + suc d - 1) TERMINATED, one)
differences_rise-last z least (suc d ∷ (e ∷ ds)) some h =
    let next : ℕ = least + suc d in
    rw (le-leb 1 (suc d) (omega arith), differences_rise-last (next - 1) next (e ∷ ds) (zero-lt-suc _) (rw (ne_eqb 0 (suc d) (omega arith)) at h))
    (absorbed next (last_of (next - 1) (ids_behind next (e ∷ ds))) (last_least next (e ∷ ds)))

-- where one is 0 question 6 is a no
differences_rise-zero : (least : ℕ) (ds : List ℕ) → member 0 ds ≡ true → differences_rise least ds ≡ false
unfolding differences_rise member
differences_rise-zero least [] h = absurd (false≢true h)
differences_rise-zero least (zero ∷ ds) h = refl
differences_rise-zero least (suc d ∷ ds) h =
    rw (differences_rise-zero (least + suc d) ds (rw (ne_eqb 0 (suc d) (omega arith)) at h)) (and-false (and (leb 1 (suc d)) (leb (least + suc d) TERMINATED)))

-- where question 6 is a yes the ids rise
differences_rise-rising : (least : ℕ) (ds : List ℕ) → differences_rise least ds ≡ true → rising least (ids_behind least ds) ≡ true
unfolding differences_rise ids_behind rising
differences_rise-rising least [] h = refl
differences_rise-rising least (d ∷ ds) h =
    let p = (and-eq-true_iff (and (leb 1 d) (leb (least + d) TERMINATED)) (differences_rise (least + d) ds)).0 h in
    let q = (and-eq-true_iff (leb 1 d) (leb (least + d) TERMINATED)).0 p.0 in
    let some : 1 ≤ d = leb-true 1 d q.0 in
    let few : least + d ≤ TERMINATED = leb-true (least + d) TERMINATED q.1 in
    let next : least + d - 1 + 1 ≡ least + d = omega arith in
    rw (le-leb least (least + d - 1) (omega arith), lt-ltb (least + d - 1) TERMINATED (omega arith), next) (differences_rise-rising (least + d) ds p.1)

-- a place of 32 bits holds each id whole
ids-kept : (least : ℕ) (ds : List ℕ) → differences_rise least ds ≡ true → map (λ d. d % 2 ^ 32) (ids_behind least ds) ≡ ids_behind least ds
ids-kept least ds h =
    kept-below (ids_behind least ds) (AllBelow-le (ids_behind least ds) (omega arith) (rising-below least (ids_behind least ds) (differences_rise-rising least ds h)))

-- ---- what `restore_docs` leaves

-- where no difference is 0 the sums are the ids
sums_are : (least : ℕ) (ds : List ℕ) → member 0 ds ≡ false → sums_behind least ds ≡ ids_behind least ds
unfolding sums_behind ids_behind member
sums_are least [] h = refl
sums_are zero (zero ∷ ds) h = absurd (false≢true (sym h))
sums_are zero (suc d ∷ ds) h =
    let less : suc d - 1 ≡ d = omega arith in
    rw (behind-first (suc d) ds, less, ids-first d ds) (ap (λ (l : List ℕ). d ∷ l) (rw add-one at (sym (plain-same d ds))))
sums_are (suc before) (d ∷ ds) h = rw add-one at (sym (plain-same before (d ∷ ds)))

-- .. and question 6 is answered by the last one
ends_as : (least : ℕ) (ds : List ℕ) → member 0 ds ≡ false → ending (last_of 0 (ids_behind least ds)) ≡ risen least ds
unfolding ending risen ask ids_behind differences_rise last_of
ends_as least [] h = refl
ends_as least (d ∷ ds) h = rw (differences_rise-last 0 least (d ∷ ds) (zero-lt-suc _) h)

module _ {least n : ℕ} {nonzero : Bool} {entry exit : List ℕ} {answer : Outcome ℕ} (r : DocsRestored least n nonzero entry exit answer)
    (known : nonzero ≡ true → member 0 (take n entry) ≡ false) where
  abbrev ds : List ℕ
  ds = take n entry

  -- a 0 that is there is found
  finds : member 0 ds ≡ true → found_zero nonzero ds ≡ true
  unfolding found_zero
  finds some = go nonzero refl
    where
      go : (t : Bool) → nonzero ≡ t → and (not t) (member 0 ds) ≡ true
      go true e = absurd (false≢true (sym (known e) ∙ some))
      go false e = some

  finds_none : member 0 ds ≡ false → found_zero nonzero ds ≡ false
  unfolding found_zero
  finds_none none = rw none (and-false (not nonzero))

  pub restored-answers : answer ≡ risen least ds
  unfolding ask choose risen
  restored-answers = go (member 0 ds) refl
    where
      go : (t : Bool) → member 0 ds ≡ t → answer ≡ risen least ds
      go true some = r.answered ∙ rw (finds some, differences_rise-zero least ds some)
      go false none = r.answered ∙ rw (finds_none none, sums_are least ds none) (ends_as least ds none)

  pub restored-ids : differences_rise least ds ≡ true → exit ≡ ids_behind least ds ++ drop n entry
  unfolding choose in_place
  restored-ids h = go (member 0 ds) refl
    where
      go : (t : Bool) → member 0 ds ≡ t → exit ≡ ids_behind least ds ++ drop n entry
      go true some = absurd (false≢true (sym (differences_rise-zero least ds some) ∙ h))
      go false none = r.left ∙ rw (finds_none none, sums_are least ds none, ids-kept least ds h)
