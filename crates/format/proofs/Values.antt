-- The values that stand for ids and frequencies read back as those, in both forms. A gap is taken from an id that is no smaller
-- than what it is counted from, so adding it again restores the id; a frequency is at least 1, so what the strict form leaves
-- out can be added again. That ids rise is a fact about each part of a list and about where the parts meet.
-- Assumes nothing.
use mathlib.Core.Bool.{Bool, true, false, ◌&&◌ as and, and-eq-true_iff, and_assoc, and-true}
use mathlib.Core.List.{List, [], ◌∷◌, ◌++◌}
use mathlib.Core.Path.{◌≡◌, refl, ap, sym, ◌∙◌}
use Prim.Native.Nat.{ℕ, zero, suc, ◌+◌, ◌<◌, ◌≤◌, ◌^◌}
use native.Mathlib.Nat.{not-suc-le-zero, zero-lt-suc, le_refl, le_trans, lt_of_le_of_lt, sub-le, sub-add_cancel, add-sub_of_le}
use native.Mathlib.Omega.{arith}
use borrow.Author.Tests.{leb-true, ltb-true}
use lib.Dec.{leb}
use lib.ListN.{length, take, drop, length-map, take-append-drop}
use Rattle.format.specs.Basics.{TERMINATED, last_of, AllBelow}
use Rattle.format.specs.Values.{reduction, origin, gaps_from, gaps, ids_from, ids, reduced, restored, rising, countable}

-- ---- lengths

pub length-gaps_from : (less from : ℕ) (ds : List ℕ) → length (gaps_from less from ds) ≡ length ds
unfolding gaps_from
length-gaps_from less from [] = refl
length-gaps_from less from (d ∷ ds) = ap suc (length-gaps_from less (d + less) ds)

pub length-gaps : (strict : Bool) (least : ℕ) (ds : List ℕ) → length (gaps strict least ds) ≡ length ds
unfolding gaps
length-gaps strict least ds = length-gaps_from _ _ ds

pub length-ids_from : (less from : ℕ) (vs : List ℕ) → length (ids_from less from vs) ≡ length vs
unfolding ids_from
length-ids_from less from [] = refl
length-ids_from less from (v ∷ vs) = ap suc (length-ids_from less (from + v + less) vs)

pub length_ids : (strict : Bool) (least : ℕ) (vs : List ℕ) → length (ids strict least vs) ≡ length vs
unfolding ids
length_ids strict least vs = length-ids_from _ _ vs

pub length-reduced : (strict : Bool) (fs : List ℕ) → length (reduced strict fs) ≡ length fs
unfolding reduced
length-reduced strict fs = length-map fs _

pub length-restored : (strict : Bool) (vs : List ℕ) → length (restored strict vs) ≡ length vs
unfolding restored
length-restored strict vs = length-map vs _

-- ---- what rising and countable lists are

-- the first id and the rest of a rising list
pub record RisingCons (least d : ℕ) (ds : List ℕ) : Type 0 where
  pub above : least ≤ d
  pub below : d < TERMINATED
  pub rest : rising (d + 1) ds ≡ true

pub rising-cons : (least d : ℕ) (ds : List ℕ) → rising least (d ∷ ds) ≡ true → RisingCons least d ds
unfolding rising
rising-cons least d ds r =
    let p = (and-eq-true_iff _ _).0 r in
    let q = (and-eq-true_iff _ _).0 p.0 in
    record { above = leb-true least d q.0; below = ltb-true d TERMINATED q.1; rest = p.1 }

pub rising-below : (least : ℕ) (ds : List ℕ) → rising least ds ≡ true → AllBelow TERMINATED ds
rising-below least [] r = tt
rising-below least (d ∷ ds) r = let k = rising-cons least d ds r in (k.below, rising-below (d + 1) ds k.rest)

-- the first frequency and the rest of a countable list
pub record CountableCons (f : ℕ) (fs : List ℕ) : Type 0 where
  pub pos : 1 ≤ f
  pub below : f < 2 ^ 32
  pub rest : countable fs ≡ true

pub countable-cons : (f : ℕ) (fs : List ℕ) → countable (f ∷ fs) ≡ true → CountableCons f fs
unfolding countable
countable-cons f fs c =
    let p = (and-eq-true_iff (and (leb 1 f) (leb f 4294967295)) (countable fs)).0 c in
    let q = (and-eq-true_iff (leb 1 f) (leb f 4294967295)).0 p.0 in
    let le : f ≤ 4294967295 = leb-true f 4294967295 q.1 in
    record { pos = leb-true 1 f q.0; below = omega arith; rest = p.1 }

pub countable-below : (fs : List ℕ) → countable fs ≡ true → AllBelow (2 ^ 32) fs
countable-below [] c = tt
countable-below (f ∷ fs) c = let k = countable-cons f fs c in (k.below, countable-below fs k.rest)

-- ---- ids

-- both forms: what is left out behind an id is at most 1, and the next id is larger by at least that
from-reads-back : (less from least : ℕ) (ds : List ℕ) → less ≤ 1 → from ≤ least → rising least ds ≡ true
    → ids_from less from (gaps_from less from ds) ≡ ds
unfolding ids_from gaps_from
from-reads-back less from least [] h l r = refl
from-reads-back less from least (d ∷ ds) h l r =
    let k = rising-cons least d ds r in
    let later = from-reads-back less (d + less) (d + 1) ds h (omega arith) k.rest in
    rw (add-sub_of_le (le_trans l k.above)) (ap (λ (r : List ℕ). d ∷ r) later)

reduction-le : (strict : Bool) → reduction strict ≤ 1
unfolding reduction
reduction-le true = le_refl 1
reduction-le false = omega arith

origin-le : (strict : Bool) (least : ℕ) → origin strict least ≤ least
unfolding origin
origin-le true least = le_refl least
origin-le false least = sub-le least 1

pub gaps-read-back : (strict : Bool) (least : ℕ) (ds : List ℕ) → rising least ds ≡ true
    → ids strict least (gaps strict least ds) ≡ ds
unfolding ids gaps
gaps-read-back strict least ds r = from-reads-back _ _ least ds (reduction-le strict) (origin-le strict least) r

gaps_from-below : (m less from : ℕ) (ds : List ℕ) → AllBelow m ds → AllBelow m (gaps_from less from ds)
unfolding gaps_from
gaps_from-below m less from [] a = tt
gaps_from-below m less from (d ∷ ds) a = (lt_of_le_of_lt (sub-le d from) a.0, gaps_from-below m less (d + less) ds a.1)

pub gaps-below : (strict : Bool) (least : ℕ) (ds : List ℕ) → rising least ds ≡ true → AllBelow TERMINATED (gaps strict least ds)
unfolding gaps
gaps-below strict least ds r = gaps_from-below _ _ _ ds (rising-below least ds r)

-- ---- frequencies

pub freqs-read-back : (strict : Bool) (fs : List ℕ) → countable fs ≡ true → restored strict (reduced strict fs) ≡ fs
unfolding restored reduced
freqs-read-back strict [] c = refl
freqs-read-back strict (f ∷ fs) c =
    let k = countable-cons f fs c in
    rw (sub-add_cancel (le_trans (reduction-le strict) k.pos)) (ap (λ (r : List ℕ). f ∷ r) (freqs-read-back strict fs k.rest))

pub reduced-below : (m : ℕ) (strict : Bool) (fs : List ℕ) → AllBelow m fs → AllBelow m (reduced strict fs)
unfolding reduced
reduced-below m strict [] a = tt
reduced-below m strict (f ∷ fs) a = (lt_of_le_of_lt (sub-le f _) a.0, reduced-below m strict fs a.1)

-- ---- parts of a rising list

-- the last id is the greatest
pub rising-last : (least : ℕ) (ds : List ℕ) → rising least ds ≡ true → 0 < length ds
    → (least ≤ last_of 0 ds) × (last_of 0 ds < TERMINATED)
unfolding last_of
rising-last least [] r h = absurd (not-suc-le-zero h)
rising-last least (d ∷ []) r h = let k = rising-cons least d [] r in (k.above, k.below)
rising-last least (d ∷ (e ∷ ds)) r h =
    let k = rising-cons least d (e ∷ ds) r in
    let l = rising-last (d + 1) (e ∷ ds) k.rest (zero-lt-suc _) in
    (omega arith, l.1)

-- what is joined rises if each part does, the second from behind the first one's last
pub rising-append : (least : ℕ) (a b : List ℕ) → 0 < length a
    → rising least (a ++ b) ≡ and (rising least a) (rising (last_of 0 a + 1) b)
unfolding rising last_of
rising-append least [] b h = absurd (not-suc-le-zero h)
rising-append least (d ∷ []) b h = rw and-true
rising-append least (d ∷ (e ∷ a)) b h = rw (rising-append (d + 1) (e ∷ a) b (zero-lt-suc _)) (simp and_assoc)

pub rising-joined : (least : ℕ) (a b : List ℕ) → 0 < length a → rising least a ≡ true
    → rising (last_of 0 a + 1) b ≡ true → rising least (a ++ b) ≡ true
rising-joined least a b h p q = rising-append least a b h ∙ (and-eq-true_iff _ _).1 (p, q)

rising-parts : (least n : ℕ) (ds : List ℕ) → rising least ds ≡ true → 0 < n
    → (rising least (take n ds) ≡ true) × (rising (last_of 0 (take n ds) + 1) (drop n ds) ≡ true)
unfolding rising
rising-parts least zero ds r h = absurd (not-suc-le-zero h)
rising-parts least (suc n) [] r h = (refl, refl)
rising-parts least (suc n) (d ∷ ds) r h =
    let joined = rising-append least (take (suc n) (d ∷ ds)) (drop (suc n) (d ∷ ds)) (zero-lt-suc _) in
    (and-eq-true_iff _ _).0 (sym joined ∙ ap (rising least) (take-append-drop (suc n) (d ∷ ds)) ∙ r)

pub rising-take : (least n : ℕ) (ds : List ℕ) → rising least ds ≡ true → rising least (take n ds) ≡ true
unfolding rising
rising-take least zero ds r = refl
rising-take least (suc n) ds r = (rising-parts least (suc n) ds r (zero-lt-suc n)).0

pub rising-drop : (least n : ℕ) (ds : List ℕ) → rising least ds ≡ true → 0 < n
    → rising (last_of 0 (take n ds) + 1) (drop n ds) ≡ true
rising-drop least n ds r h = (rising-parts least n ds r h).1

-- ---- parts of a countable list

pub countable-append : (a b : List ℕ) → countable (a ++ b) ≡ and (countable a) (countable b)
unfolding countable
countable-append [] b = refl
countable-append (f ∷ a) b = rw (countable-append a b) (simp and_assoc)

countable-parts : (n : ℕ) (fs : List ℕ) → countable fs ≡ true
    → (countable (take n fs) ≡ true) × (countable (drop n fs) ≡ true)
countable-parts n fs c =
    let joined = countable-append (take n fs) (drop n fs) in
    (and-eq-true_iff _ _).0 (sym joined ∙ ap countable (take-append-drop n fs) ∙ c)

pub countable-take : (n : ℕ) (fs : List ℕ) → countable fs ≡ true → countable (take n fs) ≡ true
countable-take n fs c = (countable-parts n fs c).0

pub countable-drop : (n : ℕ) (fs : List ℕ) → countable fs ≡ true → countable (drop n fs) ≡ true
countable-drop n fs c = (countable-parts n fs c).1
