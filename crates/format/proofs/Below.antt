-- The documents at the front of a list that lie below a target. What `count_below` passes lies below the target, and the first that
-- it doesn't pass is at least the target; where all of a front lies below, it goes on behind it. On a rising list nothing behind
-- that first document lies below either, so that counting on from a later position finds nothing more. In blocks, those that end
-- below the target are passed whole, and the count goes on in the first that doesn't.
-- Assumes nothing.
use mathlib.Core.Bool.{true}
use mathlib.Core.List.{List, [], ◌∷◌, ◌++◌, append-nil}
use mathlib.Core.Logic.{⊎_elim}
use mathlib.Core.Path.{◌≡◌, refl, ap}
use Prim.Native.Nat.{ℕ, zero, suc, ◌+◌, ◌*◌, max, ◌≤◌, ◌<◌, suc-le-suc}
use native.Mathlib.Nat.{not-suc-le-zero, le_of_suc-le-suc, eq-or-lt_of_le, zero-add}
use native.Mathlib.Decide.{dec_le}
use native.Mathlib.Omega.{arith}
use borrow.Author.Tests.{lt-ltb, le-ltb}
use lib.ListN.{length, get_or, drop, replicate}
use Rattle.format.specs.Basics.{choose, last_of, AllBelow}
use Rattle.format.specs.Counts.{count_below}
use Rattle.format.specs.Values.{rising}
use Rattle.format.specs.Reading.{Block, docs_of}
use Rattle.format.proofs.Values.{rising-cons, rising-last}
use Rattle.format.proofs.Blocks.{Blocks, last_one, one_more, block_at, least_at, full-sound}

-- no document of a rising list lies below the least that may come
pub rising-at : (least : ℕ) (ds : List ℕ) (k z : ℕ) → rising least ds ≡ true → k < length ds → least ≤ get_or ds k z
rising-at least [] k z r h = absurd (not-suc-le-zero h)
rising-at least (d ∷ ds) zero z r h = (rising-cons least d ds r).above
rising-at least (d ∷ ds) (suc k) z r h =
    let c = rising-cons least d ds r in
    omega (arith, c.above, rising-at (d + 1) ds k z c.rest (le_of_suc-le-suc h))

module _ (target : ℕ) where
  -- one document
  pub count-passes : (d : ℕ) (ds : List ℕ) → d < target → count_below target (d ∷ ds) ≡ suc (count_below target ds)
  unfolding count_below choose
  count-passes d ds h = rw (lt-ltb d target h) (omega arith)

  pub count_stops : (d : ℕ) (ds : List ℕ) → target ≤ d → count_below target (d ∷ ds) ≡ 0
  unfolding count_below choose
  count_stops d ds h = rw (le-ltb d target h)

  pub count-nil : count_below target [] ≡ 0
  unfolding count_below
  count-nil = refl

  pub count-le : (ds : List ℕ) → count_below target ds ≤ length ds
  count-le [] = rw count-nil (omega arith)
  count-le (d ∷ ds) = elim (dec_le target d) [
    | yes h ↦ rw (count_stops d ds h) (omega arith)
    | no h ↦ rw (count-passes d ds (omega arith)) (omega (arith, count-le ds))
  ]

  -- what is passed lies below the target
  pub count-below : (ds : List ℕ) (k z : ℕ) → k < count_below target ds → get_or ds k z < target
  count-below [] k z h = absurd (omega (arith, count-nil))
  count-below (d ∷ ds) zero z h = elim (dec_le target d) [ yes a ↦ absurd (omega (arith, count_stops d ds a)) | no a ↦ omega arith ]
  count-below (d ∷ ds) (suc k) z h = elim (dec_le target d) [
    | yes a ↦ absurd (omega (arith, count_stops d ds a))
    | no a ↦ count-below ds k z (omega (arith, count-passes d ds (omega arith)))
  ]

  -- .. the first document that isn't is at least the target
  pub count-reaches : (ds : List ℕ) (z : ℕ) → count_below target ds < length ds → target ≤ get_or ds (count_below target ds) z
  count-reaches [] z h = absurd (not-suc-le-zero h)
  count-reaches (d ∷ ds) z h = elim (dec_le target d) [
    | yes a ↦ rw (count_stops d ds a) a
    | no a ↦
        let passes = count-passes d ds (omega arith) in
        rw passes (count-reaches ds z (omega arith))
  ]

  -- what a list is filled up with isn't passed if it is at least the target
  pub count-filled : (ds : List ℕ) (k z : ℕ) → target ≤ z → count_below target (ds ++ replicate k z) ≡ count_below target ds
  count-filled [] zero z h = refl
  count-filled [] (suc k) z h = rw (count_stops z (replicate k z) h, count-nil)
  count-filled (d ∷ ds) k z h = elim (dec_le target d) [
    | yes a ↦ rw (count_stops d (ds ++ replicate k z) a, count_stops d ds a)
    | no a ↦ rw (count-passes d (ds ++ replicate k z) (omega arith), count-passes d ds (omega arith), count-filled ds k z h)
  ]

  -- a front that lies below is passed whole; one that doesn't is all that is looked at
  pub count-front : (a b : List ℕ) → AllBelow target a → count_below target (a ++ b) ≡ length a + count_below target b
  count-front [] b h = omega arith
  count-front (d ∷ a) b h = rw (count-passes d (a ++ b) h.0, count-front a b h.1) (omega arith)

  pub count-within : (a b : List ℕ) → count_below target a < length a → count_below target (a ++ b) ≡ count_below target a
  count-within [] b h = absurd (not-suc-le-zero h)
  count-within (d ∷ a) b h = elim (dec_le target d) [
    | yes k ↦ rw (count_stops d (a ++ b) k, count_stops d a k)
    | no k ↦
        let passes = count-passes d a (omega arith) in
        rw (count-passes d (a ++ b) (omega arith), passes) (ap suc (count-within a b (omega arith)))
  ]

  -- counting on from a position that is passed
  count-on : (ds : List ℕ) (p : ℕ) → p ≤ count_below target ds → p + count_below target (drop p ds) ≡ count_below target ds
  count-on ds zero h = omega arith
  count-on [] (suc p) h = absurd (omega (arith, count-nil))
  count-on (d ∷ ds) (suc p) h = elim (dec_le target d) [
    | yes a ↦ absurd (omega (arith, count_stops d ds a))
    | no a ↦
        let passes = count-passes d ds (omega arith) in
        rw passes (omega (arith, count-on ds p (omega arith)))
  ]

  -- on a rising list: no document above the least that may come lies below the target if that doesn't
  count_none : (least : ℕ) (ds : List ℕ) (p : ℕ) → rising least ds ≡ true → target ≤ least → count_below target (drop p ds) ≡ 0
  count_none least [] zero r h = count-nil
  count_none least [] (suc p) r h = count-nil
  count_none least (d ∷ ds) zero r h = count_stops d ds (omega (arith, (rising-cons least d ds r).above))
  count_none least (d ∷ ds) (suc p) r h =
      let k = rising-cons least d ds r in
      count_none (d + 1) ds p k.rest (omega (arith, k.above))

  -- .. from a position behind the documents below the target
  count_past : (least : ℕ) (ds : List ℕ) (p : ℕ) → rising least ds ≡ true → count_below target ds < p → count_below target (drop p ds) ≡ 0
  count_past least ds zero r h = absurd (not-suc-le-zero h)
  count_past least [] (suc p) r h = count-nil
  count_past least (d ∷ ds) (suc p) r h =
      let k = rising-cons least d ds r in
      elim (dec_le target d) [
        | yes a ↦ count_none (d + 1) ds p k.rest (omega arith)
        | no a ↦ count_past (d + 1) ds p k.rest (omega (arith, count-passes d ds (omega arith)))
      ]

  -- what lies below the target is passed
  pub count-above : (least : ℕ) (ds : List ℕ) (k z : ℕ) → rising least ds ≡ true → k < length ds → get_or ds k z < target
      → k < count_below target ds
  count-above least [] k z r l h = absurd (not-suc-le-zero l)
  count-above least (d ∷ ds) zero z r l h = rw (count-passes d ds h) (omega arith)
  count-above least (d ∷ ds) (suc k) z r l h =
      let c = rising-cons least d ds r in
      let here : d < target = omega (arith, rising-at (d + 1) ds k z c.rest (le_of_suc-le-suc l)) in
      rw (count-passes d ds here) (suc-le-suc (count-above (d + 1) ds k z c.rest (le_of_suc-le-suc l) h))

  -- the least position, not before p, whose document is at least the target
  pub seek-position : (least : ℕ) (ds : List ℕ) (p : ℕ) → rising least ds ≡ true
      → p + count_below target (drop p ds) ≡ max p (count_below target ds)
  seek-position least ds p r = elim (dec_le p (count_below target ds)) [
    | yes h ↦ omega (arith, count-on ds p h)
    | no h ↦ omega (arith, count_past least ds p r (omega arith))
  ]

-- ---- in blocks

-- the last id of a rising list is the greatest
below_last : (target least : ℕ) (ds : List ℕ) → rising least ds ≡ true → last_of 0 ds < target → AllBelow target ds
unfolding last_of
below_last target least [] r h = tt
below_last target least (d ∷ []) r h = (h, tt)
below_last target least (d ∷ (e ∷ ds)) r h =
    let k = rising-cons least d (e ∷ ds) r in
    let later = below_last target (d + 1) (e ∷ ds) k.rest h in
    (omega (arith, (rising-cons (d + 1) e ds k.rest).above), later)

-- a list whose last id reaches the target isn't passed whole
reaches-last : (target : ℕ) (ds : List ℕ) → 0 < length ds → target ≤ last_of 0 ds → count_below target ds < length ds
unfolding last_of
reaches-last target [] pos h = absurd (not-suc-le-zero pos)
reaches-last target (d ∷ []) pos h = rw (count_stops target d [] h) (omega arith)
reaches-last target (d ∷ (e ∷ ds)) pos h = elim (dec_le target d) [
  | yes a ↦ rw (count_stops target d (e ∷ ds) a) (omega arith)
  | no a ↦ rw (count-passes target d (e ∷ ds) (omega arith)) (suc-le-suc (reaches-last target (e ∷ ds) (omega arith) h))
]

-- the first block whose last id is at least the target is the block of the first document that is; the tail, where no full block's is
pub count-blocks : (target : ℕ) {tail n least : ℕ} {bs : List Block} → Blocks tail n least bs → (b : ℕ) → b ≤ n
    → ((i : ℕ) → i < b → (block_at bs i).last < target) → (b < n → target ≤ (block_at bs b).last)
    → count_below target (docs_of bs) ≡ 128 * b + count_below target (block_at bs b).docs
unfolding docs_of
count-blocks target (last_one s) zero h passed reached = rw append-nil (omega arith)
count-blocks target (last_one s) (suc b) h passed reached = absurd (not-suc-le-zero h)
count-blocks target (one_more {b = first} s later) zero h passed reached =
    let here : target ≤ last_of 0 first.docs = rw s.ends (reached (omega arith)) in
    rw zero-add
    (count-within target first.docs _ (reaches-last target first.docs (omega (arith, s.sound.docs_many)) here))
count-blocks target (one_more {least = least} {b = first} s later) (suc b) h passed reached =
    let ends-below : last_of 0 first.docs < target = rw s.ends (passed 0 (omega arith)) in
    let all-below = below_last target least first.docs s.sound.docs_rise ends-below in
    let behind = count-blocks target later b (le_of_suc-le-suc h) (λ i l. passed (suc i) (suc-le-suc l)) (λ l. reached (suc-le-suc l)) in
    rw (count-front target first.docs _ all-below) (omega (arith, s.sound.docs_many, behind))

-- what is not below the least that may come in block b lies above all blocks before it
pub above_earlier : {tail n least : ℕ} {bs : List Block} → Blocks tail n least bs → (b d : ℕ) → b ≤ n → least_at least bs b ≤ d
    → (i : ℕ) → i < b → (block_at bs i).last < d
above_earlier k zero d h l i m = absurd (not-suc-le-zero m)
above_earlier {bs = bs} k (suc b) d h l i m =
    let f = full-sound k b h in
    let last = rising-last _ _ f.sound.docs_rise (omega (arith, f.sound.docs_many)) in
    ⊎_elim
    (λ (e : i ≡ b). rw e (omega arith))
    (λ m. above_earlier k b d (omega arith) (omega (arith, f.ends, last.0)) i m)
    (eq-or-lt_of_le (le_of_suc-le-suc m))
