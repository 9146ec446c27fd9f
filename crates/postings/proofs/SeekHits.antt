-- What a hit says. Of the answer, on every cursor and every image: that the document answered is the target, which TERMINATED never is. Of the
-- list, on an admitted image: that the target is among the documents from the present position on. Where a list rises, what lies behind its first element that is at least the target lies above that element, so the target is in the list
-- exactly where that element is the target. By induction on the list.
-- Assumes nothing.
use Rattle.std.specs.Prelude.{Ok, Err}
use mathlib.Core.Bool.{Bool, true, false, ◌&&◌ as and}
use mathlib.Core.List.{List, [], ◌∷◌}
use mathlib.Core.Path.{◌≡◌, refl, sym, subst}
use Prim.Native.Nat.{ℕ, zero, suc, ◌+◌, ◌≤◌, ◌<◌}
use native.Mathlib.Nat.{zero-add, suc-add}
use native.Mathlib.Decide.{dec_le}
use native.Mathlib.Omega.{arith}
use borrow.Author.Tests.{le-leb, lt-ltb, le-ltb, eq-eqb, ne_eqb}
use lib.Dec.{eqb, ltb, leb-suc-suc}
use lib.ListN.{length, get_or, drop}
use Rattle.format.specs.declared.Term.{Term}
use Rattle.format.specs.Basics.{Outcome, choose, TERMINATED}
use Rattle.format.specs.Counts.{count_below}
use Rattle.format.specs.Values.{rising}
use Rattle.format.specs.Reading.{reading, soundness, docs_of}
use Rattle.format.specs.Model.{Call, seek, State, member, opened, moved, after, hits}
use Rattle.format.proofs.Below.{count-passes, count_stops, count-nil}
use Rattle.format.proofs.Blocks.{docs-rising}
use Rattle.format.proofs.Outcome.{ok_same, refused≢ok}
use Rattle.format.proofs.Requested.{sound_requested}
use Rattle.format.proofs.Sound.{sound-image, sound-blocks}
use Rattle.format.proofs.Values.{rising-cons}
use Rattle.block_search.proofs.Hits.{stands_there}
use Rattle.segment_postings.specs.declared.Answer.{Answer}
use Rattle.segment_postings.specs.declared.SegmentPostings.{SegmentPostings}
use Rattle.segment_postings.specs.Cursor.{position, answer_at_of, moved as moved_to, seeking, hit_of, sought}
use Rattle.segment_postings.proofs.Laws.CursorTurns.{answer_at_of-is}
use Rattle.segment_postings.proofs.Laws.ReachedBounds.{seeking_near}
use Rattle.postings.specs.ThirdPromise.{state_after}

module _ (target : ℕ) where
  -- a rising list has nothing below the least that may come
  below_least : (least : ℕ) (ds : List ℕ) → rising least ds ≡ true → target < least → member target ds ≡ false
  unfolding member
  below_least least [] r h = refl
  below_least least (d ∷ ds) r h =
      let k = rising-cons least d ds r in
      let above : target < d = omega (arith, k.above) in
      rw (ne_eqb target d (λ e. omega arith)) (below_least (d + 1) ds k.rest (omega arith))

  -- the first element that is at least the target tells whether the target is in the list
  pub first-member : (least : ℕ) (ds : List ℕ) (z : ℕ) → rising least ds ≡ true
      → and (ltb (count_below target ds) (length ds)) (eqb (get_or ds (count_below target ds) z) target) ≡ member target ds
  unfolding member
  first-member least [] z r = rw (count-nil target) refl
  first-member least (d ∷ ds) z r =
      let k = rising-cons least d ds r in
      elim (dec_le target d) [
        | yes a ↦
            rw (count_stops target d ds a, lt-ltb 0 (suc (length ds)) (omega arith))
            (elim (dec_le d target) [
              | yes b ↦ rw (eq-eqb d target (omega arith), eq-eqb target d (omega arith))
              | no b ↦ rw (ne_eqb d target (λ e. omega arith), ne_eqb target d (λ e. omega arith)) (sym (below_least (d + 1) ds k.rest (omega arith)))
            ])
        | no a ↦
            rw (count-passes target d ds (omega arith), leb-suc-suc (suc (count_below target ds)) (length ds), ne_eqb target d (λ e. omega arith))
            (first-member (d + 1) ds z k.rest)
      ]

  -- .. and from position p on
  member-from : (least : ℕ) (ds : List ℕ) (p z : ℕ) → rising least ds ≡ true
      → and (ltb (p + count_below target (drop p ds)) (length ds)) (eqb (get_or ds (p + count_below target (drop p ds)) z) target)
      ≡ member target (drop p ds)
  unfolding member
  member-from least ds zero z r = rw (zero-add (count_below target ds)) (first-member least ds z r)
  member-from least [] (suc p) z r = rw (le-ltb (suc p + count_below target []) 0 (omega arith)) refl
  member-from least (d ∷ ds) (suc p) z r =
      rw (suc-add, leb-suc-suc (suc (p + count_below target (drop p ds))) (length ds)) (member-from (d + 1) ds p z (rising-cons least d ds r).rest)

-- a seek is a hit exactly where its target is among the documents from the present one on
pub hit-member : (least : ℕ) (ds : List ℕ) (s : State) (target : ℕ) → rising least ds ≡ true → target ≤ TERMINATED
    → hits ds (after ds s (seek target)) target ≡ member target (drop s.position ds)
unfolding hits after moved choose
hit-member least ds s target r most = rw (le-leb target TERMINATED most) (member-from target least ds s.position TERMINATED r)

-- ---- on an admitted image

module _ (t : Term) (bs : List ℕ) (sound : soundness t.mode t.count bs ≡ Ok tt) (known : t.requested ≤ 2) (target : ℕ) (most : target ≤ TERMINATED) where
  abbrev docs : List ℕ
  docs = docs_of (reading t bs).blocks

  -- in every state
  hit_in : (s : State) → hits docs (after docs s (seek target)) target ≡ member target (drop s.position docs)
  hit_in s =
      let readable = sound-image t bs (sound_requested t.mode t.requested t.count bs known sound) in
      hit-member 0 docs s target (docs-rising (sound-blocks readable)) most

  -- after any list of calls
  pub seek_hit-member : (cs : List Call)
      → hits docs (after docs (state_after bs t cs) (seek target)) target ≡ member target (drop (state_after bs t cs).position docs)
  seek_hit-member cs = hit_in (state_after bs t cs)

  -- .. on a fresh cursor: among all documents
  pub fresh_hit-member : hits docs (after docs opened (seek target)) target ≡ member target docs
  unfolding opened
  fresh_hit-member = hit_in opened

-- ---- on every image

-- an answer's hit is about its document
abbrev OfDocument : ℕ → Answer → Type 0
OfDocument target a = a.hit ≡ and (ltb target TERMINATED) (eqb a.doc target)

last_below : (target : ℕ) → and (ltb target TERMINATED) false ≡ and (ltb target TERMINATED) (eqb TERMINATED target)
last_below target = elim (dec_le TERMINATED target) [
  | yes a ↦ rw (le-ltb target TERMINATED a)
  | no a ↦ rw (ne_eqb TERMINATED target (λ e. omega arith))
]

-- at the end, and at a document of the held block
there-hit : (t : Term) (c : SegmentPostings) (target : ℕ) → c.held.place < 128 → OfDocument target (answer_at_of t (hit_of t target c) c)
unfolding hit_of choose
there-hit t c target below = by_test (eqb (position c.held) t.count) refl
  where
    by_test : (r : Bool) → eqb (position c.held) t.count ≡ r → OfDocument target (answer_at_of t (hit_of t target c) c)
    by_test true e = rw (answer_at_of-is, e) (last_below target)
    by_test false e = rw (answer_at_of-is, e, stands_there c.docs target c.held.place below)

moved-hit : (t : Term) (before : SegmentPostings) (target : ℕ) (o : Outcome SegmentPostings) {a : Answer}
    → ((d : SegmentPostings) → o ≡ Ok d → d.held.place < 128) → (moved_to t before (hit_of t target) o).answer ≡ Ok a → OfDocument target a
unfolding moved_to
moved-hit t before target (Ok d) near told = subst (OfDocument target) (ok_same told) (there-hit t d target (near d refl))
moved-hit t before target (Err n) near told = absurd (refused≢ok told)

-- a seek's answer is a hit exactly where its document is the target, and that lies below TERMINATED
pub answer-hit : (c : SegmentPostings) (bs : List ℕ) (t : Term) (target : ℕ) {a : Answer} → (sought c bs t target).answer ≡ Ok a
    → a.hit ≡ and (ltb target TERMINATED) (eqb a.doc target)
unfolding sought
answer-hit c bs t target told = moved-hit t c target (seeking c bs t target) (λ d e. (seeking_near c bs t target e).0) told
