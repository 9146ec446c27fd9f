-- A seek on lent arrays (`seek_in`), as its contract `Finds` says it: where it came to, and whether its target is the document there. One that
-- came somewhere has in its numbers and the arrays the cursor that its outcome is; one that was refused has none. And what such a seek
-- tells in each of its ways: a cursor's numbers with the hit, at the end no, before it by what stands at the place.
-- Assumes nothing.
use Rattle.std.specs.Prelude.{◌≡◌, ℕ, ◌<◌, Bool, true, false, not, ◌&&◌ as and, eqb, ltb, List, get_or, Ok, Err}
use mathlib.Core.Bool.{and-eq-true_iff, and-false}
use mathlib.Core.Path.{refl, sym, ap, subst, ◌∙◌}
use borrow.Author.Tests.{ltb-true}
use Rattle.format.specs.declared.refusal.Refusal.{Refusal}
use Rattle.format.specs.declared.Term.{Term}
use Rattle.format.specs.Basics.{Outcome, choose, or_before, TERMINATED}
use Rattle.format.proofs.Outcome.{ok_same, refused≢ok}
use Rattle.block_search.specs.Search.{stands_at}
use Rattle.block_search.proofs.Hits.{stands_there}
use Rattle.segment_postings.specs.declared.Held.{Held}
use Rattle.segment_postings.specs.declared.SegmentPostings.{SegmentPostings}
use Rattle.segment_postings.specs.declared.Sought.{Sought}
use Rattle.segment_postings.specs.Cursor.{position, hit_of}
use Rattle.segment_postings.specs.Calls.{cursor_of, reached, Reaches, without_hit, Finds}
use Rattle.segment_postings.specs.Private.{told_of}
use Rattle.segment_postings.proofs.Laws.LandingParts.{reached-at, reached_nowhere, none-reached}

-- ---- what it says of its outcome

module _ {t : Term} {target : ℕ} {o : Outcome SegmentPostings} {docs freqs docs' freqs' : List ℕ} {r : Outcome Sought}
    (k : Finds t target o docs freqs docs' freqs' r) where
  pub found-at : {s : Sought} → r ≡ Ok s → o ≡ Ok (cursor_of s.held docs' freqs')
  unfolding without_hit
  found-at e = reached-at k.reaches (ap without_hit e)

  pub found_nowhere : {n : Refusal} → r ≡ Err n → o ≡ Err n
  unfolding without_hit
  found_nowhere e = reached_nowhere k.reaches (ap without_hit e)

-- ---- how it comes about

pub finds_as : {t : Term} {target : ℕ} {o o' : Outcome SegmentPostings} {docs freqs docs' freqs' : List ℕ} {r : Outcome Sought}
    → o ≡ o' → Finds t target o' docs freqs docs' freqs' r → Finds t target o docs freqs docs' freqs' r
finds_as {t} {target} {docs = docs} {freqs} {docs'} {freqs'} {r} e k =
    subst (λ (o : Outcome SegmentPostings). Finds t target o docs freqs docs' freqs' r) (sym e) k

-- it was refused, and left the arrays
pub finds-none : {t : Term} {target : ℕ} {o : Outcome SegmentPostings} {docs freqs docs' freqs' : List ℕ} {n : Refusal}
    → Reaches o docs freqs docs' freqs' (Err n) → Finds t target o docs freqs docs' freqs' (Err n)
unfolding without_hit
finds-none k = record { reaches = k; hit_there = λ e. absurd (refused≢ok e) }

pub none-found : {t : Term} {target : ℕ} {o : Outcome SegmentPostings} {n : Refusal} (docs freqs : List ℕ) → o ≡ Err n
    → Finds t target o docs freqs docs freqs (Err n)
none-found docs freqs e = finds-none (none-reached docs freqs e)

-- it came to a cursor, whose arrays are those that are left
pub finds-told : {t : Term} {target : ℕ} {o : Outcome SegmentPostings} {docs freqs : List ℕ} (d : SegmentPostings) {s : Sought}
    → o ≡ Ok d → s ≡ told_of t target d → Finds t target o docs freqs d.docs d.freqs (Ok s)
unfolding told_of without_hit reached or_before
finds-told {t} {target} {docs = docs} {freqs} d e same =
    rw same
    (finds_as e
    (record {
      reaches = record { answer = refl; docs_after = refl; freqs_after = refl };
      hit_there = λ is. ap (λ (s : Sought). s.hit) (sym (ok_same is)) ∙ ap (λ (h : Held). hit_of t target (cursor_of h d.docs d.freqs)) (ap (λ (s : Sought). s.held) (ok_same is));
    }))

-- ---- the hit

-- what stands somewhere stands in the block
pub stands_below : (arr : List ℕ) (target place : ℕ) → stands_at arr target place ≡ true → place < 128
unfolding stands_at
stands_below arr target place e = ltb-true _ _ ((and-eq-true_iff _ _).0 e).0

module _ (t : Term) (target : ℕ) (c : SegmentPostings) where
  abbrev Told : Bool → Type 0
  Told hit = record { held = c.held; hit = hit } ≡ told_of t target c

  -- at the end there is none
  pub ended-told : eqb (position c.held) t.count ≡ true → Told false
  unfolding told_of hit_of choose
  ended-told e = rw (e, and-false)

  -- before it what stands at the place tells it, TERMINATED apart
  stands-told : eqb (position c.held) t.count ≡ false → Told (and (ltb target TERMINATED) (stands_at c.docs target c.held.place))
  unfolding told_of hit_of choose
  stands-told before = rw before

  -- .. which is one comparison, at a place of the block
  pub there-told : eqb (position c.held) t.count ≡ false → c.held.place < 128 → Told (and (ltb target TERMINATED) (eqb (get_or c.docs c.held.place 0) target))
  there-told before below = rw (← stands_there c.docs target c.held.place below) (stands-told before)

  -- where the target doesn't stand at the place there is none
  pub unfound-told : and (ltb target TERMINATED) (stands_at c.docs target c.held.place) ≡ false → Told false
  unfound-told e = by_test (eqb (position c.held) t.count) refl
    where
      by_test : (r : Bool) → eqb (position c.held) t.count ≡ r → Told false
      by_test true end = ended-told end
      by_test false before = rw (← e) (stands-told before)

  -- where it does it is one before the end
  pub found-told : and (ltb target TERMINATED) (stands_at c.docs target c.held.place) ≡ true → Told (not (eqb (position c.held) t.count))
  found-told e = by_test (eqb (position c.held) t.count) refl
    where
      by_test : (r : Bool) → eqb (position c.held) t.count ≡ r → Told (not (eqb (position c.held) t.count))
      by_test true end = rw end (ended-told end)
      by_test false before = rw before (rw (← e) (stands-told before))
