-- The calls on two lent arrays (`open_in`, `advance_in`, `seek_in`) are the calls by value on the cursor that the numbers and the arrays
-- make together. One that came somewhere leaves, in its numbers and the arrays, the cursor that the call by value hands back, and
-- `answer_at` answers of it what the call by value answers, but for a seek's hit, which `seek_in` tells; one that was refused leaves the
-- arrays, and the call by value is refused under the same number. So a list of these calls is a list of calls of the third promise (crate
-- postings), which is about cursors.
-- The contracts say each call's outcome as `Reaches`, a seek's as `Finds`, which has one; an outcome with its answer is `moved`. One law over every outcome, and an instance
-- for each call. The calls by value are proved by it too: what `with_answer` makes of a call on their arrays is what they hand back.
-- Assumes nothing.
use Rattle.std.specs.Prelude.{◌≡◌, ℕ, ◌<◌, Bool, List, Ok, Err}
use mathlib.Core.Path.{refl, sym, ap}
use Rattle.format.specs.declared.Term.{Term}
use Rattle.format.specs.Basics.{Outcome, or_before}
use Rattle.format.proofs.Outcome.{ok_same, refused≢ok}
use Rattle.segment_postings.specs.declared.Held.{Held}
use Rattle.segment_postings.specs.declared.Moved.{Moved}
use Rattle.segment_postings.specs.declared.SegmentPostings.{SegmentPostings}
use Rattle.segment_postings.specs.declared.Sought.{Sought}
use Rattle.segment_postings.specs.declared.seeks.Went.{Went}
use Rattle.segment_postings.specs.Cursor.{no_hit, moved, blank, opening, opened, stepping, advanced, seeking, hit_of, sought}
use Rattle.segment_postings.specs.Called.{SameCall}
use Rattle.segment_postings.specs.Calls.{cursor_of, Leaves, Reaches, without_hit, Finds}
use Rattle.segment_postings.specs.Private.{untargeted_of, with_answer_of}
use Rattle.segment_postings.proofs.Laws.LandingParts.{with_hit-at, reached-at, reached_nowhere, moved_at, moved_nowhere, opening_near}
use Rattle.segment_postings.proofs.Laws.SeekFinds.{found-at}
use Rattle.segment_postings.proofs.Laws.ReachedBounds.{stepping_near, seeking_near}

pub same-call : (t : Term) (hit : SegmentPostings → Bool) (was : SegmentPostings) {o : Outcome SegmentPostings} {docs freqs docs' freqs' : List ℕ} {r : Outcome Held}
    → ((c : SegmentPostings) → o ≡ Ok c → c.held.place < 128) → Reaches o docs freqs docs' freqs' r
    → SameCall t hit was (moved t was hit o) docs freqs docs' freqs' r
unfolding or_before
same-call t hit was near k = record {
  came = λ e. let c = reached-at k e in moved_at t was hit (near _ c) c;
  stayed = λ e. (moved_nowhere t was hit k e, rw (reached_nowhere k e) at k.docs_after, rw (reached_nowhere k e) at k.freqs_after);
}

-- the numbers that it hands back are at a place of a block, where its outcome is
pub reached_near : {o : Outcome SegmentPostings} {docs freqs docs' freqs' : List ℕ} {r : Outcome Held}
    → ((c : SegmentPostings) → o ≡ Ok c → c.held.place < 128) → Reaches o docs freqs docs' freqs' r
    → (held : Held) → r ≡ Ok held → held.place < 128
reached_near near k held e = near _ (reached-at k e)

-- ---- what `with_answer` makes of a call on arrays

-- where one came to, and the hit that it tells, beside the call by value that gives m
pub record Came (t : Term) (hit : SegmentPostings → Bool) (was : SegmentPostings) (m : Moved) (docs freqs docs' freqs' : List ℕ) (r : Outcome Sought) : Type 0 where
  pub same : SameCall t hit was m docs freqs docs' freqs' (without_hit r)
  pub near : (s : Sought) → r ≡ Ok s → s.held.place < 128
  pub hits : (s : Sought) → r ≡ Ok s → s.hit ≡ hit (cursor_of s.held docs' freqs')

-- the answer and the numbers that `with_answer` gives, with the arrays, are those of the call by value
pub with_answer_of-leaves : {t : Term} {hit : SegmentPostings → Bool} {was : Held} {m : Moved} {docs freqs docs' freqs' : List ℕ} {r : Outcome Sought} {w : Went}
    → Came t hit (cursor_of was docs freqs) m docs freqs docs' freqs' r → w ≡ with_answer_of t was docs' freqs' r → Leaves m w.answer (cursor_of w.held docs' freqs')
unfolding with_answer_of without_hit
with_answer_of-leaves {t} {hit} {docs' = docs'} {freqs' = freqs'} {r = Ok s} k e =
    let c : SegmentPostings = cursor_of s.held docs' freqs' in
    rw (e, k.same.came refl, with_hit-at t (hit c) c (k.near s refl), k.hits s refl) (refl, refl)
with_answer_of-leaves {r = Err n} k e = let stays = k.same.stayed refl in rw (e, stays.0, stays.1, stays.2) (refl, refl)

-- a call without a target tells no hit
pub untargeted-came : {t : Term} {was : SegmentPostings} {m : Moved} {docs freqs docs' freqs' : List ℕ} {r : Outcome Held} {r' : Outcome Sought}
    → SameCall t no_hit was m docs freqs docs' freqs' r → ((held : Held) → r ≡ Ok held → held.place < 128) → r' ≡ untargeted_of r
    → Came t no_hit was m docs freqs docs' freqs' r'
unfolding without_hit untargeted_of
untargeted-came {r = Ok held} same near e =
    rw e
    (record {
      same = same;
      near = λ s is. rw (← ok_same is) (near held refl);
      hits = λ s is. ap (λ (s : Sought). s.hit) (sym (ok_same is));
    })
untargeted-came {r = Err n} same near e = rw e (record { same = same; near = λ s no. absurd (refused≢ok no); hits = λ s no. absurd (refused≢ok no) })

module _ (bs : List ℕ) (t : Term) {docs' freqs' : List ℕ} where
  pub open_in_calls : {docs freqs : List ℕ} {r : Outcome Held} → Reaches (opening bs t) docs freqs docs' freqs' r → SameCall t no_hit blank (opened bs t) docs freqs docs' freqs' r
  unfolding opened
  open_in_calls = same-call t no_hit blank (λ _. opening_near bs t)

  module _ (c : SegmentPostings) where
    pub advance_in_calls : {r : Outcome Held} → Reaches (stepping c bs t) c.docs c.freqs docs' freqs' r → SameCall t no_hit c (advanced c bs t) c.docs c.freqs docs' freqs' r
    unfolding advanced
    advance_in_calls = same-call t no_hit c (λ _ e. (stepping_near c bs t e).0)

    pub seek_in_calls : (target : ℕ) {r : Outcome Held} → Reaches (seeking c bs t target) c.docs c.freqs docs' freqs' r
        → SameCall t (hit_of t target) c (sought c bs t target) c.docs c.freqs docs' freqs' r
    unfolding sought
    seek_in_calls target = same-call t (hit_of t target) c (λ _ e. (seeking_near c bs t target e).0)

    pub seek-came : (target : ℕ) {r : Outcome Sought} → Finds t target (seeking c bs t target) c.docs c.freqs docs' freqs' r
        → Came t (hit_of t target) c (sought c bs t target) c.docs c.freqs docs' freqs' r
    seek-came target k = record {
      same = seek_in_calls target k.reaches;
      near = λ s e. (seeking_near c bs t target (found-at k e)).0;
      hits = λ s e. k.hit_there e;
    }
