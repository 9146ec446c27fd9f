-- A landing in two parts: the block that is found, and what it holds. A call on arrays that its caller may lose tells of them only where it
-- came somewhere (`Lands`); storing two arrays of one's own just there leaves the caller's in a refusal (`stored-reached`, `left-reached`).
-- Besides: the cases of opening, of leaving a block and of a step, and what an answer tells of its outcome.
-- Assumes nothing.
use Rattle.format.specs.declared.refusal.Refusal.{Refusal}
use Rattle.format.specs.declared.refusal.Refusal.TheVariants.{EntryBroken, StateBroken}
use Rattle.std.specs.Prelude.{◌≡◌, ℕ, ◌+◌, ◌-◌, ◌/◌, ◌<◌, ◌≤◌, Bool, true, false, eqb, ltb, leb, List, length, Ok, Err}
use mathlib.Core.Path.{refl, sym, ap, subst, ◌∙◌}
use mathlib.Core.Logic.{⊎_elim}
use native.Mathlib.Nat.{eq-or-lt_of_le}
use native.Mathlib.Decide.{dec_le}
use native.Mathlib.Omega.{arith}
use borrow.Author.Tests.{lt-ltb, le-ltb, le-leb, lt-leb, eqb-false}
use Rattle.format.specs.declared.Layout.{Layout}
use Rattle.format.specs.declared.Term.{Term}
use Rattle.format.specs.Basics.{Outcome, and_then, ask, choose, or_before}
use Rattle.format.specs.SkipEntry.{block_size_of}
use Rattle.format.specs.Layout.{layout, full_blocks_of, skip_bytes_of}
use Rattle.format.specs.Reading.{Block}
use Rattle.format.proofs.Outcome.{ok_same, refused≢ok, and_then-ok}
use Rattle.segment_postings.specs.declared.find.Found.{Found}
use Rattle.segment_postings.specs.declared.find.Start.{Start}
use Rattle.segment_postings.specs.declared.Held.{Held}
use Rattle.segment_postings.specs.declared.SegmentPostings.{SegmentPostings}
use Rattle.segment_postings.specs.declared.load.Loaded.{Loaded}
use Rattle.segment_postings.specs.Landing.{first_start_of, find_block_of, load_block_of, holding, landing}
use Rattle.segment_postings.specs.Cursor.{position, in_bounds_of, opening, at_place, starts_inside_of, start_behind_of, leaving, stepping, answer_at_of, answering, moved}
use Rattle.segment_postings.specs.Calls.{cursor_of, reached, Reaches}
use Rattle.segment_postings.specs.Called.{with_hit}
use Rattle.segment_postings.specs.Private.{counted, loaded, FindsFrom, BlockLoaded, Lands}
use Rattle.segment_postings.proofs.arrays.Question16.{Bounded, bounded}
use Rattle.segment_postings.proofs.layout.SplitParts.{laid_out}
use Rattle.segment_postings.proofs.Laws.CursorTurns.{landing_is, opening-is}

-- ---- what an answer tells of its outcome

counted_unpacked : (unpacked : ℕ) (kept : Bool) (o : Outcome Block) {n : ℕ} {k : Bool} → counted unpacked kept o ≡ Ok (record { unpacked = n; kept = k })
    → (b : Block) × (o ≡ Ok b) × (n ≡ unpacked + 1)
unfolding counted
counted_unpacked unpacked kept (Ok b) e = (b, refl, ap (λ (x : Loaded). x.unpacked) (sym (ok_same e)))
counted_unpacked unpacked kept (Err m) e = absurd (let z : ◌≡◌ {A = ℕ} 0 1 = cc in omega arith)

counted-refused : (unpacked : ℕ) (kept : Bool) (o : Outcome Block) {n : Refusal} → counted unpacked kept o ≡ Err n → o ≡ Err n
unfolding counted
counted-refused unpacked kept (Ok b) e = absurd (let z : ◌≡◌ {A = ℕ} 0 1 = cc in omega arith)
counted-refused unpacked kept (Err m) e = cc

pub reached-ok : (o : Outcome SegmentPostings) {h : Held} → reached o ≡ Ok h → (c : SegmentPostings) × (o ≡ Ok c) × (c.held ≡ h)
unfolding reached
reached-ok (Ok c) e = (c, refl, cc)
reached-ok (Err m) e = absurd (let z : ◌≡◌ {A = ℕ} 0 1 = cc in omega arith)

pub reached-refused : (o : Outcome SegmentPostings) {n : Refusal} → reached o ≡ Err n → o ≡ Err n
unfolding reached
reached-refused (Ok c) e = absurd (let z : ◌≡◌ {A = ℕ} 0 1 = cc in omega arith)
reached-refused (Err m) e = cc

-- ---- a block that was found, unpacked

-- the numbers of a cursor at the block's first place
unfoldable pub first : Found → ℕ → ℕ → Held
first f size unpacked = record {
  place = 0;
  block = f.block;
  next = f.at + size;
  last_doc = f.info.last_doc;
  unpacked = unpacked;
  entries = f.entries;
}

-- arrays that a caller may lose
pub lands_as : {o o' : Outcome SegmentPostings} {docs freqs : List ℕ} {r : Outcome Held} → o ≡ o' → Lands o' docs freqs r → Lands o docs freqs r
lands_as {docs = docs} {freqs = freqs} {r = r} e h = subst (λ (o : Outcome SegmentPostings). Lands o docs freqs r) (sym e) h

pub none-lands : {o : Outcome SegmentPostings} {n : Refusal} (docs freqs : List ℕ) → o ≡ Err n → Lands o docs freqs (Err n)
unfolding reached
none-lands docs freqs e =
    lands_as e (record { answer = refl; docs_are = λ c no. absurd (refused≢ok no); freqs_are = λ c no. absurd (refused≢ok no) })

one-lands : {o : Outcome SegmentPostings} (c : SegmentPostings) {docs freqs : List ℕ} → o ≡ Ok c → docs ≡ c.docs → freqs ≡ c.freqs
    → Lands o docs freqs (Ok c.held)
unfolding reached
one-lands c e d f =
    lands_as e
    (record {
      answer = refl;
      docs_are = λ x same. d ∙ ap (λ (y : SegmentPostings). y.docs) (ok_same same);
      freqs_are = λ x same. f ∙ ap (λ (y : SegmentPostings). y.freqs) (ok_same same);
    })

first-is : (f : Found) (unpacked : ℕ) (block : Block) {n size : ℕ} → size ≡ block_size_of f.info → n ≡ unpacked + 1
    → (holding f unpacked block).held ≡ first f size n
unfolding holding first
first-is f unpacked block s e = rw (s, e)

module _ (t : Term) (l : Layout) (bs : List ℕ) (f : Found) (unpacked : ℕ) where
  loaded-ok : {b : Block} → load_block_of t l bs f ≡ Ok b → loaded t l bs f unpacked ≡ Ok (holding f unpacked b)
  unfolding loaded and_then
  loaded-ok e = rw e

  loaded-refused : {n : Refusal} → load_block_of t l bs f ≡ Err n → loaded t l bs f unpacked ≡ Err n
  unfolding loaded and_then
  loaded-refused e = rw e

module _ {t : Term} {l : Layout} {bs : List ℕ} {f : Found} {unpacked : ℕ} {docs freqs : List ℕ} {r : Outcome Loaded} where
  pub unpacked_there : BlockLoaded t l bs f unpacked docs freqs r → {n size : ℕ} {kept : Bool} → r ≡ Ok (record { unpacked = n; kept = kept }) → size ≡ block_size_of f.info
      → Lands (loaded t l bs f unpacked) docs freqs (Ok (first f size n))
  unfolding holding
  unpacked_there b e s =
      let o = counted_unpacked unpacked _ (load_block_of t l bs f) (sym b.answer ∙ e) in
      subst (λ (h : Held). Lands (loaded t l bs f unpacked) docs freqs (Ok h)) (first-is f unpacked o.0 s o.2)
      (one-lands (holding f unpacked o.0) (loaded-ok t l bs f unpacked o.1) (b.docs_are o.0 o.1) (b.freqs_are o.0 o.1))

  pub unpacked_refused : BlockLoaded t l bs f unpacked docs freqs r → {n : Refusal} → r ≡ Err n
      → Lands (loaded t l bs f unpacked) docs freqs (Err n)
  unpacked_refused b e = none-lands docs freqs (loaded-refused t l bs f unpacked (counted-refused unpacked _ (load_block_of t l bs f) (sym b.answer ∙ e)))

-- ---- the two in a row

pub reaches_as : {o o' : Outcome SegmentPostings} {docs freqs docs' freqs' : List ℕ} {r : Outcome Held}
    → o ≡ o' → Reaches o' docs freqs docs' freqs' r → Reaches o docs freqs docs' freqs' r
reaches_as {docs = docs} {freqs = freqs} {docs' = docs'} {freqs' = freqs'} {r = r} e h =
    subst (λ (o : Outcome SegmentPostings). Reaches o docs freqs docs' freqs' r) (sym e) h

pub none-reached : {o : Outcome SegmentPostings} {n : Refusal} (docs freqs : List ℕ) → o ≡ Err n → Reaches o docs freqs docs freqs (Err n)
unfolding reached or_before
none-reached docs freqs e = reaches_as e (record { answer = refl; docs_after = refl; freqs_after = refl })

module _ (t : Term) (bs : List ℕ) (l : Layout) (target : ℕ) (s : Start) where
  pub landing-found : {f : Found} → find_block_of l.option (skip_bytes_of l bs) bs target (full_blocks_of t - s.block) s ≡ Ok f
      → landing t bs l target s ≡ loaded t l bs f s.unpacked
  unfolding landing loaded and_then
  landing-found e = rw e

  pub landing-refused : {n : Refusal} → find_block_of l.option (skip_bytes_of l bs) bs target (full_blocks_of t - s.block) s ≡ Err n
      → landing t bs l target s ≡ Err n
  unfolding landing and_then
  landing-refused e = rw e

-- ---- calls that hold the arrays as they are

pub held-reached : {o : Outcome SegmentPostings} (h : Held) (docs freqs : List ℕ) → o ≡ Ok (cursor_of h docs freqs)
    → Reaches o docs freqs docs freqs (Ok h)
unfolding reached or_before
held-reached h docs freqs e = reaches_as e (record { answer = refl; docs_after = refl; freqs_after = refl })

-- ---- opening, and another block: questions 1 to 4, where the block begins, and then a landing

pub starts-tail : (t : Term) (l : Layout) (b at : ℕ) → full_blocks_of t ≤ b → starts_inside_of t l b at ≡ true
unfolding starts_inside_of
starts-tail t l b at h = rw (le-leb _ _ h)

pub starts-entry : (t : Term) (l : Layout) (b at : ℕ) → b < full_blocks_of t → starts_inside_of t l b at ≡ leb l.postings at
unfolding starts_inside_of
starts-entry t l b at h = rw (lt-leb _ _ h)

-- behind the skip bytes the answer is yes
pub starts-behind : (t : Term) (l : Layout) (b at : ℕ) → l.postings ≤ at → starts_inside_of t l b at ≡ true
starts-behind t l b at h = elim (dec_le (full_blocks_of t) b) [
  | yes past ↦ starts-tail t l b at past
  | no some ↦ starts-entry t l b at (omega arith) ∙ le-leb _ _ h
]

module _ (bs : List ℕ) (t : Term) where
  pub opening-laid : {l : Layout} → layout t bs ≡ Ok l → opening bs t ≡ landing t bs l 0 (first_start_of l)
  unfolding opening and_then
  opening-laid e = rw e

  pub opening-refused : {n : Refusal} → layout t bs ≡ Err n → opening bs t ≡ Err n
  unfolding opening and_then
  opening-refused e = rw e

  pub opens-from : {l : Layout} → layout t bs ≡ Ok l → FindsFrom t bs (first_start_of l)
  opens-from e = record { block_most_is = omega arith; inside = (laid_out t bs e).inside; entries_most = omega arith }

module _ (h : Held) (bs : List ℕ) (t : Term) where
  pub leaving-laid : (target : ℕ) {l : Layout} → layout t bs ≡ Ok l → starts_inside_of t l (h.block + 1) h.next ≡ true
      → leaving h bs t target ≡ landing t bs l target (start_behind_of h)
  unfolding leaving and_then ask
  leaving-laid target e inside = rw (e, inside)

  pub leaving_early : (target : ℕ) {l : Layout} → layout t bs ≡ Ok l → starts_inside_of t l (h.block + 1) h.next ≡ false
      → leaving h bs t target ≡ Err EntryBroken
  unfolding leaving and_then ask
  leaving_early target e early = rw (e, early)

  pub leaving-refused : (target : ℕ) {n : Refusal} → layout t bs ≡ Err n → leaving h bs t target ≡ Err n
  unfolding leaving and_then
  leaving-refused target e = rw e

  pub leaves-from : Bounded t (length bs) h → h.block < t.count / 128 → FindsFrom t bs (start_behind_of h)
  unfolding full_blocks_of
  leaves-from b full = record { block_most_is = omega arith; inside = b.next_inside; entries_most = b.entries_behind }

-- ---- a step

-- the tail's last place is the end, so that only a full block is left by a step
pub leaves-full : (h : Held) (size : ℕ) (t : Term) → in_bounds_of t size h ≡ true → eqb (position h) t.count ≡ false → 128 ≤ h.place + 1
    → h.block < t.count / 128
unfolding position
leaves-full h size t in_bounds before last =
    let b = bounded t size h in_bounds in
    ⊎_elim (λ e. absurd (eqb-false _ _ before e)) (λ l. omega (arith, b.place_below)) (eq-or-lt_of_le b.position_most)

module _ (c : SegmentPostings) (bs : List ℕ) (t : Term) where
  pub stepping_broken : in_bounds_of t (length bs) c.held ≡ false → stepping c bs t ≡ Err StateBroken
  unfolding stepping ask
  stepping_broken e = rw e

  module _ (in_bounds : in_bounds_of t (length bs) c.held ≡ true) where
    pub stepping-ended : eqb (position c.held) t.count ≡ true → stepping c bs t ≡ Ok c
    unfolding stepping ask choose
    stepping-ended e = rw (in_bounds, e)

    module _ (before : eqb (position c.held) t.count ≡ false) where
      pub stepping-within : c.held.place + 1 < 128 → stepping c bs t ≡ Ok (at_place c (c.held.place + 1))
      unfolding stepping ask choose
      stepping-within h = rw (in_bounds, before, lt-ltb _ _ h)

      pub stepping-leaves : 128 ≤ c.held.place + 1 → stepping c bs t ≡ leaving c.held bs t 0
      unfolding stepping ask choose
      stepping-leaves h = rw (in_bounds, before, le-ltb _ _ h)

-- ---- where a call that came somewhere has come to

cursor-is : (c : SegmentPostings) {h : Held} {docs freqs : List ℕ} → docs ≡ c.docs → freqs ≡ c.freqs → c.held ≡ h → c ≡ cursor_of h docs freqs
cursor-is c d f e = rw (d, f, ← e)

pub landed_at : {o : Outcome SegmentPostings} {docs freqs : List ℕ} {r : Outcome Held} {h : Held}
    → Lands o docs freqs r → r ≡ Ok h → o ≡ Ok (cursor_of h docs freqs)
landed_at {o} k e =
    let c = reached-ok o (sym k.answer ∙ e) in
    c.1 ∙ ap Ok (cursor-is c.0 (k.docs_are c.0 c.1) (k.freqs_are c.0 c.1) c.2)

pub landed_nowhere : {o : Outcome SegmentPostings} {docs freqs : List ℕ} {r : Outcome Held} {n : Refusal} → Lands o docs freqs r → r ≡ Err n → o ≡ Err n
landed_nowhere {o} k e = reached-refused o (sym k.answer ∙ e)

-- a call that leaves its arrays in a refusal tells no less than one that may lose them
reaches-lands : {o : Outcome SegmentPostings} {docs freqs docs' freqs' : List ℕ} {r : Outcome Held} → Reaches o docs freqs docs' freqs' r → Lands o docs' freqs' r
unfolding or_before
reaches-lands k = record { answer = k.answer; docs_are = λ c e. rw e at k.docs_after; freqs_are = λ c e. rw e at k.freqs_after }

pub reached-at : {o : Outcome SegmentPostings} {docs freqs docs' freqs' : List ℕ} {r : Outcome Held} {h : Held}
    → Reaches o docs freqs docs' freqs' r → r ≡ Ok h → o ≡ Ok (cursor_of h docs' freqs')
reached-at k = landed_at (reaches-lands k)

pub reached_nowhere : {o : Outcome SegmentPostings} {docs freqs docs' freqs' : List ℕ} {r : Outcome Held} {n : Refusal}
    → Reaches o docs freqs docs' freqs' r → r ≡ Err n → o ≡ Err n
reached_nowhere k = landed_nowhere (reaches-lands k)

-- two arrays of one's own are stored where a call on them came somewhere, so that a refusal leaves those that are lent
pub stored-reached : {o : Outcome SegmentPostings} {docs freqs ids counts : List ℕ} {r : Outcome Held} {h : Held} → Lands o ids counts r → r ≡ Ok h
    → Reaches o docs freqs ids counts r
unfolding or_before
stored-reached k e = let at = landed_at k e in record { answer = k.answer; docs_after = rw at; freqs_after = rw at }

pub left-reached : {o : Outcome SegmentPostings} {docs freqs ids counts : List ℕ} {r : Outcome Held} {n : Refusal} → Lands o ids counts r → r ≡ Err n
    → Reaches o docs freqs docs freqs r
unfolding or_before
left-reached k e = let no = landed_nowhere k e in record { answer = k.answer; docs_after = rw no; freqs_after = rw no }

-- the answer at a place of a block
pub answering-at : (t : Term) (c : SegmentPostings) → c.held.place < 128 → answering t c ≡ Ok (answer_at_of t false c)
unfolding answering ask
answering-at t c below = rw (lt-ltb _ _ below)

-- .. with a hit told beside
answered-with : (t : Term) (hit : Bool) (c : SegmentPostings) → with_hit hit (Ok (answer_at_of t false c)) ≡ Ok (answer_at_of t hit c)
unfolding with_hit answer_at_of choose
answered-with t hit c = by_test (eqb (position c.held) t.count) refl
  where
    by_test : (r : Bool) → eqb (position c.held) t.count ≡ r → with_hit hit (Ok (answer_at_of t false c)) ≡ Ok (answer_at_of t hit c)
    by_test true e = rw e
    by_test false e = rw e

-- .. none told is what `answer_at` says itself
pub no_hit_told : (t : Term) (c : SegmentPostings) → with_hit false (answering t c) ≡ answering t c
unfolding with_hit answering ask
no_hit_told t c = by_test (ltb c.held.place 128) refl
  where
    by_test : (r : Bool) → ltb c.held.place 128 ≡ r → with_hit false (answering t c) ≡ answering t c
    by_test true e = rw e (answered-with t false c)
    by_test false e = rw e

pub with_hit-at : (t : Term) (hit : Bool) (c : SegmentPostings) → c.held.place < 128 → with_hit hit (answering t c) ≡ Ok (answer_at_of t hit c)
with_hit-at t hit c below = ap (with_hit hit) (answering-at t c below) ∙ answered-with t hit c

pub answering_nowhere : (t : Term) (c : SegmentPostings) → 128 ≤ c.held.place → answering t c ≡ Err StateBroken
unfolding answering ask
answering_nowhere t c above = rw (le-ltb _ _ above)

-- an answer with its cursor
pub moved_at : (t : Term) (before : SegmentPostings) (hit : SegmentPostings → Bool) {o : Outcome SegmentPostings} {c : SegmentPostings}
    → c.held.place < 128 → o ≡ Ok c → moved t before hit o ≡ record { answer = with_hit (hit c) (answering t c); cursor = c }
unfolding moved
moved_at t before hit {c = c} below e = rw (e, with_hit-at t (hit c) c below)

pub moved_nowhere : (t : Term) (before : SegmentPostings) (hit : SegmentPostings → Bool) {o : Outcome SegmentPostings} {docs freqs docs' freqs' : List ℕ} {r : Outcome Held} {n : Refusal}
    → Reaches o docs freqs docs' freqs' r → r ≡ Err n
    → moved t before hit o ≡ record { answer = Err n; cursor = before }
unfolding moved
moved_nowhere t before hit k e = rw (reached_nowhere k e)

-- a landing is at its block's first place
pub landing-first : (t : Term) (bs : List ℕ) (l : Layout) (target : ℕ) (s : Start) {c : SegmentPostings}
    → landing t bs l target s ≡ Ok c → c.held.place ≡ 0
unfolding holding
landing-first t bs l target s e =
    let found = and_then-ok _ _ (sym (landing_is t bs l target s) ∙ e) in
    let loads = and_then-ok _ _ found.2 in
    ap (λ (c : SegmentPostings). c.held.place) (sym (ok_same loads.2))

pub opening_near : (bs : List ℕ) (t : Term) {c : SegmentPostings} → opening bs t ≡ Ok c → c.held.place < 128
opening_near bs t e = omega (arith, landing-first _ _ _ _ _ (and_then-ok _ _ (sym (opening-is bs t) ∙ e)).2)
