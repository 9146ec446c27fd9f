-- A seek behind its first questions (Laws/SeekQuestions.antt), and the rank that a fresh cursor's seek finds: one law for each way through
-- the tests.
-- Assumes nothing.
use Rattle.format.specs.declared.refusal.Refusal.{Refusal}
use Rattle.format.specs.declared.refusal.Refusal.TheVariants.{TargetTooLarge, StateBroken}
use Rattle.std.specs.Prelude.{◌≡◌, ℕ, ◌+◌, ◌*◌, ◌/◌, ◌<◌, ◌≤◌, Bool, true, false, ◌&&◌ as and, eqb, ltb, leb, List, length, get_or, Ok, Err}
use mathlib.Core.Bool.{and-eq-true_iff}
use mathlib.Core.Path.{refl}
use borrow.Author.Tests.{leb-true, ltb-true, le-leb, lt-leb, lt-ltb, le-ltb}
use Rattle.format.specs.declared.Term.{Term}
use Rattle.format.specs.Basics.{Outcome, and_then, ask, choose, TERMINATED, or_before}
use Rattle.format.specs.Layout.{full_blocks_of}
use Rattle.block_search.specs.Search.{search_block_of}
use Rattle.segment_postings.specs.declared.Held.{Held}
use Rattle.segment_postings.specs.declared.SegmentPostings.{SegmentPostings}
use Rattle.segment_postings.specs.declared.Sought.{Sought}
use Rattle.segment_postings.specs.Cursor.{in_bounds_of, position, opening, at_place, leaving, place_of, within, behind, seeking, seeking_fresh, ranking}
use Rattle.segment_postings.specs.Calls.{cursor_of, reached, Reaches, Finds}
use Rattle.segment_postings.specs.Private.{told_of}
use Rattle.segment_postings.proofs.Laws.LandingParts.{reached-at, reached_nowhere}
use Rattle.segment_postings.proofs.Laws.SeekFinds.{finds-none, finds-told}
use Rattle.segment_postings.proofs.Laws.CursorTurns.{behind-is, seeking-is, seeking_fresh-is}

-- ---- what follows a call on lent arrays

module _ {o : Outcome SegmentPostings} {docs freqs docs' freqs' : List ℕ} {r : Outcome Held} (k : Reaches o docs freqs docs' freqs' r) where
  -- nothing, where it was refused
  pub then_nowhere : {t : Term} {target : ℕ} (f : SegmentPostings → Outcome SegmentPostings) {n : Refusal} → r ≡ Err n
      → Finds t target (and_then o f) docs freqs docs' freqs' (Err n)
  unfolding and_then reached or_before
  then_nowhere f e =
      let none = reached_nowhere k e in
      finds-none
      (record { answer = rw none; docs_after = rw none (rw none at k.docs_after); freqs_after = rw none (rw none at k.freqs_after) })

  -- the target's place in the block that it came to
  pub then_placed : {t : Term} {target : ℕ} {h : Held} {s : Sought} → r ≡ Ok h
      → s ≡ told_of t target (at_place (cursor_of h docs' freqs') (search_block_of docs' target))
      → Finds t target (and_then o λ landed. Ok (at_place landed (place_of landed target))) docs freqs docs' freqs' (Ok s)
  unfolding and_then place_of at_place
  then_placed e placed = finds-told _ (rw (reached-at k e)) placed

-- ---- in the held block

-- a place of the held block that may hold the target's document
pub record MayHold (t : Term) (c : SegmentPostings) (target p : ℕ) : Type 0 where
  pub ahead : c.held.place < p
  pub inside : p < 128
  pub reaches : target ≤ get_or c.docs p 0
  pub counted : 128 * c.held.block + p ≤ t.count

module _ (c : SegmentPostings) (t : Term) (target : ℕ) where
  abbrev pub tests : ℕ → Bool
  tests p =
      and (ltb c.held.place p)
      (and (ltb p 128)
      (and (leb target (get_or c.docs p 0))
      (leb (128 * c.held.block + p) t.count)))

  pub tested : {p : ℕ} → tests p ≡ true → MayHold t c target p
  tested e =
      let ahead = (and-eq-true_iff _ _).0 e in
      let inside = (and-eq-true_iff _ _).0 ahead.1 in
      let reaches = (and-eq-true_iff _ _).0 inside.1 in
      record {
        ahead = ltb-true _ _ ahead.0;
        inside = ltb-true _ _ inside.0;
        reaches = leb-true _ _ reaches.0;
        counted = leb-true _ _ reaches.1;
      }

  pub within-is : within c t target ≡ ask (tests (place_of c target)) StateBroken λ _. Ok (at_place c (place_of c target))
  unfolding within
  within-is = refl

  module _ {p : ℕ} (place : p ≡ place_of c target) where
    pub within-there : MayHold t c target p → within c t target ≡ Ok (at_place c p)
    unfolding ask
    within-there k =
        rw (within-is, ← place, lt-ltb _ _ k.ahead, lt-ltb _ _ k.inside, le-leb _ _ k.reaches, le-leb _ _ k.counted)

    pub within_none : (MayHold t c target p → ⊥) → within c t target ≡ Err StateBroken
    unfolding ask
    within_none never = rw (within-is, ← place) (go (tests p) refl)
      where
        go : (r : Bool) → tests p ≡ r → ask r StateBroken (λ _. Ok (at_place c p)) ≡ Err StateBroken
        go true e = absurd (never (tested e))
        go false e = refl

-- ---- behind it

module _ (c : SegmentPostings) (bs : List ℕ) (t : Term) (target : ℕ) where
  pub behind-tail : t.count / 128 ≤ c.held.block → behind c bs t target ≡ Err StateBroken
  unfolding ask full_blocks_of
  behind-tail h = rw (behind-is, le-ltb _ _ h)

  pub behind-full : c.held.block < t.count / 128
      → behind c bs t target ≡ and_then (leaving c.held bs t target) λ landed. Ok (at_place landed (place_of landed target))
  unfolding ask full_blocks_of
  behind-full h = rw (behind-is, lt-ltb _ _ h)

-- ---- a seek that isn't at the end

module _ (c : SegmentPostings) (bs : List ℕ) (t : Term) (target : ℕ) (in_bounds : in_bounds_of t (length bs) c.held ≡ true)
    (small : target ≤ TERMINATED) (before : eqb (position c.held) t.count ≡ false) where
  pub seeking-stays : target ≤ get_or c.docs c.held.place 0 → seeking c bs t target ≡ Ok c
  unfolding ask choose
  seeking-stays h = rw (seeking-is, in_bounds, le-leb _ _ small, before, le-leb _ _ h)

  module _ (ahead : get_or c.docs c.held.place 0 < target) where
    pub seeking-within : target ≤ c.held.last_doc → seeking c bs t target ≡ within c t target
    unfolding ask choose
    seeking-within h = rw (seeking-is, in_bounds, le-leb _ _ small, before, lt-leb _ _ ahead, le-leb _ _ h)

    pub seeking-behind : c.held.last_doc < target → seeking c bs t target ≡ behind c bs t target
    unfolding ask choose
    seeking-behind h = rw (seeking-is, in_bounds, le-leb _ _ small, before, lt-leb _ _ ahead, lt-leb _ _ h)

-- ---- a fresh cursor's seek, and the rank

module _ (bs : List ℕ) (t : Term) (target : ℕ) where
  pub fresh_unopened : {n : Refusal} → opening bs t ≡ Err n → seeking_fresh bs t target ≡ Err n
  unfolding and_then
  fresh_unopened e = rw (seeking_fresh-is, e)

  pub fresh-opened : {c : SegmentPostings} → opening bs t ≡ Ok c → seeking_fresh bs t target ≡ seeking c bs t target
  unfolding and_then
  fresh-opened e = rw (seeking_fresh-is, e)

module _ (mode count : ℕ) (bs : List ℕ) (target : ℕ) where
  abbrev term : Term
  term = record { mode = mode; requested = 0; count = count }

  pub ranking-is : ranking mode count bs target
      ≡ (ask (leb target TERMINATED) TargetTooLarge λ _.
      and_then (seeking_fresh bs term target) λ c. Ok (position c.held))
  unfolding ranking
  ranking-is = refl

  pub ranking_too_large : TERMINATED < target → ranking mode count bs target ≡ Err TargetTooLarge
  unfolding ask
  ranking_too_large h = rw (ranking-is, lt-leb _ _ h)

  module _ (small : target ≤ TERMINATED) where
    pub ranking-none : {n : Refusal} → seeking_fresh bs term target ≡ Err n → ranking mode count bs target ≡ Err n
    unfolding ask and_then
    ranking-none e = rw (ranking-is, le-leb _ _ small, e)

    pub ranking-found : {c : SegmentPostings} → seeking_fresh bs term target ≡ Ok c → ranking mode count bs target ≡ Ok (128 * c.held.block + c.held.place)
    unfolding ask and_then position
    ranking-found e = rw (ranking-is, le-leb _ _ small, e)
