-- A seek leaves cursor and model together. A held block passes the tests that guard a broken state, so a seek with a target up to
-- TERMINATED is never refused, and it goes where the model's goes: to the first document that is at least the target, if that lies
-- behind the position.
-- Assumes nothing.
use Rattle.std.specs.Prelude.{◌≡◌, ℕ, ◌<◌, ◌≤◌, max, leb, List, get_or, Ok}
use mathlib.Core.Logic.{⊎_elim}
use mathlib.Core.Path.{refl}
use native.Mathlib.Nat.{eq-or-lt_of_le}
use native.Mathlib.Decide.{dec_le}
use native.Mathlib.Omega.{arith}
use borrow.Author.Tests.{lt-ltb, le-leb, lt-leb, eq-eqb, ne_eqb}
use Rattle.format.specs.declared.Term.{Term}
use Rattle.format.specs.Basics.{ask, choose, and_then, TERMINATED}
use Rattle.format.specs.Counts.{count_below}
use Rattle.format.specs.Reading.{reading, docs_of}
use Rattle.format.specs.Model.{seek, State, after}
use Rattle.format.proofs.Below.{count-le}
use Rattle.format.proofs.Blocks.{docs-rising}
use Rattle.format.proofs.Sound.{Sound, sound-blocks}
use Rattle.format.proofs.Visited.{seek-goes}
use Rattle.segment_postings.specs.declared.SegmentPostings.{SegmentPostings}
use Rattle.segment_postings.specs.Cursor.{position, at_place, place_of, within, behind, seeking}
use Rattle.segment_postings.proofs.Laws.CursorTurns.{behind-is, seeking-is}
use Rattle.segment_postings.proofs.Laws.SeekQuestions.{seeking-ended}
use Rattle.segment_postings.proofs.Simulation.HoldsBlock.{Holds, MovesTo, holds-in_bounds_of}
use Rattle.segment_postings.proofs.Simulation.PlaceInList.{place_below, place-reaches, place_inside}
use Rattle.segment_postings.proofs.Simulation.SeekPosition.{seek-stays, seek-onward, earlier, within-onward, within_moves, left-full, leaving_moves}
use Rattle.segment_postings.proofs.Simulation.StepSimulates.{Agrees, docs-count, moves_agree}

module _ {t : Term} {bs : List ℕ} (s : Sound t bs) where
  abbrev docs : List ℕ
  docs = docs_of (reading t bs).blocks

  -- a call that stays where it is
  stands : {c : SegmentPostings} → Holds s c → MovesTo s (position c.held) c c
  stands k = record { holds = k; goes = refl; stays = λ _. refl; grows = λ l. absurd (omega arith) }

  module _ {c : SegmentPostings} (k : Holds s c) (target : ℕ) (most : target ≤ TERMINATED) where
    abbrev Seeks : SegmentPostings → Type 0
    Seeks c' = MovesTo s (max (position c.held) (count_below target docs)) c c'

    within-ok : (inside : position c.held < t.count) (ahead : get_or c.docs c.held.place 0 < target) (held : target ≤ c.held.last_doc)
        → within c t target ≡ Ok (at_place c (place_of c target))
    unfolding within place_of
    within-ok inside ahead held =
        rw (
          lt-ltb _ _ (within-onward s k target inside ahead held),
          lt-ltb _ _ (place_below s k target held),
          le-leb _ _ (place-reaches s k target held),
          le-leb _ _ (place_inside s k target held (earlier s k target inside ahead)),
        )

    -- where the present document lies below the target
    onward : (inside : position c.held < t.count) (ahead : get_or c.docs c.held.place 0 < target)
        → (c' : SegmentPostings) × MovesTo s (count_below target docs) c c'
        × (choose (leb target c.held.last_doc) (λ _. within c t target) (λ _. behind c bs t target) ≡ Ok c')
    unfolding choose ask and_then place_of
    onward inside ahead = elim (dec_le target c.held.last_doc) [
      | yes held ↦ (_, within_moves s k target inside ahead held, rw (le-leb target _ held, within-ok inside ahead held))
      | no left ↦
          let below : c.held.last_doc < target = omega arith in
          let p = leaving_moves s k target below most in
          (_, p.2, rw (lt-leb target _ below, behind-is, lt-ltb _ _ (left-full s k target below most), p.1))
    ]

    seeking-on : position c.held < t.count
        → seeking c bs t target
        ≡ (choose (leb target (get_or c.docs c.held.place 0)) (λ _. Ok c) λ _.
        choose (leb target c.held.last_doc) (λ _. within c t target) (λ _. behind c bs t target))
    unfolding ask choose
    seeking-on h =
        rw (seeking-is, holds-in_bounds_of s k, le-leb target TERMINATED most, ne_eqb (position c.held) t.count (λ e. omega arith))

    pub seeking-seeks : (c' : SegmentPostings) × Seeks c' × (seeking c bs t target ≡ Ok c')
    unfolding choose
    seeking-seeks =
        ⊎_elim
        (λ e.
        let here : max (position c.held) (count_below target docs) ≡ position c.held = omega (arith, count-le target docs, docs-count s) in
        (c, rw here (stands k), seeking-ended c bs t target (holds-in_bounds_of s k) most (eq-eqb (position c.held) t.count e)))
        (λ inside. elim (dec_le target (get_or c.docs c.held.place 0)) [
          | yes h ↦
              let here : max (position c.held) (count_below target docs) ≡ position c.held = omega (arith, seek-stays s k target inside h) in
              (c, rw here (stands k), rw (seeking-on inside, le-leb target _ h))
          | no h ↦
              let ahead : get_or c.docs c.held.place 0 < target = omega arith in
              let further = seek-onward s k target inside ahead in
              let there : max (position c.held) (count_below target docs) ≡ count_below target docs = omega arith in
              let p = onward inside ahead in
              (p.0, rw there p.1, rw (seeking-on inside, lt-leb target _ ahead) p.2)
        ])
        (eq-or-lt_of_le k.position_most)

  module _ {c : SegmentPostings} {m : State} (k : Agrees s c m) (target : ℕ) where
    pub seeking-agrees : target ≤ TERMINATED
        → (c' : SegmentPostings) × Agrees s c' (after docs m (seek target)) × (seeking c bs t target ≡ Ok c')
    seeking-agrees most =
        let p = seeking-seeks k.holds target most in
        let goes = seek-goes 0 docs m target (docs-rising (sound-blocks s)) most in
        (p.0, moves_agree s k (seek target) p.1 (rw (goes, k.same_position)), p.2)
