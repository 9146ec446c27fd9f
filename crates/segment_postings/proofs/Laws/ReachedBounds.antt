-- Where a step or a seek comes to, from any cursor whose numbers are in bounds, one that no call left too: a place of a block, and a
-- position at most the count. A step goes one on before the end, or to the first place behind a full block. A seek stays, goes to a
-- place of the held block that was tested, or lands on a block, in which the search answers a place (SearchOnLanding.antt). So does a fresh
-- cursor's.
-- Assumes nothing.
use Rattle.std.specs.Prelude.{◌≡◌, ℕ, ◌+◌, ◌*◌, ◌<◌, ◌≤◌, List, length, Ok}
use mathlib.Core.Logic.{⊎_elim}
use mathlib.Core.Path.{sym, subst, ◌∙◌}
use native.Mathlib.Nat.{eq-or-lt_of_le}
use native.Mathlib.Omega.{arith}
use borrow.Author.Tests.{leb-true, ltb-true, ltb-false, eqb-false}
use Rattle.format.specs.declared.Term.{Term}
use Rattle.format.specs.Basics.{Outcome, TERMINATED}
use Rattle.format.specs.Layout.{full_blocks_of}
use Rattle.format.proofs.Choice.{choose_elim}
use Rattle.format.proofs.Outcome.{ok_same, ask-ok, and_then-ok}
use Rattle.segment_postings.specs.declared.SegmentPostings.{SegmentPostings}
use Rattle.segment_postings.specs.Cursor.{position, at_place, leaving, stepping, within, behind, seeking, seeking_fresh}
use Rattle.segment_postings.proofs.arrays.Question16.{Bounded, bounded}
use Rattle.segment_postings.proofs.Simulation.SearchOnLanding.{leaving-placed}
use Rattle.segment_postings.proofs.Laws.LandingParts.{landing-first, leaves-full}
use Rattle.segment_postings.proofs.seeks.SeekCases.{tested, within-is}
use Rattle.segment_postings.proofs.Laws.CursorTurns.{leaving-is, stepping-is, behind-is, seeking-is, seeking_fresh-is}

abbrev pub Near : Term → SegmentPostings → Type 0
Near t d = (d.held.place < 128) × (128 * d.held.block + d.held.place ≤ t.count)

module _ (c : SegmentPostings) (bs : List ℕ) (t : Term) where
  stays_near : {d : SegmentPostings} → Bounded t (length bs) c.held → ◌≡◌ {A = Outcome SegmentPostings} (Ok c) (Ok d) → Near t d
  stays_near b e = subst (Near t) (ok_same e) (b.place_below, b.position_most)

  -- ---- a step

  leaving_near : {d : SegmentPostings} → c.held.block < full_blocks_of t → leaving c.held bs t 0 ≡ Ok d → Near t d
  leaving_near full e =
      let laid = and_then-ok _ _ (sym (leaving-is c.held bs t 0) ∙ e) in
      let first = landing-first _ _ _ _ _ (ask-ok _ _ _ laid.2).1 in
      let placed = leaving-placed c.held bs t 0 (omega arith) full e in
      (omega arith, omega (arith, placed.position_most))

  pub stepping_near : {d : SegmentPostings} → stepping c bs t ≡ Ok d → Near t d
  unfolding position at_place full_blocks_of
  stepping_near {d} e =
      let asked = ask-ok _ _ _ (sym (stepping-is c bs t) ∙ e) in
      let in_bounds = bounded t (length bs) c.held asked.0 in
      let goal : Outcome SegmentPostings → Type 0 = λ o. o ≡ Ok d → Near t d in
      choose_elim goal _ _ _ (λ _. stays_near in_bounds)
      (λ before. choose_elim goal _ _ _
      (λ below k. subst (Near t) (ok_same k) (
        ltb-true _ _ below,
        ⊎_elim (λ same. absurd (eqb-false _ _ before same)) (λ l. omega arith) (eq-or-lt_of_le in_bounds.position_most),
      ))
      (λ above k. leaving_near (leaves-full c.held (length bs) t asked.0 before (ltb-false _ _ above)) k))
      asked.1

  -- ---- a seek

  module _ (target : ℕ) where
    within_near : {d : SegmentPostings} → within c t target ≡ Ok d → Near t d
    unfolding at_place
    within_near e =
        let asked = ask-ok _ _ _ (sym (within-is c t target) ∙ e) in
        let there = tested c t target asked.0 in
        subst (Near t) (ok_same asked.1) (there.inside, there.counted)

    behind_near : {d : SegmentPostings} → target ≤ TERMINATED → behind c bs t target ≡ Ok d → Near t d
    unfolding at_place
    behind_near small e =
        let asked = ask-ok _ _ _ (sym (behind-is c bs t target) ∙ e) in
        let left = and_then-ok _ _ asked.1 in
        let placed = leaving-placed c.held bs t target small (ltb-true _ _ asked.0) left.1 in
        subst (Near t) (ok_same left.2) (placed.place_below, placed.position_most)

    pub seeking_near : {d : SegmentPostings} → seeking c bs t target ≡ Ok d → Near t d
    seeking_near {d} e =
        let asked = ask-ok _ _ _ (sym (seeking-is c bs t target) ∙ e) in
        let goal : Outcome SegmentPostings → Type 0 = λ o. o ≡ Ok d → Near t d in
        let stays : goal (Ok c) = stays_near (bounded t (length bs) c.held asked.0) in
        let small = ask-ok _ _ _ asked.1 in
        choose_elim goal _ _ _ (λ _. stays)
        (λ _. choose_elim goal _ _ _ (λ _. stays)
        (λ _. choose_elim goal _ _ _ (λ _. within_near) (λ _. behind_near (leb-true _ _ small.0))))
        small.1

-- ---- a fresh cursor's seek

pub fresh_near : (bs : List ℕ) (t : Term) (target : ℕ) {d : SegmentPostings} → seeking_fresh bs t target ≡ Ok d → Near t d
fresh_near bs t target e = seeking_near _ bs t target (and_then-ok _ _ (sym (seeking_fresh-is bs t target) ∙ e)).2
