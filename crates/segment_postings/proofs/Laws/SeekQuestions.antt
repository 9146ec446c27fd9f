-- What a seek asks before it looks at the held values, of every cursor and every image, in turn: 16 of the cursor's numbers; 10 of the
-- target, at the end too (document 02, Ask 10); and whether it is at the end, where any other target changes nothing.
-- Assumes nothing.
use Rattle.format.specs.declared.refusal.Refusal.TheVariants.{TargetTooLarge, StateBroken}
use Rattle.std.specs.Prelude.{◌≡◌, ℕ, ◌<◌, ◌≤◌, true, false, eqb, List, length, Ok, Err}
use borrow.Author.Tests.{le-leb, lt-leb}
use Rattle.format.specs.declared.Term.{Term}
use Rattle.format.specs.Basics.{ask, choose, TERMINATED}
use Rattle.segment_postings.specs.declared.SegmentPostings.{SegmentPostings}
use Rattle.segment_postings.specs.Cursor.{in_bounds_of, position, seeking}
use Rattle.segment_postings.proofs.Laws.CursorTurns.{seeking-is}

module _ (c : SegmentPostings) (bs : List ℕ) (t : Term) (target : ℕ) where
  pub seeking_broken : in_bounds_of t (length bs) c.held ≡ false → seeking c bs t target ≡ Err StateBroken
  unfolding ask
  seeking_broken e = rw (seeking-is, e)

  module _ (in_bounds : in_bounds_of t (length bs) c.held ≡ true) where
    pub seeking_too_large : TERMINATED < target → seeking c bs t target ≡ Err TargetTooLarge
    unfolding ask
    seeking_too_large h = rw (seeking-is, in_bounds, lt-leb _ _ h)

    pub seeking-ended : target ≤ TERMINATED → eqb (position c.held) t.count ≡ true → seeking c bs t target ≡ Ok c
    unfolding ask choose
    seeking-ended small e = rw (seeking-is, in_bounds, le-leb _ _ small, e)
