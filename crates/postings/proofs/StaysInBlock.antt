-- A call that does not leave the held block does not look at the image, beyond its length for question 16: on two images of the same
-- length it answers the same and leaves the same cursor. A call that lands on a block looks besides at the bytes before the posting bytes
-- and at those of that block alone: segment_postings/proofs/Laws/LooksAt.antt `opens-by_the_first` of opening, `step-lands-on-one` and
-- `seek-lands-on-one` of steps and seeks. So a bad block is refused only once it is landed on, whatever block it is. The fraud that
-- document 01 names beside it, unpacking all at opening, would refuse at opening. Last, a lent cursor that came from no
-- image, whose next block begins before the posting bytes.
-- Assumes nothing.
use Rattle.std.specs.Prelude.{Ok, Err}
use mathlib.Core.Bool.{Bool, true, false}
use mathlib.Core.Path.{◌≡◌, refl}
use mathlib.Core.List.{List, [], ◌∷◌, ◌++◌}
use Prim.Native.Nat.{ℕ, ◌+◌, ◌≤◌, ◌<◌}
use borrow.Author.Tests.{eq-eqb, lt-ltb, le-leb, lt-leb}
use lib.ListN.{length, get_or, replicate}
use Rattle.format.specs.declared.refusal.Refusal.TheVariants.{EntryBroken, DocsNotRising, NumberBroken}
use Rattle.format.specs.declared.Term.{Term}
use Rattle.format.specs.Basics.{ask, choose, TERMINATED, Outcome}
use Rattle.format.specs.Model.{step, seek}
use Rattle.block_search.specs.Search.{pivots_below_of}
use Rattle.segment_postings.specs.declared.Answer.{Answer}
use Rattle.segment_postings.specs.declared.SegmentPostings.{SegmentPostings}
use Rattle.segment_postings.specs.Cursor.{position, stepping, advanced, seeking, sought}
use Rattle.segment_postings.specs.Called.{calls}
use Rattle.segment_postings.proofs.Laws.LooksAt.{same_bounds}

module _ (c : SegmentPostings) (t : Term) (bs bs' : List ℕ) (same : length bs ≡ length bs') where
  -- at the end
  pub step-at-end : position c.held ≡ t.count → advanced c bs t ≡ advanced c bs' t
  unfolding advanced stepping choose
  step-at-end e = rw (same_bounds c.held t bs bs' same, eq-eqb (position c.held) t.count e)

  pub seek-at-end : (target : ℕ) → position c.held ≡ t.count → sought c bs t target ≡ sought c bs' t target
  unfolding sought seeking choose
  seek-at-end target e = rw (same_bounds c.held t bs bs' same, eq-eqb (position c.held) t.count e)

  -- a step to another place of the block
  pub step-held : c.held.place + 1 < 128 → advanced c bs t ≡ advanced c bs' t
  unfolding advanced stepping choose
  step-held h = rw (same_bounds c.held t bs bs' same, lt-ltb (c.held.place + 1) 128 h)

  -- a seek to a target not behind the present document, or not behind the block's last id
  pub seek-stays : (target : ℕ) → target ≤ get_or c.docs c.held.place 0 → sought c bs t target ≡ sought c bs' t target
  unfolding sought seeking choose
  seek-stays target h = rw (same_bounds c.held t bs bs' same, le-leb target (get_or c.docs c.held.place 0) h)

  pub seek-held : (target : ℕ) → target ≤ c.held.last_doc → sought c bs t target ≡ sought c bs' t target
  unfolding sought seeking choose
  seek-held target h = rw (same_bounds c.held t bs bs' same, le-leb target c.held.last_doc h)

  -- a target that is refused
  pub seek-refused : (target : ℕ) → TERMINATED < target → sought c bs t target ≡ sought c bs' t target
  unfolding sought seeking ask choose
  seek-refused target h = rw (same_bounds c.held t bs bs' same, lt-leb target TERMINATED h)

-- ---- one image

-- an answer in one block of these: its document and whether it is a hit, with nothing that isn't 1 beside them
abbrev at : ℕ → Bool → Outcome Answer
at doc hit = Ok (record { doc = doc; freq = 1; unpacked = 1; entries = 1; hit = hit })

-- the ids 0 to 128 in mode 0, the tail's number cut short: its first block is read as it stands, the tail refused under 8 by the calls
-- that would land on it, and the next call finds the cursor in the first block again
abbrev late : List ℕ
late = 0x85 ∷ 0x7F ∷ 0 ∷ 0 ∷ 0 ∷ 0x40 ∷ 0x01 ∷ []

pub refused_once_landed_on :
    calls late (record { mode = 0; requested = 0; count = 129 }) (seek 127 ∷ step ∷ seek 128 ∷ seek 5 ∷ [])
    ≡ at 0 false ∷ at 127 true ∷ Err NumberBroken ∷ Err NumberBroken ∷ at 127 false ∷ []
unfolding calls pivots_below_of
refused_once_landed_on = refl

-- ---- a cursor that came from no image

-- two full blocks in mode 0; the posting bytes begin at place 11, and the bytes from place 0 on would pass for the second block's
abbrev two_blocks : List ℕ
two_blocks = (0x8A ∷ 0x7F ∷ 0 ∷ 0 ∷ 0 ∷ 0x40 ∷ 0x10 ∷ 0x01 ∷ 0 ∷ 0 ∷ 0x41 ∷ 0x03 ∷ []) ++ replicate 15 0

abbrev two_term : Term
two_term = record { mode = 0; requested = 0; count = 256 }

-- at the last place of the first block, its next block said to begin at `next`
abbrev lent : ℕ → SegmentPostings
lent next = record {
  docs = replicate 128 127;
  held = record { place = 127; block = 0; next = next; last_doc = 127; unpacked = 1; entries = 1 };
  freqs = replicate 128 1;
}

-- question 5, not what the skip bytes would give
pub before_the_posting_bytes : advanced (lent 0) two_blocks two_term ≡ record { answer = Err EntryBroken; cursor = lent 0 }
unfolding advanced
before_the_posting_bytes = refl

pub just_before : sought (lent 10) two_blocks two_term 128 ≡ record { answer = Err EntryBroken; cursor = lent 10 }
unfolding sought pivots_below_of
just_before = refl

-- where they begin, question 5 is answered yes: the block doesn't end on its entry's last id
pub at_the_posting_bytes : advanced (lent 11) two_blocks two_term ≡ record { answer = Err DocsNotRising; cursor = lent 11 }
unfolding advanced
at_the_posting_bytes = refl
