-- `segment_postings::arrays::advance_in` meets its contract: its tests are the definition's, in turn.
-- Assumes nothing.
use Rattle.std.proofs.Common.{sym, ◌∙◌, arith}
use Rattle.segment_postings.specs.Cursor.{at_place}
use Rattle.segment_postings.proofs.arrays.Question16.{bounded}
use Rattle.segment_postings.proofs.Laws.LandingParts.{reaches_as, none-reached, held-reached, stepping_broken, stepping-ended, stepping-within, leaves-full, stepping-leaves}
use Rattle.segment_postings.proofs.arrays.advance_in.Goals as goal

pub returns-then-not-in_bounds : goal.returns-then-not-in_bounds
returns-then-not-in_bounds c =
    none-reached _ _ (stepping_broken _ _ _ (sym c.in_bounds.ensures ∙ c.if-not-in_bounds.true))

pub at_end-requires : goal.at_end-requires
at_end-requires c = (bounded _ _ _ (sym c.in_bounds.ensures ∙ c.if-not-in_bounds.false)).place_below

pub returns-then-at_end : goal.returns-then-at_end
returns-then-at_end c =
    held-reached _ _ _ (stepping-ended _ _ _ (sym c.in_bounds.ensures ∙ c.if-not-in_bounds.false) (sym c.at_end.ensures ∙ c.if-at_end.true))

pub overflow_add-place : goal.overflow_add-place
overflow_add-place c = omega (arith, bounded _ _ _ (sym c.in_bounds.ensures ∙ c.if-not-in_bounds.false))

pub returns-then-place-lt-COMPRESSION_BLOCK_SIZE : goal.returns-then-place-lt-COMPRESSION_BLOCK_SIZE
unfolding at_place
returns-then-place-lt-COMPRESSION_BLOCK_SIZE c =
    rw c.at_place.ensures
    (held-reached _ _ _
    (stepping-within _ _ _ (sym c.in_bounds.ensures ∙ c.if-not-in_bounds.false) (sym c.at_end.ensures ∙ c.if-at_end.false)
    c.if-place-lt-COMPRESSION_BLOCK_SIZE.true))

pub leave_whole-requires : goal.leave_whole-requires
leave_whole-requires c =
    let inside = sym c.in_bounds.ensures ∙ c.if-not-in_bounds.false in
    (inside, leaves-full _ _ _ inside (sym c.at_end.ensures ∙ c.if-at_end.false) c.if-place-lt-COMPRESSION_BLOCK_SIZE.false)

pub returns : goal.returns
returns c =
    reaches_as
    (stepping-leaves _ _ _ (sym c.in_bounds.ensures ∙ c.if-not-in_bounds.false) (sym c.at_end.ensures ∙ c.if-at_end.false)
    c.if-place-lt-COMPRESSION_BLOCK_SIZE.false)
    c.leave_whole.ensures
