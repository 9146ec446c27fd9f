-- `segment_postings::segment_postings::value_at` meets its contract: its tests are the definition's, in turn.
-- Assumes nothing.
use Rattle.std.proofs.Common.{sym, ◌∙◌, arith}
use Rattle.format.specs.Basics.{ask, choose}
use Rattle.segment_postings.specs.Cursor.{value_at}
use Rattle.segment_postings.proofs.arrays.Question16.{bounded}
use Rattle.segment_postings.proofs.segment_postings.value_at.Goals as goal

pub returns-then-not-in_bounds : goal.returns-then-not-in_bounds
unfolding value_at ask
returns-then-not-in_bounds c = rw (sym c.in_bounds.ensures ∙ c.if-not-in_bounds.true)

pub at_end-requires : goal.at_end-requires
at_end-requires c = (bounded _ _ _ (sym c.in_bounds.ensures ∙ c.if-not-in_bounds.false)).place_below

pub returns-then-at_end : goal.returns-then-at_end
unfolding value_at ask choose
returns-then-at_end c =
    rw (sym c.in_bounds.ensures ∙ c.if-not-in_bounds.false, sym c.at_end.ensures ∙ c.if-at_end.true)

pub offset_bounds-values-held : goal.offset_bounds-values-held
offset_bounds-values-held c = omega (arith, bounded _ _ _ (sym c.in_bounds.ensures ∙ c.if-not-in_bounds.false))

pub bounds-values-held : goal.bounds-values-held
bounds-values-held c = omega (arith, bounded _ _ _ (sym c.in_bounds.ensures ∙ c.if-not-in_bounds.false))

pub returns : goal.returns
unfolding value_at ask choose
returns c =
    rw (sym c.in_bounds.ensures ∙ c.if-not-in_bounds.false, sym c.at_end.ensures ∙ c.if-at_end.false)
