-- `segment_postings::seeks::place_in` meets its contract: where the search found the target, and it isn't TERMINATED, it is a hit before the
-- end, and else none.
-- Assumes nothing.
use Rattle.std.proofs.Common.{sym, ◌∙◌}
use mathlib.Core.Bool.{and-eq-true_iff}
use Rattle.segment_postings.specs.Cursor.{at_place}
use Rattle.segment_postings.proofs.Laws.SeekFinds.{stands_below, found-told, unfound-told}
use Rattle.segment_postings.proofs.seeks.place_in.Goals as goal

pub at_end-requires : goal.at_end-requires
at_end-requires c =
    let stands = ((and-eq-true_iff _ _).0 c.if-target-hit.true).1 in
    rw c.at_place-placed.ensures (stands_below _ _ _ (sym c.search_block-place.ensures.hit ∙ stands))

pub returns-then-target-hit : goal.returns-then-target-hit
unfolding at_place
returns-then-target-hit c freqs =
    let s = c.search_block-place.ensures in
    let some = rw (s.hit, s.place) at c.if-target-hit.true in
    rw (c.at_end.ensures, c.at_place-placed.ensures, s.place) (found-told _ _ _ some)

pub returns-else-target-hit : goal.returns-else-target-hit
unfolding at_place
returns-else-target-hit c freqs =
    let s = c.search_block-place.ensures in
    let none = rw (s.hit, s.place) at c.if-target-hit.false in
    rw (c.if-target-hit.false, c.at_place-placed.ensures, s.place) (unfound-told _ _ _ none)
