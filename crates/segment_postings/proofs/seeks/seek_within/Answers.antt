-- `segment_postings::seeks::seek_within` meets its contract: its tests of the place that the search answers are the definition's.
-- Assumes nothing.
use Rattle.std.proofs.Common.{ap, ◌∙◌, arith}
use Rattle.segment_postings.specs.declared.Sought.{Sought}
use Rattle.segment_postings.specs.Cursor.{place_of, at_place}
use Rattle.segment_postings.specs.Private.{told_of}
use Rattle.segment_postings.proofs.Laws.SeekFinds.{none-found, finds-told}
use Rattle.segment_postings.proofs.seeks.SeekCases.{within-there, within_none}
use Rattle.segment_postings.proofs.seeks.seek_within.Goals as goal

pub returns-then-not-there : goal.returns-then-not-there
unfolding place_of told_of at_place
returns-then-not-there c freqs =
    let no = c.if-not-there.true in
    let place = ap (λ (s : Sought). s.held.place) (c.place_in-sought.ensures freqs) in
    none-found _ _ (within_none _ _ _ place (λ k. grind (arith, k, no)))

pub returns : goal.returns
unfolding place_of told_of at_place
returns c freqs =
    let yes = c.if-not-there.false in
    let told = c.place_in-sought.ensures freqs in
    let place = ap (λ (s : Sought). s.held.place) told in
    finds-told _
    (within-there _ _ _ place
    (record { ahead = grind (arith, yes); inside = grind (arith, yes); reaches = grind (arith, yes); counted = grind (arith, yes) })
    ∙ rw place)
    told
