-- `segment_postings::layout::skip_bytes` meets its contract: the part lies at the places of the split, which are inside the image.
-- Assumes nothing.
use Rattle.std.proofs.Common.{sym}
use Rattle.segment_postings.specs.Calls.{part_of}
use Rattle.segment_postings.proofs.layout.SplitParts.{split_places, skips_at_is}
use Rattle.segment_postings.proofs.layout.skip_bytes.Goals as goal

pub slice_bounds-result-count : goal.slice_bounds-result-count
slice_bounds-result-count c = (split_places _ c.args.image.now (sym c.in-Ok.ensures)).0

pub slice_bounds-result-start : goal.slice_bounds-result-start
slice_bounds-result-start c = (split_places _ c.args.image.now (sym c.in-Ok.ensures)).0

pub slice_bounds-result-end : goal.slice_bounds-result-end
slice_bounds-result-end c = (split_places _ c.args.image.now (sym c.in-Ok.ensures)).1

pub returns-in-Ok : goal.returns-in-Ok
unfolding part_of
returns-in-Ok c = skips_at_is _ c.args.image.now (sym c.in-Ok.ensures)

pub returns-in-Err : goal.returns-in-Err
unfolding part_of
returns-in-Err c = skips_at_is _ c.args.image.now (sym c.in-Err.ensures)
