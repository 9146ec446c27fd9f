-- `serializer::Progress::put_term` meets its contract: what is handed over are the parts of the state's image.
-- Assumes nothing.
use Rattle.std.proofs.Common.{length, refl, sym}
use Rattle.std.proofs.Math.Seq.{length-take-le}
use Rattle.serializer.specs.Calls.{state_of}
use Rattle.serializer.specs.Writer.{in_bounds_of, option_of, waiting_docs, waiting_freqs}
use Rattle.serializer.proofs.image.CloseCases.{image-of}
use Rattle.serializer.proofs.bounds.Question16.{skips_within, postings_within}
use Rattle.serializer.proofs.Progress.put_term.Goals as goal

pub slice_bounds-image-end : goal.slice_bounds-image-end
unfolding in_bounds_of state_of
slice_bounds-image-end c =
    sym (length-take-le _ _ (skips_within (state_of c.args.self c.args.docs.now c.args.freqs.now) _ (length c.args.postings.now) c.requires))

pub slice_bounds-image-end-2 : goal.slice_bounds-image-end-2
unfolding in_bounds_of state_of
slice_bounds-image-end-2 c =
    sym (length-take-le _ _ (postings_within (state_of c.args.self c.args.docs.now c.args.freqs.now) (length c.args.skips.now) _ c.requires))

pub returns : goal.returns
unfolding option_of waiting_docs waiting_freqs state_of
returns c =
    rw (image-of (state_of c.args.self c.args.docs.now c.args.freqs.now) c.args.skips.now c.args.postings.now
    c.option.ensures (c.tail_offset.ensures _ _) refl refl)
    c.put.ensures
