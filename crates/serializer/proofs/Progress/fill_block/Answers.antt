-- `serializer::Progress::fill_block` meets its contract: the block rises, since the waiting ids do and this one lies above them; whether it
-- had room decides what is left, and `write_block` says so.
-- Assumes nothing.
use Rattle.std.proofs.Common.{◌≡◌, ◌<◌, true, slice_set, ap₂, ◌∙◌, arith}
use Rattle.std.proofs.lemmas.Result.{err_from_is_err_and}
use Rattle.format.specs.Basics.{TERMINATED}
use Rattle.format.specs.Values.{rising}
use Rattle.serializer.specs.declared.PostingsSerializer.{PostingsSerializer}
use Rattle.serializer.specs.Calls.{progress_of_of, state_of}
use Rattle.serializer.specs.Writer.{first_least_of, option_of}
use Rattle.serializer.proofs.document.TakeCases.{admitted, least-small, filled-rises, fill_refused, fill_done}
use Rattle.serializer.proofs.Progress.fill_block.Goals as goal
use Rattle.serializer.proofs.Progress.fill_block.Goals.{After-with_last-block_freqs}

-- the state before the document, and what is known of it
module _ (c : After-with_last-block_freqs) where
  abbrev state : PostingsSerializer
  state = state_of c.args.self c.args.docs.now c.args.freqs.now

  not_full : c.args.self.taken < TERMINATED
  unfolding state_of
  not_full = (admitted state _ _ _ _ c.requires.0).not_full

  least_fits : first_least_of state < TERMINATED
  unfolding state_of
  least_fits = least-small state c.args.doc c.args.freq c.args.skips.now c.args.postings.now c.requires.0 c.requires.1 c.told-docs

  rises : rising (first_least_of state) (slice_set c.args.docs.now 127 c.args.doc) ≡ true
  unfolding state_of
  rises = filled-rises state c.args.doc c.args.freq c.args.skips.now c.args.postings.now c.requires.0 c.requires.1 c.told-docs

pub overflow_cast-least : goal.overflow_cast-least
overflow_cast-least c =
    let filled = (goal.at.overflow_cast-least c).After-with_last-block_freqs in
    omega (arith, c.first_least-least.ensures c.args.docs.now c.args.freqs.now, least_fits filled)

pub write_block-requires : goal.write_block-requires
write_block-requires c =
    let filled = (goal.at.write_block-requires c).After-with_last-block_freqs in
    ap₂ rising (c.first_least-least.ensures _ _) c.with_last-block_docs.ensures ∙ rises filled

pub returns-in_err-behind : goal.returns-in_err-behind
unfolding state_of option_of
returns-in_err-behind c =
    let filled = (goal.at.returns-in_err-behind c).After-with_last-block_freqs in
    let refusal = err_from_is_err_and c.from_residual.result c.from_residual.ensures.1 in
    rw (refusal.1, refusal.2)
    (fill_refused (state filled) _ _ _ _ c.requires.0 c.requires.1 c.told-docs c.option-option.ensures (c.first_least-least.ensures _ _)
    c.with_last-block_docs.ensures c.with_last-block_freqs.ensures c.write_block.ensures c.in_err-behind.was)

pub behind_block-requires : goal.behind_block-requires
behind_block-requires c = not_full (goal.at.behind_block-requires c).After-with_last-block_freqs

pub returns : goal.returns
unfolding state_of option_of progress_of_of
returns c =
    let filled = (goal.at.returns c).After-with_last-block_freqs in
    rw c.behind_block.ensures
    (fill_done (state filled) _ _ _ _ c.requires.0 c.requires.1 c.told-docs c.option-option.ensures (c.first_least-least.ensures _ _)
    c.with_last-block_docs.ensures c.with_last-block_freqs.ensures c.write_block.ensures c.in_ok-behind.was)
