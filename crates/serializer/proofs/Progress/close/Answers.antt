-- `serializer::Progress::close` meets its contract: the questions in turn, and then whether the image fits, which `put_term` says.
-- Assumes nothing.
use Rattle.std.proofs.Common.{◌≡◌, true, sym, ◌∙◌}
use Rattle.serializer.specs.declared.PostingsSerializer.{PostingsSerializer}
use Rattle.serializer.specs.Calls.{state_of}
use Rattle.serializer.specs.Writer.{in_bounds_of}
use Rattle.serializer.proofs.image.CloseCases.{closed_broken, closed_mismatch, closed_put}
use Rattle.serializer.proofs.Progress.close.Goals as goal
use Rattle.serializer.proofs.Progress.close.Goals.{After-in_bounds}

module _ (c : After-in_bounds) where
  -- the state that is closed
  abbrev state : PostingsSerializer
  state = state_of c.args.self c.args.docs.now c.args.freqs.now

  holds : c.in_bounds.result ≡ true → in_bounds_of state c.args.skips.now c.args.postings.now ≡ true
  unfolding in_bounds_of
  holds held = sym c.in_bounds.ensures ∙ held

pub returns-then-not-in_bounds : goal.returns-then-not-in_bounds
unfolding in_bounds_of state_of
returns-then-not-in_bounds c =
    let a = c.args in
    let asked = (goal.at.returns-then-not-in_bounds c).After-in_bounds in
    closed_broken (state asked) a.announced a.skips.now a.postings.now a.output.now (sym c.in_bounds.ensures ∙ c.if-not-in_bounds.true)

pub returns-then-self-announced : goal.returns-then-self-announced
unfolding state_of
returns-then-self-announced c =
    let a = c.args in
    let asked = (goal.at.returns-then-self-announced c).After-in_bounds in
    closed_mismatch (state asked) a.announced a.skips.now a.postings.now a.output.now (holds asked c.if-not-in_bounds.false)
    c.if-self-announced.true

pub put_term-requires : goal.put_term-requires
put_term-requires c = holds (goal.at.put_term-requires c).After-in_bounds c.if-not-in_bounds.false

pub returns : goal.returns
unfolding state_of
returns c =
    let a = c.args in
    let asked = (goal.at.returns c).After-in_bounds in
    closed_put (state asked) a.announced a.skips.now a.postings.now a.output.now (holds asked c.if-not-in_bounds.false)
    c.if-self-announced.false c.put_term.ensures
