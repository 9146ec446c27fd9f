-- `serializer::Progress::may_take` meets its contract: the questions are asked in the definition's order, and the first no ends it.
-- Assumes nothing.
use Rattle.std.proofs.Common.{◌≡◌, true, refl, sym, ap₂, ◌∙◌}
use Rattle.std.proofs.lemmas.Result.{err_from_is_err_and}
use Rattle.format.specs.Accepted.{take_doc}
use Rattle.serializer.specs.declared.PostingsSerializer.{PostingsSerializer}
use Rattle.serializer.specs.Calls.{state_of}
use Rattle.serializer.specs.Writer.{bounds_hold, option_of, first_least_of, least_after_of, waiting_docs}
use Rattle.serializer.proofs.document.TakeCases.{asking_broken, asking-refused, asking-full, asking-ok}
use Rattle.serializer.proofs.Progress.may_take.Goals as goal
use Rattle.serializer.proofs.Progress.may_take.Goals.{After-in_bounds, After-ask_doc}

pub returns-then-not-in_bounds : goal.returns-then-not-in_bounds
returns-then-not-in_bounds c =
    let a = c.args in
    let state = state_of a.self a.docs.now a.freqs.now in
    rw (asking_broken state a.doc a.freq a.skips a.postings (sym c.in_bounds.ensures ∙ c.if-not-in_bounds.true))

module _ (c : After-ask_doc) where
  -- the state that is asked
  abbrev state : PostingsSerializer
  state = state_of c.args.self c.args.docs.now c.args.freqs.now

  holds : bounds_hold state c.args.skips c.args.postings ≡ true
  holds = sym c.in_bounds.ensures ∙ c.if-not-in_bounds.false

  asked_is : c.ask_doc.result ≡ take_doc (option_of state) (least_after_of (first_least_of state) (waiting_docs state)) c.args.doc c.args.freq
  unfolding option_of waiting_docs state_of
  asked_is =
      let next = c.least_after-least.ensures ∙ ap₂ least_after_of (c.first_least.ensures _ _) refl in
      c.ask_doc.ensures ∙ ap₂ (λ o n. take_doc o n c.args.doc c.args.freq) c.option-option.ensures next

pub returns-in_err-ask_doc : goal.returns-in_err-ask_doc
returns-in_err-ask_doc c =
    let asked = (goal.at.returns-in_err-ask_doc c).After-ask_doc in
    let a = c.args in
    let refusal = err_from_is_err_and c.from_residual.result c.from_residual.ensures.1 in
    rw (
      refusal.1,
      refusal.2,
      asking-refused (state asked) a.doc a.freq a.skips a.postings (holds asked) (sym (asked_is asked) ∙ c.in_err-ask_doc.was),
    )

pub returns-then-self-ge-TERMINATED : goal.returns-then-self-ge-TERMINATED
unfolding state_of
returns-then-self-ge-TERMINATED c =
    let asked = (goal.at.returns-then-self-ge-TERMINATED c).After-ask_doc in
    let a = c.args in
    let taken = sym (asked_is asked) ∙ c.in_ok-ask_doc.was in
    rw (asking-full (state asked) a.doc a.freq a.skips a.postings (holds asked) taken c.if-self-ge-TERMINATED.true)

pub returns : goal.returns
unfolding state_of
returns c =
    let asked = (goal.at.returns c).After-ask_doc in
    let a = c.args in
    let taken = sym (asked_is asked) ∙ c.in_ok-ask_doc.was in
    rw (asking-ok (state asked) a.doc a.freq a.skips a.postings (holds asked) taken c.if-self-ge-TERMINATED.false)
