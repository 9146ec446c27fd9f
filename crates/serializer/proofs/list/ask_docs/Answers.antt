-- `serializer::list::ask_docs` meets its contract: the mode, then the slices' lengths, then the documents.
-- Assumes nothing.
use Rattle.std.proofs.Common.{refl, sym, ◌∙◌}
use Rattle.std.proofs.lemmas.Result.{err_from_is_err_and}
use Rattle.serializer.specs.Calls.{accepted}
use Rattle.serializer.proofs.Laws.AnswerTells.{answers-yes, answers-no}
use Rattle.serializer.proofs.list.CheckLoop.{taken-rises}
use Rattle.serializer.proofs.list.ListCases.{mode_unknown, lengths_differ, docs-asked}
use Rattle.serializer.proofs.list.ask_docs.Goals as goal

pub returns-then-not-known_mode : goal.returns-then-not-known_mode
unfolding accepted
returns-then-not-known_mode c =
    record { answer = sym (mode_unknown _ _ _ _ (sym c.known_mode.ensures ∙ c.if-not-known_mode.true)); list = tt }

pub returns-then-ids-freqs : goal.returns-then-ids-freqs
unfolding accepted
returns-then-ids-freqs c =
    record { answer = sym (lengths_differ _ _ _ _ (sym c.known_mode.ensures ∙ c.if-not-known_mode.false) c.if-ids-freqs.true); list = tt }

pub returns-in_err-check_docs : goal.returns-in_err-check_docs
unfolding accepted
returns-in_err-check_docs c =
    let asked = rw c.record_option-option.ensures at c.check_docs.ensures in
    let refusal = err_from_is_err_and c.from_residual.result c.from_residual.ensures.1 in
    rw (refusal.1, refusal.2)
    (record {
      answer =
          answers-no (sym asked ∙ c.in_err-check_docs.was)
          ∙ docs-asked _ _ _ _ (sym c.known_mode.ensures ∙ c.if-not-known_mode.false) c.if-ids-freqs.false;
      list = tt;
    })

pub invariant_of-result : goal.invariant_of-result
invariant_of-result c =
    let rises = taken-rises _ 0 _ _ (sym c.check_docs.ensures ∙ c.in_ok-check_docs.was) in
    record { checked = record { rises = rises; as_many = c.if-ids-freqs.false } }

pub returns : goal.returns
unfolding accepted
returns c =
    let asked = rw c.record_option-option.ensures at c.check_docs.ensures in
    record {
      answer =
          answers-yes (sym asked ∙ c.in_ok-check_docs.was)
          ∙ docs-asked _ _ _ _ (sym c.known_mode.ensures ∙ c.if-not-known_mode.false) c.if-ids-freqs.false;
      list = (c.record_option-option.ensures, refl, refl);
    }
