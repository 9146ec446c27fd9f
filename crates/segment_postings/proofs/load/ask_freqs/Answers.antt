-- Question 7 is answered by whether one is 0, which isn't asked where it is known.
use Rattle.std.proofs.Common.{◌≡◌, false, take, sym, ◌∙◌}
use borrow.Author.Tests.{not-true, not-false}
use Rattle.format.specs.Model.{member}
use Rattle.format.specs.Basics.{and_then}
use Rattle.segment_postings.proofs.load.BlockQuestions.{freqs_broken, freqs_wrong, freqs-not-last, freqs_right}
use Rattle.segment_postings.proofs.load.ask_freqs.Goals as goal
use Rattle.segment_postings.proofs.load.ask_freqs.Goals.{else-not-taken-2-via-then-not-taken-2+else-has_zero, else-not-taken-2-via-else-not-taken-2}

pub returns-then-not-taken : goal.returns-then-not-taken
unfolding and_then
returns-then-not-taken c = freqs_broken _ _ (not-true _ c.if-not-taken.true)

pub returns-then-has_zero : goal.returns-then-has_zero
unfolding and_then
returns-then-has_zero c = freqs_wrong _ _ (not-false _ c.if-not-taken.false) (sym c.has_zero.ensures ∙ c.if-has_zero.true)

-- none is 0: it was tested, or is known
pub returns-then-not-taken-3 : goal.returns-then-not-taken-3
unfolding and_then
returns-then-not-taken-3 c =
    let nonzero : member 0 (take c.args.taken.n c.args.freqs.now) ≡ false
    = elim c.else-not-taken-2.branch [
      | else-not-taken-2-via-then-not-taken-2+else-has_zero w ↦ sym w.has_zero.ensures ∙ w.if-has_zero.false
      | else-not-taken-2-via-else-not-taken-2 w ↦ c.requires (not-false _ w.if-not-taken-2.false)
    ] in
    freqs-not-last _ _ (not-false _ c.if-not-taken.false) nonzero (not-true _ c.if-not-taken-3.true)

pub returns : goal.returns
unfolding and_then
returns c =
    let nonzero : member 0 (take c.args.taken.n c.args.freqs.now) ≡ false
    = elim c.else-not-taken-2.branch [
      | else-not-taken-2-via-then-not-taken-2+else-has_zero w ↦ sym w.has_zero.ensures ∙ w.if-has_zero.false
      | else-not-taken-2-via-else-not-taken-2 w ↦ c.requires (not-false _ w.if-not-taken-2.false)
    ] in
    freqs_right _ _ (not-false _ c.if-not-taken.false) nonzero (not-false _ c.if-not-taken-3.false)
