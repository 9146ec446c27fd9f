-- `serializer::arrays::write_doc_in` meets its contract: what is asked refuses the document, or says that it may be taken; then it waits, or
-- it fills a block.
-- Assumes nothing.
use Rattle.std.specs.Prelude.{Ok}
use Rattle.std.proofs.Common.{◌≡◌, ◌<◌, length, sym, ◌∙◌}
use Rattle.std.proofs.lemmas.Result.{err_from_is_err_and}
use Rattle.format.specs.Basics.{TERMINATED}
use Rattle.serializer.specs.declared.PostingsSerializer.{PostingsSerializer}
use Rattle.serializer.specs.Calls.{progress_of_of, state_of}
use Rattle.serializer.specs.Pieces.{asking}
use Rattle.serializer.specs.Writer.{stored}
use Rattle.serializer.proofs.document.TakeCases.{admitted, taking-refused, taking-waits, settled_refused, settled_ok}
use Rattle.serializer.proofs.arrays.write_doc_in.Goals as goal
use Rattle.serializer.proofs.arrays.write_doc_in.Goals.{After-may_take}

module _ (c : After-may_take) where
  -- the state before the document
  abbrev state : PostingsSerializer
  state = state_of c.args.progress c.args.docs.now c.args.freqs.now

  -- where it may be taken
  module _ (granted : c.may_take.result ≡ Ok tt) where
    may : asking state c.args.doc c.args.freq (length c.args.skips.now) (length c.args.postings.now) ≡ Ok tt
    may = sym c.may_take.ensures ∙ granted

    not_full : c.args.progress.taken < TERMINATED
    unfolding state_of
    not_full = (admitted _ _ _ _ _ may).not_full

pub returns-in_err-may_take : goal.returns-in_err-may_take
unfolding state_of
returns-in_err-may_take c =
    let asked = (goal.at.returns-in_err-may_take c).After-may_take in
    let a = c.args in
    let refusal = err_from_is_err_and c.from_residual.result c.from_residual.ensures.1 in
    let no = sym c.may_take.ensures ∙ c.in_err-may_take.was in
    rw (refusal.1, refusal.2) (settled_refused _ _ _ _ (taking-refused (state asked) a.doc a.freq a.skips.now a.postings.now no))

pub one_more-requires : goal.one_more-requires
one_more-requires c = (c.if-waiting-ge127.false, not_full (goal.at.one_more-requires c).After-may_take c.in_ok-may_take.was)

pub returns : goal.returns
unfolding state_of stored progress_of_of
returns c =
    let asked = (goal.at.returns c).After-may_take in
    let a = c.args in
    rw c.one_more.ensures
    (settled_ok _ _ _ _ (taking-waits (state asked) a.doc a.freq a.skips.now a.postings.now (may asked c.in_ok-may_take.was) c.if-waiting-ge127.false))
