-- `serializer::list::write_list` meets its contract: where a question of the documents is answered no, nothing is written.
-- Assumes nothing.
use Rattle.std.proofs.lemmas.Result.{IfOk-at_ok, err_from_is_err_and}
use Rattle.serializer.proofs.Laws.AnswerTells.{asked-yes, asked-no}
use Rattle.serializer.proofs.list.ListCases.{left-refused, listing-refused, listing-room, listed_put}
use Rattle.serializer.proofs.list.write_list.Goals as goal

pub returns-in_err-list : goal.returns-in_err-list
returns-in_err-list c =
    let refusal = err_from_is_err_and c.from_residual.result c.from_residual.ensures.1 in
    let no = asked-no _ c.ask_docs.ensures.answer c.in_err-list.was in
    rw (refusal.1, refusal.2) (left-refused _ _ _ _ _ _ (listing-refused c.args.mode c.args.recording _ _ _ _ _ no))

pub returns : goal.returns
returns c =
    let same = IfOk-at_ok _ c.in_ok-list.was c.ask_docs.ensures.list in
    listed_put c.args.mode c.args.recording _ _ _ _ _
    (listing-room _ _ _ _ _ _ _ (asked-yes _ c.ask_docs.ensures.answer c.in_ok-list.was).1)
    (rw (same.0, same.1, same.2) at c.write.ensures)
