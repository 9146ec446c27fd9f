-- `serializer::list::ask_list` meets its contract: the questions of the documents, then the announced count, then the room.
-- Assumes nothing.
use Rattle.std.proofs.lemmas.Result.{IfOk-at_ok, err_from_is_err_and}
use Rattle.serializer.proofs.Laws.AnswerTells.{asked-yes, asked-no, answers-yes, answers-no}
use Rattle.serializer.proofs.list.ListCases.{announcing-refused, miscounted, without_room, with_room}
use Rattle.serializer.proofs.list.ask_list.Goals as goal

pub returns-in_err-list : goal.returns-in_err-list
returns-in_err-list c =
    let refusal = err_from_is_err_and c.from_residual.result c.from_residual.ensures.1 in
    let no = asked-no _ c.ask_docs.ensures.answer c.in_err-list.was in
    rw (refusal.1, refusal.2) (answers-no (announcing-refused _ _ _ _ _ _ _ _ no))

pub returns-then-ids-announced : goal.returns-then-ids-announced
returns-then-ids-announced c =
    answers-no (miscounted _ _ _ _ _ _ _ _ (asked-yes _ c.ask_docs.ensures.answer c.in_ok-list.was).1 c.if-ids-announced.true)

pub returns-then-not-has_room : goal.returns-then-not-has_room
returns-then-not-has_room c =
    let same = IfOk-at_ok _ c.in_ok-list.was c.ask_docs.ensures.list in
    let fits = rw (same.0, same.1, same.2) at c.has_room.ensures in
    answers-no (without_room _ _ _ _ _ _ _ _ (asked-yes _ c.ask_docs.ensures.answer c.in_ok-list.was).1 c.if-ids-announced.false
    fits c.if-not-has_room.true)

pub returns : goal.returns
returns c =
    let same = IfOk-at_ok _ c.in_ok-list.was c.ask_docs.ensures.list in
    let fits = rw (same.0, same.1, same.2) at c.has_room.ensures in
    answers-yes (with_room _ _ _ _ _ _ _ _ (asked-yes _ c.ask_docs.ensures.answer c.in_ok-list.was).1 c.if-ids-announced.false
    fits c.if-not-has_room.false)
