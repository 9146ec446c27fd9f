-- `postings::calls::run_calls` meets its contract: its four ways out.
-- Assumes nothing.
use Rattle.std.proofs.Common.{sym}
use Rattle.postings.proofs.calls.RunCases.{run-no-room, run_unknown, run-refused, run-all}
use Rattle.postings.proofs.calls.run_calls.Goals as goal
use Rattle.postings.proofs.calls.run_calls.Goals.{then-answers-calls-via-then-answers-calls, then-answers-calls-via-else-answers-calls+then-not-kinds_known}

pub returns-then-answers-calls : goal.returns-then-answers-calls
returns-then-answers-calls c = elim c.then-answers-calls.branch [
  | then-answers-calls-via-then-answers-calls w ↦ run-no-room _ _ _ _ w.if-answers-calls.true
  | then-answers-calls-via-else-answers-calls+then-not-kinds_known w ↦ run_unknown _ _ _ _ (sym w.if-not-kinds_known.ensures)
]

pub returns-in_default : goal.returns-in_default
returns-in_default c =
    run-refused _ _ _ _ c.if-answers-calls.false (sym c.if-not-kinds_known.ensures) _ c.open-opened.ensures c.in_default.is c.put_answer.ensures

pub returns : goal.returns
returns c =
    run-all _ _ _ _ c.if-answers-calls.false (sym c.if-not-kinds_known.ensures)
    _ c.open-opened.ensures c.in-Ok.is c.put_answer.ensures c.run_from.ensures
