-- `bench::put_answer` meets its contract: it stores what `answer_at` answers, which is no refusal at a place of a block, with the hit.
-- Assumes nothing.
use Rattle.bench.proofs.Serving.{stored_answer, never_refused}
use Rattle.bench.proofs.put_answer.Goals as goal

pub unwrap-answer-requires : goal.unwrap-answer-requires
unwrap-answer-requires c = never_refused _ _ c.requires.0 c.answer_at.ensures

pub returns : goal.returns
returns c = rw c.from.ensures (stored_answer _ _ c.requires.0 _ _ _ c.requires.1 c.answer_at.ensures c.unwrap-answer.ensures)
