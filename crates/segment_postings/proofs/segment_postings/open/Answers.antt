-- `segment_postings::segment_postings::open` meets its contract: a blank cursor's arrays are opened on, and what is left there is put
-- together with the answer.
-- Assumes nothing.
use Rattle.segment_postings.proofs.Laws.LandingParts.{opening_near}
use Rattle.segment_postings.proofs.Laws.CallsByValue.{open_in_calls, with_answer_of-leaves, reached_near, untargeted-came}
use Rattle.segment_postings.proofs.segment_postings.open.Goals as goal

pub with_answer-answer-requires : goal.with_answer-answer-requires
with_answer-answer-requires c =
    (untargeted-came (open_in_calls _ _ c.open_in.ensures) (reached_near (λ _. opening_near _ _) c.open_in.ensures) c.untargeted-reached.ensures).near

pub returns : goal.returns
returns c =
    let blank = c.blank-blank.ensures in
    let came =
    untargeted-came (open_in_calls _ _ (rw blank at c.open_in.ensures)) (reached_near (λ _. opening_near _ _) c.open_in.ensures)
    c.untargeted-reached.ensures
    in
    let k = with_answer_of-leaves came (rw blank at c.with_answer-answer.ensures) in
    rw (k.0, k.1)
