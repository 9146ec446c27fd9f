-- `postings::calls::run_from` meets its contract: what all calls write from the start is what those still to come write behind what is
-- written already.
-- Assumes nothing.
use Rattle.std.proofs.Common.{◌≡◌, sym, ap, ◌∙◌, length, arith}
use Rattle.format.proofs.Area.{length-put_at}
use Rattle.segment_postings.specs.Called.{called}
use Rattle.postings.proofs.calls.CodedCalls.{known-at, written_on, written_all}
use Rattle.postings.proofs.calls.run_from.Goals as goal

pub unwrap-call-requires : goal.unwrap-call-requires
unwrap-call-requires c = c.decode.ensures.known ∙ known-at c.args.calls.now c.loop-i.i c.loop-i-test.true c.requires.0

pub loop-i-preserved : goal.loop-i-preserved
loop-i-preserved c =
    let l = c.loop-i in
    let inv = l.invariant in
    record {
      within = omega arith;
      same_length = ap length c.put_answer.ensures ∙ length-put_at _ _ _ ∙ inv.same_length;
      to_come = written_on _ _ _ l.i l.moved.cursor l.answers (omega arith) (omega (arith, c.requires.1, inv.same_length)) inv.to_come
          (c.make_call-moved.ensures ∙ ap (called _ _ _) (c.decode.ensures.meaning c.unwrap-call.ensures)) c.put_answer.ensures;
    }

pub returns : goal.returns
returns c =
    let all : c.loop-i.i ≡ length c.args.calls.now = omega arith in
    sym (c.loop-i.invariant.to_come ∙ rw all (written_all _ _ c.args.calls.now _ _ _))
