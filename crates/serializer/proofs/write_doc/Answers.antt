-- `serializer::write_doc` meets its contract: the state is taken apart, and what the call on its numbers and arrays left is put together.
-- Assumes nothing.
use Rattle.serializer.specs.Calls.{TookIn}
use Rattle.serializer.proofs.Laws.ByValue.{took_whole, settled_at, settled_no}
use Rattle.serializer.proofs.write_doc.Goals as goal
use Rattle.serializer.proofs.write_doc.Goals.{After-write_doc_in}

-- what the call left, of the state that was passed
left : (c : After-write_doc_in) → let a = c.args in let new = c.write_doc_in.new in
    TookIn a.state a.doc a.freq a.skips.now a.postings.now new.docs new.freqs new.skips new.postings c.write_doc_in.result
left c = took_whole c.args.state c.into.ensures c.args.doc c.args.freq c.write_doc_in.ensures

pub returns-in-Ok : goal.returns-in-Ok
returns-in-Ok c =
    let call = (goal.at.returns-in-Ok c).After-write_doc_in in
    rw c.with_arrays.ensures (settled_at (left call) c.args.state c.in-Ok.is)

pub returns-in-Err : goal.returns-in-Err
returns-in-Err c = settled_no (left (goal.at.returns-in-Err c).After-write_doc_in) c.args.state c.in-Err.is
