-- The calls of the documents still to come, from the present state and areas, lead to where all calls lead.
use Rattle.std.proofs.Common.{◌≡◌, length}
use Rattle.serializer.specs.Calls.{state_of}
use Rattle.serializer.specs.Writer.{take_all_docs}
use Rattle.postings.specs.WriterCalls.{areas_of}
use Rattle.exports.proofs.EachTaken.{on_from}
use Rattle.exports.proofs.write_each.Given as goal

abbrev pub invariant-loop-id : goal.invariant-loop-id
invariant-loop-id l =
    on_from l.ids l.freqs (length l.yielded) (areas_of (state_of l.progress l.block_docs l.block_freqs) l.skips l.postings)
    ≡ take_all_docs (state_of l.initial.progress l.initial.block_docs l.initial.block_freqs) l.ids l.freqs l.initial.skips l.initial.postings
