-- `exports::write_each` meets its contract. The loop's invariant: the calls of the documents still to come, from the present state and areas,
-- lead to where all calls lead; so none of them is refused.
-- Assumes nothing.
use Rattle.std.proofs.Common.{sym, ◌∙◌, arith}
use Rattle.std.proofs.Math.ListN.{length-append}
use Rattle.std.proofs.lemmas.Slice.Zip.{zip_turn, zip_end}
use Rattle.exports.proofs.EachTaken.{takes-on, takes_all, takes-end}
use Rattle.exports.proofs.write_each.Goals as goal

pub unwrap-progress-requires : goal.unwrap-progress-requires
unwrap-progress-requires c =
    let turn = zip_turn c.args.ids.now c.args.freqs.now _ _ _ c.next.new.self _ (cc) (cc) c.loop-id.yielded_by _ c.in-Some.is c.next.ensures.steps in
    let took = rw (turn.2 0, turn.3 0) at c.write_doc_in.ensures in
    takes_all _ _ c.requires.0 _ _ _ _ (c.loop-id.invariant ∙ c.requires.1.1) turn.0 took

pub loop-id-preserved : goal.loop-id-preserved
loop-id-preserved c =
    let all = c.requires.1.1 in
    let turn = zip_turn c.args.ids.now c.args.freqs.now _ _ _ c.next.new.self _ (cc) (cc) c.loop-id.yielded_by _ c.in-Some.is c.next.ensures.steps in
    let took = rw (turn.2 0, turn.3 0) at c.write_doc_in.ensures in
    rw length-append (takes-on _ _ c.requires.0 _ _ _ _ (c.loop-id.invariant ∙ all) turn.0 took c.unwrap-progress.ensures ∙ sym all)

pub returns : goal.returns
returns c =
    let end = zip_end c.args.ids.now c.args.freqs.now _ _ _ c.next.new.self _ (cc) (cc) c.loop-id.yielded_by c.in-None.is c.next.ensures.steps in
    sym c.loop-id.invariant ∙ takes-end _ _ c.requires.0 _ _ _ _ (omega (arith, end, c.requires.0))
