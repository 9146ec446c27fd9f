-- `serializer::list::check_docs` meets its contract: a document's refusal is that of all of them, and where none is refused the last one
-- says which id may come next.
-- Assumes nothing.
use Rattle.std.proofs.Common.{◌≡◌, ◌<◌, length, get_or, sym, ap₂, ◌∙◌, arith}
use Rattle.std.proofs.lemmas.List.{length_push}
use Rattle.std.proofs.lemmas.Result.{err_from_is_err_and}
use Rattle.std.proofs.lemmas.Slice.Zip.{zip_turn, zip_end}
use Rattle.format.specs.Accepted.{take_doc}
use Rattle.serializer.proofs.list.CheckLoop.{asked-end, asked-next, asked-refused}
use Rattle.serializer.proofs.list.check_docs.Goals as goal
use Rattle.serializer.proofs.list.check_docs.Goals.{After-ask_doc}

-- this turn's document is the one behind those so far
module _ (c : After-ask_doc) where
  turn : let i = length c.loop-doc.yielded in
      (i < length c.args.ids.now) × (c.ask_doc.result ≡ take_doc c.args.option c.loop-doc.least (get_or c.args.ids.now i 0) (get_or c.args.freqs.now i 0))
  turn =
      let at = zip_turn c.args.ids.now c.args.freqs.now c.loop-doc.yielded _ _ c.next.new.self _ (cc) (cc) c.loop-doc.yielded_by _ c.in-Some.is c.next.ensures.steps in
      (at.0, c.ask_doc.ensures ∙ ap₂ (take_doc c.args.option c.loop-doc.least) (at.2 0) (at.3 0))

pub returns-in_err-least : goal.returns-in_err-least
returns-in_err-least c =
    let asked = (goal.at.returns-in_err-least c).After-ask_doc in
    let refusal = err_from_is_err_and c.from_residual.result c.from_residual.ensures.1 in
    rw (
      refusal.1,
      refusal.2,
      asked-refused _ _ _ _ _ c.loop-doc.invariant c.requires (turn asked).0 (sym (turn asked).1 ∙ c.in_err-least.was),
    )

pub loop-doc-preserved : goal.loop-doc-preserved
loop-doc-preserved c =
    let asked = (goal.at.loop-doc-preserved c).After-ask_doc in
    rw length_push (asked-next _ _ _ _ _ c.loop-doc.invariant c.requires (turn asked).0 (sym (turn asked).1 ∙ c.in_ok-least.was))

pub returns : goal.returns
returns c =
    let many = zip_end c.args.ids.now c.args.freqs.now c.loop-doc.yielded _ _ c.next.new.self _ (cc) (cc) c.loop-doc.yielded_by c.in-None.is c.next.ensures.steps in
    sym (asked-end _ _ _ _ _ c.loop-doc.invariant (omega arith))
