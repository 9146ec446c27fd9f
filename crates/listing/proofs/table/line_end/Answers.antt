-- `listing::table::line_end` meets its contract: the library's search answers the place of the first such byte, or that there is none.
use Rattle.std.proofs.Common.{◌≡◌, ◌-◌, ◌∙◌, eqb, length, take, drop, arith, rules, tests}
use Rattle.std.proofs.Math.ListN.{length-drop}
use Rattle.std.proofs.Math.Seq.{take_all}
use Rattle.std.proofs.lemmas.Iterator.{YieldsList-from_slice}
use Rattle.std.proofs.lemmas.Iterator.Search.{position_from_yields_List}
use Rattle.listing.proofs.Lines.{found, found_none, up_to-most}
use Rattle.listing.proofs.table.line_end.Goals as goal

pub returns-in-Some : goal.returns-in-Some
returns-in-Some c =
    let rest = drop c.args.at c.args.text.now in
    let whole : take (length c.args.text.now - c.args.at) rest ≡ rest = take_all _ rest (rw length-drop (omega arith)) in
    let told =
    position_from_yields_List (λ x. eqb x 10) _ _ c.position.result c.position.ensures.ran (YieldsList-from_slice rest (c.iter.ensures.rest ∙ whole))
    (λ x b q k. search (rules, tests)) in
    let at = found 10 rest told c.in-Some.passed c.in-Some.is in
    (omega arith, omega (arith, up_to-most 10 rest, length-drop c.args.at c.args.text.now))

pub returns-in-None : goal.returns-in-None
returns-in-None c =
    let rest = drop c.args.at c.args.text.now in
    let whole : take (length c.args.text.now - c.args.at) rest ≡ rest = take_all _ rest (rw length-drop (omega arith)) in
    let told =
    position_from_yields_List (λ x. eqb x 10) _ _ c.position.result c.position.ensures.ran (YieldsList-from_slice rest (c.iter.ensures.rest ∙ whole))
    (λ x b q k. search (rules, tests)) in
    let none = found_none 10 rest told c.in-None.is in
    (omega (arith, length-drop c.args.at c.args.text.now), omega arith)
