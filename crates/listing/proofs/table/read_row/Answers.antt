-- `listing::table::read_row` meets its contract: the bytes up to the first space and those behind it are read as numbers, and without a
-- space nothing lies behind it.
-- Assumes nothing.
use Rattle.std.proofs.Common.{◌∙◌, sym, eqb, rules, tests}
use Rattle.std.proofs.lemmas.Iterator.{YieldsList-from_slice}
use Rattle.std.proofs.lemmas.Iterator.Search.{position_from_yields_List}
use Rattle.listing.proofs.Lines.{found, found_none}
use Rattle.listing.proofs.Numbers.{no_space, first_broken, second_broken, both-there}
use Rattle.listing.proofs.table.read_row.Goals as goal

pub returns-in_err-space : goal.returns-in_err-space
returns-in_err-space c =
    let line = c.args.line.now in
    let told =
    position_from_yields_List (λ x. eqb x 32) _ _ c.position.result c.position.ensures.ran (YieldsList-from_slice line c.iter.ensures.rest)
    (λ x b q k. search (rules, tests)) in
    rw c.from_residual.ensures (sym (no_space line (found_none 32 line told c.in_err-space.was)))

pub returns-in_err-first : goal.returns-in_err-first
returns-in_err-first c =
    let line = c.args.line.now in
    let told =
    position_from_yields_List (λ x. eqb x 32) _ _ c.position.result c.position.ensures.ran (YieldsList-from_slice line c.iter.ensures.rest)
    (λ x b q k. search (rules, tests)) in
    let size = found 32 line told _ c.in_ok-space.was in
    rw c.from_residual-in_err-first.ensures (sym (first_broken line _ size (sym c.read_number.ensures ∙ c.in_err-first.was)))

pub returns-in_err-second : goal.returns-in_err-second
returns-in_err-second c =
    let line = c.args.line.now in
    let told =
    position_from_yields_List (λ x. eqb x 32) _ _ c.position.result c.position.ensures.ran (YieldsList-from_slice line c.iter.ensures.rest)
    (λ x b q k. search (rules, tests)) in
    let size = found 32 line told _ c.in_ok-space.was in
    rw c.from_residual-in_err-second.ensures (sym (second_broken line _ size (sym c.read_number-2.ensures ∙ c.in_err-second.was)))

pub returns : goal.returns
returns c =
    let line = c.args.line.now in
    let told =
    position_from_yields_List (λ x. eqb x 32) _ _ c.position.result c.position.ensures.ran (YieldsList-from_slice line c.iter.ensures.rest)
    (λ x b q k. search (rules, tests)) in
    let size = found 32 line told _ c.in_ok-space.was in
    sym (both-there line _ size _ _ (sym c.read_number.ensures ∙ c.in_ok-first.was) (sym c.read_number-2.ensures ∙ c.in_ok-second.was))
