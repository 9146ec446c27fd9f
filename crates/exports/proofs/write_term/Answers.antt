-- `exports::write_term` meets its contract: a refusal comes before the first call; behind it every call says yes, since the questions were
-- all answered so.
-- Assumes nothing.
use Rattle.std.specs.Prelude.{Ok}
use Rattle.std.proofs.Common.{◌≡◌, List, ℕ, refl, sym, ◌∙◌, ◌^◌}
use Rattle.std.proofs.Math.ListN.{replicate}
use Rattle.std.proofs.lemmas.Result.{err_from_is_err_and}
use Rattle.format.specs.Basics.{AllBelow}
use Rattle.format.proofs.Lists.{AllBelow-of}
use Rattle.serializer.specs.Calls.{state_of, Begun}
use Rattle.serializer.specs.Writer.{announcing}
use Rattle.serializer.proofs.Laws.AnswerTells.{accepted-yes, accepted-refused}
use Rattle.serializer.proofs.Laws.ByValue.{begun_parts}
use Rattle.exports.proofs.EachTaken.{list-refused, term-begins, term-takes, term-left}
use Rattle.exports.proofs.write_term.Goals as goal
use Rattle.exports.proofs.write_term.Goals.{In_ok-ask_list, In_ok-first}

pub returns-in_err-ask_list : goal.returns-in_err-ask_list
returns-in_err-ask_list c =
    let refusal = err_from_is_err_and c.from_residual.result c.from_residual.ensures.1 in
    rw (refusal.1, refusal.2) (list-refused _ _ _ _ _ _ (accepted-refused _ c.ask_list.ensures c.in_err-ask_list.was))

-- every frequency has 32 bits, and every question was answered yes
asked : (c : In_ok-ask_list) → AllBelow (2 ^ 32) c.args.freqs.now
    × ((image : List ℕ)
    × (announcing c.args.mode c.args.recording c.args.announced c.args.ids.now c.args.freqs.now c.args.skips.now c.args.postings.now c.args.output.now
    ≡ Ok image))
asked c =
    (AllBelow-of c.args.freqs.now (λ i. (c.type_inv.freqs i).fits), accepted-yes _ c.ask_list.ensures c.in_ok-ask_list.was)

pub returns-in_err-first : goal.returns-in_err-first
returns-in_err-first c =
    let yes = asked (goal.at.returns-in_err-first c).In_ok-ask_list in
    absurd (term-begins c.args.mode c.args.recording c.args.announced _ _ _ _ _ yes.0 yes.1.1 c.new_term_in.ensures c.in_err-first.was)

-- the state of a term that is begun
just_begun : (c : In_ok-first) → Begun c.args.mode c.args.recording (state_of c.in_ok-first.first (replicate 128 0) (replicate 128 0))
just_begun c = begun_parts c.args.mode c.args.recording (replicate 128 0) (replicate 128 0) (sym c.in_ok-first.was ∙ c.new_term_in.ensures) refl refl

pub write_each-progress-requires : goal.write_each-progress-requires
write_each-progress-requires c =
    let yes = asked (goal.at.write_each-progress-requires c).In_ok-ask_list in
    term-takes c.args.mode c.args.recording c.args.announced _ _ _ _ c.args.output.now yes.0 yes.1.1
    (just_begun (goal.at.write_each-progress-requires c).In_ok-first)

pub returns : goal.returns
returns c =
    let yes = asked (goal.at.returns c).In_ok-ask_list in
    term-left c.args.mode c.args.recording c.args.announced _ _ _ _ _ yes.0 yes.1.1 (just_begun (goal.at.returns c).In_ok-first)
    c.write_each-progress.ensures c.close_term_in-closed.ensures
