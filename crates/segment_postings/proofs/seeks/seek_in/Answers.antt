-- `segment_postings::seeks::seek_in` meets its contract: its tests are the definition's, in turn.
-- Assumes nothing.
use Rattle.std.proofs.Common.{sym, ◌∙◌, arith}
use Rattle.segment_postings.proofs.arrays.Question16.{bounded}
use Rattle.segment_postings.proofs.Laws.SeekFinds.{none-found, finds_as, finds-told, ended-told, there-told}
use Rattle.segment_postings.proofs.Laws.SeekQuestions.{seeking_broken, seeking_too_large, seeking-ended}
use Rattle.segment_postings.proofs.seeks.SeekCases.{seeking-stays, seeking-within, seeking-behind}
use Rattle.segment_postings.proofs.seeks.seek_in.Goals as goal

pub returns-then-not-in_bounds : goal.returns-then-not-in_bounds
returns-then-not-in_bounds c =
    none-found _ _ (seeking_broken _ _ _ _ (sym c.in_bounds.ensures ∙ c.if-not-in_bounds.true))

pub returns-then-target-gt-TERMINATED : goal.returns-then-target-gt-TERMINATED
returns-then-target-gt-TERMINATED c =
    let within = sym c.in_bounds.ensures ∙ c.if-not-in_bounds.false in
    none-found _ _ (seeking_too_large _ _ _ _ within c.if-target-gt-TERMINATED.true)

pub at_end-requires : goal.at_end-requires
at_end-requires c = (bounded _ _ _ (sym c.in_bounds.ensures ∙ c.if-not-in_bounds.false)).place_below

pub returns-then-at_end : goal.returns-then-at_end
returns-then-at_end c =
    let within = sym c.in_bounds.ensures ∙ c.if-not-in_bounds.false in
    let ended = sym c.at_end.ensures ∙ c.if-at_end.true in
    finds-told _ (seeking-ended _ _ _ _ within c.if-target-gt-TERMINATED.false ended) (ended-told _ _ _ ended)

pub offset_bounds-docs-held : goal.offset_bounds-docs-held
offset_bounds-docs-held c =
    omega (arith, (bounded _ _ _ (sym c.in_bounds.ensures ∙ c.if-not-in_bounds.false)).place_below)

pub bounds-docs-held : goal.bounds-docs-held
bounds-docs-held c = (bounded _ _ _ (sym c.in_bounds.ensures ∙ c.if-not-in_bounds.false)).place_below

pub returns-then-target-doc : goal.returns-then-target-doc
returns-then-target-doc c =
    let within = sym c.in_bounds.ensures ∙ c.if-not-in_bounds.false in
    let before = sym c.at_end.ensures ∙ c.if-at_end.false in
    let near = (bounded _ _ _ within).place_below in
    finds-told _ (seeking-stays _ _ _ _ within c.if-target-gt-TERMINATED.false before c.if-target-doc.true) (there-told _ _ _ before near)

pub seek_within-requires : goal.seek_within-requires
seek_within-requires c = (bounded _ _ _ (sym c.in_bounds.ensures ∙ c.if-not-in_bounds.false)).block_most_is

pub returns-then-target-held : goal.returns-then-target-held
returns-then-target-held c =
    let within = sym c.in_bounds.ensures ∙ c.if-not-in_bounds.false in
    let before = sym c.at_end.ensures ∙ c.if-at_end.false in
    finds_as
    (seeking-within _ _ _ _ within c.if-target-gt-TERMINATED.false before c.if-target-doc.false c.if-target-held.true)
    (c.seek_within.ensures _)

pub returns : goal.returns
returns c =
    let within = sym c.in_bounds.ensures ∙ c.if-not-in_bounds.false in
    let before = sym c.at_end.ensures ∙ c.if-at_end.false in
    finds_as
    (seeking-behind _ _ _ _ within c.if-target-gt-TERMINATED.false before c.if-target-doc.false c.if-target-held.false)
    c.seek_behind.ensures
