-- `segment_postings::layout::ask_layout` meets its contract: its tests are questions 1 and 2, and behind them the layout stands at the
-- places of the split.
-- Assumes nothing.
use Rattle.std.proofs.Common.{◌≡◌, sym, refl, ◌∙◌, true, ◌≤◌, List, ℕ}
use Rattle.segment_postings.proofs.Laws.Exits.{passed_on}
use borrow.Author.Tests.{le-leb, lt-leb}
use Rattle.format.specs.declared.Term.{Term}
use Rattle.format.specs.Accepted.{known_mode_of}
use Rattle.format.specs.Basics.{Outcome, ask, TERMINATED}
use Rattle.format.specs.Layout.{layout}
use Rattle.segment_postings.specs.declared.layout.Split.{Split}
use Rattle.segment_postings.specs.Calls.{split_of}
use Rattle.segment_postings.proofs.layout.SplitParts.{split_places, layout_at, layout-at}
use Rattle.segment_postings.proofs.layout.ask_layout.Goals as goal
use Rattle.segment_postings.proofs.layout.ask_layout.Goals.{then-not-known_mode-via-then-not-known_mode, then-not-known_mode-via-else-not-known_mode+then-term-gt2}

-- where questions 1 and 2 are answered yes
laid_out : (t : Term) (bs : List ℕ) {r : Outcome Split} → split_of t.count bs ≡ r → known_mode_of t.mode ≡ true → t.requested ≤ 2
    → t.count ≤ TERMINATED → layout t bs ≡ layout_at t r
unfolding ask
laid_out t bs e mode requested count = rw (layout-at t bs e, mode, le-leb _ _ requested, le-leb _ _ count)

pub returns-then-not-known_mode : goal.returns-then-not-known_mode
unfolding ask
returns-then-not-known_mode c =
    let a = c.args in
    let questions = layout-at a.term a.image.now refl in
    elim c.then-not-known_mode.branch [
      | then-not-known_mode-via-then-not-known_mode w ↦ rw (questions, sym c.known_mode.ensures ∙ w.if-not-known_mode.true)
      | then-not-known_mode-via-else-not-known_mode+then-term-gt2 w ↦
          rw (questions, sym c.known_mode.ensures ∙ w.if-not-known_mode.false, lt-leb _ _ w.if-term-gt2.true)
    ]

pub returns-then-term-gt-TERMINATED : goal.returns-then-term-gt-TERMINATED
unfolding ask
returns-then-term-gt-TERMINATED c =
    let a = c.args in
    rw (
      layout-at a.term a.image.now refl,
      sym c.known_mode.ensures ∙ c.if-not-known_mode.false,
      le-leb _ _ c.if-term-gt2.false,
      lt-leb _ _ c.if-term-gt-TERMINATED.true,
    )

pub lay_out_entries-requires : goal.lay_out_entries-requires
lay_out_entries-requires c = (split_places _ c.args.image.now (sym c.in_ok-split.ensures)).0

pub returns-in_err-split : goal.returns-in_err-split
returns-in_err-split c =
    let a = c.args in
    rw (passed_on c.from_residual.ensures.1)
    (sym (laid_out a.term a.image.now (sym c.in_err-split.ensures) (sym c.known_mode.ensures ∙ c.if-not-known_mode.false) c.if-term-gt2.false
    c.if-term-gt-TERMINATED.false))

pub returns : goal.returns
returns c =
    let a = c.args in
    c.lay_out_entries.ensures
    ∙ sym (laid_out a.term a.image.now (sym c.in_ok-split.ensures) (sym c.known_mode.ensures ∙ c.if-not-known_mode.false) c.if-term-gt2.false
    c.if-term-gt-TERMINATED.false)
