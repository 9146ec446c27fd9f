-- `vectors::replay_all` meets its contract: each case that is found is one turn of the definition.
use Rattle.std.proofs.Common.{◌≡◌, sym, ◌∙◌, ◌+◌, ◌-◌, arith}
use Rattle.vectors.specs.Replay.{case_agrees, count_differing}
use Rattle.vectors.proofs.Cases.{case_within, replayed-none, replay_begins, replay_stop, replay_on, replay_end, replay_left, count_same, count-more}
use Rattle.vectors.proofs.replay_all.Goals as goal
use Rattle.vectors.proofs.replay_all.Goals.{then-not-replay_case, else-not-replay_case}

pub returns-then-input-lt2 : goal.returns-then-input-lt2
returns-then-input-lt2 g c = sym (replayed-none _ (omega arith))

pub loop-i-init : goal.loop-i-init
loop-i-init g c = record {
  within = omega arith;
  there = omega arith;
  few = omega arith;
  rest = replay_begins _ _ (omega arith) c.short_at-cases.ensures.0;
}

pub returns-in_err-case : goal.returns-in_err-case
returns-in_err-case g c =
    rw c.from_residual.ensures (sym (c.loop-i.invariant.rest ∙ replay_stop _ _ _ _ _ (omega arith) (sym c.in_err-case.ensures)))

pub replay_case-requires : goal.replay_case-requires
replay_case-requires g c = case_within _ _ _ (sym c.in_ok-case.ensures)

pub loop-i-preserved : goal.loop-i-preserved
loop-i-preserved g c =
    let cases = c.short_at-cases.result in
    let counted : c.if-not-replay_case.differ ≡ count_differing (case_agrees c.args.input.now c.in_ok-case.case) c.loop-i.differ =
    elim c.if-not-replay_case.branch [
      | then-not-replay_case w ↦ w.differ-is ∙ sym (count-more _ _ (sym w.if-not-replay_case.ensures))
      | else-not-replay_case w ↦ w.differ-is ∙ sym (count_same _ _ (sym w.if-not-replay_case.ensures))
    ] in
    let left : cases - c.loop-i.i - 1 ≡ cases - (c.loop-i.i + 1) = omega arith in
    record {
      within = omega arith;
      there = (case_within _ _ _ (sym c.in_ok-case.ensures)).end_there;
      few = elim c.if-not-replay_case.branch [ then-not-replay_case w ↦ omega arith | else-not-replay_case w ↦ omega arith ];
      rest = c.loop-i.invariant.rest ∙ replay_on _ _ _ _ _ _ (omega arith) (sym c.in_ok-case.ensures) ∙ rw (counted, left);
    }

pub returns-then-at-input : goal.returns-then-at-input
returns-then-at-input g c =
    let none : c.short_at-cases.result - c.loop-i.i ≡ 0 = omega arith in
    sym (c.loop-i.invariant.rest ∙ rw none (replay_left _ _ _ _ c.if-at-input.true))

pub returns : goal.returns
returns g c =
    let none : c.short_at-cases.result - c.loop-i.i ≡ 0 = omega arith in
    sym (c.loop-i.invariant.rest ∙ rw none (replay_end _ _ _ _ c.if-at-input.false))
