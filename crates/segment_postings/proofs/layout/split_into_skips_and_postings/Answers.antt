-- `segment_postings::layout::split_into_skips_and_postings` meets its contract: its tests are the definition's. A number that was read
-- lies inside the image, so no difference or sum of places wraps.
-- Assumes nothing.
use Rattle.std.proofs.Common.{◌≡◌, sym, ap, ◌∙◌, Err, ◌/◌, ◌^◌}
use Rattle.segment_postings.proofs.Laws.Exits.{passed_on}
use borrow.Author.Tests.{eq-eqb, ne_eqb, le-leb, lt-leb}
use Rattle.format.specs.Basics.{ask, choose}
use Rattle.format.specs.Vint.{skip_length}
use Rattle.format.proofs.Vints.{read-used}
use Rattle.format.specs.declared.refusal.Refusal.{Refusal}
use Rattle.format.specs.Basics.{Outcome}
use Rattle.segment_postings.specs.Calls.{split_behind, split_of}
use Rattle.segment_postings.proofs.layout.split_into_skips_and_postings.Goals as goal

refused_same : {A : Type 0} {r s : Refusal} → ◌≡◌ {A = Outcome A} (Err r) (Err s) → r ≡ s
refused_same e = cc

pub returns-then-full_blocks-eq0 : goal.returns-then-full_blocks-eq0
unfolding choose split_of
returns-then-full_blocks-eq0 c = rw (eq-eqb (c.args.count / 128) 0 (sym c.full_blocks.ensures ∙ c.if-full_blocks-eq0.true))

pub returns-in_err-value : goal.returns-in_err-value
unfolding choose split_behind split_of
returns-in_err-value c =
    let some = λ (z : c.args.count / 128 ≡ 0). c.if-full_blocks-eq0.false (c.full_blocks.ensures ∙ z) in
    let none = c.in_err-value.ensures.ok_part in
    rw (passed_on c.from_residual.ensures.1, ne_eqb _ _ some, sym c.read_vint_u64.ensures ∙ none) (ap Err (refused_same (rw none at c.in_err-value.ensures.value)))

pub overflow_sub-image : goal.overflow_sub-image
unfolding skip_length
overflow_sub-image c =
    (read-used 10 (2 ^ 64) c.args.image.now (sym c.read_vint_u64.ensures ∙ c.in_ok-value.ensures.ok_part)).used_length

pub returns-then-image-used : goal.returns-then-image-used
unfolding ask choose split_behind split_of
returns-then-image-used c =
    let some = λ (z : c.args.count / 128 ≡ 0). c.if-full_blocks-eq0.false (c.full_blocks.ensures ∙ z) in
    rw (ne_eqb _ _ some, sym c.read_vint_u64.ensures ∙ c.in_ok-value.ensures.ok_part, lt-leb _ _ c.if-image-used.true)

pub returns : goal.returns
unfolding ask choose split_behind split_of
returns c =
    let some = λ (z : c.args.count / 128 ≡ 0). c.if-full_blocks-eq0.false (c.full_blocks.ensures ∙ z) in
    rw (ne_eqb _ _ some, sym c.read_vint_u64.ensures ∙ c.in_ok-value.ensures.ok_part, le-leb _ _ c.if-image-used.false)
