-- Where a document isn't below the target, as many are as were passed; and so are all where none is left. `zip_turn` says at which place
-- the documents and the frequencies of a turn stand.
use Rattle.std.proofs.Common.{◌≡◌, ℕ, ◌+◌, ◌<◌, length, get_or, refl, sym, ap₂, ◌∙◌, arith}
use Rattle.std.proofs.lemmas.List.{length_push}
use Rattle.std.proofs.lemmas.Slice.Zip.{zip_turn, zip_end}
use native.Mathlib.Nat.{zero-add}
use borrow.Author.Tests.{eq-eqb, ne_eqb}
use Rattle.format.specs.Counts.{count_below, sum}
use Rattle.segment_postings.proofs.counts.TotalInBlocks.{sum-next, front-passes, front_stops, front_ends}
use Rattle.segment_postings.proofs.counts.front_below.Goals as goal
use Rattle.segment_postings.proofs.counts.front_below.Goals.{In-Some}

-- this turn's document and frequency stand behind those passed so far
module _ (c : In-Some) where
  turn : let i = length c.loop-doc.yielded in
      (i < length c.args.docs.now) × (i < length c.args.freqs.now)
      × (c.in-Some.field-0-0.now ≡ get_or c.args.docs.now i 0) × (c.in-Some.field-0-1.now ≡ get_or c.args.freqs.now i 0)
  turn =
      let at = zip_turn c.args.docs.now c.args.freqs.now c.loop-doc.yielded _ _ c.next.new.self _ (cc) (cc) c.loop-doc.yielded_by _ c.in-Some.is c.next.ensures.steps in
      (at.0, at.1, at.2 0, at.3 0)

pub loop-doc-init : goal.loop-doc-init
unfolding sum
loop-doc-init c = record { within = omega arith; below = sym (zero-add _); summed = refl; most = omega arith }

pub returns-then-target-doc : goal.returns-then-target-doc
returns-then-target-doc c =
    let i = c.loop-doc.invariant in
    let at = turn (goal.at.returns-then-target-doc c).In-Some in
    let all = front_stops c.args.target c.args.docs.now (length c.loop-doc.yielded) i.below at.0 (rw at.2 at c.if-target-doc.true) in
    record {
      freqs_are = i.summed ∙ rw all;
      freqs_most = omega (arith, i.most, i.within);
      whole_is = sym (ne_eqb _ _ (λ (e : count_below c.args.target c.args.docs.now ≡ length c.args.docs.now). omega (arith, all, at.0)));
    }

pub loop-doc-preserved : goal.loop-doc-preserved
loop-doc-preserved c =
    let i = c.loop-doc.invariant in
    let at = turn (goal.at.loop-doc-preserved c).In-Some in
    rw length_push
    (record {
      within = omega (arith, at.0);
      below = front-passes _ _ _ i.below at.0 (rw at.2 at c.if-target-doc.false);
      summed = ap₂ (λ (m n : ℕ). m + n) i.summed at.3 ∙ sym (sum-next c.args.freqs.now (length c.loop-doc.yielded) at.1);
      most = omega (arith, i.most, at.3, c.type_inv.freqs (length c.loop-doc.yielded));
    })

pub returns : goal.returns
returns c =
    let i = c.loop-doc.invariant in
    let many = zip_end c.args.docs.now c.args.freqs.now c.loop-doc.yielded _ _ c.next.new.self _ (cc) (cc) c.loop-doc.yielded_by c.in-None.is c.next.ensures.steps in
    let all = front_ends c.args.target c.args.docs.now (length c.loop-doc.yielded) i.below (omega (arith, many)) in
    record {
      freqs_are = i.summed ∙ rw all;
      freqs_most = omega (arith, i.most, i.within);
      whole_is = sym (eq-eqb (count_below c.args.target c.args.docs.now) (length c.args.docs.now) (omega (arith, many, all)));
    }
