-- `segment_postings::seeks::rank` meets its contract: the position that a fresh cursor's seek came to. It is at most the count.
-- Assumes nothing.
use Rattle.format.specs.Basics.{Outcome}
use Rattle.std.specs.Prelude.{Ok}
use Rattle.std.proofs.Common.{◌≡◌, ℕ, ◌+◌, ◌*◌, ◌^◌, ◌<◌, List, sym, ap, ◌∙◌, arith}
use Rattle.format.specs.declared.Term.{Term}
use Rattle.segment_postings.proofs.Laws.Exits.{passed_on}
use Rattle.segment_postings.specs.declared.Held.{Held}
use Rattle.segment_postings.specs.declared.SegmentPostings.{SegmentPostings}
use Rattle.segment_postings.specs.Cursor.{seeking_fresh}
use Rattle.segment_postings.specs.Calls.{reached}
use Rattle.segment_postings.proofs.Laws.LandingParts.{reached-ok, reached-refused}
use Rattle.segment_postings.proofs.Laws.ReachedBounds.{fresh_near}
use Rattle.segment_postings.proofs.seeks.SeekCases.{ranking_too_large, ranking-none, ranking-found}
use Rattle.segment_postings.proofs.seeks.rank.Goals as goal

-- where the seek came to
module _ (bs : List ℕ) (t : Term) (target : ℕ) {r : Outcome Held} {held : Held} (e : r ≡ reached (seeking_fresh bs t target)) (is : r ≡ Ok held) where
  came : (d : SegmentPostings) × (seeking_fresh bs t target ≡ Ok d) × (d.held ≡ held)
  came = reached-ok _ (sym e ∙ is)

  below : t.count < 2 ^ 32 → 128 * held.block + held.place < 2 ^ 32
  below few = omega (arith, fresh_near bs t target came.1, ap (λ (h : Held). 128 * h.block + h.place) came.2)

pub returns-then-target-gt-TERMINATED : goal.returns-then-target-gt-TERMINATED
returns-then-target-gt-TERMINATED c = sym (ranking_too_large _ _ _ _ c.if-target-gt-TERMINATED.true)

pub overflow_mul-result : goal.overflow_mul-result
overflow_mul-result c = omega (arith, below _ _ _ c.seek_fresh.ensures c.in_ok-held.was (omega arith))

pub overflow_add-result : goal.overflow_add-result
overflow_add-result c = omega (arith, below _ _ _ c.seek_fresh.ensures c.in_ok-held.was (omega arith))

pub returns : goal.returns
returns c =
    let k = came _ _ _ c.seek_fresh.ensures c.in_ok-held.was in
    let found = ranking-found _ _ _ _ c.if-target-gt-TERMINATED.false k.1 in
    sym (found ∙ ap (λ (h : Held). Ok (128 * h.block + h.place)) k.2)

pub returns-in_err-held : goal.returns-in_err-held
returns-in_err-held c =
    rw (passed_on c.from_residual.ensures.1)
    (sym (ranking-none _ _ _ _ c.if-target-gt-TERMINATED.false (reached-refused _ (sym c.seek_fresh.ensures ∙ c.in_err-held.was))))
