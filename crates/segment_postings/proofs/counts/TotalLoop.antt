-- A walk block by block to a target. What is kept is that the total of the whole image is what was passed with the total of what is
-- read from the next block on. A block that is passed whole keeps it; a document at or above the target, the end and a refusal each
-- answer the total.
-- Assumes nothing.
use Rattle.format.specs.declared.refusal.Refusal.{Refusal}
use Rattle.std.specs.Prelude.{◌≡◌, ℕ, ◌+◌, ◌*◌, ◌<◌, ◌≤◌, true, false, eqb, List, length, take, Ok, Err}
use mathlib.Core.Logic.{⊎_elim}
use mathlib.Core.Path.{sym, ap, ◌∙◌}
use native.Mathlib.Nat.{add-zero, eq-or-lt_of_le}
use borrow.Author.Tests.{eqb-true, eqb-false}
use native.Mathlib.Omega.{arith}
use lib.Seq.{take_all}
use Rattle.format.specs.declared.Layout.{Layout}
use Rattle.format.specs.declared.Term.{Term}
use Rattle.format.specs.Basics.{Outcome}
use Rattle.format.specs.Layout.{layout, full_blocks_of}
use Rattle.format.specs.Reading.{Reading, nothing, before, reading}
use Rattle.format.specs.Counts.{count_below, sum, total_in}
use Rattle.format.proofs.Below.{count-le}
use Rattle.segment_postings.specs.declared.counts.Front.{Front}
use Rattle.segment_postings.specs.declared.Held.{Held}
use Rattle.segment_postings.specs.declared.find.Start.{Start}
use Rattle.segment_postings.specs.Cursor.{start_behind_of}
use Rattle.segment_postings.specs.Landing.{first_start_of, landing}
use Rattle.segment_postings.specs.Passed.{docs_in_of, FrontOf}
use Rattle.segment_postings.proofs.Admission.LandingReads.{BlockHeld, reads_first, reads-last}
use Rattle.segment_postings.proofs.counts.TotalInBlocks.{added, added-zero, added_twice, total-refused, total-ended, total_stops, total-passes}
use Rattle.segment_postings.proofs.Admission.WalkTurns.{WalksFrom, reading_from, walks-first, turn-none, turn}

-- each frequency is below 2 ^ 32, so that a block adds less than 2 ^ 39
pub record Walked (t : Term) (l : Layout) (bs : List ℕ) (target : ℕ) (s : Start) (passed : ℕ) : Type 0 where
  pub walks : WalksFrom t l bs s
  pub passed_most : passed ≤ s.block * 549755813760
  pub total_is : total_in target (reading t bs) ≡ added passed (total_in target (reading_from t l bs s))

pub walked_none : (t : Term) (l : Layout) (bs : List ℕ) (target : ℕ) {s : Start} → layout t bs ≡ Ok l → s ≡ first_start_of l → Walked t l bs target s 0
walked_none t l bs target e is =
    let first = walks-first t l bs e is in
    record {
      walks = first.0;
      passed_most = omega arith;
      total_is = ap (λ (r : Reading). total_in target r) first.1 ∙ sym (added-zero _);
    }

module _ {t : Term} {l : Layout} {bs : List ℕ} {target : ℕ} {s : Start} {passed : ℕ} (w : Walked t l bs target s passed) where
  -- ---- a block that is refused

  pub walk_refused : {n : Refusal} → landing t bs l 0 s ≡ Err n → total_in target (reading t bs) ≡ Err n
  unfolding added
  walk_refused {n} e =
      let none = turn-none t l bs w.walks e in
      w.total_is
      ∙ ap (λ (r : Reading). added passed (total_in target r)) none
      ∙ ap (λ (o : Outcome ℕ). added passed o) (total-refused target n)

  -- ---- the block that is held

  module _ {h : Held} {docs freqs : List ℕ} (k : BlockHeld t l bs s.block s.at s.least h docs freqs)
      (r : Front) (f : FrontOf (take (docs_in_of t s.block) docs) (take (docs_in_of t s.block) freqs) target r) where
    -- as many documents are passed
    abbrev n : ℕ
    n = count_below target k.block.docs

    freqs-passed : sum (take n k.block.freqs) ≡ r.freqs
    freqs-passed = sym (rw (k.docs_are, k.freqs_are) at f.freqs_are)

    whole_is : r.whole ≡ eqb n (length k.block.docs)
    whole_is = rw k.docs_are at f.whole_is

    same : length k.block.docs ≡ length k.block.freqs
    same = k.docs_many ∙ sym k.freqs_many

    pub walk_stops : r.whole ≡ false → total_in target (reading t bs) ≡ Ok (passed + r.freqs)
    unfolding added
    walk_stops short =
        let behind = reads_first t l bs s.block s.at s.least k in
        let fewer : n < length k.block.docs =
        ⊎_elim (λ e. absurd (eqb-false _ _ (sym whole_is ∙ short) e)) (λ h. h) (eq-or-lt_of_le (count-le target k.block.docs)) in
        w.total_is
        ∙ ap (λ (x : Reading). added passed (total_in target x)) behind.1
        ∙ ap (λ (o : Outcome ℕ). added passed o) (total_stops target k.block behind.0 same fewer)
        ∙ rw freqs-passed

    module _ (whole : r.whole ≡ true) where
      -- a block that is passed whole, and what is read behind it
      passes : (rest : Reading) → reading_from t l bs s ≡ (before (Ok k.block) λ _. rest)
          → total_in target (reading t bs) ≡ added (passed + r.freqs) (total_in target rest)
      passes rest e =
          let all : n ≡ length k.block.docs = eqb-true _ _ (sym whole_is ∙ whole) in
          let freqs-all : sum k.block.freqs ≡ r.freqs =
          ap (λ (fs : List ℕ). sum fs) (sym (take_all n k.block.freqs (omega (arith, same, all)))) ∙ freqs-passed in
          w.total_is
          ∙ ap (λ (x : Reading). added passed (total_in target x)) e
          ∙ ap (λ (o : Outcome ℕ). added passed o) (total-passes target k.block rest same all)
          ∙ added_twice passed (sum k.block.freqs) (total_in target rest)
          ∙ ap (λ (m : ℕ). added (passed + m) (total_in target rest)) freqs-all

      pub walk_ends : full_blocks_of t ≤ s.block → total_in target (reading t bs) ≡ Ok (passed + r.freqs)
      unfolding added
      walk_ends past =
          passes (nothing (Ok tt)) (reads-last t l bs s.block s.at s.least k past)
          ∙ ap (λ (o : Outcome ℕ). added (passed + r.freqs) o) (total-ended target)
          ∙ ap (λ (m : ℕ). Ok m) (add-zero (passed + r.freqs))

      pub walk-goes-on : {s' : Start} → s.block < full_blocks_of t → s' ≡ start_behind_of h → Walked t l bs target s' (passed + r.freqs)
      walk-goes-on some is =
          let next = turn t l bs w.walks k some is in
          record {
            walks = next.walks;
            passed_most = omega (arith, w.passed_most, f.freqs_most, next.block_is);
            total_is = passes _ next.reads;
          }
