-- How large a total and a rank may be. A count is at most 2147483647 and each frequency at most 4294967295, so that a total, a rank
-- and a count lie below 2 ^ 63, under the numbers by which exported functions tell a refusal.
-- Assumes nothing.
use Rattle.std.specs.Prelude.{◌≡◌, ℕ, zero, suc, ◌+◌, ◌*◌, ◌^◌, ◌<◌, ◌≤◌, Bool, true, List, [], ◌∷◌, length, take, drop, Ok, Err}
use mathlib.Core.Path.{refl, sym, ap, ◌∙◌}
use native.Mathlib.Nat.{le_trans}
use native.Mathlib.Decide.{dec_le}
use native.Mathlib.Omega.{arith}
use borrow.Author.Tests.{leb-true}
use lib.ListN.{take-append-drop}
use Rattle.format.specs.declared.IndexRecordOption.{IndexRecordOption}
use Rattle.format.specs.declared.Layout.{Layout}
use Rattle.format.specs.declared.Term.{Term}
use Rattle.format.specs.Basics.{Outcome, TERMINATED}
use Rattle.format.specs.Values.{countable}
use Rattle.format.specs.Layout.{layout, full_blocks_of, tail_length}
use Rattle.format.specs.Reading.{Block, Reading, nothing, before, read_from, read_all, reading, docs_of, freqs_of}
use Rattle.format.specs.Counts.{count_below, sum, total_in, total}
use Rattle.format.proofs.Opened.{walk_by, layout_is, read_from-zero, read_from-suc, read_all-ok, reading-is}
use Rattle.format.proofs.Outcome.{refused≢ok, ok_same, ask-ok, and_then-ok}
use Rattle.format.proofs.Sound.{whole-count}
use Rattle.format.proofs.SoundBlock.{SoundBlock, entry_block-read, tail_block-sound}
use Rattle.format.proofs.Values.{countable-cons}
use Rattle.segment_postings.specs.Cursor.{position, ranking}
use Rattle.segment_postings.proofs.Laws.ReachedBounds.{fresh_near}
use Rattle.segment_postings.proofs.seeks.SeekCases.{ranking-is}
use Rattle.segment_postings.proofs.counts.TotalInBlocks.{sum-append, total_in-is, total_too_far, total-within}
use Rattle.segment_postings.proofs.Laws.CursorTurns.{opening-is, seeking_fresh-is}

pub count_most : (t : Term) (bs : List ℕ) {l : Layout} → layout t bs ≡ Ok l → t.count ≤ TERMINATED
count_most t bs e =
    let known = ask-ok _ _ _ (sym (layout_is t bs) ∙ e) in
    leb-true _ _ (ask-ok _ _ _ known.1).0

-- ---- the frequencies of all blocks

sum-most : (fs : List ℕ) → countable fs ≡ true → sum fs ≤ length fs * 4294967295
unfolding sum
sum-most [] c = omega arith
sum-most (f ∷ fs) c = let k = countable-cons f fs c in omega (arith, sum-most fs k.rest)

sum-take : (n : ℕ) (fs : List ℕ) → sum (take n fs) ≤ sum fs
sum-take n fs = omega (arith, sum-append (take n fs) (drop n fs), ap (λ (xs : List ℕ). sum xs) (take-append-drop n fs))

block_most_is : {size least : ℕ} {b : Block} → SoundBlock size least b → sum b.freqs ≤ size * 4294967295
block_most_is {b = b} s = omega (arith, sum-most b.freqs s.freqs_count, s.freqs_many)

first-most : (o : Outcome Block) (rest : Bool → Reading) (m n : ℕ) {most : ℕ} → m + n ≤ most → ((b : Block) → o ≡ Ok b → sum b.freqs ≤ m)
    → sum (freqs_of (rest true).blocks) ≤ n → sum (freqs_of (before o rest).blocks) ≤ most
unfolding before nothing freqs_of sum
first-most (Ok b) rest m n fit h k = rw sum-append (omega (arith, h b refl))
first-most (Err i) rest m n fit h k = omega arith

module _ (option : IndexRecordOption) (wanted alone : Bool) (tail : ℕ) where
  read-most : (n least : ℕ) (skips bs : List ℕ)
      → sum (freqs_of (read_from (walk_by option wanted alone tail) n least skips bs).blocks) ≤ (128 * n + tail) * 4294967295
  unfolding nothing freqs_of sum
  read-most zero least skips bs =
      rw read_from-zero
      (first-most _ _ (tail * 4294967295) 0 (omega arith) (λ b e. block_most_is (tail_block-sound option wanted alone tail least bs e).sound) (omega arith))
  read-most (suc n) least skips bs =
      rw read_from-suc
      (first-most _ _ (128 * 4294967295) ((128 * n + tail) * 4294967295) (omega arith)
      (λ b e. block_most_is (entry_block-read option wanted least skips bs e).sound.sound)
      (read-most n _ _ _))

freqs_most : (t : Term) (bs : List ℕ) → sum (freqs_of (reading t bs).blocks) ≤ TERMINATED * 4294967295
unfolding read_all nothing freqs_of sum
freqs_most t bs = rw reading-is (go (layout t bs) refl)
  where
    go : (o : Outcome Layout) → layout t bs ≡ o → sum (freqs_of (read_all t bs o).blocks) ≤ TERMINATED * 4294967295
    go (Ok l) e =
        rw read_all-ok (le_trans (read-most _ _ _ (tail_length t) (full_blocks_of t) 0 _ _) (omega (arith, whole-count t, count_most t bs e)))
    go (Err n) e = omega arith

-- ---- total

total_in-most : (target : ℕ) (r : Reading) {n : ℕ} → total_in target r ≡ Ok n → n ≤ sum (freqs_of r.blocks)
total_in-most target r e =
    let passed = and_then-ok _ _ (sym (total_in-is target r) ∙ e) in
    omega (arith, sum-take (count_below target (docs_of r.blocks)) (freqs_of r.blocks), ok_same passed.2)

module _ (mode count : ℕ) (bs : List ℕ) (target : ℕ) where
  pub total-most : {n : ℕ} → total mode count bs target ≡ Ok n → n < 2 ^ 63
  total-most e = elim (dec_le target TERMINATED) [
    | yes small ↦
        let t : Term = record { mode = mode; requested = 1; count = count } in
        omega (arith, total_in-most target (reading t bs) (sym (total-within mode count bs target small) ∙ e), freqs_most t bs)
    | no large ↦ absurd (refused≢ok (sym (total_too_far mode count bs target (omega arith)) ∙ e))
  ]

  -- ---- rank

  pub rank_most : {n : ℕ} → ranking mode count bs target ≡ Ok n → n < 2 ^ 63
  unfolding position full_blocks_of
  rank_most e =
      let t : Term = record { mode = mode; requested = 0; count = count } in
      let asked = ask-ok _ _ _ (sym (ranking-is mode count bs target) ∙ e) in
      let comes = and_then-ok _ _ asked.1 in
      let opens = and_then-ok _ _ (sym (seeking_fresh-is bs t target) ∙ comes.1) in
      let laid = and_then-ok _ _ (sym (opening-is bs t) ∙ opens.1) in
      omega (arith, fresh_near bs t target comes.1, ok_same comes.2, count_most t bs laid.1)
