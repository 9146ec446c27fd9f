-- A cursor that has landed on a block holds 128 documents that never fall, and the last of them reaches the target. A full block's ids
-- rise, by question 6, and end on the last id of its entry, for which the block was chosen; a tail's ids rise too, there are fewer than
-- 128 of them, and the places behind them hold TERMINATED. So the search of the block answers how many of its places lie below the
-- target: fewer than 128, and at most as many as the block has documents.
-- Assumes nothing.
use Rattle.std.specs.Prelude.{◌≡◌, ℕ, zero, suc, ◌+◌, ◌*◌, ◌<◌, ◌≤◌, true, leb, List, length, get_or, Ok}
use mathlib.Core.Path.{sym, subst, ◌∙◌}
use native.Mathlib.Omega.{arith}
use borrow.Author.Tests.{leb-true, ltb-true}
use Rattle.format.specs.declared.IndexRecordOption.{IndexRecordOption}
use Rattle.format.specs.declared.Layout.{Layout}
use Rattle.format.specs.declared.Term.{Term}
use Rattle.format.specs.Basics.{TERMINATED}
use Rattle.format.specs.Layout.{full_blocks_of, tail_length}
use Rattle.format.specs.Reading.{Block}
use Rattle.format.specs.Values.{rising}
use Rattle.format.proofs.Below.{count-le}
use Rattle.format.proofs.Choice.{choose_elim}
use Rattle.format.proofs.Outcome.{ok_same, ask-ok, and_then-ok}
use Rattle.format.proofs.SoundBlock.{full_block-sound, tail_block-sound}
use Rattle.segment_postings.specs.declared.find.Found.{Found}
use Rattle.segment_postings.specs.declared.find.Start.{Start}
use Rattle.segment_postings.specs.declared.Held.{Held}
use Rattle.segment_postings.specs.declared.SegmentPostings.{SegmentPostings}
use Rattle.segment_postings.specs.Landing.{start_after, find_block_of, load_block_of, padded, holding, landing}
use Rattle.segment_postings.specs.Cursor.{start_behind_of, leaving, place_of}
use Rattle.segment_postings.proofs.find.FoundBlock.{entry_of, find_tail, find_entry}
use Rattle.segment_postings.proofs.Simulation.PaddedDocs.{full_last, tail-last, padded_search}
use Rattle.segment_postings.proofs.Laws.CursorTurns.{load_block_of-is, landing_is, leaving-is}

-- ---- the block that is found

module _ (option : IndexRecordOption) (skips bs : List ℕ) (target : ℕ) where
  -- before block `full`: chosen by its last id
  record Chosen (full : ℕ) (f : Found) : Type 0 where
    block_most_is : f.block ≤ full
    reaches : f.block < full → target ≤ f.info.last_doc

  -- from block b on, with n full ones left
  chosen : (n : ℕ) (s : Start) {f : Found} → find_block_of option skips bs target n s ≡ Ok f → Chosen (s.block + n) f
  chosen zero s e =
      subst (Chosen (s.block + 0)) (ok_same (sym (find_tail option skips bs target s) ∙ e))
      (record { block_most_is = omega arith; reaches = λ h. absurd (omega arith) })
  chosen (suc n) s {f} e =
      let turn = ask-ok _ _ _ (sym (find_entry option skips bs target n s) ∙ e) in
      choose_elim (λ o. o ≡ Ok f → Chosen (s.block + suc n) f) (leb target (entry_of option skips s.block).last_doc) _ _
      (λ t here. subst (Chosen (s.block + suc n)) (ok_same here) (record { block_most_is = omega arith; reaches = λ _. leb-true _ _ t }))
      (λ _ on.
      let k = chosen n (start_after s (entry_of option skips s.block)) on in
      record { block_most_is = omega (arith, k.block_most_is); reaches = λ h. k.reaches (omega arith) })
      turn.1

-- ---- the block that is landed on

-- the target's place on a landed cursor
pub record Placed (t : Term) (target : ℕ) (d : SegmentPostings) : Type 0 where
  pub place_below : place_of d target < 128
  pub position_most : 128 * d.held.block + place_of d target ≤ t.count

module _ (t : Term) (bs : List ℕ) (l : Layout) (target : ℕ) (small : target ≤ TERMINATED) where
  holding-placed : (f : Found) (unpacked : ℕ) (b : Block) (least : ℕ) → rising least b.docs ≡ true → length b.docs ≤ 128
      → target ≤ get_or (padded TERMINATED b.docs) 127 0
      → 128 * f.block + length b.docs ≤ t.count → Placed t target (holding f unpacked b)
  unfolding holding place_of padded
  holding-placed f unpacked b least rises few reaches inside =
      let place = padded_search least b.docs rises few target small reaches in
      record { place_below = place.below; position_most = omega (arith, place.counts, count-le target b.docs) }

  load-placed : (f : Found) (unpacked : ℕ) {b : Block} → f.block ≤ full_blocks_of t → (f.block < full_blocks_of t → target ≤ f.info.last_doc)
      → load_block_of t l bs f ≡ Ok b → Placed t target (holding f unpacked b)
  unfolding full_blocks_of tail_length
  load-placed f unpacked {b} most reached e =
      choose_elim (λ o. o ≡ Ok b → Placed t target (holding f unpacked b)) _ _ _
      (λ below k.
      let read = full_block-sound _ _ _ _ k in
      let sound = read.0.sound in
      let full : f.block < full_blocks_of t = ltb-true _ _ below in
      holding-placed f unpacked b f.least sound.docs_rise (omega (arith, sound.docs_many))
      (rw (full_last b.docs sound.docs_many, read.0.ends, read.1) (reached full))
      (omega (arith, sound.docs_many)))
      (λ _ k.
      let sound = (tail_block-sound _ _ _ _ _ _ k).sound in
      let short : length b.docs < 128 = omega (arith, sound.docs_many) in
      holding-placed f unpacked b f.least sound.docs_rise (omega arith)
      (rw (tail-last b.docs short) small)
      (omega (arith, sound.docs_many)))
      (sym (load_block_of-is t l bs f) ∙ e)

  pub landing-placed : (s : Start) {d : SegmentPostings} → s.block ≤ full_blocks_of t → landing t bs l target s ≡ Ok d → Placed t target d
  landing-placed s h e =
      let found = and_then-ok _ _ (sym (landing_is t bs l target s) ∙ e) in
      let block = and_then-ok _ _ found.2 in
      let k = chosen _ _ _ _ _ s found.1 in
      subst (Placed t target) (ok_same block.2)
      (load-placed found.0 s.unpacked (omega (arith, k.block_most_is)) (λ m. k.reaches (omega arith)) block.1)

pub leaving-placed : (h : Held) (bs : List ℕ) (t : Term) (target : ℕ) {d : SegmentPostings} → target ≤ TERMINATED
    → h.block < full_blocks_of t → leaving h bs t target ≡ Ok d → Placed t target d
leaving-placed h bs t target small full e =
    let laid = and_then-ok _ _ (sym (leaving-is h bs t target) ∙ e) in
    landing-placed t bs _ target small (start_behind_of h) (omega arith) (ask-ok _ _ _ laid.2).1
