-- Where a seek goes from a cursor that holds a block: nowhere if the present document is at least the target, else to the first document
-- of the list that is. That lies in the held block if its last id is at least the target; else in the block that the entries lead
-- to, since the blocks before the held one lie below the present document and the held one and those passed over end below the
-- target.
-- Assumes nothing.
use Rattle.std.specs.Prelude.{◌≡◌, ℕ, suc, ◌<◌, ◌≤◌, List, get_or, Ok}
use mathlib.Core.Logic.{⊎_elim}
use mathlib.Core.Path.{refl, ap, ◌∙◌}
use native.Mathlib.Nat.{eq-or-lt_of_le, lt_trans}
use native.Mathlib.Decide.{dec_le}
use native.Mathlib.Omega.{arith, by_contra}
use Rattle.format.specs.declared.Term.{Term}
use Rattle.format.specs.Basics.{TERMINATED}
use Rattle.format.specs.Counts.{count_below}
use Rattle.format.specs.Layout.{full_blocks_of}
use Rattle.format.specs.Reading.{Block, reading, docs_of}
use Rattle.format.proofs.Below.{rising-at, count-below, count-above, above_earlier}
use Rattle.format.proofs.Blocks.{block_at, least_at, tail-sound, docs-rising, docs_many}
use Rattle.format.proofs.Sound.{Sound, sound-blocks, whole-count}
use Rattle.block_search.specs.Search.{search_block_of}
use Rattle.segment_postings.specs.declared.SegmentPostings.{SegmentPostings}
use Rattle.segment_postings.specs.Cursor.{position, at_place, leaving}
use Rattle.segment_postings.proofs.Simulation.HoldsBlock.{Holds, Landed, MovesTo, leaving_landed, padded-there, place-there, doc_there}
use Rattle.segment_postings.proofs.Simulation.PlaceInList.{held-rises, place-position, searched-holds}

module _ {t : Term} {bs : List ℕ} (s : Sound t bs) where
  abbrev blocks : List Block
  blocks = (reading t bs).blocks

  -- the position of the first document of the list that is at least the target, the count where there is none
  abbrev first_at : ℕ → ℕ
  first_at target = count_below target (docs_of blocks)

  module _ {c : SegmentPostings} (k : Holds s c) (target : ℕ) (inside : position c.held < t.count) where
    -- the present document is at least the target: nowhere
    pub seek-stays : target ≤ get_or c.docs c.held.place 0 → first_at target ≤ position c.held
    seek-stays h =
        by_contra _ _ (λ m. omega (arith, count-below target (docs_of blocks) (position c.held) TERMINATED m, doc_there s k inside))

    module _ (ahead : get_or c.docs c.held.place 0 < target) where
      -- the present one lies below it, so onward
      pub seek-onward : position c.held < first_at target
      seek-onward =
          count-above target 0 (docs_of blocks) (position c.held) TERMINATED (docs-rising (sound-blocks s))
          (omega (arith, docs_many (sound-blocks s), whole-count t)) (omega (arith, doc_there s k inside))

      -- the blocks before the held one end below it too
      pub earlier : (i : ℕ) → i < c.held.block → (block_at blocks i).last < target
      earlier i h =
          let ds : List ℕ = (block_at blocks c.held.block).docs in
          let there = (place-there s k inside).0 in
          let same = ap (λ xs. get_or xs c.held.place 0) k.docs_are ∙ padded-there TERMINATED ds c.held.place 0 0 there in
          let least = rising-at (least_at 0 blocks c.held.block) ds c.held.place 0 (held-rises s k) there in
          lt_trans (above_earlier (sound-blocks s) c.held.block _ k.block_most_is (rw same least) i h) ahead

      -- the held block's last id is at least the target: to a later place in it
      pub within-onward : (held : target ≤ c.held.last_doc) → c.held.place < search_block_of c.docs target
      unfolding position
      within-onward held = omega (arith, seek-onward, place-position s k target held earlier)

      pub within_moves : target ≤ c.held.last_doc → MovesTo s (first_at target) c (at_place c (search_block_of c.docs target))
      unfolding at_place position
      within_moves held =
          record {
            holds = searched-holds s k target held earlier;
            goes = place-position s k target held earlier;
            stays = λ _. refl;
            grows = λ l. absurd (omega arith);
          }

  -- .. else to the block that the entries lead to
  module _ {c : SegmentPostings} (k : Holds s c) (target : ℕ) (left : c.held.last_doc < target) (most : target ≤ TERMINATED) where
    pub left-full : c.held.block < full_blocks_of t
    left-full = ⊎_elim
        (λ e. absurd (omega (arith, k.last_is ∙ ap (λ b. (block_at blocks b).last) e ∙ (tail-sound (sound-blocks s)).ends)))
        (λ l. l)
        (eq-or-lt_of_le k.block_most_is)

    module _ {c' : SegmentPostings} (l : Landed s target (suc c.held.block) c.held.unpacked c') where
      landed_held : target ≤ c'.held.last_doc
      landed_held = ⊎_elim
          (λ e. omega (arith, l.holds.last_is ∙ ap (λ b. (block_at blocks b).last) e ∙ (tail-sound (sound-blocks s)).ends))
          (λ m. rw l.holds.last_is (l.reached m))
          (eq-or-lt_of_le l.holds.block_most_is)

      landed_passed : (i : ℕ) → i < c'.held.block → (block_at blocks i).last < target
      landed_passed i h = elim (dec_le (suc c.held.block) i) [
        | yes m ↦ l.passed i m h
        | no m ↦ above_earlier (sound-blocks s) (suc c.held.block) target left-full (omega (arith, k.last_is)) i (omega arith)
      ]

      landed_moves : MovesTo s (first_at target) c (at_place c' (search_block_of c'.docs target))
      unfolding at_place position
      landed_moves =
          record {
            holds = searched-holds s l.holds target landed_held landed_passed;
            goes = place-position s l.holds target landed_held landed_passed;
            stays = λ e. absurd (omega (arith, l.block_least));
            grows = λ _. l.unpacked_one;
          }

    pub leaving_moves : (c' : SegmentPostings) × (leaving c.held bs t target ≡ Ok c')
        × MovesTo s (first_at target) c (at_place c' (search_block_of c'.docs target))
    leaving_moves = let p = leaving_landed s k target left-full in (p.0, p.2, landed_moves p.1)
