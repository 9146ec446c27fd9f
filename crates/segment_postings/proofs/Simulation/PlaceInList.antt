-- The target's place in the held block is its place in the whole list. The held documents, filled up with TERMINATED, never fall and
-- the last reaches the held block's last id, so where that is at least the target the search of the block answers how many of its
-- documents lie below the target. If the blocks before it lie below too, that is the position of the first document of the whole
-- list that doesn't.
-- Assumes nothing.
use Rattle.std.specs.Prelude.{◌≡◌, ℕ, ◌+◌, ◌*◌, ◌<◌, ◌≤◌, true, List, length, get_or}
use mathlib.Core.Logic.{⊎_elim}
use mathlib.Core.Path.{◌∙◌}
use native.Mathlib.Nat.{eq-or-lt_of_le}
use native.Mathlib.Omega.{arith}
use Rattle.format.specs.declared.Term.{Term}
use Rattle.format.specs.Basics.{TERMINATED}
use Rattle.format.specs.Counts.{count_below}
use Rattle.format.specs.Layout.{full_blocks_of}
use Rattle.format.specs.Reading.{Block, reading, docs_of}
use Rattle.format.specs.Values.{rising}
use Rattle.format.proofs.Below.{count-le, count-blocks}
use Rattle.format.proofs.Blocks.{block_at, least_at, full-sound, tail-sound, docs_many}
use Rattle.format.proofs.Sound.{Sound, sound-blocks, whole-count, tail-short}
use Rattle.block_search.specs.Search.{search_block_of}
use Rattle.segment_postings.specs.declared.SegmentPostings.{SegmentPostings}
use Rattle.segment_postings.specs.Landing.{padded}
use Rattle.segment_postings.specs.Cursor.{at_place}
use Rattle.segment_postings.proofs.Simulation.EntriesLeadTo.{last_below}
use Rattle.segment_postings.proofs.Simulation.HoldsBlock.{Holds, place-holds}
use Rattle.segment_postings.proofs.Simulation.PaddedDocs.{Searches, full_last, tail-last, padded_search}

module _ {t : Term} {bs : List ℕ} (s : Sound t bs) where
  abbrev blocks : List Block
  blocks = (reading t bs).blocks

  -- ---- the held block

  -- its documents, as an array of 128
  record Array (b last : ℕ) : Type 0 where
    rises : rising (least_at 0 blocks b) (block_at blocks b).docs ≡ true
    few : length (block_at blocks b).docs ≤ 128
    last_place : get_or (padded TERMINATED (block_at blocks b).docs) 127 0 ≡ last
    last_most : last ≤ TERMINATED

  array-full : (b : ℕ) → b < full_blocks_of t → Array b (block_at blocks b).last
  array-full b h =
      let f = full-sound (sound-blocks s) b h in
      record {
        rises = f.sound.docs_rise;
        few = omega (arith, f.sound.docs_many);
        last_place = full_last _ f.sound.docs_many ∙ f.ends;
        last_most = omega (arith, last_below s b h);
      }

  array_tail : Array (full_blocks_of t) TERMINATED
  array_tail =
      let f = tail-sound (sound-blocks s) in
      let short : length (block_at blocks (full_blocks_of t)).docs < 128 = omega (arith, f.sound.docs_many, tail-short t) in
      record { rises = f.sound.docs_rise; few = omega arith; last_place = tail-last _ short; last_most = omega arith }

  module _ {c : SegmentPostings} (k : Holds s c) where
    array : Array c.held.block c.held.last_doc
    array = ⊎_elim
        (λ (e : c.held.block ≡ full_blocks_of t). rw (k.last_is, e, (tail-sound (sound-blocks s)).ends) array_tail)
        (λ h. rw k.last_is (array-full c.held.block h))
        (eq-or-lt_of_le k.block_most_is)

    pub held-rises : rising (least_at 0 blocks c.held.block) (block_at blocks c.held.block).docs ≡ true
    held-rises = array.rises

    abbrev docs : List ℕ
    docs = docs_of blocks

    module _ (target : ℕ) (held : target ≤ c.held.last_doc) where
      -- the target's place
      abbrev place : ℕ
      place = search_block_of c.docs target

      searches : Searches target (block_at blocks c.held.block).docs c.docs
      searches =
          let a = array in
          rw k.docs_are
          (padded_search _ _ a.rises a.few target (omega (arith, a.last_most)) (rw a.last_place held))

      pub place_below : place < 128
      place_below = searches.below

      -- the document there is at least the target
      pub place-reaches : target ≤ get_or c.docs place 0
      place-reaches = searches.reaches

      module _ (passed : (i : ℕ) → i < c.held.block → (block_at blocks i).last < target) where
        pub place-position : 128 * c.held.block + place ≡ count_below target docs
        place-position =
            let there = count-blocks target (sound-blocks s) c.held.block k.block_most_is passed (λ _. rw (← k.last_is) held) in
            omega (arith, searches.counts)

        pub place_inside : 128 * c.held.block + place ≤ t.count
        place_inside = omega (arith, place-position, count-le target docs, docs_many (sound-blocks s), whole-count t)

        pub searched-holds : Holds s (at_place c place)
        searched-holds = place-holds s k place place_below place_inside
