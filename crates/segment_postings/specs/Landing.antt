-- The block that a walk or a seek lands on: found by the skip entries alone, then unpacked.
-- Assumes nothing.
use Rattle.format.specs.declared.refusal.Refusal.TheVariants.{EntryBroken}
use Rattle.std.specs.Prelude.{ℕ, zero, suc, ◌+◌, ◌-◌, ◌*◌, false, ◌&&◌ as and, List, ◌++◌, length, drop, replicate, ◌==◌, nat_le, nat_lt, Ok}
use Rattle.format.specs.declared.BlockInfo.{BlockInfo}
use Rattle.format.specs.declared.IndexRecordOption.{IndexRecordOption}
use Rattle.format.specs.declared.Layout.{Layout}
use Rattle.format.specs.declared.Term.{Term}
use Rattle.format.specs.Basics.{Outcome, and_then, ask, choose, TERMINATED}
use Rattle.format.specs.SkipEntry.{has_freq_of, entry_size_of, read_entry, block_size_of, entry_fits_of}
use Rattle.format.specs.Layout.{full_blocks_of, tail_length, skip_bytes_of}
use Rattle.format.specs.Reading.{Block, full_block, tail_block}
use Rattle.segment_postings.specs.declared.SegmentPostings.{SegmentPostings}
use Rattle.segment_postings.specs.declared.find.Found.{Found}
use Rattle.segment_postings.specs.declared.find.Start.{Start}

-- the tail has no entry: no bits, and TERMINATED for its last id
unfoldable pub tail_info_of : BlockInfo
tail_info_of = record { last_doc = TERMINATED; doc_width = 0; strict = false; freq_width = 0 }

-- block 0, before anything is read
abbrev pub first_start_of : Layout → Start
first_start_of l = record { block = 0; at = l.postings; least = 0; entries = 0; unpacked = 0 }

-- the block behind one that is passed over, whose entry is e
abbrev pub start_after : Start → BlockInfo → Start
start_after s e = record {
  block = s.block + 1;
  at = s.at + block_size_of e;
  least = e.last_doc + 1;
  entries = s.entries + 1;
  unpacked = s.unpacked;
}

-- from a block on, of which n full ones are left, the first whose last id is at least the target, or the tail. Entries are read one by
-- one, and each is asked question 5, that of a block passed over too
unfoldable pub find_block_of : IndexRecordOption → List ℕ → List ℕ → ℕ → ℕ → Start → Outcome Found
unfolding ask choose tail_info_of read_entry entry_size_of entry_fits_of block_size_of
find_block_of option skips bs target zero s =
    Ok (record { block = s.block; at = s.at; least = s.least; info = tail_info_of; entries = s.entries })
find_block_of option skips bs target (suc n) s =
    let e : BlockInfo = read_entry option (drop (entry_size_of option * s.block) skips) in
    ask (entry_fits_of s.least (length bs - s.at) e) EntryBroken λ _.
    choose (nat_le target e.last_doc)
    (λ _. Ok (record { block = s.block; at = s.at; least = s.least; info = e; entries = s.entries + 1 }))
    (λ _. find_block_of option skips bs target n (start_after s e))

-- questions 6 to 9, of the block found
unfoldable pub load_block_of : Term → Layout → List ℕ → Found → Outcome Block
unfolding choose full_blocks_of tail_length has_freq_of full_block tail_block
load_block_of t l bs f =
    choose (nat_lt f.block (full_blocks_of t))
    (λ _. full_block (and (has_freq_of l.option) (nat_lt 0 t.requested)) f.least f.info (drop f.at bs))
    (λ _. tail_block l.option (nat_lt 0 t.requested) (full_blocks_of t == 0) (tail_length t) f.least (drop f.at bs))

-- 128 places, those behind the values filled up
unfoldable pub padded : ℕ → List ℕ → List ℕ
padded filler values = values ++ replicate (128 - length values) filler

-- the cursor at the first place of the block
unfoldable pub holding : Found → ℕ → Block → SegmentPostings
unfolding padded block_size_of
holding f unpacked b = record {
  docs = padded TERMINATED b.docs;
  held = record {
    place = 0;
    block = f.block;
    next = f.at + block_size_of f.info;
    last_doc = f.info.last_doc;
    unpacked = unpacked + 1;
    entries = f.entries;
  };
  freqs = padded 1 b.freqs;
}

-- the first block from a block on whose last id is at least the target, unpacked
unfoldable pub landing : Term → List ℕ → Layout → ℕ → Start → Outcome SegmentPostings
unfolding and_then find_block_of load_block_of holding full_blocks_of skip_bytes_of
landing t bs l target s =
    and_then (find_block_of l.option (skip_bytes_of l bs) bs target (full_blocks_of t - s.block) s) λ f.
    and_then (load_block_of t l bs f) λ block.
    Ok (holding f s.unpacked block)
