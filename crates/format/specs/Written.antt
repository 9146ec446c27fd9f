-- The image of a list, as the writer writes it: if the count is 128 or more the skip length and the entries; then the full
-- blocks, each documents before frequencies; then the tail's id differences, then its frequencies unreduced.
-- Assumes nothing.
use Rattle.std.specs.Prelude.{Bool, true, false, List, [], ◌++◌, ℕ, zero, suc, ◌+◌, ◌*◌, ◌/◌, length, take, drop}
use Rattle.format.specs.declared.BlockInfo.{BlockInfo}
use Rattle.format.specs.declared.IndexRecordOption.{IndexRecordOption}
use Rattle.format.specs.Basics.{last_of}
use Rattle.format.specs.Vint.{vint, vints}
use Rattle.format.specs.Bitpacking.{pack, width}
use Rattle.format.specs.Values.{gaps, gaps_from, reduced}
use Rattle.format.specs.SkipEntry.{has_freq_of, write_entry_of}

unfoldable pub only_if : Bool → List ℕ → List ℕ
only_if true l = l
only_if false l = []

-- ---- a full block

-- the values of its documents, and of its frequencies where they are kept
unfoldable pub doc_values : ℕ → List ℕ → List ℕ
unfolding gaps
doc_values least ds = gaps true least ds

unfoldable pub freq_values : IndexRecordOption → List ℕ → List ℕ
unfolding only_if has_freq_of reduced
freq_values option fs = only_if (has_freq_of option) (reduced true fs)

-- what its skip entry says of it: the writer's blocks are strict
unfoldable pub info_of : IndexRecordOption → ℕ → List ℕ → List ℕ → BlockInfo
unfolding last_of width doc_values freq_values
info_of option least ds fs = record {
  last_doc = last_of 0 ds;
  doc_width = width (doc_values least ds);
  strict = true;
  freq_width = width (freq_values option fs);
}

-- its skip entry
unfoldable pub entry_of : IndexRecordOption → ℕ → List ℕ → List ℕ → List ℕ
unfolding write_entry_of info_of
entry_of option least ds fs = write_entry_of option (info_of option least ds fs)

-- its bytes: documents before frequencies
unfoldable pub block_of : IndexRecordOption → ℕ → List ℕ → List ℕ → List ℕ
unfolding pack width doc_values freq_values
block_of option least ds fs =
    pack (width (doc_values least ds)) (doc_values least ds) ++ pack (width (freq_values option fs)) (freq_values option fs)

-- ---- n full blocks: the bytes of their entries, and their own

pub record Parts : Type 0 where
  pub skips : List ℕ
  pub postings : List ℕ

unfoldable pub blocks_of : IndexRecordOption → ℕ → ℕ → List ℕ → List ℕ → Parts
unfolding entry_of block_of last_of
blocks_of option zero least ds fs = record { skips = []; postings = [] }
blocks_of option (suc n) least ds fs =
    let rest : Parts = blocks_of option n (last_of 0 (take 128 ds) + 1) (drop 128 ds) (drop 128 fs) in
    record {
      skips = entry_of option least (take 128 ds) (take 128 fs) ++ rest.skips;
      postings = block_of option least (take 128 ds) (take 128 fs) ++ rest.postings;
    }

-- ---- the image

-- the skip length and the entries, where there is a full block
unfoldable pub head_of : ℕ → List ℕ → List ℕ
unfolding vint
head_of zero skips = []
head_of (suc n) skips = vint (length skips) ++ skips

-- the tail behind the id `offset`, 0 where there is none before it: its id differences, then its frequencies unreduced
unfoldable pub tail_of_of : IndexRecordOption → ℕ → List ℕ → List ℕ → List ℕ
unfolding vints gaps_from only_if has_freq_of
tail_of_of option offset ds fs = vints (gaps_from 0 offset ds) ++ only_if (has_freq_of option) (vints fs)

-- n full blocks, given as the bytes of their entries and their own, and a tail
unfoldable pub image_with : ℕ → List ℕ → List ℕ → IndexRecordOption → ℕ → List ℕ → List ℕ → List ℕ
unfolding head_of tail_of_of
image_with n skips postings option offset ds fs = head_of n skips ++ (postings ++ tail_of_of option offset ds fs)

-- how many documents the full blocks of a list have
abbrev pub in_blocks : List ℕ → ℕ
in_blocks ds = 128 * (length ds / 128)

-- a list, given the bytes of its full blocks: the documents behind them are its tail
unfoldable pub image_from : IndexRecordOption → List ℕ → List ℕ → List ℕ → List ℕ → List ℕ
unfolding image_with last_of
image_from option ds fs skips postings =
    image_with (length ds / 128) skips postings option (last_of 0 (take (in_blocks ds) ds)) (drop (in_blocks ds) ds) (drop (in_blocks ds) fs)

unfoldable pub image : IndexRecordOption → List ℕ → List ℕ → List ℕ
unfolding image_from blocks_of
image option ds fs =
    let blocks : Parts = blocks_of option (length ds / 128) 0 ds fs in
    image_from option ds fs blocks.skips blocks.postings
