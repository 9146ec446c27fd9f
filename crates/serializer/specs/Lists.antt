-- What a list needs to be written: room; and what single calls leave of it.
-- Assumes nothing.
use Rattle.format.specs.declared.refusal.Refusal.TheVariants.{NoRoom, CountMismatch}
use Rattle.std.specs.Prelude.{◌≡◌, ℕ, ◌/◌, ◌<◌, ◌≤◌, Bool, ◌≢◌, List, length, Ok, Err}
use Rattle.format.specs.declared.IndexRecordOption.{IndexRecordOption}
use Rattle.format.specs.Basics.{put_at}
use Rattle.format.specs.Written.{Parts, blocks_of}
use Rattle.format.specs.Accepted.{kept_in}
use Rattle.serializer.specs.declared.PostingsSerializer.{PostingsSerializer}
use Rattle.serializer.specs.Writer.{Areas, closing, take_all_docs, accepted_count}

-- room for a list's full blocks and their entries in the areas, and for its image in the output
pub record HasRoom (mode : ℕ) (recording : Bool) (ds fs skips postings output image : List ℕ) : Type 0 where
  pub skips_fit : length (blocks_of (kept_in mode recording) (length ds / 128) 0 ds fs).skips ≤ length skips
  pub postings_fit : length (blocks_of (kept_in mode recording) (length ds / 128) 0 ds fs).postings ≤ length postings
  pub output_fit : length image ≤ length output

-- the full blocks of the documents that are accepted at a list's front
abbrev pub accepted_blocks : ℕ → Bool → List ℕ → List ℕ → Parts
accepted_blocks mode recording ds fs =
    let option : IndexRecordOption = kept_in mode recording in
    blocks_of option (accepted_count option 0 ds fs / 128) 0 ds fs

-- What single calls, the first of them on the state `begun`, leave of a list that is written as `image`: its full blocks and their
-- entries at the front of the areas, every other byte as before. Closing under the list's count gives the image if it fits the output
pub record WritesList (mode : ℕ) (recording : Bool) (begun : PostingsSerializer) (ds fs skips postings image : List ℕ) : Type 0 where
  pub areas : Areas
  pub takes : take_all_docs begun ds fs skips postings ≡ Ok areas
  pub skips_after : areas.skips ≡ put_at 0 (blocks_of (kept_in mode recording) (length ds / 128) 0 ds fs).skips skips
  pub postings_after : areas.postings ≡ put_at 0 (blocks_of (kept_in mode recording) (length ds / 128) 0 ds fs).postings postings
  pub closes : (output : List ℕ) → length image ≤ length output
      → closing areas.state (length ds) areas.skips areas.postings output ≡ Ok image
  pub without_room : (output : List ℕ) → length output < length image
      → closing areas.state (length ds) areas.skips areas.postings output ≡ Err NoRoom
  pub miscounted : (announced : ℕ) (output : List ℕ) → announced ≢ length ds
      → closing areas.state announced areas.skips areas.postings output ≡ Err CountMismatch
