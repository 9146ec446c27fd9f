-- What the private functions of a whole list want, answer and leave.
-- Assumes nothing.
use Rattle.format.specs.declared.refusal.Refusal.TheVariants.{NoRoom}
use Rattle.std.specs.Prelude.{◌≡◌, ℕ, ◌/◌, Bool, true, ◌&&◌ as and, List, length, take, nat_le, Ok, Err}
use Rattle.format.specs.declared.IndexRecordOption.{IndexRecordOption}
use Rattle.format.specs.Basics.{choose, last_of, put_at, fits_at, Outcome}
use Rattle.format.specs.Values.{rising}
use Rattle.format.specs.Written.{Parts, blocks_of, in_blocks, image}
use Rattle.serializer.specs.declared.list.Sizes.{Sizes}
use Rattle.serializer.specs.declared.list.Tail.{Tail}

-- a list that passed its questions: its ids rise, and there are as many frequencies
pub record Checked (ds fs : List ℕ) : Type 0 where
  pub rises : rising 0 ds ≡ true
  pub as_many : length ds ≡ length fs

-- its full blocks
unfoldable pub full_blocks_of : IndexRecordOption → List ℕ → List ℕ → Parts
unfolding blocks_of
full_blocks_of option ds fs = blocks_of option (length ds / 128) 0 ds fs

-- .. and their sizes
pub record ListSized (option : IndexRecordOption) (ds fs : List ℕ) (sizes : Sizes) : Type 0 where
  pub checked : Checked ds fs
  pub entries_are : sizes.entries ≡ length (full_blocks_of option ds fs).skips
  pub blocks_are : sizes.blocks ≡ length (full_blocks_of option ds fs).postings

-- where its tail begins
pub record TailOf (ds : List ℕ) (tail : Tail) : Type 0 where
  pub full_is : tail.full ≡ length ds / 128
  pub at_is : tail.at ≡ in_blocks ds
  pub offset_is : tail.offset ≡ last_of 0 (take (in_blocks ds) ds)

-- question 15, of the two areas
unfoldable pub blocks_fit : IndexRecordOption → List ℕ → List ℕ → List ℕ → List ℕ → Bool
unfolding full_blocks_of fits_at
blocks_fit option ds fs skips postings = and (fits_at 0 (full_blocks_of option ds fs).skips skips) (fits_at 0 (full_blocks_of option ds fs).postings postings)

-- .. and of an output of len bytes
unfoldable pub list_fits_of : IndexRecordOption → List ℕ → List ℕ → List ℕ → List ℕ → ℕ → Bool
unfolding blocks_fit image
list_fits_of option ds fs skips postings len = and (blocks_fit option ds fs skips postings) (nat_le (length (image option ds fs)) len)

-- the full blocks put into their areas
pub record BlocksPut (option : IndexRecordOption) (ds fs skips postings skips' postings' : List ℕ) : Type 0 where
  pub skips_after : skips' ≡ put_at 0 (full_blocks_of option ds fs).skips skips
  pub postings_after : postings' ≡ put_at 0 (full_blocks_of option ds fs).postings postings

-- .. and the image into the output, where all of them fit
pub record ListPut (option : IndexRecordOption) (ds fs skips postings output skips' postings' output' : List ℕ) (r : Outcome ℕ) : Type 0 where
  pub answer : r ≡ choose (list_fits_of option ds fs skips postings (length output)) (λ _. Ok (length (image option ds fs))) (λ _. Err NoRoom)
  pub skips_after :
      skips' ≡ choose (list_fits_of option ds fs skips postings (length output)) (λ _. put_at 0 (full_blocks_of option ds fs).skips skips) (λ _. skips)
  pub postings_after :
      postings' ≡ choose (list_fits_of option ds fs skips postings (length output)) (λ _. put_at 0 (full_blocks_of option ds fs).postings postings) (λ _. postings)
  pub output_after : output' ≡ choose (list_fits_of option ds fs skips postings (length output)) (λ _. put_at 0 (image option ds fs) output) (λ _. output)
