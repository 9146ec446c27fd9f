-- What the private functions of a block, an image and a document want, answer and leave.
-- Assumes nothing.
use Rattle.format.specs.declared.refusal.Refusal.TheVariants.{NoRoom, StateBroken}
use Rattle.std.specs.Prelude.{◌≡◌, ℕ, ◌+◌, ◌<◌, ◌≤◌, Bool, true, ◌&&◌ as and, List, [], ◌∷◌, length, nat_lt, Ok, Err}
use Rattle.format.specs.declared.BlockInfo.{BlockInfo}
use Rattle.format.specs.declared.IndexRecordOption.{IndexRecordOption}
use Rattle.format.specs.Basics.{Outcome, and_then, ask, put_at, TERMINATED, choose, fits_at, or_before}
use Rattle.format.specs.SkipEntry.{entry_size_of, block_size_of}
use Rattle.format.specs.Written.{entry_of, block_of, image_with}
use Rattle.format.specs.Accepted.{take_doc}
use Rattle.serializer.specs.declared.PostingsSerializer.{PostingsSerializer}
use Rattle.serializer.specs.declared.block.Places.{Places}
use Rattle.serializer.specs.declared.image.Image.{Image}
use Rattle.serializer.specs.declared.Progress.{Progress}
use Rattle.serializer.specs.Calls.{answered}
use Rattle.serializer.specs.Writer.{bounds_hold, option_of, first_least_of, least_after_of, waiting_docs, closing}

-- ---- a block

-- an entry and its block fit their areas from these places on
pub record BlockFits (option : IndexRecordOption) (info : BlockInfo) (at : Places) (skips postings : List ℕ) : Type 0 where
  pub doc_width : info.doc_width < 32
  pub freq_width : info.freq_width ≤ 32
  pub skips_room : at.skips + entry_size_of option ≤ length skips
  pub postings_room : at.postings + block_size_of info ≤ length postings

-- the places behind an entry and a block
abbrev pub behind_both : (entry block : List ℕ) → Places → Places
behind_both entry block at = record { skips = at.skips + length entry; postings = at.postings + length block }

-- an entry and a block put into their areas
pub record BlockPut (entry block : List ℕ) (at : Places) (skips postings skips' postings' : List ℕ) (r : Places) : Type 0 where
  pub placed : r ≡ behind_both entry block at
  pub skips_after : skips' ≡ put_at at.skips entry skips
  pub postings_after : postings' ≡ put_at at.postings block postings

-- a full block and its entry fit their areas from these places on
unfoldable pub block_fits : IndexRecordOption → ℕ → List ℕ → List ℕ → Places → List ℕ → List ℕ → Bool
unfolding entry_of block_of fits_at
block_fits option least ds fs at skips postings =
    and (fits_at at.skips (entry_of option least ds fs) skips) (fits_at at.postings (block_of option least ds fs) postings)

-- .. and are put there if both do
pub record BlockWritten (option : IndexRecordOption) (least : ℕ) (ds fs : List ℕ) (at : Places) (skips postings skips' postings' : List ℕ) (r : Outcome Places) : Type 0 where
  pub placed :
      r
      ≡ choose (block_fits option least ds fs at skips postings)
      (λ _. Ok (behind_both (entry_of option least ds fs) (block_of option least ds fs) at)) (λ _. Err NoRoom)
  pub skips_after :
      skips' ≡ choose (block_fits option least ds fs at skips postings) (λ _. put_at at.skips (entry_of option least ds fs) skips) (λ _. skips)
  pub postings_after :
      postings' ≡ choose (block_fits option least ds fs at skips postings) (λ _. put_at at.postings (block_of option least ds fs) postings) (λ _. postings)

-- ---- an image

-- its bytes, from its parts
abbrev pub bytes_of : Image → List ℕ
bytes_of i = image_with i.full i.skips.now i.postings.now i.option i.offset i.docs.now i.freqs.now

-- bytes put into an area from a place on, and the place behind them
pub record BytesPut (p : ℕ) (bs area area' : List ℕ) (r : ℕ) : Type 0 where
  pub behind : r ≡ p + length bs
  pub area_after : area' ≡ put_at p bs area

-- an image at the front of the output, if it fits
pub record ImagePut (image output output' : List ℕ) (r : Outcome ℕ) : Type 0 where
  pub answer : r ≡ choose (fits_at 0 image output) (λ _. Ok (length image)) (λ _. Err NoRoom)
  pub output_after : output' ≡ put_at 0 image output

-- what closing answers, and the image at the output's front
pub record TermClosed (s : PostingsSerializer) (announced : ℕ) (skips postings output output' : List ℕ) (r : Outcome ℕ) : Type 0 where
  pub answer : r ≡ answered length (closing s announced skips postings output)
  pub output_after : output' ≡ or_before (λ image. put_at 0 image output) (closing s announced skips postings output) output

-- ---- question 16

-- each id lies above the one before it
unfoldable pub climbing : List ℕ → Bool
climbing [] = true
climbing (d ∷ []) = true
climbing (d ∷ (e ∷ ds)) = and (nat_lt d e) (climbing (e ∷ ds))

-- ---- a document

-- the numbers with one document more, which waits ..
abbrev pub one_more_of : Progress → Progress
one_more_of p = record {
  mode = p.mode;
  recording = p.recording;
  waiting = p.waiting + 1;
  last_doc = p.last_doc;
  taken = p.taken + 1;
  skips_at = p.skips_at;
  postings_at = p.postings_at;
}

-- .. or filled a block that was written up to these places
abbrev pub behind_block_of : Progress → ℕ → Places → Progress
behind_block_of p d at = record {
  mode = p.mode;
  recording = p.recording;
  waiting = 0;
  last_doc = d;
  taken = p.taken + 1;
  skips_at = at.skips;
  postings_at = at.postings;
}

-- what is asked before it is taken: 16, 11 to 13, and 16 where as many are taken as can be
unfoldable pub asking : PostingsSerializer → (d f skips postings : ℕ) → Outcome (Unit {0})
unfolding and_then ask bounds_hold take_doc option_of least_after_of first_least_of waiting_docs
asking s d f skips postings =
    ask (bounds_hold s skips postings) StateBroken λ _.
    and_then (take_doc (option_of s) (least_after_of (first_least_of s) (waiting_docs s)) d f) λ _.
    ask (nat_lt s.taken TERMINATED) StateBroken λ _. Ok tt
