-- A whole list's full blocks as loops go through them: block n begins at document 128 * n, its ids rise from above those before it,
-- and it has at most 1024 bytes. The image is the bytes of the blocks with the tail, and its size goes by their sizes alone.
-- Assumes nothing.
use Rattle.std.specs.Prelude.{◌≡◌, ℕ, zero, suc, ◌+◌, ◌-◌, ◌*◌, ◌/◌, ◌^◌, ◌<◌, ◌≤◌, true, false, ◌&&◌ as and, leb, List, [], ◌∷◌, length, get_or, take, drop}
use mathlib.Core.Bool.{and-eq-true_iff}
use mathlib.Core.Path.{refl, sym, ap, ◌∙◌}
use native.Mathlib.Nat.{zero-add, zero-lt-suc, suc-ne-zero}
use native.Mathlib.Numerals.{add-one}
use native.Mathlib.Omega.{arith}
use borrow.Author.Tests.{le-leb, lt-leb, leb-true}
use lib.ListN.{length-append, length-drop}
use lib.Seq.{length-take-le, get_or-take, take_all}
use Rattle.format.specs.declared.IndexRecordOption.{IndexRecordOption}
use Rattle.format.specs.declared.IndexRecordOption.TheVariants.{Basic, WithFreqs}
use Rattle.format.specs.Basics.{last_of, fits_at, TERMINATED}
use Rattle.format.specs.SkipEntry.{entry_size_of}
use Rattle.format.specs.Vint.{vint}
use Rattle.format.specs.Values.{rising}
use Rattle.format.specs.Written.{doc_values, freq_values, block_of, blocks_of, head_of, image_with, in_blocks, image_from, image}
use Rattle.format.proofs.Bitpacking.{width-le}
use Rattle.format.proofs.ImageLayout.{skips-length}
use Rattle.format.proofs.ImageParts.{blocks_of-zero, blocks_of-suc, parts-skips}
use Rattle.format.proofs.Lists.{AllBelow-get_or}
use Rattle.format.proofs.Values.{rising-take, rising-drop, rising-below}
use Rattle.serializer.specs.declared.list.Sizes.{Sizes}
use Rattle.serializer.specs.declared.list.Tail.{Tail}
use Rattle.serializer.specs.Whole.{ListSized, TailOf, full_blocks_of, blocks_fit, list_fits_of}
use Rattle.serializer.specs.Writer.{least_after_of}
use Rattle.serializer.proofs.list.Blocks.{least_after_of-last, blocks-next}
use Rattle.serializer.proofs.Laws.ImagePieces.{head_none, head_some, image-is}
use Rattle.serializer.proofs.block.BlockPlaced.{last-at, block_of-length}

-- ---- the ids of a block

pub rises-behind : (least m : ℕ) (ds : List ℕ) → rising least ds ≡ true → rising (least_after_of least (take m ds)) (drop m ds) ≡ true
unfolding least_after_of
rises-behind least zero ds r = r
rises-behind least (suc m) [] r = r
rises-behind least (suc m) (d ∷ ds) r =
    rw (least_after_of-last least (take (suc m) (d ∷ ds)) (zero-lt-suc _)) (rising-drop least (suc m) (d ∷ ds) r (zero-lt-suc m))

pub block-rises : (m : ℕ) (ds : List ℕ) → rising 0 ds ≡ true → rising (least_after_of 0 (take m ds)) (take 128 (drop m ds)) ≡ true
block-rises m ds r = rising-take _ 128 (drop m ds) (rises-behind 0 m ds r)

-- the least id behind block n
pub least-next : (n : ℕ) (ds : List ℕ) → 128 * n + 128 ≤ length ds
    → least_after_of 0 (take (128 * (n + 1)) ds) ≡ get_or ds (128 * n + 127) 0 + 1
least-next n ds h =
    let k : ℕ = 128 * (n + 1) in
    let long : length (take k ds) ≡ k = length-take-le k ds (omega arith) in
    let end : k - 1 ≡ 128 * n + 127 = omega arith in
    least_after_of-last 0 (take k ds) (omega arith) ∙ rw (last-at, long, end, get_or-take k ds (128 * n + 127) 0 (omega arith))

-- .. is a number of 32 bits
pub id_below : (ds : List ℕ) (i : ℕ) → rising 0 ds ≡ true → get_or ds i 0 < TERMINATED
id_below ds i r = AllBelow-get_or ds (omega arith) (rising-below 0 ds r) i

-- ---- the bytes of blocks

block_most_is : (option : IndexRecordOption) (least : ℕ) (ds fs : List ℕ) → length (block_of option least ds fs) ≤ 1024
block_most_is option least ds fs =
    omega (arith, block_of-length option least ds fs, width-le (doc_values least ds), width-le (freq_values option fs))

pub entries_fit : (option : IndexRecordOption) (n : ℕ) → n < 2 ^ 60 → entry_size_of option * n < 2 ^ 64
unfolding entry_size_of
entries_fit Basic n h = omega arith
entries_fit WithFreqs n h = omega arith

module _ (option : IndexRecordOption) where
  pub postings-most : (n least : ℕ) (ds fs : List ℕ) → length (blocks_of option n least ds fs).postings ≤ 1024 * n
  postings-most zero least ds fs = rw blocks_of-zero (omega arith)
  postings-most (suc n) least ds fs =
      let front = block_most_is option least (take 128 ds) (take 128 fs) in
      let later = postings-most n (last_of 0 (take 128 ds) + 1) (drop 128 ds) (drop 128 fs) in
      rw (blocks_of-suc, length-append) (omega arith)

  -- one block more
  pub size-next : (n : ℕ) (ds fs : List ℕ) → 128 * n ≤ length ds
      → length (blocks_of option (n + 1) 0 ds fs).postings
      ≡ length (blocks_of option n 0 ds fs).postings
      + length (block_of option (least_after_of 0 (take (128 * n) ds)) (take 128 (drop (128 * n) ds)) (take 128 (drop (128 * n) fs)))
  size-next n ds fs h = rw (add-one, blocks-next option n 0 ds fs h, length-append)

  -- an entry for each
  pub full-skips : (ds fs : List ℕ) → length (full_blocks_of option ds fs).skips ≡ entry_size_of option * (length ds / 128)
  unfolding full_blocks_of
  full-skips ds fs =
      let n : ℕ = length ds / 128 in
      ap length (sym (parts-skips option n 0 ds fs)) ∙ skips-length option n 0 ds fs

-- ---- the image

head_size_lem : (n : ℕ) (a b : List ℕ) → length a ≡ length b → length (head_of n a) ≡ length (head_of n b)
head_size_lem zero a b e = rw (head_none 0 a refl, head_none 0 b refl)
head_size_lem (suc n) a b e = rw (head_some (suc n) a (suc-ne-zero n), head_some (suc n) b (suc-ne-zero n), length-append (vint (length a)) a, length-append (vint (length b)) b, e)

module _ (option : IndexRecordOption) (ds fs : List ℕ) where
  pub image-from : image option ds fs ≡ image_from option ds fs (full_blocks_of option ds fs).skips (full_blocks_of option ds fs).postings
  unfolding image full_blocks_of
  image-from = refl

  image-size : (skips postings skips' postings' : List ℕ) → length skips ≡ length skips' → length postings ≡ length postings'
      → length (image_from option ds fs skips postings) ≡ length (image_from option ds fs skips' postings')
  unfolding image_from
  image-size skips postings skips' postings' a b =
      rw (image-is (length ds / 128) skips postings, image-is (length ds / 128) skips' postings') (simp length-append (rw (b, head_size_lem (length ds / 128) skips skips' a)))

  -- the tail's documents and frequencies are all that lie behind the blocks
  pub image-parts : (skips postings : List ℕ) {tail : Tail} → length ds ≡ length fs → TailOf ds tail
      → (let at : ℕ = tail.at in
      image_with tail.full skips postings option tail.offset (take (length ds - at) (drop at ds)) (take (length fs - at) (drop at fs)))
      ≡ image_from option ds fs skips postings
  unfolding image_from
  image-parts skips postings same t =
      let at : ℕ = in_blocks ds in
      let docs = take_all (length ds - at) (drop at ds) (omega (arith, length-drop at ds)) in
      let freqs = take_all (length fs - at) (drop at fs) (omega (arith, length-drop at fs)) in
      rw (t.full_is, t.at_is, t.offset_is, docs, freqs)

-- ---- question 15

pub front_fits : (bs area : List ℕ) → fits_at 0 bs area ≡ leb (length bs) (length area)
unfolding fits_at
front_fits bs area = rw zero-add

module _ (option : IndexRecordOption) (ds fs skips postings : List ℕ) where
  blocks_fit-is : blocks_fit option ds fs skips postings
      ≡ and (leb (length (full_blocks_of option ds fs).skips) (length skips)) (leb (length (full_blocks_of option ds fs).postings) (length postings))
  unfolding blocks_fit
  blocks_fit-is = rw (front_fits (full_blocks_of option ds fs).skips skips, front_fits (full_blocks_of option ds fs).postings postings)

  pub blocks-room : blocks_fit option ds fs skips postings ≡ true
      → (length (full_blocks_of option ds fs).skips ≤ length skips) × (length (full_blocks_of option ds fs).postings ≤ length postings)
  blocks-room e =
      let both = (and-eq-true_iff _ _).0 (sym blocks_fit-is ∙ e) in
      (leb-true _ _ both.0, leb-true _ _ both.1)

  pub list_fits_of-is : (len : ℕ)
      → list_fits_of option ds fs skips postings len ≡ and (blocks_fit option ds fs skips postings) (leb (length (image option ds fs)) len)
  unfolding list_fits_of
  list_fits_of-is len = refl

module _ {option : IndexRecordOption} {ds fs : List ℕ} {sizes : Sizes} (sized : ListSized option ds fs sizes)
    (skips postings : List ℕ) (len : ℕ) where
  fits-is : list_fits_of option ds fs skips postings len
      ≡ and (and (leb sizes.entries (length skips)) (leb sizes.blocks (length postings))) (leb (length (image option ds fs)) len)
  fits-is = rw (list_fits_of-is, blocks_fit-is, sized.entries_are, sized.blocks_are)

  pub entries-refused : length skips < sizes.entries → list_fits_of option ds fs skips postings len ≡ false
  entries-refused h = fits-is ∙ rw (lt-leb _ _ h)

  module _ (room : sizes.entries ≤ length skips) where
    pub blocks-refused : length postings < sizes.blocks → list_fits_of option ds fs skips postings len ≡ false
    blocks-refused h = fits-is ∙ rw (le-leb _ _ room, lt-leb _ _ h)

    -- .. is then one of the image, whatever bytes its parts have
    pub fits-image : sizes.blocks ≤ length postings
        → list_fits_of option ds fs skips postings len
        ≡ leb (length (image_from option ds fs (take sizes.entries skips) (take sizes.blocks postings))) len
    fits-image h =
        let blocks = full_blocks_of option ds fs in
        let front : List ℕ = take sizes.entries skips in
        let behind : List ℕ = take sizes.blocks postings in
        let skips_are : length blocks.skips ≡ length front = sym (length-take-le sizes.entries skips room ∙ sized.entries_are) in
        let postings_are : length blocks.postings ≡ length behind = sym (length-take-le sizes.blocks postings h ∙ sized.blocks_are) in
        fits-is
        ∙ rw (le-leb _ _ room, le-leb _ _ h, image-from option ds fs, image-size option ds fs blocks.skips blocks.postings front behind)
