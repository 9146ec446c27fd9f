-- Buffers of the lengths of specs/EnoughRoom.antt are enough for every accepted list. An accepted id lies below 2 ^ 31, so that a block's
-- documents take at most 16 * 31 bytes, and a frequency below 2 ^ 32, so that they take at most 16 * 32; a tail's number takes at most 5
-- bytes. The skip length, 10 bytes at most, is spared by any full block. No list has more than 2147483647 documents, so that an image is
-- shorter than 2 ^ 63.
-- Assumes nothing.
use Rattle.std.specs.Prelude.{◌≡◌, ℕ, zero, suc, ◌+◌, ◌-◌, ◌*◌, ◌/◌, ◌%◌, ◌^◌, ◌<◌, ◌≤◌, min, Bool, true, false, List, [], ◌∷◌, ◌++◌, length, take, drop, Ok}
use mathlib.Core.Path.{refl}
use native.Mathlib.Nat.{le_trans, suc-mul}
use native.Mathlib.Omega.{arith}
use lib.ListN.{length-append, length-drop}
use Rattle.format.specs.declared.IndexRecordOption.{IndexRecordOption}
use Rattle.format.specs.declared.IndexRecordOption.TheVariants.{Basic, WithFreqs}
use Rattle.format.specs.Basics.{last_of, TERMINATED, AllBelow}
use Rattle.format.specs.Bitpacking.{width, bits_f, largest}
use Rattle.format.specs.SkipEntry.{has_freq_of, entry_size_of}
use Rattle.format.specs.Values.{gaps, rising}
use Rattle.format.specs.Vint.{vints}
use Rattle.format.specs.Written.{only_if, doc_values, freq_values, block_of, Parts, blocks_of, tail_of_of, image}
use Rattle.format.specs.Accepted.{kept_in, written, Accepted}
use Rattle.format.proofs.Accepted.{accepted-length, written-ok}
use Rattle.format.proofs.Bitpacking.{width-le, width-least}
use Rattle.format.proofs.Lists.{AllBelow-le}
use Rattle.format.proofs.ImageParts.{headed, headed-zero, headed-suc, blocks_of-zero, blocks_of-suc, tail_of_of-is, image-blocks}
use Rattle.format.proofs.Values.{length-gaps, gaps-below, rising-take, rising-drop}
use Rattle.format.proofs.Vints.{vint-length-le, vints-length-le}
use Rattle.serializer.specs.EnoughRoom.{skips_enough, postings_enough, output_enough, Enough}
use Rattle.serializer.specs.Lists.{HasRoom}
use Rattle.serializer.specs.Whole.{full_blocks_of}
use Rattle.serializer.specs.Writer.{least_after_of, listing}
use Rattle.serializer.proofs.block.BlockPlaced.{block_of-length}
use Rattle.serializer.proofs.list.Blocks.{least-before}
use Rattle.serializer.proofs.Laws.BlockPlaces.{entries_fit, full-skips, rises-behind}
use Rattle.serializer.proofs.Laws.WholeList.{whole-list-writes}

-- ---- a full block

abbrev block_most : IndexRecordOption → ℕ
block_most Basic = 496
block_most WithFreqs = 1008

docs-width : (least : ℕ) (ds : List ℕ) → rising least ds ≡ true → width (doc_values least ds) ≤ 31
unfolding doc_values
docs-width least ds r = width-least (gaps true least ds) 31 (AllBelow-le {k = 2 ^ 31} (gaps true least ds) (omega arith) (gaps-below true least ds r))

freqs-width : (fs : List ℕ) → width (freq_values Basic fs) ≡ 0
unfolding freq_values only_if has_freq_of width bits_f largest
freqs-width fs = refl

block_most_is : (option : IndexRecordOption) (least : ℕ) (ds fs : List ℕ) → rising least ds ≡ true → length (block_of option least ds fs) ≤ block_most option
block_most_is Basic least ds fs r = omega (arith, block_of-length Basic least ds fs, docs-width least ds r, freqs-width fs)
block_most_is WithFreqs least ds fs r = omega (arith, block_of-length WithFreqs least ds fs, docs-width least ds r, width-le (freq_values WithFreqs fs))

blocks-most : (option : IndexRecordOption) (n least : ℕ) (ds fs : List ℕ) → rising least ds ≡ true
    → length (blocks_of option n least ds fs).postings ≤ n * block_most option
blocks-most option zero least ds fs r = rw blocks_of-zero (omega arith)
blocks-most option (suc n) least ds fs r =
    let front = block_most_is option least (take 128 ds) (take 128 fs) (rising-take least 128 ds r) in
    let later = blocks-most option n (last_of 0 (take 128 ds) + 1) (drop 128 ds) (drop 128 fs) (rising-drop least 128 ds r (omega arith)) in
    rw (blocks_of-suc, length-append, suc-mul) (omega arith)

-- ---- a tail

below-drop : (m n : ℕ) (l : List ℕ) → AllBelow m l → AllBelow m (drop n l)
below-drop m zero l a = a
below-drop m (suc n) [] a = tt
below-drop m (suc n) (x ∷ l) a = below-drop m n l a.1

tail-docs : (least : ℕ) (ds : List ℕ) → rising least ds ≡ true → length (vints (gaps false least ds)) ≤ 5 * length ds
tail-docs least ds r =
    let small = AllBelow-le {k = 2 ^ 32} (gaps false least ds) (omega arith) (gaps-below false least ds r) in
    omega (arith, vints-length-le (gaps false least ds) small, length-gaps false least ds)

tail-most : (option : IndexRecordOption) (least : ℕ) (ds fs : List ℕ) → rising least ds ≡ true → length ds ≡ length fs → AllBelow (2 ^ 32) fs
    → length (tail_of_of option (least - 1) ds fs) ≤ output_enough option (length ds)
unfolding only_if has_freq_of output_enough
tail-most Basic least ds fs r same small = rw (tail_of_of-is, length-append) (omega (arith, tail-docs least ds r))
tail-most WithFreqs least ds fs r same small = rw (tail_of_of-is, length-append) (omega (arith, tail-docs least ds r, vints-length-le fs small))

-- ---- an image

headed-most : (n : ℕ) (p : Parts) → length p.skips < 2 ^ 64
    → length (headed n p) ≤ min n 1 * 10 + length p.skips + length p.postings
headed-most zero p small = rw headed-zero (omega arith)
headed-most (suc n) p small = rw (headed-suc, length-append, length-append) (omega (arith, vint-length-le 10 (length p.skips) (omega arith) (omega arith)))

-- its parts together
sum-most : (option : IndexRecordOption) (n : ℕ) → min (n / 128) 1 * 10 + entry_size_of option * (n / 128) + (n / 128 * block_most option + output_enough option (n % 128))
    ≤ output_enough option n
unfolding entry_size_of output_enough
sum-most Basic n = omega arith
sum-most WithFreqs n = omega arith

module _ (option : IndexRecordOption) (ds fs : List ℕ) (a : Accepted option 0 ds fs) (small : AllBelow (2 ^ 32) fs) where
  abbrev full : ℕ
  full = length ds / 128

  abbrev at : ℕ
  at = 128 * full

  skips-most : length (blocks_of option full 0 ds fs).skips ≡ entry_size_of option * full
  unfolding full_blocks_of
  skips-most = full-skips option ds fs

  entries-few : entry_size_of option * full < 2 ^ 64
  unfolding entry_size_of
  entries-few = entries_fit option full (omega (arith, accepted-length a))

  behind-most : length (tail_of_of option (last_of 0 (take at ds)) (drop at ds) (drop at fs)) ≤ output_enough option (length ds % 128)
  behind-most =
      let left : length (drop at ds) ≡ length ds % 128 = omega (arith, length-drop at ds) in
      let same : length (drop at ds) ≡ length (drop at fs) = omega (arith, length-drop at ds, length-drop at fs, a.as_many) in
      rw (left, least-before (take at ds)) at (tail-most option (least_after_of 0 (take at ds)) (drop at ds) (drop at fs) (rises-behind 0 at ds a.rises) same (below-drop (2 ^ 32) at fs small))

  pub image-most : length (image option ds fs) ≤ output_enough option (length ds)
  image-most =
      let blocks = blocks_of option full 0 ds fs in
      let tail = tail_of_of option (last_of 0 (take at ds)) (drop at ds) (drop at fs) in
      let most = headed-most full (record { skips = blocks.skips; postings = blocks.postings ++ tail }) (rw skips-most entries-few) in
      rw (image-blocks option ds fs)
      (omega (arith, most, skips-most, length-append blocks.postings tail, blocks-most option full 0 ds fs a.rises, behind-most, sum-most option (length ds)))

-- ---- the buffers

skips-enough : (option : IndexRecordOption) (n : ℕ) → entry_size_of option * (n / 128) ≡ skips_enough option n
unfolding entry_size_of skips_enough
skips-enough Basic n = refl
skips-enough WithFreqs n = refl

postings-enough : (option : IndexRecordOption) (n : ℕ) → n / 128 * block_most option ≡ postings_enough option n
unfolding postings_enough
postings-enough Basic n = omega arith
postings-enough WithFreqs n = omega arith

output_below : (option : IndexRecordOption) (n : ℕ) → n ≤ TERMINATED → output_enough option n < 2 ^ 63
unfolding output_enough
output_below Basic n h = omega arith
output_below WithFreqs n h = omega arith

module _ (mode : ℕ) (recording : Bool) (ds fs : List ℕ) (small : AllBelow (2 ^ 32) fs) {bytes : List ℕ} (w : written mode recording ds fs ≡ Ok bytes) where
  abbrev option : IndexRecordOption
  option = kept_in mode recording

  -- they are enough: question 15 is answered yes
  pub enough-room : {skips postings output : List ℕ} → Enough option (length ds) skips postings output
      → HasRoom mode recording ds fs skips postings output bytes
  enough-room e =
      let known = written-ok mode recording ds fs small w in
      let a = known.accepted in
      record {
        skips_fit = rw (skips-most option ds fs a small, skips-enough option (length ds)) e.skips_long;
        postings_fit =
            le_trans (blocks-most option (length ds / 128) 0 ds fs a.rises)
            (rw (postings-enough option (length ds)) e.postings_long);
        output_fit = rw known.bytes (le_trans (image-most option ds fs a small) e.output_long);
      }

  -- .. and the list is written
  pub enough_listed : {skips postings output : List ℕ} → Enough option (length ds) skips postings output
      → listing mode recording ds fs skips postings output ≡ Ok bytes
  enough_listed e = (whole-list-writes mode recording ds fs _ _ _).1 (w, enough-room e)

  -- an image's length is never taken for a refusal
  pub image-short : length bytes < 2 ^ 63
  image-short =
      let known = written-ok mode recording ds fs small w in
      let a = known.accepted in
      rw known.bytes (omega (arith, image-most option ds fs a small, output_below option (length ds) (accepted-length a)))
