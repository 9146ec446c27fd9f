-- An image block by block. `parts` takes a full block off the front at each turn and ends on the tail, so that a proof about an image
-- is one induction on its full blocks; the image's definition has all blocks first and then the tail. They are the same bytes: the
-- tail's differences begin at the last id before it, found behind the last block or at the end of all blocks.
-- Assumes nothing.
use mathlib.Core.Bool.{false}
use mathlib.Core.List.{List, [], ◌∷◌, ◌++◌, append_assoc}
use mathlib.Core.Path.{◌≡◌, refl}
use Prim.Native.Nat.{ℕ, zero, suc, ◌+◌, ◌-◌, ◌*◌, ◌/◌, ◌≤◌, ◌<◌}
use native.Mathlib.Nat.{not-suc-le-zero}
use native.Mathlib.Omega.{arith}
use lib.ListN.{length, take, drop, length-take, length-drop}
use lib.Seq.{take-add, drop-drop}
use Rattle.format.specs.declared.IndexRecordOption.{IndexRecordOption}
use Rattle.format.specs.Basics.{last_of}
use Rattle.format.specs.Vint.{vint, vints}
use Rattle.format.specs.Bitpacking.{pack, width}
use Rattle.format.specs.Values.{gaps, reduction, origin}
use Rattle.format.specs.SkipEntry.{has_freq_of, write_entry_of}
use Rattle.format.specs.Written.{only_if, doc_values, freq_values, info_of, entry_of, block_of, Parts, blocks_of, head_of, tail_of_of, image_with, image_from, image}

-- a full block in front of what follows it
unfoldable pub with_block : IndexRecordOption → ℕ → List ℕ → List ℕ → Parts → Parts
with_block option least ds fs rest =
    record { skips = entry_of option least ds fs ++ rest.skips; postings = block_of option least ds fs ++ rest.postings }

-- n full blocks and the tail
unfoldable pub parts : IndexRecordOption → ℕ → ℕ → List ℕ → List ℕ → Parts
parts option zero least ds fs = record { skips = []; postings = tail_of_of option (least - 1) ds fs }
parts option (suc n) least ds fs =
    with_block option least (take 128 ds) (take 128 fs)
    (parts option n (last_of 0 (take 128 ds) + 1) (drop 128 ds) (drop 128 fs))

-- .. with the skip length
unfoldable pub headed : ℕ → Parts → List ℕ
headed n p = head_of n p.skips ++ p.postings

-- ---- opened by one turn

pub with_block-skips : (option : IndexRecordOption) (least : ℕ) (ds fs : List ℕ) (rest : Parts)
    → (with_block option least ds fs rest).skips ≡ write_entry_of option (info_of option least ds fs) ++ rest.skips
unfolding with_block entry_of
with_block-skips option least ds fs rest = refl

pub with_block-postings : (option : IndexRecordOption) (least : ℕ) (ds fs : List ℕ) (rest : Parts)
    → (with_block option least ds fs rest).postings
    ≡ (let dv : List ℕ = doc_values least ds in
    let fv : List ℕ = freq_values option fs in
    pack (width dv) dv ++ (pack (width fv) fv ++ rest.postings))
unfolding with_block block_of
with_block-postings option least ds fs rest =
    let dv : List ℕ = doc_values least ds in
    let fv : List ℕ = freq_values option fs in
    append_assoc (pack (width dv) dv) (pack (width fv) fv) rest.postings

pub parts-tail : (option : IndexRecordOption) (least : ℕ) (ds fs : List ℕ)
    → parts option zero least ds fs ≡ record { skips = []; postings = tail_of_of option (least - 1) ds fs }
unfolding parts
parts-tail option least ds fs = refl

pub tail_of_of-is : (option : IndexRecordOption) (least : ℕ) (ds fs : List ℕ)
    → tail_of_of option (least - 1) ds fs ≡ vints (gaps false least ds) ++ only_if (has_freq_of option) (vints fs)
unfolding tail_of_of gaps reduction origin
tail_of_of-is option least ds fs = refl

pub parts-zero : (option : IndexRecordOption) (least : ℕ) (ds fs : List ℕ)
    → parts option zero least ds fs
    ≡ record { skips = []; postings = vints (gaps false least ds) ++ only_if (has_freq_of option) (vints fs) }
parts-zero option least ds fs = rw (parts-tail, tail_of_of-is)

pub parts-suc : (option : IndexRecordOption) (n least : ℕ) (ds fs : List ℕ)
    → parts option (suc n) least ds fs
    ≡ with_block option least (take 128 ds) (take 128 fs)
    (parts option n (last_of 0 (take 128 ds) + 1) (drop 128 ds) (drop 128 fs))
unfolding parts
parts-suc option n least ds fs = refl

pub parts-front : (option : IndexRecordOption) (n least : ℕ) (ds fs : List ℕ)
    → parts option (suc n) least ds fs
    ≡ (let rest : Parts = parts option n (last_of 0 (take 128 ds) + 1) (drop 128 ds) (drop 128 fs) in
    record {
      skips = entry_of option least (take 128 ds) (take 128 fs) ++ rest.skips;
      postings = block_of option least (take 128 ds) (take 128 fs) ++ rest.postings;
    })
unfolding parts with_block
parts-front option n least ds fs = refl

pub headed-zero : (p : Parts) → headed zero p ≡ p.postings
unfolding headed head_of
headed-zero p = refl

pub headed-suc : (n : ℕ) (p : Parts) → headed (suc n) p ≡ vint (length p.skips) ++ (p.skips ++ p.postings)
unfolding headed head_of
headed-suc n p = append_assoc (vint (length p.skips)) p.skips p.postings

pub blocks_of-zero : (option : IndexRecordOption) (least : ℕ) (ds fs : List ℕ)
    → blocks_of option zero least ds fs ≡ record { skips = []; postings = [] }
unfolding blocks_of
blocks_of-zero option least ds fs = refl

pub blocks_of-suc : (option : IndexRecordOption) (n least : ℕ) (ds fs : List ℕ)
    → blocks_of option (suc n) least ds fs
    ≡ (let rest : Parts = blocks_of option n (last_of 0 (take 128 ds) + 1) (drop 128 ds) (drop 128 fs) in
    record {
      skips = entry_of option least (take 128 ds) (take 128 fs) ++ rest.skips;
      postings = block_of option least (take 128 ds) (take 128 fs) ++ rest.postings;
    })
unfolding blocks_of
blocks_of-suc option n least ds fs = refl

image-whole : (option : IndexRecordOption) (ds fs : List ℕ)
    → image option ds fs
    ≡ (let n : ℕ = length ds / 128 in
    image_with n (blocks_of option n 0 ds fs).skips (blocks_of option n 0 ds fs).postings option (last_of 0 (take (128 * n) ds))
    (drop (128 * n) ds) (drop (128 * n) fs))
unfolding image image_from
image-whole option ds fs = refl

pub image_with-headed : (n : ℕ) (skips postings : List ℕ) (option : IndexRecordOption) (offset : ℕ) (ds fs : List ℕ)
    → image_with n skips postings option offset ds fs ≡ headed n (record { skips = skips; postings = postings ++ tail_of_of option offset ds fs })
unfolding image_with headed
image_with-headed n skips postings option offset ds fs = refl

pub image-blocks : (option : IndexRecordOption) (ds fs : List ℕ)
    → image option ds fs
    ≡ (let n : ℕ = length ds / 128 in
    headed n (record {
      skips = (blocks_of option n 0 ds fs).skips;
      postings = (blocks_of option n 0 ds fs).postings ++ tail_of_of option (last_of 0 (take (128 * n) ds)) (drop (128 * n) ds) (drop (128 * n) fs);
    }))
image-blocks option ds fs = rw (image-whole, image_with-headed)

-- ---- the last id before the tail

last-append : (z : ℕ) (a b : List ℕ) → last_of z (a ++ b) ≡ last_of (last_of z a) b
unfolding last_of
last-append z [] b = refl
last-append z (d ∷ a) b = last-append d a b

last_some : (y z : ℕ) (ds : List ℕ) → 0 < length ds → last_of y ds ≡ last_of z ds
unfolding last_of
last_some y z [] h = absurd (not-suc-le-zero h)
last_some y z (d ∷ ds) h = refl

-- behind a full block and what is taken of what follows it
next_last : (m z : ℕ) (ds : List ℕ) → 128 ≤ length ds
    → last_of (last_of 0 (take 128 ds) + 1 - 1) (take m (drop 128 ds)) ≡ last_of z (take (128 + m) ds)
next_last m z ds h =
    let same : last_of 0 (take 128 ds) + 1 - 1 ≡ last_of 0 (take 128 ds) = omega arith in
    rw (take-add, last-append, same, last_some 0 z (take 128 ds) (rw length-take (omega arith)))

-- ---- the same bytes

pub parts-skips : (option : IndexRecordOption) (n least : ℕ) (ds fs : List ℕ)
    → (parts option n least ds fs).skips ≡ (blocks_of option n least ds fs).skips
parts-skips option zero least ds fs = rw (parts-tail, blocks_of-zero)
parts-skips option (suc n) least ds fs =
    rw (parts-front, blocks_of-suc, parts-skips option n (last_of 0 (take 128 ds) + 1) (drop 128 ds) (drop 128 fs))

parts-postings : (option : IndexRecordOption) (n least : ℕ) (ds fs : List ℕ) → 128 * n ≤ length ds
    → (parts option n least ds fs).postings
    ≡ (blocks_of option n least ds fs).postings
    ++ tail_of_of option (last_of (least - 1) (take (128 * n) ds)) (drop (128 * n) ds) (drop (128 * n) fs)
unfolding last_of
parts-postings option zero least ds fs h = rw (parts-tail, blocks_of-zero)
parts-postings option (suc n) least ds fs h =
    let later = parts-postings option n (last_of 0 (take 128 ds) + 1) (drop 128 ds) (drop 128 fs) (rw length-drop (omega arith)) in
    let more : 128 * suc n ≡ 128 + 128 * n = omega arith in
    rw (
      parts-front,
      blocks_of-suc,
      later,
      more,
      ← drop-drop (128 * n) 128 ds,
      ← drop-drop (128 * n) 128 fs,
      next_last (128 * n) (least - 1) ds (omega arith),
      append_assoc,
    )

pub image-is : (option : IndexRecordOption) (ds fs : List ℕ)
    → image option ds fs ≡ headed (length ds / 128) (parts option (length ds / 128) 0 ds fs)
unfolding headed
image-is option ds fs =
    let n : ℕ = length ds / 128 in
    rw (image-blocks, parts-skips, parts-postings option n 0 ds fs (omega arith))
