-- The layout of an image is the parts that it was put together of. Where there is a full block the skip length reads back, and
-- whether it is 8 for each or 5 tells that frequencies were kept or not. Where there is none the recorded mode stands.
-- Assumes nothing.
use Rattle.std.specs.Prelude.{Ok, Some}
use mathlib.Core.Bool.{Bool, true, false}
use mathlib.Core.List.{List, ◌++◌}
use mathlib.Core.Path.{◌≡◌, refl}
use Prim.Native.Nat.{ℕ, zero, suc, ◌+◌, ◌-◌, ◌*◌, ◌≤◌, ◌<◌, ◌^◌}
use native.Mathlib.Nat.{add-sub_cancel_left, le_refl, mul-zero, mul-le-mul_right}
use native.Mathlib.Omega.{arith}
use borrow.Author.Tests.{le-leb, lt-leb, eq-eqb}
use lib.Dec.{leb, eqb-suc-zero}
use lib.ListN.{length, take, drop, length-append}
use lib.Seq.{take-append_seam, drop-append_seam, drop-append-add}
use Rattle.format.specs.declared.IndexRecordOption.{IndexRecordOption}
use Rattle.format.specs.Basics.{ask, choose, last_of, TERMINATED}
use Rattle.format.specs.Vint.{vint}
use Rattle.format.specs.SkipEntry.{entry_size_of}
use Rattle.format.specs.Written.{Parts}
use Rattle.format.specs.Accepted.{kept_in}
use Rattle.format.specs.declared.Term.{Term}
use Rattle.format.specs.Layout.{full_blocks_of, split, layout, skip_bytes_of, posting_bytes_of}
use Rattle.format.specs.declared.Layout.{Layout}
use Rattle.format.proofs.Accepted.{known_mode_lem}
use Rattle.format.proofs.Vints.{skip-length-reads-back}
use Rattle.format.proofs.SkipEntry.{size-most, entry_length}
use Rattle.format.proofs.ImageParts.{parts, headed, with_block-skips, parts-zero, parts-suc, headed-suc}
use Rattle.format.proofs.Opened.{sized-is, split-number, layout_is}

-- an entry for each full block
pub skips-length : (option : IndexRecordOption) (n least : ℕ) (ds fs : List ℕ)
    → length (parts option n least ds fs).skips ≡ entry_size_of option * n
skips-length option zero least ds fs = rw (parts-zero, mul-zero)
skips-length option (suc n) least ds fs =
    let later = skips-length option n (last_of 0 (take 128 ds) + 1) (drop 128 ds) (drop 128 fs) in
    rw (parts-suc, with_block-skips, length-append, entry_length, later) (omega arith)

-- the entries of n + 1 blocks take the 8 bytes for each just if frequencies were kept
kept_again : (mode : ℕ) (recording : Bool) (n : ℕ) → mode ≤ 1
    → kept_in mode (leb (8 * suc n) (entry_size_of (kept_in mode recording) * suc n)) ≡ kept_in mode recording
unfolding kept_in entry_size_of
kept_again zero recording n h = refl
kept_again (suc zero) false n h = rw (lt-leb (8 * suc n) (5 * suc n) (omega arith))
kept_again (suc zero) true n h = rw (le-leb (8 * suc n) (8 * suc n) (le_refl _))
kept_again (suc (suc mode)) recording n h = absurd (omega arith)

-- without a full block the whole image is posting bytes
pub postings-alone : (option : IndexRecordOption) (bs : List ℕ) → posting_bytes_of (record { option = option; skips = 0; postings = 0 }) bs ≡ bs
unfolding posting_bytes_of
postings-alone option bs = refl

module _ (t : Term) (mode_known : t.mode ≤ 1) (requested-known : t.requested ≤ 2) (few : t.count ≤ TERMINATED) where
  pub layout-alone : (bs : List ℕ) → full_blocks_of t ≡ 0
      → layout t bs ≡ Ok (record { option = kept_in t.mode true; skips = 0; postings = 0 })
  unfolding ask choose
  layout-alone bs e = rw (layout_is, known_mode_lem _ mode_known, le-leb _ _ requested-known, le-leb _ _ few, e)

  module _ (recording : Bool) (n : ℕ) (p : Parts) (e : full_blocks_of t ≡ suc n)
      (l : length p.skips ≡ entry_size_of (kept_in t.mode recording) * suc n) where
    -- what is found behind a skip length of so many bytes
    abbrev found : ℕ → Layout
    found used = record { option = kept_in t.mode recording; skips = used; postings = used + length p.skips }

    skips-below : length p.skips < 2 ^ 64
    unfolding full_blocks_of
    skips-below = omega (arith, mul-le-mul_right (suc n) (size-most (kept_in t.mode recording)))

    -- behind the bytes of the skip length
    split_parts : (front : List ℕ)
        → split t (front ++ (p.skips ++ p.postings)) (Some (length p.skips, length front)) ≡ Ok (found (length front))
    unfolding ask
    split_parts front =
        let bs : List ℕ = front ++ (p.skips ++ p.postings) in
        let room : length p.skips ≤ length bs - length front = simp length-append (omega arith) in
        rw (split-number, le-leb _ _ room, sized-is)
        (rw (e, l, kept_again t.mode recording n, eq-eqb (entry_size_of (kept_in t.mode recording) * suc n) _ refl))

    pub layout-headed : layout t (headed (suc n) p) ≡ Ok (found (length (vint (length p.skips))))
    unfolding ask choose
    layout-headed =
        rw (layout_is, known_mode_lem _ mode_known, le-leb _ _ requested-known, le-leb _ _ few, e, eqb-suc-zero)
        (rw (headed-suc, skip-length-reads-back _ _ skips-below, split_parts))

    -- .. are the parts
    pub skips-found : skip_bytes_of (found (length (vint (length p.skips)))) (headed (suc n) p) ≡ p.skips
    unfolding skip_bytes_of
    skips-found = rw (headed-suc, drop-append_seam, add-sub_cancel_left, take-append_seam)

    pub postings-found : posting_bytes_of (found (length (vint (length p.skips)))) (headed (suc n) p) ≡ p.postings
    unfolding posting_bytes_of
    postings-found = rw (headed-suc, drop-append-add, drop-append_seam)
