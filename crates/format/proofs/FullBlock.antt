-- A full block reads back, with its entry, whatever follows them. Gaps are below 2 ^ 31 and kept frequencies below 2 ^ 32, so
-- their widths are in the limits of an entry and hold all values; the values unpack, and stand for the ids and frequencies that
-- they were made of. What follows begins behind the entry's bytes, and behind 16 bytes for each bit of the two widths.
-- Assumes nothing.
use Rattle.std.specs.Prelude.{Ok}
use mathlib.Core.Bool.{Bool, true, false, ◌&&◌ as and, and-eq-true_iff, false≢true}
use mathlib.Core.List.{List, ◌++◌}
use mathlib.Core.Path.{◌≡◌, refl, sym, ap, ◌∙◌}
use Prim.Native.Nat.{ℕ, suc, ◌+◌, ◌*◌, ◌≤◌, ◌<◌, ◌^◌}
use native.Mathlib.Nat.{mul-add}
use native.Mathlib.Omega.{arith}
use borrow.Author.Tests.{le-leb, lt-ltb, eq-eqb}
use lib.ListN.{length, drop, length-append}
use lib.Seq.{drop_at, drop-drop}
use Rattle.format.specs.declared.IndexRecordOption.{IndexRecordOption}
use Rattle.format.specs.declared.BlockInfo.{BlockInfo}
use Rattle.format.specs.Basics.{ask, and_then, last_of, TERMINATED, AllBelow}
use Rattle.format.specs.Bitpacking.{pack, unpack, width}
use Rattle.format.specs.Values.{reduced, restored}
use Rattle.format.specs.SkipEntry.{has_freq_of, entry_size_of, read_entry, block_size_of, entry_fits_of}
use Rattle.format.specs.Written.{only_if, doc_values, freq_values, info_of, Parts}
use Rattle.format.specs.Reading.{Block, full_docs, full_freqs, before, entry_block, read_from}
use Rattle.format.specs.ReadsBack.{read_freqs}
use Rattle.format.specs.Accepted.{Accepted}
use Rattle.format.proofs.Lists.{AllBelow-le}
use Rattle.format.proofs.Bitpacking.{pack-length, pack-reads-back, width_fits, width-le, width-least}
use Rattle.format.proofs.Values.{length-gaps, length-reduced, gaps-read-back, gaps-below, freqs-read-back}
use Rattle.format.proofs.Values.{reduced-below, countable-below, rising-last}
use Rattle.format.proofs.SkipEntry.{entry_length, entry-reads-back}
use Rattle.format.proofs.ImageParts.{with_block, with_block-skips, with_block-postings}
use Rattle.format.proofs.Opened.{walk_by, full_docs-is, full_freqs-unread, full_freqs-read}
use Rattle.format.proofs.Opened.{full_block-is, entry_block-is, read_from-suc}

-- values below 2 ^ 32 unpack at their width
unpacked : (vs rest : List ℕ) → length vs ≡ 128 → AllBelow (2 ^ 32) vs → unpack (width vs) (pack (width vs) vs ++ rest) ≡ vs
unpacked vs rest l small = pack-reads-back (width vs) vs rest l (width_fits vs small)

no-width : (keeps : Bool) (vs : List ℕ) → keeps ≡ false → width (only_if keeps vs) ≡ 0
unfolding only_if width
no-width true vs e = absurd (false≢true (sym e))
no-width false vs e = refl

module _ (option : IndexRecordOption) (least : ℕ) (ds fs : List ℕ) (a : Accepted option least ds fs)
    (full : length ds ≡ 128) (rest : Parts) where
  abbrev it : Parts
  it = with_block option least ds fs rest

  abbrev dv : List ℕ
  dv = doc_values least ds

  abbrev fv : List ℕ
  fv = freq_values option fs

  abbrev entry : BlockInfo
  entry = info_of option least ds fs

  abbrev block : Bool → Block
  block wanted = record { docs = ds; freqs = read_freqs (and (has_freq_of option) wanted) fs; last = last_of 0 ds }

  last_fits : (least ≤ last_of 0 ds) × (last_of 0 ds < TERMINATED)
  last_fits = rising-last least ds a.rises (omega arith)

  gaps-fit : (m : ℕ) → TERMINATED ≤ m → AllBelow m dv
  unfolding doc_values
  gaps-fit m h = AllBelow-le dv h (gaps-below true least ds a.rises)

  doc_width : width dv < 32
  doc_width = omega (arith, width-least dv 31 (gaps-fit (2 ^ 31) (omega arith)))

  entry_read : read_entry option it.skips ≡ entry
  unfolding info_of freq_values
  entry_read =
      ap (read_entry option) (with_block-skips option least ds fs rest)
      ∙ entry-reads-back option entry _ (omega (arith, last_fits)) doc_width (no-width (has_freq_of option) _)

  skips-behind : drop (entry_size_of option) it.skips ≡ rest.skips
  skips-behind = simp (with_block-skips, drop_at, entry_length)

  freqs-behind : drop (16 * width dv) it.postings ≡ pack (width fv) fv ++ rest.postings
  freqs-behind = simp (with_block-postings, drop_at, pack-length)

  postings-behind : drop (block_size_of entry) it.postings ≡ rest.postings
  unfolding block_size_of info_of
  postings-behind = rw (mul-add, ← drop-drop, freqs-behind) (simp (drop_at, pack-length))

  room : block_size_of entry ≤ length it.postings
  unfolding block_size_of info_of
  room = rw with_block-postings (simp (length-append, pack-length) (omega arith))

  fits : entry_fits_of least (length it.postings) entry ≡ true
  unfolding entry_fits_of info_of
  fits =
      let l = last_fits in
      rw (le-leb (width fv) 32 (width-le fv), le-leb least _ l.0, lt-ltb _ TERMINATED l.1, le-leb _ _ room)

  docs-read : full_docs least entry it.postings ≡ ds
  unfolding info_of doc_values
  docs-read =
      let long : length dv ≡ 128 = length-gaps true least ds ∙ full in
      let small : AllBelow (2 ^ 32) dv = gaps-fit (2 ^ 32) (omega arith) in
      rw (full_docs-is, with_block-postings, unpacked dv) (gaps-read-back true least ds a.rises)

  kept_read : has_freq_of option ≡ true → restored true (unpack (width fv) (drop (16 * width dv) it.postings)) ≡ fs
  unfolding only_if freq_values
  kept_read k =
      let long : length (reduced true fs) ≡ 128 = length-reduced true fs ∙ sym a.as_many ∙ full in
      let small : AllBelow (2 ^ 32) (reduced true fs) = reduced-below _ true fs (countable-below fs (a.counts k)) in
      rw (freqs-behind, k, unpacked (reduced true fs)) (freqs-read-back true fs (a.counts k))

  freqs-read : (read : Bool) → (read ≡ true → has_freq_of option ≡ true)
      → full_freqs read entry it.postings ≡ Ok (read_freqs read fs)
  unfolding read_freqs ask info_of
  freqs-read false h = full_freqs-unread entry it.postings ∙ rw (← a.as_many, full)
  freqs-read true h = rw (full_freqs-read, kept_read (h refl), a.counts (h refl))

  block_read : (wanted : Bool) → entry_block option wanted least it.skips it.postings ≡ Ok (block wanted)
  unfolding ask and_then info_of
  block_read wanted =
      let freqs = freqs-read (and (has_freq_of option) wanted) (λ k. ((and-eq-true_iff _ _).0 k).0) in
      rw (entry_block-is, entry_read, fits, full_block-is, docs-read, freqs, a.rises, eq-eqb (last_of 0 ds) _ refl)

  pub block-reads-back : (wanted alone : Bool) (tail n : ℕ)
      → read_from (walk_by option wanted alone tail) (suc n) least it.skips it.postings
      ≡ (before (Ok (block wanted)) λ _. read_from (walk_by option wanted alone tail) n (last_of 0 ds + 1) rest.skips rest.postings)
  unfolding info_of
  block-reads-back wanted alone tail n = rw (read_from-suc, block_read, entry_read, skips-behind, postings-behind)
