-- Laws of a block and its entry in their areas: a part that is lent from a place on and put back with bytes at its front is the
-- whole with the bytes at that place; packed values that fit are put whole, and one part behind the other they are both put.
-- Assumes nothing.
use Rattle.format.specs.declared.refusal.Refusal.TheVariants.{NoRoom}
use Rattle.std.specs.Prelude.{◌≡◌, ℕ, suc, ◌+◌, ◌-◌, ◌*◌, ◌^◌, ◌<◌, ◌≤◌, Bool, true, false, ◌&&◌ as and, leb, List, [], ◌∷◌, ◌++◌, length, get_or, take, drop, Ok, Err}
use mathlib.Core.Path.{refl, ap, ap₂, ◌∙◌}
use mathlib.Core.Bool.{and-eq-true_iff}
use mathlib.Core.List.{append-nil}
use Prim.Native.Nat.{suc-le-suc}
use native.Mathlib.Nat.{zero-add}
use native.Mathlib.Omega.{arith}
use lib.ListN.{length-append, length-drop, drop_of_length-le}
use lib.Seq.{take_all, drop-drop}
use borrow.Author.Tests.{le-leb, lt-ltb, leb-true}
use Rattle.format.specs.declared.BlockInfo.{BlockInfo}
use Rattle.format.specs.declared.IndexRecordOption.{IndexRecordOption}
use Rattle.format.specs.declared.IndexRecordOption.TheVariants.{Basic, WithFreqs}
use Rattle.format.specs.Basics.{choose, tabulate, tabulate_from, last_of, fits_at, put_at}
use Rattle.format.specs.Bitpacking.{pack, bits_f, largest, width}
use Rattle.format.specs.Values.{gaps, reduced, rising}
use Rattle.format.specs.Written.{only_if, doc_values, freq_values, info_of, entry_of, block_of}
use Rattle.format.specs.SkipEntry.{has_freq_of, entry_size_of, block_size_of, write_entry_of}
use Rattle.bitpacking.specs.Packed.{room_for, Packed}
use Rattle.skip.specs.Entry.{entry_put}
use Rattle.serializer.specs.declared.block.Places.{Places}
use Rattle.serializer.specs.Pieces.{BlockFits, BlockPut, BlockWritten, block_fits}
use Rattle.format.proofs.Area.{put_at-append}
use Rattle.format.proofs.Bitpacking.{pack-length, width-le, width-least}
use Rattle.format.proofs.Lists.{AllBelow-le}
use Rattle.format.proofs.Values.{gaps-below}
use Rattle.format.proofs.SkipEntry.{entry_length}

-- the last element is the one in the last place
pub last-at : (ds : List ℕ) → last_of 0 ds ≡ get_or ds (length ds - 1) 0
unfolding last_of
last-at [] = refl
last-at (d ∷ []) = refl
last-at (d ∷ (e ∷ ds)) =
    let place : suc (suc (length ds)) - 1 ≡ suc (length ds) = omega arith in
    let before : suc (length ds) - 1 ≡ length ds = omega arith in
    rw (place, ← before) (last-at (e ∷ ds))

module _ (p : ℕ) (area : List ℕ) (h : p ≤ length area) where
  -- the part from place p on is all that lies behind p
  pub part_is : take (length area - p) (drop p area) ≡ drop p area
  part_is = take_all (length area - p) (drop p area) (omega (arith, length-drop p area))

  -- .. and nothing lies behind the part
  pub part_rest : drop (length area - p) (drop p area) ≡ []
  part_rest = drop_of_length-le (drop p area) {i = length area - p} (omega (arith, length-drop p area))

-- the part comes back with bytes at its front
pub put_at_part : (p : ℕ) (bs area : List ℕ) → p + length bs ≤ length area
    → take p area ++ (put_at 0 bs (take (length area - p) (drop p area)) ++ drop (length area - p) (drop p area)) ≡ put_at p bs area
unfolding put_at choose fits_at
put_at_part p bs area h =
    let room : 0 + length bs ≤ length (drop p area) = omega (arith, length-drop p area) in
    rw (part_is p area (omega arith), part_rest p area (omega arith), append-nil, le-leb _ _ h, le-leb _ _ room, zero-add, drop-drop)

-- .. and with packed values
pub packed_part : (p w : ℕ) (vs area after : List ℕ) (done : Bool) → w ≤ 32 → p + 16 * w ≤ length area
    → Packed w vs (take (length area - p) (drop p area)) after done
    → take p area ++ (after ++ drop (length area - p) (drop p area)) ≡ put_at p (pack w vs) area
unfolding room_for choose
packed_part p w vs area after done narrow h packed =
    let part = part_is p area (omega arith) in
    let room : 16 * w ≤ length (take (length area - p) (drop p area)) = rw part (omega (arith, length-drop p area)) in
    rw (packed.bytes, le-leb _ _ narrow, le-leb _ _ room) (put_at_part p (pack w vs) area (rw pack-length h))

-- the entry of a block whose document width has five bits
pub entry-put : (option : IndexRecordOption) (info : BlockInfo) (p : ℕ) (area : List ℕ) → info.doc_width < 32
    → entry_put option info p area ≡ put_at p (write_entry_of option info) area
unfolding entry_put choose
entry-put option info p area narrow = rw (lt-ltb info.doc_width 32 narrow)

-- a block's values and its entry, put one behind the other
pub block-put : (option : IndexRecordOption) (info : BlockInfo) (at : Places) (dv fv skips postings : List ℕ) {skips' middle postings' : List ℕ} {n a b : ℕ}
    → BlockFits option info at skips postings → n ≡ entry_size_of option → a ≡ 16 * info.doc_width → b ≡ 16 * info.freq_width
    → skips' ≡ entry_put option info at.skips skips → middle ≡ put_at at.postings (pack info.doc_width dv) postings
    → postings' ≡ put_at (at.postings + a) (pack info.freq_width fv) middle
    → BlockPut (write_entry_of option info) (pack info.doc_width dv ++ pack info.freq_width fv) at skips postings skips' postings'
    (record { skips = at.skips + n; postings = at.postings + a + b })
unfolding block_size_of
block-put option info at dv fv skips postings fits n-is a-is b-is entry docs freqs =
    let dw : ℕ = info.doc_width in
    let fw : ℕ = info.freq_width in
    let docs-length = pack-length dw dv in
    let freqs-length = pack-length fw fv in
    let both = length-append (pack dw dv) (pack fw fv) in
    let room : at.postings + length (pack dw dv ++ pack fw fv) ≤ length postings = omega (arith, fits.postings_room) in
    record {
      placed = ap₂ (λ (p q : ℕ). record { skips = p; postings = q }) (rw (n-is, entry_length)) (omega arith);
      skips_after = entry ∙ entry-put option info at.skips skips fits.doc_width;
      postings_after = freqs ∙ rw (docs, a-is, ← docs-length) (put_at-append at.postings (pack dw dv) (pack fw fv) postings room);
    }

-- ---- a block's own values

-- frequencies that aren't kept have no bytes
freqs-pack : (option : IndexRecordOption) (fs : List ℕ)
    → pack (width (freq_values option fs)) (reduced true fs) ≡ pack (width (freq_values option fs)) (freq_values option fs)
unfolding freq_values only_if has_freq_of width bits_f largest choose pack tabulate tabulate_from
freqs-pack Basic fs = refl
freqs-pack WithFreqs fs = refl

module _ (option : IndexRecordOption) (least : ℕ) (ds fs : List ℕ) where
  pub entry_of-length : length (entry_of option least ds fs) ≡ entry_size_of option
  unfolding entry_of
  entry_of-length = entry_length option (info_of option least ds fs)

  pub block_of-length : length (block_of option least ds fs) ≡ 16 * (width (doc_values least ds) + width (freq_values option fs))
  unfolding block_of
  block_of-length =
      let dv = doc_values least ds in
      let fv = freq_values option fs in
      omega (arith, length-append (pack (width dv) dv) (pack (width fv) fv), pack-length (width dv) dv, pack-length (width fv) fv)

  -- where one of them doesn't fit, nothing is written
  pub block_refused : (at : Places) (skips postings : List ℕ) → block_fits option least ds fs at skips postings ≡ false
      → BlockWritten option least ds fs at skips postings skips postings (Err NoRoom)
  unfolding choose
  block_refused at skips postings short = record { placed = rw short; skips_after = rw short; postings_after = rw short }

  -- values and widths as code has them
  pub record Valued (dv fv : List ℕ) (info : BlockInfo) : Type 0 where
    pub docs : dv ≡ doc_values least ds
    pub freqs : fv ≡ reduced true fs
    pub info_is : info ≡ info_of option least ds fs

  pub values_are : {dv fv : List ℕ} {last dw fw : ℕ} → dv ≡ doc_values least ds → fv ≡ reduced true fs
      → last ≡ last_of 0 ds → dw ≡ width dv → fw ≡ width (only_if (has_freq_of option) fv)
      → Valued dv fv (record { last_doc = last; doc_width = dw; strict = true; freq_width = fw })
  unfolding info_of freq_values
  values_are docs_are freqs_are last_is dw-is fw-is =
      record { docs = docs_are; freqs = freqs_are; info_is = rw (last_is, dw-is, docs_are, fw-is, freqs_are) }

  module _ {dv fv : List ℕ} {info : BlockInfo} (v : Valued dv fv info) where
    -- gaps lie below 2 ^ 31
    valued_narrow : rising least ds ≡ true → (info.doc_width < 32) × (info.freq_width ≤ 32)
    unfolding doc_values info_of
    valued_narrow r =
        let below = AllBelow-le {k = 2 ^ 31} (gaps true least ds) (omega arith) (gaps-below true least ds r) in
        rw v.info_is (suc-le-suc (width-least (gaps true least ds) 31 below), width-le (freq_values option fs))

    valued-block : pack info.doc_width dv ++ pack info.freq_width fv ≡ block_of option least ds fs
    unfolding block_of info_of
    valued-block = rw (v.docs, v.freqs, v.info_is, freqs-pack option fs)

    module _ (at : Places) (skips postings : List ℕ) where
      -- whether both fit is told from the option and the widths
      pub valued_fits : block_fits option least ds fs at skips postings
          ≡ and (leb (at.skips + entry_size_of option) (length skips)) (leb (at.postings + block_size_of info) (length postings))
      unfolding block_fits block_size_of info_of
      valued_fits = rw (entry_of-length, block_of-length, v.info_is)

      pub valued-room : rising least ds ≡ true
          → and (leb (at.skips + entry_size_of option) (length skips)) (leb (at.postings + block_size_of info) (length postings)) ≡ true
          → BlockFits option info at skips postings
      valued-room r room =
          let narrow = valued_narrow r in
          let both = (and-eq-true_iff (leb (at.skips + entry_size_of option) (length skips)) (leb (at.postings + block_size_of info) (length postings))).0 room in
          record { doc_width = narrow.0; freq_width = narrow.1; skips_room = leb-true _ _ both.0; postings_room = leb-true _ _ both.1 }

      pub block_written : {skips' postings' : List ℕ} {r : Places} → block_fits option least ds fs at skips postings ≡ true
          → BlockPut (write_entry_of option info) (pack info.doc_width dv ++ pack info.freq_width fv) at skips postings skips' postings' r
          → BlockWritten option least ds fs at skips postings skips' postings' (Ok r)
      unfolding choose entry_of
      block_written room put =
          let own = rw (valued-block, v.info_is) at put in
          record { placed = rw room (ap Ok own.placed); skips_after = rw room own.skips_after; postings_after = rw room own.postings_after }
