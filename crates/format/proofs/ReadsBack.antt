-- A written list reads back as itself: a walk over its image gets yes to every question and reads its documents, and its
-- frequencies where they are kept and requested. Accepted ids rise, so that the image has a layout, which is its parts. Then it
-- goes block after block, by their number: the entry and the bytes of a full block read back, and what follows them is the image
-- of the documents that follow; at the end the tail reads back.
-- Assumes nothing.
use Rattle.std.specs.Prelude.{Ok}
use mathlib.Core.Bool.{Bool, true, ◌&&◌ as and}
use mathlib.Core.List.{List, [], ◌++◌, append-nil}
use mathlib.Core.Path.{◌≡◌, refl, ap, ◌∙◌}
use Prim.Native.Nat.{ℕ, zero, suc, ◌+◌, ◌*◌, ◌/◌, ◌%◌, ◌≤◌, ◌^◌}
use native.Mathlib.Omega.{arith}
use lib.Dec.{ltb}
use lib.ListN.{length, take, take-append-drop, length-take, length-drop}
use Rattle.format.specs.declared.IndexRecordOption.{IndexRecordOption}
use Rattle.format.specs.Basics.{AllBelow}
use Rattle.format.specs.SkipEntry.{has_freq_of, entry_size_of}
use Rattle.format.specs.Written.{Parts}
use Rattle.format.specs.Accepted.{kept_in, written, Accepted}
use Rattle.format.specs.declared.Term.{Term}
use Rattle.format.specs.Layout.{full_blocks_of, tail_length}
use Rattle.format.specs.Reading.{Block, Reading, nothing, before, read_from, reading, soundness, docs_of, freqs_of}
use Rattle.format.specs.ReadsBack.{read_freqs, ReadsBack}
use Rattle.format.proofs.ImageParts.{parts, headed, parts-zero, parts-suc, headed-zero, image-is}
use Rattle.format.proofs.Opened.{walk_by, read_from-zero, read_all-ok, reading-is, soundness-is}
use Rattle.format.proofs.Accepted.{accepted-take, accepted-drop, accepted-length, written-ok}
use Rattle.format.proofs.ReadFreqs.{read_freqs-append}
use Rattle.format.proofs.FullBlock.{block-reads-back}
use Rattle.format.proofs.Tail.{Finds, finds_own, finds_kept, tail-reads-back}
use Rattle.format.proofs.ImageLayout.{skips-length, layout-alone, layout-headed, postings-alone, skips-found, postings-found}

at-end : ReadsBack [] [] (nothing (Ok tt))
unfolding nothing docs_of freqs_of
at-end = record { sound = refl; docs = refl; freqs = refl }

in-front : {ds fs ds' fs' : List ℕ} (b : Block) (rest : Bool → Reading) → b.docs ++ ds' ≡ ds → b.freqs ++ fs' ≡ fs
    → ReadsBack ds' fs' (rest true) → ReadsBack ds fs (before (Ok b) rest)
unfolding before docs_of freqs_of
in-front b rest d f r =
    record { sound = r.sound; docs = ap (λ l. b.docs ++ l) r.docs ∙ d; freqs = ap (λ l. b.freqs ++ l) r.freqs ∙ f }

walk-tail : (option reader : IndexRecordOption) (wanted alone : Bool) (least : ℕ) (ds fs skips : List ℕ)
    → Accepted option least ds fs → Finds reader option alone (length ds) fs
    → ReadsBack ds (read_freqs (and (has_freq_of option) wanted) fs)
    (read_from (walk_by reader wanted alone (length ds)) zero least skips (parts option zero least ds fs).postings)
walk-tail option reader wanted alone least ds fs skips a finds =
    rw (read_from-zero, parts-zero, tail-reads-back option reader wanted alone least ds fs a finds)
    (in-front _ _ (append-nil ds) (append-nil _) at-end)

walk-blocks : (option : IndexRecordOption) (wanted alone : Bool) (tail n least : ℕ) (ds fs : List ℕ)
    → Accepted option least ds fs → length ds ≡ 128 * n + tail
    → ReadsBack ds (read_freqs (and (has_freq_of option) wanted) fs)
    (read_from (walk_by option wanted alone tail) n least (parts option n least ds fs).skips (parts option n least ds fs).postings)
walk-blocks option wanted alone tail zero least ds fs a e =
    let all : tail ≡ length ds = omega arith in
    rw all (walk-tail option option wanted alone least ds fs _ a (finds_own option alone ds fs a.as_many))
walk-blocks option wanted alone tail (suc n) least ds fs a e =
    let full : length (take 128 ds) ≡ 128 = rw length-take (omega arith) in
    let later = walk-blocks option wanted alone tail n _ _ _ (accepted-drop 128 (omega arith) a) (rw length-drop (omega arith)) in
    rw (parts-suc, block-reads-back option least _ _ (accepted-take 128 a) full _ wanted alone tail n)
    (in-front _ _ (take-append-drop 128 ds) (rw (← read_freqs-append, take-append-drop)) later)

module _ (mode requested : ℕ) (recording : Bool) (ds fs : List ℕ) (mode_known : mode ≤ 1) (requested-known : requested ≤ 2)
    (a : Accepted (kept_in mode recording) 0 ds fs) where
  abbrev option : IndexRecordOption
  option = kept_in mode recording

  abbrev term : Term
  term = record { mode = mode; requested = requested; count = length ds }

  walk-image : (n : ℕ) → full_blocks_of term ≡ n
      → ReadsBack ds (read_freqs (and (has_freq_of option) (ltb 0 requested)) fs) (reading term (headed n (parts option n 0 ds fs)))
  unfolding full_blocks_of tail_length
  walk-image zero e =
      let all : length ds % 128 ≡ length ds = omega arith in
      rw (reading-is, headed-zero, layout-alone term mode_known requested-known (accepted-length a) _ e, read_all-ok, e, all, postings-alone)
      (walk-tail option (kept_in mode true) (ltb 0 requested) true 0 ds fs _ a (finds_kept mode recording ds fs a.as_many))
  walk-image (suc n) e =
      let p : Parts = parts option (suc n) 0 ds fs in
      let long : length p.skips ≡ entry_size_of option * suc n = skips-length option (suc n) 0 ds fs in
      let laid = layout-headed term mode_known requested-known (accepted-length a) recording n p e long in
      rw (reading-is, laid, read_all-ok, e, skips-found term mode_known requested-known (accepted-length a) recording n p e long, postings-found term mode_known requested-known (accepted-length a) recording n p e long)
      (walk-blocks option (ltb 0 requested) _ (length ds % 128) (suc n) 0 ds fs a (omega arith))

-- the frequencies read are the list's where they are kept (mode 1, recording) and requested (mode 1 or 2), else a 1 for each
pub reads-back : (mode requested : ℕ) (recording : Bool) (ds fs : List ℕ) {bs : List ℕ} → requested ≤ 2 → AllBelow (2 ^ 32) fs
    → written mode recording ds fs ≡ Ok bs
    → ReadsBack ds (read_freqs (and (has_freq_of (kept_in mode recording)) (ltb 0 requested)) fs)
    (reading (record { mode = mode; requested = requested; count = length ds }) bs)
unfolding full_blocks_of
reads-back mode requested recording ds fs known small e =
    let w = written-ok mode recording ds fs small e in
    rw (w.bytes, image-is)
    (walk-image mode requested recording ds fs w.mode_known known w.accepted (length ds / 128) refl)

pub written-sound : (mode : ℕ) (recording : Bool) (ds fs : List ℕ) {bs : List ℕ} → AllBelow (2 ^ 32) fs
    → written mode recording ds fs ≡ Ok bs → soundness mode (length ds) bs ≡ Ok tt
written-sound mode recording ds fs small e =
    soundness-is mode (length ds) _ ∙ (reads-back mode 1 recording ds fs (omega arith) small e).sound
