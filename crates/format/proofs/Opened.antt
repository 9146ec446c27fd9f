-- The definitions of an image and of its reading, each opened by one turn. A proof that unfolds one of them unfolds all that it
-- is made of, down to 128 packed values, and its goals are no longer readable; rewritten by these they keep their names.
-- Assumes nothing.
use Rattle.std.specs.Prelude.{Ok, Err, None, Some}
use Rattle.format.specs.declared.refusal.Refusal.TheVariants.{UnknownMode, CountTooLarge, SkipLengthBroken, SkipLengthWrong, EntryBroken, DocsNotRising, FreqOutOfRange, NumberBroken, BytesLeft}
use mathlib.Core.Bool.{Bool, true, false, ◌&&◌ as and}
use mathlib.Core.List.{List}
use mathlib.Core.Path.{◌≡◌, refl}
use Prim.Native.Nat.{ℕ, zero, suc, ◌+◌, ◌-◌, ◌*◌}
use lib.ListN.{length, drop, replicate}
use lib.Dec.{eqb, leb}
use Rattle.format.specs.declared.IndexRecordOption.{IndexRecordOption}
use Rattle.format.specs.declared.BlockInfo.{BlockInfo}
use Rattle.format.specs.Basics.{and_then, ask, choose, last_of, TERMINATED}
use Rattle.format.specs.Vint.{skip_length, tail_numbers}
use Rattle.format.specs.Bitpacking.{unpack}
use Rattle.format.specs.Values.{ids, restored, rising, countable}
use Rattle.format.specs.SkipEntry.{has_freq_of, entry_size_of, read_entry, block_size_of, entry_fits_of}
use Rattle.format.specs.Accepted.{known_mode_of, kept_in}
use Rattle.format.specs.declared.Term.{Term}
use Rattle.format.specs.Layout.{full_blocks_of, sized, split, layout, skip_bytes_of, posting_bytes_of}
use Rattle.format.specs.declared.Layout.{Layout}
use Rattle.format.specs.Reading.{full_docs, full_freqs, full_block, numbers, ended, tail_freqs, tail_has_freq, tail_block}
use Rattle.format.specs.Reading.{nothing, before, entry_block, Walk, walk_of, read_from, read_all, reading, soundness}

-- ---- laid out

pub sized-is : (t : Term) (size used : ℕ)
    → sized t size used
    ≡ (let option : IndexRecordOption = kept_in t.mode (leb (8 * full_blocks_of t) size) in
    ask (eqb size (entry_size_of option * full_blocks_of t)) SkipLengthWrong λ _.
    Ok (record { option = option; skips = used; postings = used + size }))
unfolding sized
sized-is t size used = refl

pub split-malformed : (t : Term) (bs : List ℕ) → split t bs None ≡ Err SkipLengthBroken
unfolding split
split-malformed t bs = refl

pub split-number : (t : Term) (bs : List ℕ) (size used : ℕ)
    → split t bs (Some (size, used)) ≡ ask (leb size (length bs - used)) SkipLengthBroken λ _. sized t size used
unfolding split
split-number t bs size used = refl

pub layout_is : (t : Term) (bs : List ℕ)
    → layout t bs
    ≡ (ask (and (known_mode_of t.mode) (leb t.requested 2)) UnknownMode λ _.
    ask (leb t.count TERMINATED) CountTooLarge λ _.
    choose (eqb (full_blocks_of t) 0)
    (λ _. Ok (record { option = kept_in t.mode true; skips = 0; postings = 0 }))
    (λ _. split t bs (skip_length bs)))
unfolding layout
layout_is t bs = refl

-- ---- read

pub full_docs-is : (least : ℕ) (e : BlockInfo) (bs : List ℕ)
    → full_docs least e bs ≡ ids e.strict least (unpack e.doc_width bs)
unfolding full_docs
full_docs-is least e bs = refl

pub full_freqs-unread : (e : BlockInfo) (bs : List ℕ) → full_freqs false e bs ≡ Ok (replicate 128 1)
unfolding full_freqs
full_freqs-unread e bs = refl

pub full_freqs-read : (e : BlockInfo) (bs : List ℕ)
    → full_freqs true e bs
    ≡ (let fs : List ℕ = restored e.strict (unpack e.freq_width (drop (16 * e.doc_width) bs)) in
    ask (countable fs) FreqOutOfRange λ _. Ok fs)
unfolding full_freqs
full_freqs-read e bs = refl

pub full_block-is : (read : Bool) (least : ℕ) (e : BlockInfo) (bs : List ℕ)
    → full_block read least e bs
    ≡ (let ds : List ℕ = full_docs least e bs in
    ask (and (rising least ds) (eqb (last_of 0 ds) e.last_doc)) DocsNotRising λ _.
    and_then (full_freqs read e bs) λ fs.
    Ok (record { docs = ds; freqs = fs; last = e.last_doc }))
unfolding full_block
full_block-is read least e bs = refl

pub entry_block-is : (option : IndexRecordOption) (wanted : Bool) (least : ℕ) (skips bs : List ℕ)
    → entry_block option wanted least skips bs
    ≡ (let e : BlockInfo = read_entry option skips in
    ask (entry_fits_of least (length bs) e) EntryBroken λ _. full_block (and (has_freq_of option) wanted) least e bs)
unfolding entry_block
entry_block-is option wanted least skips bs = refl

pub numbers-is : (n : ℕ) (bs : List ℕ) → numbers n bs ≡ ask (tail_numbers n bs).complete NumberBroken λ _. Ok (tail_numbers n bs)
unfolding numbers
numbers-is n bs = refl

pub ended_is : (fs bs : List ℕ) → ended fs bs ≡ ask (eqb (length bs) 0) BytesLeft λ _. Ok fs
unfolding ended
ended_is fs bs = refl

pub tail_freqs-none : (wanted : Bool) (n : ℕ) (bs : List ℕ) → tail_freqs false wanted n bs ≡ ended (replicate n 1) bs
unfolding tail_freqs
tail_freqs-none wanted n bs = refl

pub tail_freqs-unread : (n : ℕ) (bs : List ℕ) → tail_freqs true false n bs ≡ Ok (replicate n 1)
unfolding tail_freqs
tail_freqs-unread n bs = refl

pub tail_freqs-read : (n : ℕ) (bs : List ℕ)
    → tail_freqs true true n bs
    ≡ (and_then (numbers n bs) λ ns.
    ask (countable ns.values) FreqOutOfRange λ _.
    ended ns.values (drop ns.used bs))
unfolding tail_freqs
tail_freqs-read n bs = refl

pub tail_block-is : (option : IndexRecordOption) (wanted alone : Bool) (n least : ℕ) (bs : List ℕ)
    → tail_block option wanted alone n least bs
    ≡ (and_then (numbers n bs) λ ns.
    let ds : List ℕ = ids false least ns.values in
    ask (rising least ds) DocsNotRising λ _.
    let rest : List ℕ = drop ns.used bs in
    and_then (tail_freqs (tail_has_freq option alone n rest) wanted n rest) λ fs.
    Ok (record { docs = ds; freqs = fs; last = TERMINATED }))
unfolding tail_block
tail_block-is option wanted alone n least bs = refl

-- a walk by its parts
abbrev pub walk_by : IndexRecordOption → (wanted alone : Bool) → ℕ → Walk
walk_by option wanted alone tail = record { option = option; wanted = wanted; alone = alone; tail = tail }

pub read_from-zero : (option : IndexRecordOption) (wanted alone : Bool) (tail least : ℕ) (skips bs : List ℕ)
    → read_from (walk_by option wanted alone tail) zero least skips bs
    ≡ (before (tail_block option wanted alone tail least bs) λ _. nothing (Ok tt))
unfolding read_from
read_from-zero option wanted alone tail least skips bs = refl

pub read_from-suc : (option : IndexRecordOption) (wanted alone : Bool) (tail n least : ℕ) (skips bs : List ℕ)
    → read_from (walk_by option wanted alone tail) (suc n) least skips bs
    ≡ (before (entry_block option wanted least skips bs) λ _.
    let e : BlockInfo = read_entry option skips in
    read_from (walk_by option wanted alone tail) n (e.last_doc + 1) (drop (entry_size_of option) skips) (drop (block_size_of e) bs))
unfolding read_from
read_from-suc option wanted alone tail n least skips bs = refl

pub read_all-ok : (t : Term) (bs : List ℕ) (l : Layout)
    → read_all t bs (Ok l)
    ≡ read_from (walk_of t l) (full_blocks_of t) 0 (skip_bytes_of l bs) (posting_bytes_of l bs)
unfolding read_all
read_all-ok t bs l = refl

pub reading-is : (t : Term) (bs : List ℕ) → reading t bs ≡ read_all t bs (layout t bs)
unfolding reading
reading-is t bs = refl

pub soundness-is : (mode count : ℕ) (bs : List ℕ)
    → soundness mode count bs ≡ (reading (record { mode = mode; requested = 1; count = count }) bs).verdict
unfolding soundness
soundness-is mode count bs = refl
