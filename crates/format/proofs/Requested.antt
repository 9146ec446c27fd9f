-- A sound image is sound in every requested mode, with the same documents. Frequencies that are not requested are not read: of a block
-- whose questions were answered yes none is asked that could be refused, and its documents and last id are the same. The layout goes
-- by the recorded mode and the count alone.
-- Assumes nothing.
use Rattle.std.specs.Prelude.{Ok, Option, None, Some}
use mathlib.Core.Bool.{Bool, true, false, and-false}
use mathlib.Core.List.{List, [], ◌∷◌}
use mathlib.Core.Path.{◌≡◌, refl, sym, ap, ◌∙◌}
use Prim.Native.Nat.{ℕ, zero, suc, ◌+◌, ◌≤◌}
use borrow.Author.Tests.{le-leb}
use lib.Dec.{ltb}
use lib.ListN.{drop, replicate}
use Rattle.format.specs.declared.IndexRecordOption.{IndexRecordOption}
use Rattle.format.specs.declared.BlockInfo.{BlockInfo}
use Rattle.format.specs.declared.Term.{Term}
use Rattle.format.specs.Vint.{skip_length}
use Rattle.format.specs.Layout.{full_blocks_of, tail_length, split, layout}
use Rattle.format.specs.SkipEntry.{entry_size_of, read_entry, block_size_of}
use Rattle.format.specs.Reading.{Block, full_block, entry_block, tail_freqs, tail_block, nothing, before, read_from}
use Rattle.format.specs.Reading.{Reading, read_all, reading, soundness, docs_of}
use Rattle.format.proofs.Outcome.{ok_same, ask-ok, and_then-ok, ask-yes, and_then-goes}
use Rattle.format.proofs.SoundBlock.{ReadFull, ended_same}
use Rattle.format.proofs.BlocksAt.{through, first-full, only-tail}
use Rattle.format.proofs.Sound.{sound-image}
use Rattle.format.proofs.Opened.{walk_by, full_freqs-unread, full_block-is, entry_block-is, tail_freqs-none, tail_freqs-unread, tail_block-is}
use Rattle.format.proofs.Opened.{read_from-zero, read_from-suc, layout_is, read_all-ok, reading-is, soundness-is}

-- ---- a block without its frequencies

abbrev unread : ℕ → Block → Block
unread n b = record { docs = b.docs; freqs = replicate n 1; last = b.last }

full-unread : (read : Bool) (least : ℕ) (e : BlockInfo) (bs : List ℕ) {b : Block} → full_block read least e bs ≡ Ok b
    → full_block false least e bs ≡ Ok (unread 128 b)
full-unread read least e bs h =
    let p = ask-ok _ _ _ (sym (full_block-is read least e bs) ∙ h) in
    let f = and_then-ok _ _ p.1 in
    full_block-is false least e bs
    ∙ ask-yes _ _ _ p.0
    ∙ and_then-goes _ _ (full_freqs-unread e bs)
    ∙ ap (λ (b : Block). Ok (unread 128 b)) (ok_same f.2)

entry-unread : (option : IndexRecordOption) (least : ℕ) (skips bs : List ℕ) {b : Block} → ReadFull option true least skips bs b
    → entry_block option false least skips bs ≡ Ok (unread 128 b)
entry-unread option least skips bs r =
    entry_block-is option false least skips bs ∙ ask-yes _ _ _ r.fits ∙ rw and-false (full-unread _ least _ bs r.read)

freqs-unread : (has : Bool) (n : ℕ) (bs : List ℕ) {fs : List ℕ} → tail_freqs has true n bs ≡ Ok fs
    → tail_freqs has false n bs ≡ Ok (replicate n 1)
freqs-unread false n bs h =
    let p = sym (tail_freqs-none true n bs) ∙ h in
    tail_freqs-none false n bs ∙ p ∙ ap Ok (sym (ended_same _ bs p))
freqs-unread true n bs h = tail_freqs-unread n bs

tail-unread : (option : IndexRecordOption) (alone : Bool) (n least : ℕ) (bs : List ℕ) {b : Block}
    → tail_block option true alone n least bs ≡ Ok b → tail_block option false alone n least bs ≡ Ok (unread n b)
tail-unread option alone n least bs h =
    let p = and_then-ok _ _ (sym (tail_block-is option true alone n least bs) ∙ h) in
    let q = ask-ok _ _ _ p.2 in
    let f = and_then-ok _ _ q.1 in
    tail_block-is option false alone n least bs
    ∙ and_then-goes _ _ p.1
    ∙ ask-yes _ _ _ q.0
    ∙ and_then-goes _ _ (freqs-unread _ n _ f.1)
    ∙ ap (λ (b : Block). Ok (unread n b)) (ok_same f.2)

-- ---- the walk

module _ (option : IndexRecordOption) (alone : Bool) (tail : ℕ) where
  -- the same documents, to the end
  abbrev Same : Bool → ℕ → ℕ → List ℕ → List ℕ → List Block → Type 0
  Same wanted n least skips bs all =
      (other : List Block) × (read_from (walk_by option wanted alone tail) n least skips bs ≡ through other) × (docs_of other ≡ docs_of all)

  in-front : (n least : ℕ) (skips bs : List ℕ) (later : List Block) {b : Block} → ReadFull option true least skips bs b
      → Same false n (b.last + 1) (drop (entry_size_of option) skips) (drop (block_size_of (read_entry option skips)) bs) later
      → Same false (suc n) least skips bs (b ∷ later)
  unfolding before docs_of
  in-front n least skips bs later {b} r q =
      let rest = rw r.last_is at q.1 in
      (unread 128 b ∷ q.0, rw (read_from-suc, entry-unread option least skips bs r, rest), rw q.2)

  unread_too : (n least : ℕ) (skips bs : List ℕ) {all : List Block}
      → read_from (walk_by option true alone tail) n least skips bs ≡ through all → Same false n least skips bs all
  unfolding before nothing docs_of
  unread_too zero least skips bs h =
      let p = only-tail option true alone tail least skips bs h in
      rw p.1 (unread tail p.0 ∷ [], rw (read_from-zero, tail-unread option alone tail least bs p.2), refl)
  unread_too (suc n) least skips bs h =
      let p = first-full option true alone tail n least skips bs h in
      rw p.2 (in-front n least skips bs p.1 p.3 (unread_too n _ _ _ p.4))

  -- .. whether they are requested or not
  any_wanted : (wanted : Bool) (n least : ℕ) (skips bs : List ℕ) {all : List Block}
      → read_from (walk_by option true alone tail) n least skips bs ≡ through all → Same wanted n least skips bs all
  any_wanted true n least skips bs {all} h = (all, h, refl)
  any_wanted false n least skips bs h = unread_too n least skips bs h

-- ---- the image

module _ (mode requested count : ℕ) (bs : List ℕ) (known : requested ≤ 2) (sound : soundness mode count bs ≡ Ok tt) where
  abbrev term : ℕ → Term
  term requested = record { mode = mode; requested = requested; count = count }

  same-split : (v : Option (ℕ × ℕ)) → split (term requested) bs v ≡ split (term 1) bs v
  unfolding split
  same-split None = refl
  same-split (Some (size, used)) = refl

  same_layout : layout (term requested) bs ≡ layout (term 1) bs
  unfolding full_blocks_of
  same_layout = rw (layout_is (term requested) bs, layout_is (term 1) bs, le-leb requested 2 known, same-split (skip_length bs))

  -- the walk in the requested mode
  walk : (other : List Block) × (reading (term requested) bs ≡ through other) × (docs_of other ≡ docs_of (reading (term 1) bs).blocks)
  unfolding full_blocks_of tail_length
  walk =
      let s = sound-image (term 1) bs (sym (soundness-is mode count bs) ∙ sound) in
      let p = any_wanted _ _ _ (ltb 0 requested) _ _ _ _ s.walk in
      let laid = ap (read_all (term requested) bs) (same_layout ∙ s.found) in
      (p.0, reading-is (term requested) bs ∙ laid ∙ read_all-ok (term requested) bs s.laid ∙ p.1, p.2)

  pub sound_requested : (reading (term requested) bs).verdict ≡ Ok tt
  sound_requested = ap (λ r. r.verdict) walk.1

  pub same-docs : docs_of (reading (term requested) bs).blocks ≡ docs_of (reading (term 1) bs).blocks
  same-docs = ap (λ (r : Reading). docs_of r.blocks) walk.1 ∙ walk.2
