-- A walk over an image block by block, each found by a search with target 0 from the block before, reads what the definitions read. The
-- definitions go by what is left of the skip bytes and of the posting bytes, the search by a block's number and by a place in the image:
-- one turn of the one is one turn of the other.
-- Assumes nothing.
use Rattle.format.specs.declared.refusal.Refusal.{Refusal}
use Rattle.format.specs.declared.refusal.Refusal.TheVariants.{EntryBroken}
use Rattle.std.specs.Prelude.{◌≡◌, ℕ, suc, ◌+◌, ◌-◌, ◌*◌, ◌<◌, ◌≤◌, Bool, true, false, ◌&&◌ as and, ltb, List, length, drop, Ok, Err}
use mathlib.Core.Path.{refl, sym, ap, ◌∙◌}
use Prim.Native.Nat.{zero-le}
use native.Mathlib.Nat.{mul-add, mul-one, mul-zero, sub-zero}
use native.Mathlib.Decide.{dec_le}
use native.Mathlib.Omega.{arith}
use borrow.Author.Tests.{ltb-true, ltb-false}
use lib.ListN.{length-drop}
use lib.Seq.{drop-drop}
use Rattle.format.specs.declared.BlockInfo.{BlockInfo}
use Rattle.format.specs.declared.Layout.{Layout}
use Rattle.format.specs.declared.Term.{Term}
use Rattle.format.specs.Basics.{Outcome, and_then, ask}
use Rattle.format.specs.SkipEntry.{has_freq_of, entry_size_of, block_size_of, entry_fits_of}
use Rattle.format.specs.Layout.{layout, full_blocks_of, skip_bytes_of, posting_bytes_of}
use Rattle.format.specs.Reading.{Block, Reading, nothing, before, full_block, entry_block, walk_of, read_from, reading}
use Rattle.format.proofs.Outcome.{refused≢ok, ok_same}
use Rattle.format.proofs.Opened.{entry_block-is, read_from-zero, read_from-suc, read_all-ok, reading-is}
use Rattle.segment_postings.specs.declared.find.Found.{Found}
use Rattle.segment_postings.specs.declared.find.Start.{Start}
use Rattle.segment_postings.specs.declared.load.Taken.{Taken}
use Rattle.segment_postings.specs.Taken.{asked_docs, asked_freqs, asked, ValuesTaken}
use Rattle.segment_postings.specs.Private.{FindsFrom}
use Rattle.segment_postings.specs.Landing.{tail_info_of, find_block_of, load_block_of}
use Rattle.segment_postings.proofs.find.FoundBlock.{entry_of, find_broken, find_here, find_end}
use Rattle.segment_postings.proofs.load.BlockQuestions.{load_full, load_tail}

-- where a walk by steps goes on, at block b: it has read as many entries and unpacked as many blocks as it has passed
abbrev pub walking : ℕ → ℕ → ℕ → Start
walking b at least = record { block = b; at = at; least = least; entries = b; unpacked = b }

module _ (t : Term) (l : Layout) (bs : List ℕ) where
  pub walking-from : {b at least : ℕ} → b ≤ full_blocks_of t → at ≤ length bs → FindsFrom t bs (walking b at least)
  walking-from most inside = record { block_most_is = most; inside = inside; entries_most = omega arith }

  -- block b, found and unpacked
  unfoldable pub loaded_at : ℕ → ℕ → ℕ → Outcome Block
  loaded_at b at least = and_then (find_block_of l.option (skip_bytes_of l bs) bs 0 (full_blocks_of t - b) (walking b at least)) (load_block_of t l bs)

  -- what is read from block b on, its bytes beginning at place `at`
  unfoldable pub reading_at : ℕ → ℕ → ℕ → Reading
  reading_at b at least =
      read_from (walk_of t l) (full_blocks_of t - b) least
      (drop (entry_size_of l.option * b) (skip_bytes_of l bs)) (drop at bs)

  module _ (b at least : ℕ) where
    abbrev e : BlockInfo
    e = entry_of l.option (skip_bytes_of l bs) b

    -- ---- a block with an entry

    module _ (some : b < full_blocks_of t) where
      loaded_at_broken : entry_fits_of least (length bs - at) e ≡ false → loaded_at b at least ≡ Err EntryBroken
      unfolding loaded_at and_then
      loaded_at_broken t₅ = rw (find_broken l.option (skip_bytes_of l bs) bs 0 (full_blocks_of t) (walking b at least) e some refl t₅)

      loaded_at-entry : entry_fits_of least (length bs - at) e ≡ true
          → loaded_at b at least ≡ full_block (and (has_freq_of l.option) (ltb 0 t.requested)) least e (drop at bs)
      unfolding loaded_at and_then
      loaded_at-entry t₅ =
          rw (find_here l.option (skip_bytes_of l bs) bs 0 (full_blocks_of t) (walking b at least) e some refl t₅ zero-le)
          (load_full t l bs (record { block = b; at = at; least = least; info = e; entries = b + 1 }) some)

      pub entry-same : entry_block l.option (ltb 0 t.requested) least (drop (entry_size_of l.option * b) (skip_bytes_of l bs)) (drop at bs)
          ≡ loaded_at b at least
      unfolding ask
      entry-same = rw (entry_block-is, length-drop) (go (entry_fits_of least (length bs - at) e) refl)
        where
          go : (t₅ : Bool) → entry_fits_of least (length bs - at) e ≡ t₅
              → ask t₅ EntryBroken (λ _. full_block (and (has_freq_of l.option) (ltb 0 t.requested)) least e (drop at bs)) ≡ loaded_at b at least
          go true h = sym (loaded_at-entry h)
          go false h = sym (loaded_at_broken h)

      pub reading_at-entry : reading_at b at least
          ≡ (before (loaded_at b at least) λ _. reading_at (b + 1) (at + block_size_of e) (e.last_doc + 1))
      unfolding reading_at
      reading_at-entry =
          let size : ℕ = entry_size_of l.option in
          let left : full_blocks_of t - b ≡ suc (full_blocks_of t - (b + 1)) = omega arith in
          let next : size * (b + 1) ≡ size * b + size = rw (mul-add, mul-one) in
          rw (left, read_from-suc, entry-same, drop-drop size (size * b) (skip_bytes_of l bs), drop-drop (block_size_of e) at bs, next)

    -- ---- the tail

    pub reading_at-tail : full_blocks_of t ≤ b → reading_at b at least ≡ (before (loaded_at b at least) λ _. nothing (Ok tt))
    unfolding reading_at loaded_at and_then
    reading_at-tail h =
        let none : full_blocks_of t - b ≡ 0 = omega arith in
        rw (find_end l.option (skip_bytes_of l bs) bs 0 (full_blocks_of t) (walking b at least) tail_info_of h refl, none, read_from-zero)
        (ap (λ (o : Outcome Block). before o (λ _. nothing (Ok tt)))
        (sym (load_tail t l bs (record { block = b; at = at; least = least; info = tail_info_of; entries = b }) h)))

    -- ---- the first question that is answered no

    pub reads_none : {r : Refusal} → loaded_at b at least ≡ Err r → reading_at b at least ≡ nothing (Err r)
    unfolding before
    reads_none h = elim (dec_le (full_blocks_of t) b) [
      | yes past ↦ rw (reading_at-tail past, h)
      | no some ↦ rw (reading_at-entry (omega arith), h)
    ]

    pub reading_stops : {r : Refusal} → loaded_at b at least ≡ Err r → (reading_at b at least).verdict ≡ Err r
    unfolding nothing
    reading_stops h = ap (λ (r : Reading). r.verdict) (reads_none h)

    reading-goes-on : {block : Block} → b < full_blocks_of t → loaded_at b at least ≡ Ok block
        → (reading_at b at least).verdict ≡ (reading_at (b + 1) (at + block_size_of e) (e.last_doc + 1)).verdict
    unfolding before
    reading-goes-on some h = rw (reading_at-entry some, h)

    reading-ends : {block : Block} → full_blocks_of t ≤ b → loaded_at b at least ≡ Ok block → (reading_at b at least).verdict ≡ Ok tt
    unfolding before nothing
    reading-ends past h = rw (reading_at-tail past, h)

    -- ---- the block that a search with target 0 comes to, if any

    pub loaded_at-none : {r : Refusal} → find_block_of l.option (skip_bytes_of l bs) bs 0 (full_blocks_of t - b) (walking b at least) ≡ Err r
        → loaded_at b at least ≡ Err r
    unfolding loaded_at and_then
    loaded_at-none h = rw h

    module _ {f : Found} (found : find_block_of l.option (skip_bytes_of l bs) bs 0 (full_blocks_of t - b) (walking b at least) ≡ Ok f) where
      pub loaded_at-found : loaded_at b at least ≡ load_block_of t l bs f
      unfolding loaded_at and_then
      loaded_at-found = rw found

      pub found-entry : b < full_blocks_of t → f ≡ record { block = b; at = at; least = least; info = e; entries = b + 1 }
      found-entry some = go (entry_fits_of least (length bs - at) e) refl
        where
          go : (t₅ : Bool) → entry_fits_of least (length bs - at) e ≡ t₅
              → f ≡ record { block = b; at = at; least = least; info = e; entries = b + 1 }
          go true h = ok_same (sym found ∙ find_here l.option (skip_bytes_of l bs) bs 0 (full_blocks_of t) (walking b at least) e some refl h zero-le)
          go false h =
              absurd (refused≢ok (sym (find_broken l.option (skip_bytes_of l bs) bs 0 (full_blocks_of t) (walking b at least) e some refl h) ∙ found))

      found-tail : full_blocks_of t ≤ b → f ≡ record { block = b; at = at; least = least; info = tail_info_of; entries = b }
      found-tail past = ok_same (sym found ∙ find_end l.option (skip_bytes_of l bs) bs 0 (full_blocks_of t) (walking b at least) tail_info_of past refl)

      pub found-same : (f.block ≡ b) × (f.at ≡ at) × (f.least ≡ least)
      found-same = go (dec_le (full_blocks_of t) b)
        where
          go : Dec (full_blocks_of t ≤ b) → (f.block ≡ b) × (f.at ≡ at) × (f.least ≡ least)
          go (yes past) = let is = found-tail past in (rw is, rw is, rw is)
          go (no some) = let is = found-entry (omega arith) in (rw is, rw is, rw is)

      -- ---- .. once its values are taken, by the answers to the questions

      module _ {unpacked : ℕ} {k : Taken} {docs freqs : List ℕ} (taken : ValuesTaken t l bs f unpacked docs freqs k) where
        pub full-within : k.full ≡ true → b < full_blocks_of t
        full-within full = omega (arith, found-same, ltb-true f.block (full_blocks_of t) (sym taken.is_full ∙ full))

        here : loaded_at b at least ≡ asked k least docs freqs
        here = loaded_at-found ∙ (sym taken.questions ∙ ap (λ (n : ℕ). asked k n docs freqs) found-same.2)

        pub stops_at-docs : {r : Refusal} → asked_docs k least docs ≡ Err r → (reading_at b at least).verdict ≡ Err r
        unfolding asked and_then
        stops_at-docs h = reading_stops (here ∙ rw h)

        module _ {ds : List ℕ} (docs_right : asked_docs k least docs ≡ Ok ds) where
          pub stops_at-freqs : {r : Refusal} → asked_freqs k freqs ≡ Err r → (reading_at b at least).verdict ≡ Err r
          unfolding asked and_then
          stops_at-freqs h = reading_stops (here ∙ rw (docs_right, h))

          module _ {fs : List ℕ} (freqs_right : asked_freqs k freqs ≡ Ok fs) where
            right : loaded_at b at least ≡ Ok (record { docs = ds; freqs = fs; last = k.last_doc })
            unfolding asked and_then
            right = here ∙ rw (docs_right, freqs_right)

            pub goes_on : {size next : ℕ} → k.full ≡ true → size ≡ block_size_of f.info → next ≡ k.last_doc + 1
                → (reading_at b at least).verdict ≡ (reading_at (b + 1) (at + size) next).verdict
            goes_on full sized ended =
                let some = full-within full in
                rw (sized, ended, taken.full_last full, found-entry some) (reading-goes-on some right)

            pub ends-at-tail : k.full ≡ false → (reading_at b at least).verdict ≡ Ok tt
            ends-at-tail tail =
                let past : full_blocks_of t ≤ b = omega (arith, found-same, ltb-false f.block (full_blocks_of t) (sym taken.is_full ∙ tail)) in
                reading-ends past right

  -- ---- the whole, once the image is laid out

  pub reading-whole : layout t bs ≡ Ok l → reading t bs ≡ reading_at 0 l.postings 0
  unfolding reading_at posting_bytes_of
  reading-whole h = rw (reading-is, h, read_all-ok, mul-zero, sub-zero)
