-- Where a search over the entries of a sound image lands. The search goes by offsets into the image, the reading of the image by what
-- is left of its parts: block b's bytes begin `start_of b` bytes from the image's first. Entry by entry question 5 is answered yes,
-- since the whole walk got yes there, until an entry's last id is at least the target; else it comes to the tail. Either way the
-- block landed on loads as the one that the walk read.
-- Assumes nothing.
use Rattle.std.specs.Prelude.{◌≡◌, ℕ, zero, suc, ◌+◌, ◌-◌, ◌<◌, ◌≤◌, min, true, List, length, drop, Ok}
use mathlib.Core.Logic.{⊎_elim}
use mathlib.Core.Path.{sym, ap, ◌∙◌}
use native.Mathlib.Nat.{add_assoc, eq-or-lt_of_le}
use native.Mathlib.Decide.{dec_le}
use native.Mathlib.Numerals.{add-one}
use native.Mathlib.Omega.{arith}
use borrow.Author.Tests.{lt-ltb, le-ltb, le-leb, lt-leb}
use lib.ListN.{length-drop}
use lib.Seq.{drop-drop}
use Rattle.format.specs.declared.BlockInfo.{BlockInfo}
use Rattle.format.specs.declared.Layout.{Layout}
use Rattle.format.specs.declared.Term.{Term}
use Rattle.format.specs.Basics.{ask, choose, TERMINATED}
use Rattle.format.specs.SkipEntry.{read_entry, block_size_of, entry_fits_of}
use Rattle.format.specs.Layout.{full_blocks_of, skip_bytes_of, posting_bytes_of}
use Rattle.format.specs.Reading.{Block, reading}
use Rattle.format.proofs.SkipEntry.{entry_fits_of-true}
use Rattle.format.proofs.Blocks.{block_at, least_at, tail-sound}
use Rattle.format.proofs.BlocksAt.{skips_at, bytes_before, full_at, tail_at}
use Rattle.format.proofs.Sound.{Sound, sound-blocks}
use Rattle.segment_postings.specs.declared.find.Found.{Found}
use Rattle.segment_postings.specs.declared.find.Start.{Start}
use Rattle.segment_postings.specs.Landing.{tail_info_of, find_block_of, load_block_of}
use Rattle.segment_postings.proofs.Laws.CursorTurns.{find_block_of-zero, find_block_of-suc, load_block_of-is}

-- where block b begins in the image
abbrev pub start_of : Layout → List ℕ → ℕ → ℕ
start_of l bs b = l.postings + bytes_before l.option (skip_bytes_of l bs) b

pub bytes-at : (l : Layout) (bs : List ℕ) (b : ℕ)
    → drop (start_of l bs b) bs ≡ drop (bytes_before l.option (skip_bytes_of l bs) b) (posting_bytes_of l bs)
unfolding posting_bytes_of
bytes-at l bs b = sym (drop-drop _ l.postings bs)

module _ {t : Term} {bs : List ℕ} (s : Sound t bs) where
  abbrev blocks : List Block
  blocks = (reading t bs).blocks

  abbrev start : ℕ → ℕ
  start = start_of s.laid bs

  abbrev entry : ℕ → BlockInfo
  entry b = read_entry s.laid.option (skips_at s.laid.option (skip_bytes_of s.laid bs) b)

  left : (b : ℕ)
      → length bs - start b ≡ length (drop (bytes_before s.laid.option (skip_bytes_of s.laid bs) b) (posting_bytes_of s.laid bs))
  left b = sym (length-drop (start b) bs) ∙ ap length (bytes-at s.laid bs b)

  -- question 5 of a full block's entry
  entry-fits : (b : ℕ) → b < full_blocks_of t → entry_fits_of (least_at 0 blocks b) (length bs - start b) (entry b) ≡ true
  entry-fits b h = rw (left b) (full_at _ _ _ _ _ _ _ _ _ s.walk b h).fits

  entry-last : (b : ℕ) → b < full_blocks_of t → (entry b).last_doc ≡ (block_at blocks b).last
  entry-last b h = sym (full_at _ _ _ _ _ _ _ _ _ s.walk b h).last_is

  pub last_below : (b : ℕ) → b < full_blocks_of t → (block_at blocks b).last < TERMINATED
  last_below b h = rw (← entry-last b h) (entry_fits_of-true _ _ _ (entry-fits b h)).last_below

  -- its bytes are there
  pub start-inside : (b : ℕ) → b ≤ full_blocks_of t → start b ≤ length bs
  start-inside zero h = omega (arith, s.inside)
  start-inside (suc b) h = omega (arith, (entry_fits_of-true _ _ _ (entry-fits b h)).bytes, start-inside b (omega arith))

  -- what is known of a block that was found from block `from` on
  pub record FoundFor (target from : ℕ) (f : Found) : Type 0 where
    pub block_least : from ≤ f.block
    pub block_most_is : f.block ≤ full_blocks_of t
    pub passed : (i : ℕ) → from ≤ i → i < f.block → (block_at blocks i).last < target
    pub reached : f.block < full_blocks_of t → target ≤ (block_at blocks f.block).last
    pub entries_are : f.entries ≡ min (full_blocks_of t) (f.block + 1)
    pub last_is : f.info.last_doc ≡ (block_at blocks f.block).last
    pub next_is : f.at + block_size_of f.info ≡ start (min (full_blocks_of t) (f.block + 1))
    pub loads : load_block_of t s.laid bs f ≡ Ok (block_at blocks f.block)

  -- a search from block b on
  abbrev pub start_at : ℕ → ℕ → ℕ → Start
  start_at b entries unpacked =
      record { block = b; at = start b; least = least_at 0 blocks b; entries = entries; unpacked = unpacked }

  abbrev full_found : ℕ → ℕ → Found
  full_found b entries = record { block = b; at = start b; least = least_at 0 blocks b; info = entry b; entries = entries }

  abbrev tail_found : ℕ → Found
  tail_found entries =
      let b : ℕ = full_blocks_of t in
      record { block = b; at = start b; least = least_at 0 blocks b; info = tail_info_of; entries = entries }

  full-loads : (b entries : ℕ) → b < full_blocks_of t → load_block_of t s.laid bs (full_found b entries) ≡ Ok (block_at blocks b)
  unfolding choose
  full-loads b entries h =
      rw (load_block_of-is, lt-ltb b (full_blocks_of t) h, bytes-at) (full_at _ _ _ _ _ _ _ _ _ s.walk b h).read

  tail-loads : (entries : ℕ) → load_block_of t s.laid bs (tail_found entries) ≡ Ok (block_at blocks (full_blocks_of t))
  unfolding choose
  tail-loads entries =
      rw (load_block_of-is, le-ltb (full_blocks_of t) (full_blocks_of t) (omega arith), bytes-at) (tail_at _ _ _ _ _ _ _ _ _ s.walk)

  full-lands : (target b entries : ℕ) → b < full_blocks_of t → target ≤ (block_at blocks b).last → entries ≡ b + 1
      → FoundFor target b (full_found b entries)
  full-lands target b entries h reached e =
      let one_on : min (full_blocks_of t) (b + 1) ≡ suc b = omega arith in
      record {
        block_least = omega arith;
        block_most_is = omega arith;
        passed = λ i l m. absurd (omega arith);
        reached = λ _. reached;
        entries_are = omega arith;
        last_is = entry-last b h;
        next_is = rw one_on (omega arith);
        loads = full-loads b entries h;
      }

  tail-lands : (target entries : ℕ) → entries ≡ full_blocks_of t → FoundFor target (full_blocks_of t) (tail_found entries)
  unfolding tail_info_of block_size_of
  tail-lands target entries e =
      let all : min (full_blocks_of t) (full_blocks_of t + 1) ≡ full_blocks_of t = omega arith in
      record {
        block_least = omega arith;
        block_most_is = omega arith;
        passed = λ i l m. absurd (omega arith);
        reached = λ l. absurd (omega arith);
        entries_are = omega arith;
        last_is = sym (tail-sound (sound-blocks s)).ends;
        next_is = rw all (omega arith);
        loads = tail-loads entries;
      }

  -- a block that is passed over
  later-lands : (target b : ℕ) (f : Found) → (block_at blocks b).last < target → FoundFor target (suc b) f → FoundFor target b f
  later-lands target b f below k =
      record {
        block_least = omega (arith, k.block_least);
        block_most_is = k.block_most_is;
        passed = λ i l m. ⊎_elim (λ e. rw (← e) below) (λ j. k.passed i j m) (eq-or-lt_of_le l);
        reached = k.reached;
        entries_are = k.entries_are;
        last_is = k.last_is;
        next_is = k.next_is;
        loads = k.loads;
      }

  -- n full blocks are left
  pub search_lands : (target n b entries unpacked : ℕ) → b + n ≡ full_blocks_of t → entries ≡ b
      → (f : Found) × FoundFor target b f
      × (find_block_of s.laid.option (skip_bytes_of s.laid bs) bs target n (start_at b entries unpacked) ≡ Ok f)
  unfolding ask choose
  search_lands target zero b entries unpacked e k =
      let all : b ≡ full_blocks_of t = omega arith in
      rw all (tail_found entries, tail-lands target entries (omega arith), find_block_of-zero _ _ _ _ _)
  search_lands target (suc n) b entries unpacked e k =
      let h : b < full_blocks_of t = omega arith in
      elim (dec_le target (block_at blocks b).last) [
        | yes reached ↦ (
          full_found b (entries + 1),
          full-lands target b (entries + 1) h reached (omega arith),
          rw (find_block_of-suc, entry-fits b h, le-leb target (entry b).last_doc (rw (entry-last b h) reached)),
        )
        | no passed ↦
            let below : (block_at blocks b).last < target = omega arith in
            let later = search_lands target n (suc b) (entries + 1) unpacked (omega arith) (omega arith) in (
              later.0,
              later-lands target b later.0 below later.1,
              rw (find_block_of-suc, entry-fits b h, lt-leb target (entry b).last_doc (rw (entry-last b h) below), add_assoc, add-one b)
                  (rw (← entry-last b h) at later.2),
            )
      ]
