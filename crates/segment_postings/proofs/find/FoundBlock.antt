-- Laws of the search for a block: one turn of it, and what is known of the block that it comes to. Each turn but the last passes one
-- block over and reads one entry, which passed question 5, so that the bytes of the block, and those of the next, are there.
-- Assumes nothing.
use Rattle.format.specs.declared.refusal.Refusal.TheVariants.{EntryBroken}
use Rattle.std.specs.Prelude.{◌≡◌, ℕ, zero, suc, ◌+◌, ◌-◌, ◌*◌, ◌<◌, ◌≤◌, min, true, false, leb, ◌⊎◌, List, length, drop, Ok, Err}
use mathlib.Core.Bool.{and-eq-true_iff}
use mathlib.Core.Logic.{inl, inr}
use mathlib.Core.Path.{refl, sym, subst, ◌∙◌}
use native.Mathlib.Omega.{arith}
use borrow.Author.Tests.{leb-true, ltb-true, le-leb, lt-leb}
use Rattle.format.specs.declared.BlockInfo.{BlockInfo}
use Rattle.format.specs.declared.IndexRecordOption.{IndexRecordOption}
use Rattle.format.specs.declared.Layout.{Layout}
use Rattle.format.specs.declared.Term.{Term}
use Rattle.format.specs.Basics.{ask, choose, TERMINATED}
use Rattle.format.specs.SkipEntry.{entry_size_of, read_entry, block_size_of, entry_fits_of}
use Rattle.format.specs.Layout.{full_blocks_of, skip_bytes_of}
use Rattle.format.proofs.Choice.{choose_elim}
use Rattle.format.proofs.Outcome.{ok_same, ask-ok}
use Rattle.segment_postings.specs.declared.find.Found.{Found}
use Rattle.segment_postings.specs.declared.find.Start.{Start}
use Rattle.segment_postings.specs.Landing.{tail_info_of, start_after, find_block_of}
use Rattle.segment_postings.specs.Private.{FindsFrom, FoundThere}

-- an entry that passed question 5
pub record Passed (least left : ℕ) (e : BlockInfo) : Type 0 where
  pub freq_width : e.freq_width ≤ 32
  pub above : least ≤ e.last_doc
  pub below : e.last_doc < TERMINATED
  pub bytes : block_size_of e ≤ left

pub passed : (least left : ℕ) (e : BlockInfo) → entry_fits_of least left e ≡ true → Passed least left e
unfolding entry_fits_of
passed least left e t =
    let width = (and-eq-true_iff _ _).0 t in
    let rest = (and-eq-true_iff _ _).0 width.1 in
    let last = (and-eq-true_iff _ _).0 rest.0 in
    record {
      freq_width = leb-true _ _ width.0;
      above = leb-true _ _ last.0;
      below = ltb-true _ _ last.1;
      bytes = leb-true _ _ rest.1;
    }

-- the entry of block b
abbrev pub entry_of : IndexRecordOption → List ℕ → ℕ → BlockInfo
entry_of option skips b = read_entry option (drop (entry_size_of option * b) skips)

module _ (option : IndexRecordOption) (skips bs : List ℕ) (target : ℕ) where
  -- ---- a turn

  pub find_tail : (s : Start)
      → find_block_of option skips bs target zero s
      ≡ Ok (record { block = s.block; at = s.at; least = s.least; info = tail_info_of; entries = s.entries })
  unfolding find_block_of
  find_tail s = refl

  pub find_entry : (n : ℕ) (s : Start)
      → find_block_of option skips bs target (suc n) s
      ≡ (ask (entry_fits_of s.least (length bs - s.at) (entry_of option skips s.block)) EntryBroken λ _.
      choose (leb target (entry_of option skips s.block).last_doc)
      (λ _. Ok (record { block = s.block; at = s.at; least = s.least; info = entry_of option skips s.block; entries = s.entries + 1 }))
      (λ _. find_block_of option skips bs target n (start_after s (entry_of option skips s.block))))
  unfolding find_block_of
  find_entry n s = refl

  -- .. at a block with an entry, of `full` blocks in all
  module _ (full : ℕ) (s : Start) (e : BlockInfo) (some : s.block < full) (read : e ≡ entry_of option skips s.block) where
    find_turn : find_block_of option skips bs target (full - s.block) s
        ≡ (ask (entry_fits_of s.least (length bs - s.at) e) EntryBroken λ _.
        choose (leb target e.last_doc)
        (λ _. Ok (record { block = s.block; at = s.at; least = s.least; info = e; entries = s.entries + 1 }))
        (λ _. find_block_of option skips bs target (full - (s.block + 1)) (start_after s e)))
    find_turn =
        let left : full - s.block ≡ suc (full - (s.block + 1)) = omega arith in
        rw (read, left) (find_entry (full - (s.block + 1)) s)

    pub find_broken : entry_fits_of s.least (length bs - s.at) e ≡ false → find_block_of option skips bs target (full - s.block) s ≡ Err EntryBroken
    unfolding ask
    find_broken t = rw (find_turn, t)

    module _ (fits : entry_fits_of s.least (length bs - s.at) e ≡ true) where
      pub find_here : target ≤ e.last_doc
          → find_block_of option skips bs target (full - s.block) s
          ≡ Ok (record { block = s.block; at = s.at; least = s.least; info = e; entries = s.entries + 1 })
      unfolding ask choose
      find_here h = rw (find_turn, fits, le-leb _ _ h)

      pub find_on : {size : ℕ} → e.last_doc < target → size ≡ block_size_of e
          → find_block_of option skips bs target (full - s.block) s
          ≡ find_block_of option skips bs target (full - (s.block + 1))
          (record { block = s.block + 1; at = s.at + size; least = e.last_doc + 1; entries = s.entries + 1; unpacked = s.unpacked })
      unfolding ask choose
      find_on h z = rw (find_turn, fits, lt-leb _ _ h, z)

  -- .. behind the last
  pub find_end : (full : ℕ) (s : Start) (e : BlockInfo) → full ≤ s.block → e ≡ tail_info_of
      → find_block_of option skips bs target (full - s.block) s
      ≡ Ok (record { block = s.block; at = s.at; least = s.least; info = e; entries = s.entries })
  find_end full s e h i =
      let none : full - s.block ≡ 0 = omega arith in
      rw (i, none) (find_tail s)

-- ---- the block that a search comes to

-- the least id that it may hold: the given one, or one more than the last id of the last entry passed
abbrev pub LeastKnown : IndexRecordOption → List ℕ → ℕ → ℕ → Found → Type 0
LeastKnown option skips b least f =
    ((f.block ≡ b) × (f.least ≡ least)) ⊎ ((b < f.block) × (f.least ≡ (entry_of option skips (f.block - 1)).last_doc + 1))

-- one block further back
least_on : (option : IndexRecordOption) (skips : List ℕ) (b least : ℕ) (f : Found)
    → LeastKnown option skips (b + 1) ((entry_of option skips b).last_doc + 1) f → LeastKnown option skips b least f
least_on option skips b least f (inl h) =
    let last : f.block - 1 ≡ b = omega arith in
    inr (omega arith, rw last h.1)
least_on option skips b least f (inr h) = inr (omega arith, h.1)

module _ (option : IndexRecordOption) (skips bs : List ℕ) where
  -- from block b on, with n full ones left
  record Landed (n b least entries : ℕ) (f : Found) : Type 0 where
    block_least : b ≤ f.block
    block_most_is : f.block ≤ b + n
    inside : f.at ≤ length bs
    doc_width : f.info.doc_width ≤ 31
    freq_width : f.info.freq_width ≤ 32
    bytes : f.at + block_size_of f.info ≤ length bs
    entries_read_is : f.entries ≡ entries + (min (b + n) (f.block + 1) - b)
    least_known : LeastKnown option skips b least f

  landed_tail : (b at least entries : ℕ) → at ≤ length bs
      → Landed zero b least entries (record { block = b; at = at; least = least; info = tail_info_of; entries = entries })
  unfolding tail_info_of block_size_of
  landed_tail b at least entries h =
      record {
        block_least = omega arith;
        block_most_is = omega arith;
        inside = h;
        doc_width = omega arith;
        freq_width = omega arith;
        bytes = omega arith;
        entries_read_is = omega arith;
        least_known = inl (refl, refl);
      }

  landed_here : (n b at least entries : ℕ) → at ≤ length bs → Passed least (length bs - at) (entry_of option skips b)
      → Landed (suc n) b least entries
      (record { block = b; at = at; least = least; info = entry_of option skips b; entries = entries + 1 })
  unfolding read_entry
  landed_here n b at least entries h p =
      record {
        block_least = omega arith;
        block_most_is = omega arith;
        inside = h;
        doc_width = omega arith;
        freq_width = p.freq_width;
        bytes = omega (arith, p.bytes);
        entries_read_is = omega arith;
        least_known = inl (refl, refl);
      }

  landed_on : (n b least entries : ℕ) (f : Found) → Landed n (b + 1) ((entry_of option skips b).last_doc + 1) (entries + 1) f
      → Landed (suc n) b least entries f
  landed_on n b least entries f l =
      record {
        block_least = omega (arith, l.block_least);
        block_most_is = omega (arith, l.block_most_is);
        inside = l.inside;
        doc_width = l.doc_width;
        freq_width = l.freq_width;
        bytes = l.bytes;
        entries_read_is = omega (arith, l.entries_read_is, l.block_least);
        least_known = least_on option skips b least f l.least_known;
      }

  landed : (target n : ℕ) (s : Start) {f : Found} → s.at ≤ length bs
      → find_block_of option skips bs target n s ≡ Ok f → Landed n s.block s.least s.entries f
  landed target zero s h e =
      subst (Landed zero s.block s.least s.entries) (ok_same (sym (find_tail option skips bs target s) ∙ e))
      (landed_tail s.block s.at s.least s.entries h)
  landed target (suc n) s {f} h e =
      let turn = ask-ok _ _ _ (sym (find_entry option skips bs target n s) ∙ e) in
      let p = passed _ _ _ turn.0 in
      choose_elim (λ o. o ≡ Ok f → Landed (suc n) s.block s.least s.entries f) (leb target (entry_of option skips s.block).last_doc) _ _
      (λ _ here. subst (Landed (suc n) s.block s.least s.entries) (ok_same here)
      (landed_here n s.block s.at s.least s.entries h p))
      (λ _ on. landed_on n s.block s.least s.entries f (landed target n (start_after s (entry_of option skips s.block)) (omega (arith, p.bytes)) on))
      turn.1

-- what is known of it by where the search began
pub record FoundFrom (t : Term) (l : Layout) (bs : List ℕ) (s : Start) (f : Found) : Type 0 where
  pub block_least : s.block ≤ f.block
  -- an entry is read for each full block from the first to the one found
  pub entries_read_is : f.entries ≡ s.entries + (min (full_blocks_of t) (f.block + 1) - s.block)
  pub entries_most : s.entries ≤ min s.block (full_blocks_of t) → f.entries ≤ min (f.block + 1) (full_blocks_of t)
  pub least_known : LeastKnown l.option (skip_bytes_of l bs) s.block s.least f

module _ (t : Term) (l : Layout) (bs : List ℕ) (target : ℕ) (s : Start) {f : Found} (from : FindsFrom t bs s)
    (e : find_block_of l.option (skip_bytes_of l bs) bs target (full_blocks_of t - s.block) s ≡ Ok f) where
  land : Landed l.option (skip_bytes_of l bs) bs (full_blocks_of t - s.block) s.block s.least s.entries f
  land = landed l.option (skip_bytes_of l bs) bs target (full_blocks_of t - s.block) s from.inside e

  pub found_from : FoundFrom t l bs s f
  found_from =
      record {
        block_least = land.block_least;
        entries_read_is = omega (arith, land);
        entries_most = λ h. omega (arith, land);
        least_known = land.least_known;
      }

  pub found-there : FoundThere t bs f
  found-there =
      record {
        inside = land.inside;
        doc_width = land.doc_width;
        freq_width = land.freq_width;
        bytes = land.bytes;
      }
