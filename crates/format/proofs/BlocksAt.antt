-- What a walk over a sound image reads, from any block on. A walk that ends with no refusal got an answer from each block, so its
-- blocks are those of a list. What it reads from block b on, behind b entries and the bytes of b blocks, is what the whole walk
-- reads without its first b blocks: by induction on b, since one block more is the first that is read there.
-- Assumes nothing.
use Rattle.std.specs.Prelude.{Ok, Err}
use mathlib.Core.Bool.{Bool, true}
use mathlib.Core.List.{List, [], ◌∷◌}
use mathlib.Core.Path.{◌≡◌, refl, sym, ap, ◌∙◌}
use Prim.Native.Nat.{ℕ, zero, suc, ◌+◌, ◌-◌, ◌*◌, ◌≤◌, ◌<◌}
use native.Mathlib.Nat.{sub-zero, mul-zero}
use native.Mathlib.Omega.{arith}
use lib.ListN.{drop, get_or}
use lib.Seq.{drop-drop}
use Rattle.format.specs.declared.IndexRecordOption.{IndexRecordOption}
use Rattle.format.specs.Basics.{Outcome}
use Rattle.format.specs.SkipEntry.{entry_size_of, read_entry, block_size_of}
use Rattle.format.specs.Reading.{Block, tail_block, Reading, nothing, before, read_from}
use Rattle.format.proofs.Outcome.{refused≢ok}
use Rattle.format.proofs.SoundBlock.{ReadFull, entry_block-read, tail_block-sound}
use Rattle.format.proofs.Blocks.{Blocks, last_one, one_more, no_block, block_at, least_at}
use Rattle.format.proofs.Opened.{walk_by, read_from-zero, read_from-suc}

-- ---- a walk to the end

abbrev pub through : List Block → Reading
through bs = record { blocks = bs; verdict = Ok tt }

pub is-through : (r : Reading) → r.verdict ≡ Ok tt → r ≡ through r.blocks
is-through r h = λ i. record { blocks = r.blocks; verdict = h i }

-- its first block, and the rest of it
before-through : (o : Outcome Block) (rest : Bool → Reading) {bs : List Block} → before o rest ≡ through bs
    → (b : Block) × (later : List Block) × (o ≡ Ok b) × (rest true ≡ through later) × (bs ≡ b ∷ later)
unfolding before nothing
before-through (Ok b) rest h =
    (b, (rest true).blocks, refl, is-through (rest true) (ap (λ r. r.verdict) h), sym (ap (λ r. r.blocks) h))
before-through (Err r) rest h = absurd (refused≢ok (ap (λ (w : Reading). w.verdict) h))

module _ (option : IndexRecordOption) (wanted alone : Bool) (tail : ℕ) where
  -- n full blocks behind the first one
  abbrev pub Behind : ℕ → List ℕ → List ℕ → Block → List Block → Type 0
  Behind n skips bs b later =
      read_from (walk_by option wanted alone tail) n (b.last + 1) (drop (entry_size_of option) skips) (drop (block_size_of (read_entry option skips)) bs)
      ≡ through later

  pub first-full : (n least : ℕ) (skips bs : List ℕ) {all : List Block}
      → read_from (walk_by option wanted alone tail) (suc n) least skips bs ≡ through all
      → (b : Block) × (later : List Block) × (all ≡ b ∷ later) × ReadFull option wanted least skips bs b × Behind n skips bs b later
  first-full n least skips bs h =
      let p = before-through _ _ (sym (read_from-suc option wanted alone tail n least skips bs) ∙ h) in
      let r = entry_block-read option wanted least skips bs p.2 in
      (p.0, p.1, p.4, r, rw r.last_is p.3)

  pub only-tail : (least : ℕ) (skips bs : List ℕ) {all : List Block}
      → read_from (walk_by option wanted alone tail) zero least skips bs ≡ through all
      → (b : Block) × (all ≡ b ∷ []) × (tail_block option wanted alone tail least bs ≡ Ok b)
  unfolding nothing
  only-tail least skips bs h =
      let p = before-through _ _ (sym (read_from-zero option wanted alone tail least skips bs) ∙ h) in
      (p.0, p.4 ∙ ap (λ (r : Reading). p.0 ∷ r.blocks) (sym p.3), p.2)

  pub read-blocks : (n least : ℕ) (skips bs : List ℕ) {all : List Block}
      → read_from (walk_by option wanted alone tail) n least skips bs ≡ through all → Blocks tail n least all
  read-blocks zero least skips bs h =
      let p = only-tail least skips bs h in
      rw p.1 (last_one (tail_block-sound option wanted alone tail least bs p.2))
  read-blocks (suc n) least skips bs h =
      let p = first-full n least skips bs h in
      rw p.2 (one_more p.3.sound (read-blocks n _ _ _ p.4))

-- ---- from block b on

abbrev pub skips_at : IndexRecordOption → List ℕ → ℕ → List ℕ
skips_at option skips b = drop (entry_size_of option * b) skips

-- how many posting bytes the first b blocks take
abbrev pub bytes_before : IndexRecordOption → List ℕ → ℕ → ℕ
bytes_before option skips zero = 0
bytes_before option skips (suc b) = bytes_before option skips b + block_size_of (read_entry option (skips_at option skips b))

-- the first element behind b others, and what is behind it
drop_more : {A : Type 0} (l : List A) (b : ℕ) (d : A) {x : A} {xs : List A} → drop b l ≡ x ∷ xs
    → (get_or l b d ≡ x) × (drop (suc b) l ≡ xs)
drop_more [] zero d h = (cc, cc)
drop_more [] (suc b) d h = (cc, cc)
drop_more (y ∷ l) zero d h = (cc, cc)
drop_more (y ∷ l) (suc b) d h = drop_more l b d h

module _ (option : IndexRecordOption) (wanted alone : Bool) (tail n least : ℕ) (skips bs : List ℕ) (all : List Block)
    (sound : read_from (walk_by option wanted alone tail) n least skips bs ≡ through all) where
  abbrev bytes_at : ℕ → List ℕ
  bytes_at b = drop (bytes_before option skips b) bs

  -- block b, where what is read from it on is what the whole walk reads without the b blocks before
  full-of : (b : ℕ) → b < n
      → read_from (walk_by option wanted alone tail) (n - b) (least_at least all b) (skips_at option skips b) (bytes_at b) ≡ through (drop b all)
      → ReadFull option wanted (least_at least all b) (skips_at option skips b) (bytes_at b) (block_at all b)
      × Behind option wanted alone tail (n - suc b) (skips_at option skips b) (bytes_at b) (block_at all b) (drop (suc b) all)
  full-of b h r =
      let more : n - b ≡ suc (n - suc b) = omega arith in
      let p = first-full option wanted alone tail _ _ _ _ (rw more at r) in
      let d = drop_more all b no_block p.2 in
      rw (d.0, d.1) (p.3, p.4)

  pub blocks_at : (b : ℕ) → b ≤ n
      → read_from (walk_by option wanted alone tail) (n - b) (least_at least all b) (skips_at option skips b) (bytes_at b) ≡ through (drop b all)
  blocks_at zero h = rw (sub-zero, mul-zero) sound
  blocks_at (suc b) h =
      let entries : entry_size_of option * suc b ≡ entry_size_of option * b + entry_size_of option = omega arith in
      rw (entries, ← drop-drop (entry_size_of option) (entry_size_of option * b) skips, ← drop-drop) (full-of b h (blocks_at b (omega arith))).1

  pub full_at : (b : ℕ) → b < n → ReadFull option wanted (least_at least all b) (skips_at option skips b) (bytes_at b) (block_at all b)
  full_at b h = (full-of b h (blocks_at b (omega arith))).0

  pub tail_at : tail_block option wanted alone tail (least_at least all n) (bytes_at n) ≡ Ok (block_at all n)
  tail_at =
      let none : n - n ≡ 0 = omega arith in
      let p = only-tail option wanted alone tail _ _ _ (rw none at (blocks_at n (omega arith))) in
      p.2 ∙ ap Ok (sym (drop_more all n no_block p.1).0)
