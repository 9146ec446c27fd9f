-- The block that a walk by landings with target 0 holds is the one that the definitions read at its place, and the next landing
-- begins where they read on. Where a landing is refused they read no more.
-- Assumes nothing.
use Rattle.format.specs.declared.refusal.Refusal.{Refusal}
use Rattle.std.specs.Prelude.{◌≡◌, ℕ, ◌+◌, ◌<◌, ◌≤◌, List, length, take, Ok, Err}
use mathlib.Core.Path.{sym, ap, ◌∙◌}
use native.Mathlib.Decide.{dec_le}
use native.Mathlib.Omega.{arith}
use borrow.Author.Tests.{lt-ltb, le-ltb}
use lib.ListN.{length-append, length-replicate, length-drop}
use lib.Seq.{take_at}
use Rattle.format.specs.declared.BlockInfo.{BlockInfo}
use Rattle.format.specs.declared.Layout.{Layout}
use Rattle.format.specs.declared.Term.{Term}
use Rattle.format.specs.Basics.{Outcome, and_then, choose, TERMINATED}
use Rattle.format.specs.SkipEntry.{block_size_of}
use Rattle.format.specs.Layout.{full_blocks_of, tail_length, skip_bytes_of}
use Rattle.format.specs.Reading.{Block, Reading, nothing, before}
use Rattle.format.proofs.Outcome.{refused≢ok, ok_same, and_then-ok}
use Rattle.format.proofs.SkipEntry.{entry_fits_of-true}
use Rattle.format.proofs.SoundBlock.{SoundBlock, full_block-sound, tail_block-sound, entry_block-read}
use Rattle.segment_postings.specs.declared.find.Found.{Found}
use Rattle.segment_postings.specs.declared.Held.{Held}
use Rattle.segment_postings.specs.declared.SegmentPostings.{SegmentPostings}
use Rattle.segment_postings.specs.Landing.{load_block_of, padded, holding, landing}
use Rattle.segment_postings.specs.Calls.{cursor_of}
use Rattle.segment_postings.specs.Passed.{docs_in_of}
use Rattle.segment_postings.proofs.find.FoundBlock.{entry_of}
use Rattle.segment_postings.proofs.load.BlockQuestions.{load_full, load_tail}
use Rattle.segment_postings.proofs.Laws.CursorTurns.{landing_is}
use Rattle.segment_postings.proofs.Admission.WalkReads.{walking, loaded_at, loaded_at-found, reads_none, reading_at, reading_at-entry, reading_at-tail}
use Rattle.segment_postings.proofs.Admission.WalkReads.{entry-same, found-entry, found-same}

-- ---- how many documents a block holds

pub docs_in_full : (t : Term) (b : ℕ) → b < full_blocks_of t → docs_in_of t b ≡ 128
unfolding docs_in_of choose
docs_in_full t b h = rw (lt-ltb _ _ h)

pub docs_in_tail : (t : Term) (b : ℕ) → full_blocks_of t ≤ b → docs_in_of t b ≡ tail_length t
unfolding docs_in_of choose
docs_in_tail t b h = rw (le-ltb _ _ h)

tail-most : (t : Term) → tail_length t ≤ 128
unfolding tail_length
tail-most t = omega arith

pub docs_in_most : (t : Term) (b : ℕ) → docs_in_of t b ≤ 128
docs_in_most t b = elim (dec_le (full_blocks_of t) b) [
  | yes past ↦ rw (docs_in_tail t b past) (tail-most t)
  | no some ↦ rw (docs_in_full t b (omega arith)) (omega arith)
]

-- ---- the arrays of a block

module _ (n filler : ℕ) (values : List ℕ) (many : length values ≡ n) where
  padded-front : take n (padded filler values) ≡ values
  unfolding padded
  padded-front = take_at values _ n many

  padded-room : n ≤ 128 → length (padded filler values) ≡ 128
  unfolding padded
  padded-room h = simp (length-append, length-replicate) (omega arith)

-- what a cursor at the first place of a block holds
record HeldOf (f : Found) (unpacked : ℕ) (block : Block) (h : Held) (docs freqs : List ℕ) : Type 0 where
  docs_are : docs ≡ padded TERMINATED block.docs
  freqs_are : freqs ≡ padded 1 block.freqs
  block_is : h.block ≡ f.block
  next_is : h.next ≡ f.at + block_size_of f.info
  last_is : h.last_doc ≡ f.info.last_doc
  entries_are : h.entries ≡ f.entries
  unpacked_is : h.unpacked ≡ unpacked + 1

held_of : (f : Found) (unpacked : ℕ) (block : Block) {h : Held} {docs freqs : List ℕ} → holding f unpacked block ≡ cursor_of h docs freqs → HeldOf f unpacked block h docs freqs
unfolding holding
held_of f unpacked block e =
    record {
      docs_are = ap (λ (c : SegmentPostings). c.docs) (sym e);
      freqs_are = ap (λ (c : SegmentPostings). c.freqs) (sym e);
      block_is = ap (λ (c : SegmentPostings). c.held.block) (sym e);
      next_is = ap (λ (c : SegmentPostings). c.held.next) (sym e);
      last_is = ap (λ (c : SegmentPostings). c.held.last_doc) (sym e);
      entries_are = ap (λ (c : SegmentPostings). c.held.entries) (sym e);
      unpacked_is = ap (λ (c : SegmentPostings). c.held.unpacked) (sym e);
    }

-- ---- the walk

-- what is made of a block that was read asks no question
loads-none : {A B C : Type 0} (o : Outcome A) (g : A → Outcome B) (k : A → B → C) {r : Refusal}
    → and_then o (λ a. and_then (g a) λ b. Ok (k a b)) ≡ Err r → and_then o g ≡ Err r
unfolding and_then
loads-none {B = B} {C = C} (Ok a) g k {r} e = go (g a) e
  where
    go : (o : Outcome B) → and_then o (λ b. Ok (k a b)) ≡ Err r → o ≡ Err r
    go (Ok b) h = absurd (refused≢ok (sym h))
    go (Err s) h = cc
loads-none (Err s) g k e = cc

module _ (t : Term) (l : Layout) (bs : List ℕ) (b at least : ℕ) where
  abbrev entry : BlockInfo
  entry = entry_of l.option (skip_bytes_of l bs) b

  -- where the next landing begins
  pub record Next (h : Held) : Type 0 where
    pub next_is : h.next ≡ at + block_size_of entry
    pub last_is : h.last_doc ≡ entry.last_doc
    pub last_below : h.last_doc < TERMINATED
    pub inside : h.next ≤ length bs
    pub block_is : h.block ≡ b
    pub entries_are : h.entries ≡ b + 1
    pub unpacked_is : h.unpacked ≡ b + 1

  pub record BlockHeld (h : Held) (docs freqs : List ℕ) : Type 0 where
    pub block : Block
    pub read : loaded_at t l bs b at least ≡ Ok block
    pub docs_many : length block.docs ≡ docs_in_of t b
    pub freqs_many : length block.freqs ≡ docs_in_of t b
    pub docs_are : take (docs_in_of t b) docs ≡ block.docs
    pub freqs_are : take (docs_in_of t b) freqs ≡ block.freqs
    pub docs_room : length docs ≡ 128
    pub freqs_room : length freqs ≡ 128
    pub next : b < full_blocks_of t → Next h

  -- .. as many as it should have
  load_many : (f : Found) {block : Block} → f.block ≡ b → load_block_of t l bs f ≡ Ok block → SoundBlock (docs_in_of t b) f.least block
  load_many f here e = elim (dec_le (full_blocks_of t) b) [
    | yes past ↦ rw (docs_in_tail t b past) (tail_block-sound _ _ _ _ _ _ (sym (load_tail t l bs f (omega arith)) ∙ e)).sound
    | no some ↦ rw (docs_in_full t b (omega arith)) (full_block-sound _ _ _ _ (sym (load_full t l bs f (omega arith)) ∙ e)).0.sound
  ]

  -- a landing that is refused: nothing is read from there on, by that question
  pub landing-none : {r : Refusal} → landing t bs l 0 (walking b at least) ≡ Err r → reading_at t l bs b at least ≡ nothing (Err r)
  unfolding loaded_at
  landing-none e = reads_none t l bs b at least (loads-none _ _ _ (sym (landing_is t bs l 0 (walking b at least)) ∙ e))

  module _ {h : Held} {docs freqs : List ℕ} where
    pub block_held : at ≤ length bs → landing t bs l 0 (walking b at least) ≡ Ok (cursor_of h docs freqs) → BlockHeld h docs freqs
    block_held start-inside e =
        let found = and_then-ok _ _ (sym (landing_is t bs l 0 (walking b at least)) ∙ e) in
        let loads = and_then-ok _ _ found.2 in
        let there = held_of found.0 b loads.0 {h = h} {docs = docs} {freqs = freqs} (ok_same loads.2) in
        let many = load_many found.0 (found-same t l bs b at least found.1).0 loads.1 in
        let reads = loaded_at-found t l bs b at least found.1 ∙ loads.1 in
        record {
          block = loads.0;
          read = reads;
          docs_many = many.docs_many;
          freqs_many = many.freqs_many;
          docs_are = ap (λ (xs : List ℕ). take (docs_in_of t b) xs) there.docs_are ∙ (padded-front _ TERMINATED _ many.docs_many);
          freqs_are = ap (λ (xs : List ℕ). take (docs_in_of t b) xs) there.freqs_are ∙ (padded-front _ 1 _ many.freqs_many);
          docs_room = ap (λ (xs : List ℕ). length xs) there.docs_are ∙ (padded-room _ TERMINATED _ many.docs_many (docs_in_most t b));
          freqs_room = ap (λ (xs : List ℕ). length xs) there.freqs_are ∙ (padded-room _ 1 _ many.freqs_many (docs_in_most t b));
          next = λ some.
              let is = found-entry t l bs b at least found.1 some in
              let fits = entry_fits_of-true _ _ _ (entry_block-read _ _ _ _ _ (entry-same t l bs b at least some ∙ reads)).fits in
              record {
                next_is = there.next_is ∙ rw is;
                last_is = there.last_is ∙ rw is;
                last_below = omega (arith, there.last_is, ap (λ (f : Found). f.info.last_doc) is, fits.last_below);
                inside =
                    omega (arith, there.next_is ∙ ap (λ (f : Found). f.at + block_size_of f.info) is, fits.bytes, length-drop at bs, start-inside);
                block_is = there.block_is ∙ rw is;
                entries_are = there.entries_are ∙ rw is;
                unpacked_is = there.unpacked_is;
              };
        }

    module _ (k : BlockHeld h docs freqs) where
      pub reads_on : b < full_blocks_of t → reading_at t l bs b at least ≡ (before (Ok k.block) λ _. reading_at t l bs (b + 1) h.next (h.last_doc + 1))
      reads_on some = rw (reading_at-entry t l bs b at least some, k.read, (k.next some).next_is, (k.next some).last_is)

      pub reads-last : full_blocks_of t ≤ b → reading_at t l bs b at least ≡ (before (Ok k.block) λ _. nothing (Ok tt))
      reads-last past = rw (reading_at-tail t l bs b at least past, k.read)

      -- whatever is read behind it
      pub reads_first : (rest : Reading) × (reading_at t l bs b at least ≡ (before (Ok k.block) λ _. rest))
      reads_first = elim (dec_le (full_blocks_of t) b) [
        | yes past ↦ (nothing (Ok tt), reads-last past)
        | no some ↦ (_, reads_on (omega arith))
      ]
