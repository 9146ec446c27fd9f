-- What a call that lands on a block looks at: the image's length, its bytes before the posting bytes, and the bytes of the block that the
-- entries lead to. On two images that are the same there it answers the same and leaves the same cursor, whatever the other blocks'
-- bytes are: those passed over and those behind aren't looked at. So a bad block is refused only once it is landed on.
-- The search for a block takes the image for its length alone; the block found is then read of its own bytes (format's LooksAt).
-- Assumes nothing.
use Rattle.std.specs.Prelude.{◌≡◌, ℕ, zero, suc, ◌-◌, ◌*◌, ◌/◌, ◌<◌, ◌≤◌, Bool, true, false, ◌&&◌ as and, eqb, ltb, List, length, take, drop, Ok, Err}
use mathlib.Core.Path.{refl, sym, ◌∙◌}
use Prim.Native.Nat.{zero-le}
use native.Mathlib.Nat.{mul-zero, add-sub_cancel_left}
use native.Mathlib.Omega.{arith}
use borrow.Author.Tests.{le-leb, lt-ltb}
use Rattle.format.specs.declared.IndexRecordOption.{IndexRecordOption}
use Rattle.format.specs.declared.Layout.{Layout}
use Rattle.format.specs.declared.Term.{Term}
use Rattle.format.specs.Basics.{Outcome, and_then, choose}
use Rattle.format.specs.SkipEntry.{has_freq_of, entry_size_of, read_entry, block_size_of}
use Rattle.format.specs.Layout.{layout, full_blocks_of, tail_length, skip_bytes_of}
use Rattle.format.specs.Reading.{full_block, tail_block}
use Rattle.format.proofs.Outcome.{ok_same, ask-ok}
use Rattle.format.proofs.LooksAt.{same_fewer, same-behind, same_full, same_layout, same-skips}
use Rattle.segment_postings.specs.declared.find.Found.{Found}
use Rattle.segment_postings.specs.declared.find.Start.{Start}
use Rattle.segment_postings.specs.declared.Held.{Held}
use Rattle.segment_postings.specs.declared.SegmentPostings.{SegmentPostings}
use Rattle.segment_postings.specs.LooksAt.{SameFront, bytes_of, SameThere, first_end}
use Rattle.segment_postings.specs.Landing.{first_start_of, start_after, find_block_of, load_block_of, landing}
use Rattle.segment_postings.specs.Cursor.{in_bounds_of, start_behind_of, opening, opened, leaving, advanced, sought}
use Rattle.segment_postings.proofs.Laws.CursorTurns.{find_block_of-zero, find_block_of-suc, load_block_of-is, landing_is, opened-is}
use Rattle.segment_postings.proofs.Laws.CursorTurns.{leaving-is, stepping-is, advanced-is, behind-is, seeking-is}

-- ---- a landing

then_same : {A B : Type 0} (o : Outcome A) (go go' : A → Outcome B) → ((a : A) → o ≡ Ok a → go a ≡ go' a) → and_then o go ≡ and_then o go'
unfolding and_then
then_same (Ok a) go go' h = h a refl
then_same (Err n) go go' h = refl

same_find : (option : IndexRecordOption) (skips bs bs' : List ℕ) (target n : ℕ) (s : Start) → length bs ≡ length bs'
    → find_block_of option skips bs target n s ≡ find_block_of option skips bs' target n s
same_find option skips bs bs' target zero s long = find_block_of-zero option skips bs target s ∙ sym (find_block_of-zero option skips bs' target s)
same_find option skips bs bs' target (suc n) s long =
    rw (find_block_of-suc option skips bs target n s, find_block_of-suc option skips bs' target n s, long)
    (rw (same_find option skips bs bs' target n (start_after s (read_entry option (drop (entry_size_of option * s.block) skips))) long))

module _ (t : Term) (l : Layout) (bs bs' : List ℕ) where
  read_same : (full : Bool) (f : Found)
      → choose full (λ _. take (block_size_of f.info) (drop f.at bs)) (λ _. drop f.at bs)
      ≡ choose full (λ _. take (block_size_of f.info) (drop f.at bs')) (λ _. drop f.at bs')
      → choose full
      (λ _. full_block (and (has_freq_of l.option) (ltb 0 t.requested)) f.least f.info (drop f.at bs))
      (λ _. tail_block l.option (ltb 0 t.requested) (eqb (full_blocks_of t) 0) (tail_length t) f.least (drop f.at bs))
      ≡ choose full
      (λ _. full_block (and (has_freq_of l.option) (ltb 0 t.requested)) f.least f.info (drop f.at bs'))
      (λ _. tail_block l.option (ltb 0 t.requested) (eqb (full_blocks_of t) 0) (tail_length t) f.least (drop f.at bs'))
  unfolding choose
  read_same true f same = same_full f.info (drop f.at bs) (drop f.at bs') same _ f.least
  read_same false f same = rw same

  same_load : (f : Found) → bytes_of t f bs ≡ bytes_of t f bs' → load_block_of t l bs f ≡ load_block_of t l bs' f
  same_load f same = load_block_of-is t l bs f ∙ read_same _ f same ∙ sym (load_block_of-is t l bs' f)

  pub landing_looks_at : (target : ℕ) (from : Start) → SameFront l bs bs'
      → ((f : Found) → find_block_of l.option (skip_bytes_of l bs) bs target (full_blocks_of t - from.block) from ≡ Ok f
      → bytes_of t f bs ≡ bytes_of t f bs')
      → landing t bs l target from ≡ landing t bs' l target from
  landing_looks_at target from s h =
      let found = same_find l.option (skip_bytes_of l bs) bs bs' target (full_blocks_of t - from.block) from s.long in
      rw (landing_is t bs l target from, landing_is t bs' l target from, ← same-skips l bs bs' s.front, ← found)
      (then_same _ _ _ (λ f e. rw (same_load f (h f e))))

-- ---- the calls

pub same_bounds : (h : Held) (t : Term) (bs bs' : List ℕ) → length bs ≡ length bs' → in_bounds_of t (length bs) h ≡ in_bounds_of t (length bs') h
unfolding in_bounds_of
same_bounds h t bs bs' long = rw long

module _ (t : Term) (l : Layout) (bs bs' : List ℕ) (laid : layout t bs ≡ Ok l) (s : SameFront l bs bs') where
  -- a cursor that leaves its block
  pub lands-on-one : (h : Held) (target : ℕ) → SameThere h t l bs bs' target → leaving h bs t target ≡ leaving h bs' t target
  unfolding and_then
  lands-on-one h target there =
      rw (leaving-is h bs t target, leaving-is h bs' t target, laid, same_layout t l bs bs' s.long s.front laid)
      (rw (landing_looks_at t l bs bs' target (start_behind_of h) s there))

  -- .. by a step, to the first block behind it whose last id is at least 0: the next
  pub step-lands-on-one : (c : SegmentPostings) → SameThere c.held t l bs bs' 0 → advanced c bs t ≡ advanced c bs' t
  step-lands-on-one c there =
      rw (advanced-is c bs t, advanced-is c bs' t, stepping-is c bs t, stepping-is c bs' t)
      (rw (same_bounds c.held t bs bs' s.long, lands-on-one c.held 0 there))

  -- .. or by a seek
  pub seek-lands-on-one : (c : SegmentPostings) (target : ℕ) → SameThere c.held t l bs bs' target → sought c bs t target ≡ sought c bs' t target
  unfolding sought
  seek-lands-on-one c target there =
      rw (seeking-is c bs t target, seeking-is c bs' t target, same_bounds c.held t bs bs' s.long)
      (rw (behind-is c bs t target, behind-is c bs' t target, lands-on-one c.held target there))

-- ---- opening

-- the first search ends at entry 0, if that passes question 5
found_first : (option : IndexRecordOption) (skips bs : List ℕ) (n at : ℕ) {f : Found}
    → find_block_of option skips bs 0 (suc n) (record { block = 0; at = at; least = 0; entries = 0; unpacked = 0 }) ≡ Ok f
    → record { block = 0; at = at; least = 0; info = read_entry option skips; entries = 1 } ≡ f
unfolding choose
found_first option skips bs n at e =
    let asked = ask-ok _ _ _ (rw mul-zero at (sym (find_block_of-suc option skips bs 0 n _) ∙ e)) in
    ok_same (rw (le-leb 0 (read_entry option skips).last_doc zero-le) at asked.1)

-- where there is a full block opening looks at the first alone: nothing behind it is refused, or changes the answer
module _ (t : Term) (l : Layout) (bs bs' : List ℕ) (laid : layout t bs ≡ Ok l) (full : 128 ≤ t.count) (long : length bs ≡ length bs') where
  same_first : take (first_end l bs) bs ≡ take (first_end l bs) bs' → (f : Found)
      → find_block_of l.option (skip_bytes_of l bs) bs 0 (full_blocks_of t - 0) (first_start_of l) ≡ Ok f → bytes_of t f bs ≡ bytes_of t f bs'
  unfolding choose full_blocks_of
  same_first same f e =
      let some : 0 < t.count / 128 = omega arith in
      let more : t.count / 128 - 0 ≡ suc (t.count / 128 - 1) = omega arith in
      let first = found_first l.option (skip_bytes_of l bs) bs _ l.postings (rw more at e) in
      rw (← first, lt-ltb 0 (t.count / 128) some)
      (rw add-sub_cancel_left at (same-behind (first_end l bs) bs bs' same l.postings))

  pub opens-by_the_first : take (first_end l bs) bs ≡ take (first_end l bs) bs' → opened bs t ≡ opened bs' t
  unfolding and_then opening
  opens-by_the_first same =
      let s : SameFront l bs bs' = record { long = long; front = same_fewer (first_end l bs) bs bs' same l.postings (omega arith) } in
      rw (opened-is bs t, opened-is bs' t, laid, same_layout t l bs bs' long s.front laid)
      (rw (landing_looks_at t l bs bs' 0 (first_start_of l) s (same_first same)))
