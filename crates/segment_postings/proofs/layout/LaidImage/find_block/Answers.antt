-- `segment_postings::layout::LaidImage::find_block` meets its contract. The invariant: the search from the present block on gives what the search
-- from the first gives, the present entry stands at its place of the skip bytes, and the block's bytes begin inside the image. An entry
-- that passed question 5 has its block's bytes inside the image and a last id below TERMINATED, so neither the next place nor the next
-- least id wraps. The measure is the blocks left. Assumes nothing.
use Rattle.std.proofs.Common.{◌≡◌, sym, ap, ◌∙◌, ℕ, ◌+◌, ◌-◌, ◌*◌, ◌^◌, ◌<◌, ◌≤◌, List, length, drop, arith, add-one}
use native.Mathlib.Nat.{mul-le-mul_right, mul-suc}
use Rattle.format.specs.declared.BlockInfo.{BlockInfo}
use Rattle.format.specs.declared.Layout.{Layout}
use Rattle.format.specs.declared.Term.{Term}
use Rattle.format.specs.Basics.{Outcome}
use Rattle.format.specs.SkipEntry.{entry_size_of, read_entry}
use Rattle.format.specs.Layout.{full_blocks_of, skip_bytes_of}
use Rattle.format.proofs.SkipEntry.{size-most}
use Rattle.segment_postings.specs.declared.find.Found.{Found}
use Rattle.segment_postings.specs.declared.find.Start.{Start}
use Rattle.segment_postings.specs.Landing.{find_block_of}
use Rattle.segment_postings.proofs.layout.SplitParts.{LaidOut, laid_out, entry-inside}
use Rattle.segment_postings.proofs.find.FoundBlock.{passed, entry_of, find_broken, find_here, find_on, find_end}
use Rattle.segment_postings.proofs.layout.LaidImage.find_block.Goals as goal
use Rattle.segment_postings.proofs.layout.LaidImage.find_block.Goals.{After-entry_at-info}

module _ (t : Term) (l : Layout) (bs : List ℕ) where
  -- what the search from a start on gives, of `full` blocks in all
  abbrev search_from : ℕ → ℕ → Start → Outcome Found
  search_from target full s = find_block_of l.option (skip_bytes_of l bs) bs target (full - s.block) s

  -- what is answered where the search from the present block on comes to it
  come_to : {o : Outcome Found} (target full : ℕ) (from here : Start) → full ≡ full_blocks_of t
      → search_from target full from ≡ search_from target full here → search_from target full here ≡ o
      → o ≡ search_from target (full_blocks_of t) from
  come_to target full from here count same e =
      sym (ap (λ n. search_from target n from) (sym count) ∙ same ∙ e)

  module _ (size entry b : ℕ) (sized : size ≡ entry_size_of l.option) (at : entry ≡ size * b) where
    place : entry_size_of l.option * b ≡ entry
    place = sym (at ∙ ap (λ n. n * b) sized)

    -- the entry lies within the skip bytes
    room : LaidOut t bs l → b < full_blocks_of t → entry + entry_size_of l.option ≤ length (skip_bytes_of l bs)
    room lies below = omega (arith, place, entry-inside t bs l b lies below)

    -- .. as it is read
    read : {e : BlockInfo} → e ≡ read_entry l.option (drop entry (skip_bytes_of l bs)) → e ≡ entry_of l.option (skip_bytes_of l bs) b
    read e = e ∙ ap (λ p. read_entry l.option (drop p (skip_bytes_of l bs))) (sym place)

    -- .. and the next place doesn't wrap
    next : b ≤ 2 ^ 25 → entry + size < 2 ^ 64
    next few = omega (arith, place, sized, size-most l.option, mul-le-mul_right b (size-most l.option))

pub slice_bounds-skips-count : goal.slice_bounds-skips-count
slice_bounds-skips-count c = (laid_out _ c.args.self.now.image.now c.args.self.now.laid_out).rising

pub slice_bounds-skips-start : goal.slice_bounds-skips-start
slice_bounds-skips-start c = (laid_out _ c.args.self.now.image.now c.args.self.now.laid_out).rising

pub slice_bounds-skips-end : goal.slice_bounds-skips-end
slice_bounds-skips-end c = (laid_out _ c.args.self.now.image.now c.args.self.now.laid_out).inside

pub overflow_mul-entry : goal.overflow_mul-entry
unfolding full_blocks_of
overflow_mul-entry c =
    rw c.entry_size-size.ensures
    (omega (arith, c.requires.block_most_is, mul-le-mul_right c.args.from.block (size-most c.args.self.now.layout.option)))

pub entry_at-info-requires : goal.entry_at-info-requires
unfolding skip_bytes_of full_blocks_of
entry_at-info-requires c =
    let a = c.args in
    let l = c.loop-block in
    room a.self.now.term a.self.now.layout a.self.now.image.now c.entry_size-size.result l.entry l.block c.entry_size-size.ensures l.invariant.place
    (laid_out _ a.self.now.image.now c.args.self.now.laid_out)
    (omega arith)

-- the entry at hand, as the definition reads it
entry_read : (c : After-entry_at-info)
    → c.entry_at-info.result ≡ entry_of c.args.self.now.layout.option (skip_bytes_of c.args.self.now.layout c.args.self.now.image.now) c.loop-block.block
unfolding skip_bytes_of
entry_read c =
    read c.args.self.now.term c.args.self.now.layout c.args.self.now.image.now c.entry_size-size.result c.loop-block.entry c.loop-block.block c.entry_size-size.ensures
    c.loop-block.invariant.place c.entry_at-info.ensures

pub returns-then-not-entry_fits : goal.returns-then-not-entry_fits
unfolding skip_bytes_of full_blocks_of
returns-then-not-entry_fits c =
    let a = c.args in
    let l = c.loop-block in
    let info = entry_read (goal.at.returns-then-not-entry_fits c).After-entry_at-info in
    come_to a.self.now.term a.self.now.layout a.self.now.image.now a.target _ a.from _ c.full_blocks-blocks.ensures l.invariant.goes_on
    (find_broken _ _ _ _ _ (record { block = l.block; at = l.at; least = l.least; entries = l.entries; unpacked = a.from.unpacked }) c.entry_at-info.result
    c.loop-block-test.true info (sym c.entry_fits.ensures ∙ c.if-not-entry_fits.true))

pub returns-then-target-info : goal.returns-then-target-info
unfolding skip_bytes_of full_blocks_of
returns-then-target-info c =
    let a = c.args in
    let l = c.loop-block in
    let info = entry_read (goal.at.returns-then-target-info c).After-entry_at-info in
    come_to a.self.now.term a.self.now.layout a.self.now.image.now a.target _ a.from _ c.full_blocks-blocks.ensures l.invariant.goes_on
    (find_here _ _ _ _ _ (record { block = l.block; at = l.at; least = l.least; entries = l.entries; unpacked = a.from.unpacked }) c.entry_at-info.result
    c.loop-block-test.true info (sym c.entry_fits.ensures ∙ c.if-not-entry_fits.false) c.if-target-info.true)

pub overflow_add-at : goal.overflow_add-at
overflow_add-at c =
    omega (arith, c.block_size-at.ensures, (passed _ _ _ (sym c.entry_fits.ensures ∙ c.if-not-entry_fits.false)).bytes)

pub overflow_add-entry : goal.overflow_add-entry
overflow_add-entry c =
    let a = c.args in
    let l = c.loop-block in
    omega
    (arith, next a.self.now.term a.self.now.layout a.self.now.image.now c.entry_size-size.result l.entry l.block c.entry_size-size.ensures l.invariant.place (omega arith))

pub loop-block-preserved : goal.loop-block-preserved
unfolding skip_bytes_of
loop-block-preserved c =
    let a = c.args in
    let l = c.loop-block in
    let info = entry_read (goal.at.loop-block-preserved c).After-entry_at-info in
    let fits = sym c.entry_fits.ensures ∙ c.if-not-entry_fits.false in
    let size = c.block_size-at.ensures in
    let next_place = mul-suc c.entry_size-size.result l.block in
    record {
      goes_on =
          l.invariant.goes_on
          ∙ find_on _ _ _ _ _ (record { block = l.block; at = l.at; least = l.least; entries = l.entries; unpacked = a.from.unpacked }) c.entry_at-info.result
          c.loop-block-test.true info fits c.if-target-info.false size;
      place = rw add-one (omega (arith, l.invariant.place, next_place));
      inside = omega (arith, size, (passed _ _ _ fits).bytes);
      counted = omega arith;
    }

pub returns : goal.returns
unfolding skip_bytes_of full_blocks_of
returns c =
    let a = c.args in
    let l = c.loop-block in
    let last : l.block ≡ c.full_blocks-blocks.result = omega (arith, c.requires.block_most_is, c.full_blocks-blocks.ensures) in
    rw (← last)
    (come_to a.self.now.term a.self.now.layout a.self.now.image.now a.target _ a.from _ c.full_blocks-blocks.ensures l.invariant.goes_on
    (find_end _ _ _ _ _ (record { block = l.block; at = l.at; least = l.least; entries = l.entries; unpacked = a.from.unpacked }) _
    c.loop-block-test.false c.tail_info.ensures))
