-- `segment_postings::layout::lay_out_entries` meets its contract: its test is the definition's, and 8 bytes for each of at most 2 ^ 25
-- blocks don't wrap.
-- Assumes nothing.
use Rattle.std.proofs.Common.{◌≡◌, ◌+◌, ◌-◌, arith}
use native.Mathlib.Nat.{mul-le-mul_right}
use borrow.Author.Tests.{eq-eqb, ne_eqb}
use Rattle.format.specs.Basics.{ask}
use Rattle.format.specs.Layout.{full_blocks_of}
use Rattle.format.proofs.Opened.{sized-is}
use Rattle.format.proofs.SkipEntry.{size-most}
use Rattle.segment_postings.proofs.layout.lay_out_entries.Goals as goal

pub overflow_mul-entry_size : goal.overflow_mul-entry_size
overflow_mul-entry_size c =
    rw c.entry_size.ensures
    (omega (arith, mul-le-mul_right c.full_blocks-blocks.result (size-most c.record_option-option.result)))

pub returns-then-size-entry_size : goal.returns-then-size-entry_size
unfolding ask full_blocks_of
returns-then-size-entry_size c =
    rw (sized-is, ← c.full_blocks-blocks.ensures, ← c.record_option-option.ensures, ← c.entry_size.ensures, ne_eqb _ _ c.if-size-entry_size.true)

pub returns : goal.returns
unfolding ask full_blocks_of
returns c =
    let whole : c.args.split.skips + (c.args.split.postings - c.args.split.skips) ≡ c.args.split.postings = omega arith in
    rw (sized-is, ← c.full_blocks-blocks.ensures, ← c.record_option-option.ensures, ← c.entry_size.ensures, eq-eqb _ _ c.if-size-entry_size.false, whole)
