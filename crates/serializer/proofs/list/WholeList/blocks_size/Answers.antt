-- `serializer::list::WholeList::blocks_size` meets its contract: each turn counts one block more. A slice holds so few ids that their
-- blocks' bytes fit.
-- Assumes nothing.
use Rattle.std.proofs.Common.{◌≡◌, ℕ, ◌+◌, ◌*◌, ◌/◌, ◌≤◌, List, [], length, take, drop, refl, sym, ap, arith}
use Rattle.std.proofs.lemmas.List.{length_push}
use Rattle.std.proofs.lemmas.Slice.Zip.{zip_turn, zip_end}
use Rattle.format.specs.declared.IndexRecordOption.{IndexRecordOption}
use Rattle.format.specs.Written.{block_of, blocks_of}
use Rattle.serializer.specs.Whole.{full_blocks_of}
use Rattle.serializer.specs.Writer.{least_after_of}
use Rattle.format.proofs.ImageParts.{blocks_of-zero}
use Rattle.serializer.proofs.Laws.BlockPlaces.{least-next, id_below, postings-most, size-next}
use Rattle.serializer.proofs.list.Blocks.{BlockTurn, block-turn}
use Rattle.serializer.proofs.list.WholeList.blocks_size.Goals as goal
use Rattle.serializer.proofs.list.WholeList.blocks_size.Goals.{After-block_size-size}

-- one block more
next : (option : IndexRecordOption) (ids freqs : List ℕ) (i size least block : ℕ) → 128 * i ≤ length ids
    → size ≡ length (blocks_of option i 0 ids freqs).postings
    → least ≡ least_after_of 0 (take (128 * i) ids)
    → block ≡ length (block_of option least (take 128 (drop (128 * i) ids)) (take 128 (drop (128 * i) freqs)))
    → size + block ≡ length (blocks_of option (i + 1) 0 ids freqs).postings
next option ids freqs i size least block h counted least_is block_is =
    rw (size-next option i ids freqs h, ← least_is, ← counted) (ap (λ (k : ℕ). size + k) block_is)

module _ (c : After-block_size-size) where
  -- this turn's block is the next one of the list
  turn : let l = c.args.self.now in BlockTurn l.ids.now l.freqs.now c.in-Some.docs.now c.in-Some.freqs.now (length c.loop-docs.yielded)
  turn =
      let l = c.args.self.now in
      let at = zip_turn c.as_chunks.result.0.now c.as_chunks-2.result.0.now c.loop-docs.yielded _ _ c.next.new.self _ (cc) (cc) c.loop-docs.yielded_by _ c.in-Some.is c.next.ensures.steps in
      block-turn l.ids.now l.freqs.now l.checked.as_many c.as_chunks.ensures.front c.as_chunks.ensures.front_len c.as_chunks-2.ensures.front at.0 (at.2 []) (at.3 [])

  counted_next : let l = c.args.self.now in
      c.loop-docs.size + c.block_size-size.result ≡ length (blocks_of l.option (length c.loop-docs.yielded + 1) 0 l.ids.now l.freqs.now).postings
  counted_next =
      let l = c.args.self.now in
      next l.option l.ids.now l.freqs.now _ _ _ _ (omega (arith, turn.more)) c.loop-docs.invariant.counted c.loop-docs.invariant.least_is
      (rw (turn.docs_are, turn.freqs_are) at c.block_size-size.ensures)

pub loop-docs-init : goal.loop-docs-init
unfolding least_after_of
loop-docs-init c = record { counted = rw blocks_of-zero; least_is = refl }

pub overflow_add-size : goal.overflow_add-size
overflow_add-size c =
    let l = c.args.self.now in
    omega (arith, counted_next c, (turn c).more, postings-most l.option (length c.loop-docs.yielded + 1) 0 l.ids.now l.freqs.now)

pub overflow_add-least : goal.overflow_add-least
overflow_add-least c =
    let counted = (goal.at.overflow_add-least c).After-block_size-size in
    let l = c.args.self.now in
    omega (arith, (turn counted).last_is, id_below l.ids.now (128 * length c.loop-docs.yielded + 127) l.checked.rises)

pub loop-docs-preserved : goal.loop-docs-preserved
loop-docs-preserved c =
    let counted = (goal.at.loop-docs-preserved c).After-block_size-size in
    let t = turn counted in
    rw length_push (record {
      counted = counted_next counted;
      least_is = rw t.last_is (sym (least-next (length c.loop-docs.yielded) c.args.self.now.ids.now (omega (arith, t.more))));
    })

pub returns : goal.returns
unfolding full_blocks_of
returns c =
    let l = c.args.self.now in
    let many = zip_end c.as_chunks.result.0.now c.as_chunks-2.result.0.now c.loop-docs.yielded _ _ c.next.new.self _ (cc) (cc) c.loop-docs.yielded_by c.in-None.is c.next.ensures.steps in
    let all : length c.loop-docs.yielded ≡ length l.ids.now / 128 = omega (arith, many, c.as_chunks.ensures.front_len, c.as_chunks-2.ensures.front_len, l.checked.as_many) in
    rw all at c.loop-docs.invariant.counted
