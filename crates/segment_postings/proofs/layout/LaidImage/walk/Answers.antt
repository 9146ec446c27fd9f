-- `segment_postings::layout::LaidImage::walk` meets its contract. The invariant of the blocks: what is read from the present block on has the
-- refusal of the whole reading. That of the ids of a block: those passed are in order, so that question 6 is answered by those to come.
-- That of its frequencies: none passed is 0. A loop that is left from inside has come to the first question answered no.
-- Assumes nothing.
use Rattle.format.specs.declared.refusal.Refusal.{Refusal}
use Rattle.format.specs.Basics.{Outcome}
use Rattle.std.specs.Prelude.{Ok, Err}
use Rattle.std.proofs.Common.{◌≡◌, ℕ, ◌+◌, ◌-◌, ◌^◌, ◌<◌, ◌≤◌, true, false, List, [], ◌∷◌, length, get_or, take, drop, sym, ap, ◌∙◌, add-one, arith}
use Rattle.std.proofs.Math.Seq.{drop-cons, length-take-le}
use Rattle.std.proofs.Math.ListN.{drop_of_length-le}
use Prim.Native.Nat.{zero-le}
use native.Mathlib.Nat.{pos_of_ne-zero}
use borrow.Author.Tests.{not-true, not-false}
use Rattle.format.specs.declared.Layout.{Layout}
use Rattle.format.specs.declared.Term.{Term}
use Rattle.format.specs.SkipEntry.{block_size_of}
use Rattle.format.specs.Layout.{layout, full_blocks_of, skip_bytes_of}
use Rattle.format.specs.Reading.{Reading, reading}
use Rattle.format.specs.Model.{member}
use Rattle.compression.specs.Restored.{ids_behind}
use Rattle.format.proofs.Lists.{AllBelow-get_or}
use Rattle.segment_postings.specs.declared.find.Found.{Found}
use Rattle.segment_postings.specs.declared.load.Taken.{Taken}
use Rattle.segment_postings.specs.Private.{FindsFrom}
use Rattle.segment_postings.specs.Landing.{find_block_of}
use Rattle.segment_postings.specs.Taken.{ends_on, ends_before, asked_docs, asked_freqs, freqs_to_ask_of, ValuesTaken}
use Rattle.segment_postings.proofs.Laws.Exits.{passed_on}
use Rattle.segment_postings.proofs.Laws.BelowMark.{count_most}
use Rattle.segment_postings.proofs.layout.SplitParts.{laid_out}
use Rattle.segment_postings.proofs.find.FoundBlock.{found-there}
use Rattle.segment_postings.proofs.validate.PlaceByPlace.{Ordered, ordered_none, ordered_next, ordered_same, ordered_over, ordered_all, ordered_ends, ends-full}
use Rattle.segment_postings.proofs.validate.PlaceByPlace.{ZeroToCome, freqs_to_ask_of-most, to_come_next, to_come_zero, to_come_none, asked-all}
use Rattle.segment_postings.proofs.load.BlockQuestions.{docs_broken, docs_fallen, docs-end_wrong, docs_right, freqs_broken, freqs_wrong, freqs-not-last, freqs_right}
use Rattle.segment_postings.proofs.Admission.WalkReads.{walking, walking-from, reading_at, loaded_at-none, found-same, full-within}
use Rattle.segment_postings.proofs.Admission.WalkReads.{reading-whole, reading_stops, stops_at-docs, stops_at-freqs, goes_on, ends-at-tail}
use Rattle.segment_postings.proofs.layout.LaidImage.walk.Goals as goal
use Rattle.segment_postings.proofs.layout.LaidImage.walk.Goals.{After-freqs_to_ask}
use Rattle.segment_postings.proofs.layout.LaidImage.walk.Goals.{then-difference-eq0-via-then-difference-eq0, then-difference-eq0-via-else-difference-eq0+then-least}

-- what is still to come begins at the present place
first-left : (i : ℕ) (vs : List ℕ) → i < length vs → drop i vs ≡ get_or vs i 0 ∷ drop (i + 1) vs
first-left i vs here = rw add-one (drop-cons vs i 0 here)

none-left : (i : ℕ) (vs : List ℕ) → length vs ≤ i → drop i vs ≡ []
none-left i vs last = drop_of_length-le vs last

few : (t : Term) (bs : List ℕ) {l : Layout} {b : ℕ} → layout t bs ≡ Ok l → b ≤ full_blocks_of t → b < 2 ^ 25
unfolding full_blocks_of
few t bs {b = b} laid most = omega (arith, count_most t bs laid)

-- the block at hand, found and taken
record AtBlock (t : Term) (l : Layout) (bs : List ℕ) (b at least : ℕ) (f : Found) (k : Taken) (docs freqs : List ℕ) : Type 0 where
  same : (reading t bs).verdict ≡ (reading_at t l bs b at least).verdict
  found : find_block_of l.option (skip_bytes_of l bs) bs 0 (full_blocks_of t - b) (walking b at least) ≡ Ok f
  taken : ValuesTaken t l bs f b docs freqs k

at-block : {t : Term} {l : Layout} {bs : List ℕ} {b at least : ℕ} {f : Found} {k : Taken} {docs freqs : List ℕ} {r : Outcome Found}
    → (reading t bs).verdict ≡ (reading_at t l bs b at least).verdict
    → r ≡ find_block_of l.option (skip_bytes_of l bs) bs 0 (full_blocks_of t - b) (walking b at least)
    → r ≡ Ok f → ValuesTaken t l bs f b docs freqs k → AtBlock t l bs b at least f k docs freqs
at-block same e is taken = record { same = same; found = sym e ∙ is; taken = taken }

module _ {t : Term} {l : Layout} {bs : List ℕ} {b at least : ℕ} {f : Found} {k : Taken} {docs freqs : List ℕ}
    (h : AtBlock t l bs b at least f k docs freqs) where
  stops : {n : Refusal} → asked_docs k least docs ≡ Err n → Err n ≡ (reading t bs).verdict
  stops e = sym (h.same ∙ stops_at-docs _ _ _ _ _ _ h.found h.taken e)

  -- as many frequencies to ask as the array has places, or none
  asked-most : {m : ℕ} → m ≡ freqs_to_ask_of k → m ≤ 128
  asked-most e = omega (arith, e, freqs_to_ask_of-most k, h.taken.n_most)

  -- where the next one begins
  next-at : FindsFrom t bs (walking b at least) → {size : ℕ} → size ≡ block_size_of f.info → at + size ≤ length bs
  next-at from e = omega (arith, e, (found-same _ _ _ _ _ _ h.found).1, (found-there _ _ _ _ _ from h.found).bytes)

  -- whose numbers of ids are there
  module _ (there : k.docs_there ≡ true) where
    docs-long : k.n ≤ length docs
    docs-long = omega (arith, (h.taken.docs_fill there).long, h.taken.n_most)

    -- as many are asked as were taken
    many : length (take k.n docs) ≡ k.n
    many = length-take-le k.n docs docs-long

    -- one is a number of 32 bits
    small : (i : ℕ) → get_or (take k.n docs) i 0 < 2 ^ 32
    small i = AllBelow-get_or (take k.n docs) (omega arith) (h.taken.docs_below there) i

    -- behind them
    module _ {behind i : ℕ} (last : length (take k.n docs) ≤ i) (some : 0 < i → 0 < behind)
        (o : Ordered least behind (take k.n docs) (drop i (take k.n docs))) where
      all_ordered : Ordered least behind (take k.n docs) []
      all_ordered = rw (none-left i (take k.n docs) last) at o

      ends : ends_on k.full k.last_doc (ids_behind least (take k.n docs)) ≡ ends_before k.full k.last_doc behind
      ends =
          ordered_ends _ _ _ all_ordered k.full k.last_doc
          (λ full.
          let places : k.n ≡ 128 = h.taken.full_n full in
          (omega (arith, many, places), some (omega (arith, many, places, last))))

      docs-passed : ends_before k.full k.last_doc behind ≡ true → asked_docs k least docs ≡ Ok (ids_behind least (take k.n docs))
      docs-passed e = docs_right _ _ _ there (ordered_all _ _ _ all_ordered) (ends ∙ e)

  -- whose ids are right
  module _ {ds : List ℕ} (right : asked_docs k least docs ≡ Ok ds) where
    stops_behind : {n : Refusal} → asked_freqs k freqs ≡ Err n → Err n ≡ (reading t bs).verdict
    stops_behind e = sym (h.same ∙ stops_at-freqs _ _ _ _ _ _ h.found h.taken right e)

-- those of the frequencies that are asked
asked-front : (k : Taken) (freqs : List ℕ) {m : ℕ} → m ≡ freqs_to_ask_of k → take m freqs ≡ take (freqs_to_ask_of k) freqs
asked-front k freqs e = ap (λ (n : ℕ). take n freqs) e

-- none of the frequencies that were asked is 0, so that none of all is
module _ (k : Taken) (freqs : List ℕ) {fs : List ℕ} (known : k.freqs_nonzero ≡ true → member 0 (take k.n freqs) ≡ false)
    (fs_are : fs ≡ take (freqs_to_ask_of k) freqs) where
  asked-same : member 0 (take k.n freqs) ≡ member 0 fs
  asked-same = asked-all k freqs known ∙ rw fs_are

  none-zero : {i : ℕ} → length fs ≤ i → ZeroToCome fs (drop i fs) → member 0 (take k.n freqs) ≡ false
  none-zero {i} last z = asked-same ∙ to_come_none fs (rw (none-left i fs last) at z)

-- once the frequencies are asked the ids are right
ids_right : (c : After-freqs_to_ask)
    → asked_docs c.take_values-taken.result c.blocks-2.least c.take_values-taken.new.docs
    ≡ Ok (ids_behind c.blocks-2.least (take c.take_values-taken.result.n c.take_values-taken.new.docs))
ids_right c =
    let h = at-block c.blocks-2.invariant.same c.find_block.ensures c.in_ok-found.was c.take_values-taken.ensures in
    docs-passed h (not-false _ c.if-not-taken.false) c.ids-test.false c.ids.invariant.least_some c.ids.invariant.ordered
    (sym c.ends_right.ensures ∙ c.if-not-ends_right.false)

pub blocks-2-init : goal.blocks-2-init
blocks-2-init c = record {
  block_most_is = zero-le;
  at_inside = (laid_out _ _ c.args.self.now.laid_out).inside;
  least_most = zero-le;
  same = ap (λ (r : Reading). r.verdict) (reading-whole _ _ _ c.args.self.now.laid_out);
}

pub invariant_of-here : goal.invariant_of-here
invariant_of-here c =
    let from = walking-from _ c.args.self.now.layout _ c.blocks-2.invariant.block_most_is c.blocks-2.invariant.at_inside in
    let found = (sym c.find_block.ensures ∙ c.in_ok-found.was) in
    let there = found-there _ _ _ _ _ from found in
    record { there = (there, omega (arith, few c.args.self.now.term c.args.self.now.image.now c.args.self.now.laid_out c.blocks-2.invariant.block_most_is), omega (arith, there.bytes)) }

pub ids-init : goal.ids-init
ids-init c = record {
  least_most = c.blocks-2.invariant.least_most;
  least_some = λ no. absurd (omega arith);
  ordered = ordered_none _ _;
}

pub ids-preserved : goal.ids-preserved
ids-preserved c =
    let first = first-left c.ids.difference-index (take c.take_values-taken.result.n c.take_values-taken.new.docs) c.ids-test.true in
    let some = pos_of_ne-zero c.if-difference-eq0.false in
    record {
      least_most = c.if-least.false;
      least_some = λ _. omega arith;
      ordered = ordered_next _ _ _ _ _ (rw first at c.ids.invariant.ordered) some c.if-least.false;
    }

pub slice_bounds-freqs-end : goal.slice_bounds-freqs-end
slice_bounds-freqs-end c =
    let h = at-block c.blocks-2.invariant.same c.find_block.ensures c.in_ok-found.was c.take_values-taken.ensures in
    omega (arith, asked-most h c.freqs_to_ask.ensures, c.take_values-taken.ensures.freqs_fill.long)

pub slice_bounds-freq-items-end : goal.slice_bounds-freq-items-end
slice_bounds-freq-items-end c =
    let h = at-block c.blocks-2.invariant.same c.find_block.ensures c.in_ok-found.was c.take_values-taken.ensures in
    let few : c.freqs_to_ask.result ≤ length c.take_values-taken.new.freqs
    = omega (arith, asked-most h c.freqs_to_ask.ensures, c.take_values-taken.ensures.freqs_fill.long) in
    omega (arith, length-take-le _ c.take_values-taken.new.freqs few)

pub counts-preserved : goal.counts-preserved
counts-preserved c =
    to_come_next _ _ _
    (rw (first-left c.counts.freq-index (take c.freqs_to_ask.result c.take_values-taken.new.freqs) c.counts-test.true) at c.counts.invariant)
    c.if-freq-eq0.false

-- the place behind a full block's bytes
pub overflow_add-at : goal.overflow_add-at
overflow_add-at c =
    let h = at-block c.blocks-2.invariant.same c.find_block.ensures c.in_ok-found.was c.take_values-taken.ensures in
    let from = walking-from _ c.args.self.now.layout _ c.blocks-2.invariant.block_most_is c.blocks-2.invariant.at_inside in
    let inside : c.blocks-2.at + c.block_size-at.result ≤ length c.args.self.now.image.now = next-at h from c.block_size-at.ensures in
    omega (arith, inside)

pub blocks-2-smaller : goal.blocks-2-smaller
blocks-2-smaller c =
    let h = at-block c.blocks-2.invariant.same c.find_block.ensures c.in_ok-found.was c.take_values-taken.ensures in
    omega (arith, full-within _ _ _ _ _ _ h.found h.taken (not-false _ c.if-not-taken-4.false))

pub blocks-2-preserved : goal.blocks-2-preserved
blocks-2-preserved c =
    let h = at-block c.blocks-2.invariant.same c.find_block.ensures c.in_ok-found.was c.take_values-taken.ensures in
    let from = walking-from _ c.args.self.now.layout _ c.blocks-2.invariant.block_most_is c.blocks-2.invariant.at_inside in
    let ends = sym c.ends_right.ensures ∙ c.if-not-ends_right.false in
    let docs = ids_right (goal.at.blocks-2-preserved c).After-freqs_to_ask in
    let freqs = freqs_right _ _ (not-false _ c.if-not-taken-2.false) (none-zero _ _ c.take_values-taken.ensures.freqs_nonzero (asked-front _ c.take_values-taken.new.freqs c.freqs_to_ask.ensures) c.counts-test.false c.counts.invariant) (not-false _ c.if-not-taken-3.false) in
    let full = not-false _ c.if-not-taken-4.false in
    record {
      block_most_is = omega (arith, full-within _ _ _ _ _ _ h.found h.taken full);
      at_inside = next-at h from c.block_size-at.ensures;
      least_most = c.ids.invariant.least_most;
      same = h.same ∙ goes_on _ _ _ _ _ _ h.found h.taken docs freqs full c.block_size-at.ensures (ends-full _ _ _ full ends);
    }

pub returns-in_err-found : goal.returns-in_err-found
returns-in_err-found c =
    let none = sym c.find_block.ensures ∙ c.in_err-found.was in
    rw (passed_on c.from_residual.ensures.1)
    (sym (c.blocks-2.invariant.same ∙ reading_stops _ _ _ _ _ _ (loaded_at-none _ _ _ _ _ _ none)))

pub returns-then-not-taken : goal.returns-then-not-taken
returns-then-not-taken c =
    let h = at-block c.blocks-2.invariant.same c.find_block.ensures c.in_ok-found.was c.take_values-taken.ensures in
    stops h (docs_broken _ _ _ (not-true _ c.if-not-taken.true))

pub returns-then-difference-eq0 : goal.returns-then-difference-eq0
returns-then-difference-eq0 c =
    let h = at-block c.blocks-2.invariant.same c.find_block.ensures c.in_ok-found.was c.take_values-taken.ensures in
    let there = not-false _ c.if-not-taken.false in
    let first = first-left c.ids.difference-index (take c.take_values-taken.result.n c.take_values-taken.new.docs) c.ids-test.true in
    let ordered = rw first at c.ids.invariant.ordered in
    stops h
    (docs_fallen _ _ _ there
    (elim c.then-difference-eq0.branch [
      | then-difference-eq0-via-then-difference-eq0 w ↦ ordered_same _ _ _ _ _ ordered w.if-difference-eq0.true
      | then-difference-eq0-via-else-difference-eq0+then-least w ↦ ordered_over _ _ _ _ _ ordered w.if-least.true
    ]))

pub returns-then-not-ends_right : goal.returns-then-not-ends_right
returns-then-not-ends_right c =
    let h = at-block c.blocks-2.invariant.same c.find_block.ensures c.in_ok-found.was c.take_values-taken.ensures in
    let there = not-false _ c.if-not-taken.false in
    let last = c.ids-test.false in
    let wrong = ends h there last c.ids.invariant.least_some c.ids.invariant.ordered ∙ (sym c.ends_right.ensures ∙ c.if-not-ends_right.true) in
    stops h (docs-end_wrong _ _ _ there wrong)

pub returns-then-not-taken-2 : goal.returns-then-not-taken-2
returns-then-not-taken-2 c =
    let h = at-block c.blocks-2.invariant.same c.find_block.ensures c.in_ok-found.was c.take_values-taken.ensures in
    let there = not-false _ c.if-not-taken.false in
    let last = c.ids-test.false in
    let ends = sym c.ends_right.ensures ∙ c.if-not-ends_right.false in
    let docs = docs-passed h there last c.ids.invariant.least_some c.ids.invariant.ordered ends in
    stops_behind h docs (freqs_broken _ _ (not-true _ c.if-not-taken-2.true))

pub returns-then-freq-eq0 : goal.returns-then-freq-eq0
returns-then-freq-eq0 c =
    let h = at-block c.blocks-2.invariant.same c.find_block.ensures c.in_ok-found.was c.take_values-taken.ensures in
    let docs = ids_right (goal.at.returns-then-freq-eq0 c).After-freqs_to_ask in
    let fs_are = asked-front _ c.take_values-taken.new.freqs c.freqs_to_ask.ensures in
    let to_come = rw (first-left c.counts.freq-index (take c.freqs_to_ask.result c.take_values-taken.new.freqs) c.counts-test.true) at c.counts.invariant in
    stops_behind h docs
    (freqs_wrong _ _ (not-false _ c.if-not-taken-2.false)
    (asked-same _ _ c.take_values-taken.ensures.freqs_nonzero fs_are ∙ to_come_zero _ _ _ to_come c.if-freq-eq0.true))

pub returns-then-not-taken-3 : goal.returns-then-not-taken-3
returns-then-not-taken-3 c =
    let h = at-block c.blocks-2.invariant.same c.find_block.ensures c.in_ok-found.was c.take_values-taken.ensures in
    let docs = ids_right (goal.at.returns-then-not-taken-3 c).After-freqs_to_ask in
    stops_behind h docs
    (freqs-not-last _ _ (not-false _ c.if-not-taken-2.false) (none-zero _ _ c.take_values-taken.ensures.freqs_nonzero (asked-front _ c.take_values-taken.new.freqs c.freqs_to_ask.ensures) c.counts-test.false c.counts.invariant) (not-true _ c.if-not-taken-3.true))

pub returns-then-not-taken-4 : goal.returns-then-not-taken-4
returns-then-not-taken-4 c =
    let h = at-block c.blocks-2.invariant.same c.find_block.ensures c.in_ok-found.was c.take_values-taken.ensures in
    let docs = ids_right (goal.at.returns-then-not-taken-4 c).After-freqs_to_ask in
    let freqs = freqs_right _ _ (not-false _ c.if-not-taken-2.false) (none-zero _ _ c.take_values-taken.ensures.freqs_nonzero (asked-front _ c.take_values-taken.new.freqs c.freqs_to_ask.ensures) c.counts-test.false c.counts.invariant) (not-false _ c.if-not-taken-3.false) in
    sym (h.same ∙ ends-at-tail _ _ _ _ _ _ h.found h.taken docs freqs (not-true _ c.if-not-taken-4.true))
