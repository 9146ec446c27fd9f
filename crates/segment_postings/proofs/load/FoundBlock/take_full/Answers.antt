-- Each way to a return is a case of a full block in `TakeValuesCases.antt`; the calls and the tests of the ways give what that case asks.
use Rattle.std.proofs.Common.{◌≡◌, ℕ, ◌+◌, ◌-◌, ◌*◌, ◌<◌, ◌≤◌, Bool, true, false, List, map, length, take, drop, sym, ap, ◌∙◌, arith}
use Rattle.std.specs.Prelude.{◌&&◌ as and, ltb}
use mathlib.Core.Bool.{false≢true}
use borrow.Author.Tests.{ltb-true}
use Rattle.format.specs.declared.Term.{Term}
use Rattle.format.specs.Bitpacking.{unpack}
use Rattle.format.specs.SkipEntry.{has_freq_of, block_size_of}
use Rattle.format.specs.Values.{reduction}
use Rattle.bitpacking.specs.Packed.{Unpacked, with_more_of}
use Rattle.compression.specs.Restored.{as_differences}
use Rattle.segment_postings.specs.declared.find.Found.{Found}
use Rattle.segment_postings.specs.Taken.{full_taken_of}
use Rattle.segment_postings.specs.Private.{FoundThere}
use Rattle.segment_postings.proofs.load.BlockQuestions.{full_differences}
use Rattle.segment_postings.proofs.load.TakeValuesCases.{unpacked_from, values-small, full-docs, full_without, full_with, unkept, unasked, asked_for, told}
use Rattle.segment_postings.proofs.load.FoundBlock.take_full.Goals as goal
use Rattle.segment_postings.proofs.load.FoundBlock.take_full.Goals.{After-has_freq-kept, then-not-info, else-not-info, then-info, else-info}
use Rattle.segment_postings.proofs.load.FoundBlock.take_full.Goals.{then-not-kept-via-then-not-kept, then-not-kept-via-else-not-kept+then-self-eq0}

-- ---- a full block's values

-- the bytes of a full block are there
full-room : (t : Term) (f : Found) (bs : List ℕ) → FoundThere t bs f → f.at + 16 * f.info.doc_width + 16 * f.info.freq_width ≤ length bs
unfolding block_size_of
full-room t f bs there = omega (arith, there.bytes)

-- its ids as they are unpacked
ids_unpacked : (f : Found) (bs before after : List ℕ) (more : ℕ) (done : Bool)
    → Unpacked f.info.doc_width more (take (length bs - f.at) (drop f.at bs)) before after done → more ≡ reduction f.info.strict
    → f.info.doc_width ≤ 31 → f.at + 16 * f.info.doc_width ≤ length bs
    → after ≡ map (with_more_of (reduction f.info.strict)) (unpack f.info.doc_width (drop f.at bs))
ids_unpacked f bs before after more done u is narrow room =
    rw (← is) (unpacked_from f.info.doc_width more f.at bs before after done u (omega arith) room)

-- .. and taken
ids_taken : (f : Found) (bs docs docs' : List ℕ) → f.info.doc_width ≤ 31
    → docs ≡ map (with_more_of (reduction f.info.strict)) (unpack f.info.doc_width (drop f.at bs))
    → (f.info.strict ≡ true → docs' ≡ docs) → (f.info.strict ≡ false → docs' ≡ as_differences f.least docs)
    → docs' ≡ full_differences f.info.strict f.least (unpack f.info.doc_width (drop f.at bs))
ids_taken f bs docs docs' narrow is same other =
    full-docs f.info.strict f.least _ docs docs' (values-small f.info.doc_width _ narrow) is same other

-- ---- the ways to a return

-- the ids of a full block, once they were taken
docs_are : (c : After-has_freq-kept)
    → c.if-not-info.docs ≡ full_differences c.args.self.now.found.info.strict c.args.self.now.found.least (unpack c.args.self.now.found.info.doc_width (drop c.args.self.now.found.at c.args.self.now.laid.image.now))
docs_are c =
    let room = full-room c.args.self.now.laid.term c.args.self.now.found c.args.self.now.laid.image.now c.args.self.now.there.0 in
    let unpacked = ids_unpacked c.args.self.now.found c.args.self.now.laid.image.now _ _ _ _ c.unpack.ensures c.reduction-more.ensures c.args.self.now.there.0.doc_width (omega (arith, room)) in
    ids_taken c.args.self.now.found c.args.self.now.laid.image.now c.unpack.new.values c.if-not-info.docs c.args.self.now.there.0.doc_width unpacked
    (λ strict. elim c.if-not-info.branch [
      | then-not-info w ↦ absurd (false≢true (sym w.if-not-info.true ∙ strict))
      | else-not-info w ↦ w.docs-is
    ])
    (λ plain. elim c.if-not-info.branch [
      | then-not-info w ↦ w.docs-is ∙ w.first_as_difference.ensures
      | else-not-info w ↦ absurd (false≢true (sym plain ∙ w.if-not-info.false))
    ])

pub returns-then-not-kept : goal.returns-then-not-kept
returns-then-not-kept c =
    let unwanted : and (has_freq_of c.args.self.now.laid.layout.option) (ltb 0 c.args.self.now.laid.term.requested) ≡ false
    = elim c.then-not-kept.branch [
      | then-not-kept-via-then-not-kept w ↦ unkept _ _ (sym c.has_freq-kept.ensures ∙ w.if-not-kept.true)
      | then-not-kept-via-else-not-kept+then-self-eq0 w ↦ unasked _ _ w.if-self-eq0.true
    ] in
    told ((rw c.counted-counted.ensures at c.full_taken.ensures) ∙ ap (λ (kept : Bool). full_taken_of c.args.self.now.found.info true kept (c.args.self.now.unpacked + 1)) c.has_freq-kept.ensures)
    (full_without c.args.self.now.laid.term c.args.self.now.laid.layout c.args.self.now.laid.image.now c.args.self.now.found c.args.self.now.unpacked
    c.requires c.args.self.now.there.0.doc_width _ (docs_are (goal.at.returns-then-not-kept c).After-has_freq-kept) unwanted)

pub slice_bounds-unpack-count-2 : goal.slice_bounds-unpack-count-2
slice_bounds-unpack-count-2 c = omega (arith, full-room c.args.self.now.laid.term c.args.self.now.found c.args.self.now.laid.image.now c.args.self.now.there.0)

pub slice_bounds-unpack-start-2 : goal.slice_bounds-unpack-start-2
slice_bounds-unpack-start-2 c = omega (arith, full-room c.args.self.now.laid.term c.args.self.now.found c.args.self.now.laid.image.now c.args.self.now.there.0)

pub returns : goal.returns
returns c =
    let f : Found = c.args.self.now.found in
    let bs : List ℕ = c.args.self.now.laid.image.now in
    let room = full-room c.args.self.now.laid.term c.args.self.now.found c.args.self.now.laid.image.now c.args.self.now.there.0 in
    let wanted = asked_for _ c.args.self.now.laid.term.requested (sym c.has_freq-kept.ensures ∙ c.if-not-kept.false) c.if-self-eq0.false in
    let p : ℕ = f.at + c.compressed_block_size.result in
    let place : p ≡ f.at + 16 * f.info.doc_width = omega arith in
    let freqs_are = unpacked_from f.info.freq_width c.reduction-more.result p bs _ _ _ c.unpack-2.ensures c.args.self.now.there.0.freq_width (omega (arith, room)) in
    let ruled_out : c.if-info.full_taken ≡ true → (f.info.strict ≡ true) × (f.info.freq_width < 32)
    = λ h. elim c.if-info.branch [
      | then-info w ↦ (w.if-info.true, ltb-true _ _ (sym w.full_taken-is ∙ h))
      | else-info w ↦ absurd (false≢true (sym w.if-info.false ∙ (sym w.full_taken-is ∙ h)))
    ] in
    told ((rw c.counted-counted.ensures at c.full_taken-2.ensures) ∙ ap (λ (kept : Bool). full_taken_of f.info c.if-info.full_taken kept (c.args.self.now.unpacked + 1)) c.has_freq-kept.ensures)
    (full_with c.args.self.now.laid.term c.args.self.now.laid.layout bs f c.args.self.now.unpacked
    c.requires c.args.self.now.there.0.doc_width _ (docs_are (goal.at.returns c).After-has_freq-kept) _ p _ wanted ruled_out
    c.args.self.now.there.0.freq_width place
    (freqs_are ∙ ap (λ (more : ℕ). map (with_more_of more) (unpack f.info.freq_width (drop p bs))) c.reduction-more.ensures))
