-- Each way to a return is a case of a tail in `TakeValuesCases.antt`; the calls and the tests of the ways give what that case asks.
use Rattle.std.proofs.Common.{◌≡◌, ℕ, ◌+◌, ◌%◌, ◌/◌, Bool, true, false, List, ◌++◌, take, drop, replicate, sym, ap, ◌∙◌}
use mathlib.Core.Path.{ap₂}
use Rattle.std.specs.Prelude.{◌&&◌ as and, eqb, ltb}
use native.Mathlib.Nat.{pos_of_ne-zero}
use Rattle.format.specs.declared.Layout.{Layout}
use Rattle.format.specs.declared.Term.{Term}
use Rattle.format.specs.Basics.{TERMINATED}
use Rattle.format.specs.Layout.{full_blocks_of}
use Rattle.format.specs.Reading.{keeps_freqs_of}
use Rattle.compression.specs.Restored.{as_differences}
use Rattle.segment_postings.specs.Taken.{tail_taken_of}
use Rattle.segment_postings.proofs.load.TakeValuesCases.{tail_broken, tail_without, tail-unasked, tail-freqs_broken, tail_with, unkept, unasked, asked_for, told}
use Rattle.segment_postings.proofs.load.FoundBlock.take_tail.Goals as goal
use Rattle.segment_postings.proofs.load.FoundBlock.take_tail.Goals.{then-not-kept-via-then-not-kept, then-not-kept-via-else-not-kept+then-n-eq0}

-- ---- whether frequencies are taken

-- of a tail it is told by the bytes behind its ids
keeps : (t : Term) (l : Layout) (rest : List ℕ) {blocks : ℕ} {kept : Bool} → blocks ≡ t.count / 128
    → kept ≡ keeps_freqs_of l.option (eqb blocks 0) (t.count % 128) rest
    → kept ≡ keeps_freqs_of l.option (eqb (full_blocks_of t) 0) (t.count % 128) rest
unfolding full_blocks_of
keeps t l rest is e = rw is at e

-- ---- a tail's values

-- what the ids' places hold once the first is a difference
ids_left : (n least : ℕ) (ids front : List ℕ) → front ≡ as_differences least (take n ids)
    → front ++ drop n ids ≡ as_differences least (take n ids) ++ drop n ids
ids_left n least ids front e = ap (λ (xs : List ℕ). xs ++ drop n ids) e

-- ---- the ways to a return

pub returns-in_default : goal.returns-in_default
returns-in_default c =
    rw (c.tail_taken.ensures, c.counted-counted.ensures)
    (tail_broken c.args.self.now.laid.term c.args.self.now.laid.layout c.args.self.now.laid.image.now c.args.self.now.found c.args.self.now.unpacked
    c.requires _
    (sym c.in_default.is ∙ c.uncompress_unsorted.ensures.value))

pub returns-then-not-kept : goal.returns-then-not-kept
returns-then-not-kept c =
    let n : ℕ = c.args.self.now.laid.term.count % 128 in
    let ids : List ℕ = c.uncompress_unsorted.new.values ++ drop n (replicate 128 TERMINATED) in
    let kept_is = keeps c.args.self.now.laid.term c.args.self.now.laid.layout (drop c.in-Some.behind c.args.self.now.laid.image.now) c.full_blocks-alone.ensures c.keeps_freqs-kept.ensures in
    let without : and (keeps_freqs_of c.args.self.now.laid.layout.option (eqb (full_blocks_of c.args.self.now.laid.term) 0) n (drop c.in-Some.behind c.args.self.now.laid.image.now)) (ltb 0 n) ≡ false
    = elim c.then-not-kept.branch [
      | then-not-kept-via-then-not-kept w ↦ unkept _ _ (sym kept_is ∙ w.if-not-kept.true)
      | then-not-kept-via-else-not-kept+then-n-eq0 w ↦ unasked _ _ w.if-n-eq0.true
    ] in
    rw (c.tail_taken-then-not-kept.ensures, c.counted-counted.ensures)
    (told
    (ap₂ (λ (end kept : Bool). tail_taken_of n true true true end kept (c.args.self.now.unpacked + 1)) c.none_left.ensures kept_is)
    (tail_without c.args.self.now.laid.term c.args.self.now.laid.layout c.args.self.now.laid.image.now c.args.self.now.found c.args.self.now.unpacked
    c.requires c.in-Some.behind c.uncompress_unsorted.new.values
    (sym c.in-Some.is ∙ c.uncompress_unsorted.ensures.value) c.uncompress_unsorted.ensures.values_after _
    (ids_left n c.args.self.now.found.least ids c.first_as_difference.new.values c.first_as_difference.ensures) without))

pub returns-then-self-eq0 : goal.returns-then-self-eq0
returns-then-self-eq0 c =
    let n : ℕ = c.args.self.now.laid.term.count % 128 in
    let ids : List ℕ = c.uncompress_unsorted.new.values ++ drop n (replicate 128 TERMINATED) in
    let kept_is = keeps c.args.self.now.laid.term c.args.self.now.laid.layout (drop c.in-Some.behind c.args.self.now.laid.image.now) c.full_blocks-alone.ensures c.keeps_freqs-kept.ensures in
    let has = asked_for _ n (sym kept_is ∙ c.if-not-kept.false) c.if-n-eq0.false in
    told
    ((rw c.counted-counted.ensures at c.tail_taken-then-self-eq0.ensures) ∙ ap (λ (kept : Bool). tail_taken_of n true true true true kept (c.args.self.now.unpacked + 1)) kept_is)
    (tail-unasked c.args.self.now.laid.term c.args.self.now.laid.layout c.args.self.now.laid.image.now c.args.self.now.found c.args.self.now.unpacked
    c.requires c.in-Some.behind c.uncompress_unsorted.new.values
    (sym c.in-Some.is ∙ c.uncompress_unsorted.ensures.value) c.uncompress_unsorted.ensures.values_after _
    (ids_left n c.args.self.now.found.least ids c.first_as_difference.new.values c.first_as_difference.ensures) has c.if-self-eq0.true)

pub returns-in_default-uncompress_unsorted : goal.returns-in_default-uncompress_unsorted
returns-in_default-uncompress_unsorted c =
    let n : ℕ = c.args.self.now.laid.term.count % 128 in
    let ids : List ℕ = c.uncompress_unsorted.new.values ++ drop n (replicate 128 TERMINATED) in
    let kept_is = keeps c.args.self.now.laid.term c.args.self.now.laid.layout (drop c.in-Some.behind c.args.self.now.laid.image.now) c.full_blocks-alone.ensures c.keeps_freqs-kept.ensures in
    let has = asked_for _ n (sym kept_is ∙ c.if-not-kept.false) c.if-n-eq0.false in
    rw (c.tail_taken-in_default-uncompress_unsorted.ensures, c.counted-counted.ensures)
    (told
    (ap (λ (kept : Bool). tail_taken_of n true false true true kept (c.args.self.now.unpacked + 1)) kept_is)
    (tail-freqs_broken c.args.self.now.laid.term c.args.self.now.laid.layout c.args.self.now.laid.image.now c.args.self.now.found c.args.self.now.unpacked
    c.requires c.in-Some.behind c.uncompress_unsorted.new.values
    (sym c.in-Some.is ∙ c.uncompress_unsorted.ensures.value) c.uncompress_unsorted.ensures.values_after _
    (ids_left n c.args.self.now.found.least ids c.first_as_difference.new.values c.first_as_difference.ensures) has
    (pos_of_ne-zero c.if-self-eq0.false) (sym c.in_default-uncompress_unsorted.is ∙ c.uncompress_unsorted-2.ensures.value)))

pub returns : goal.returns
returns c =
    let n : ℕ = c.args.self.now.laid.term.count % 128 in
    let ids : List ℕ = c.uncompress_unsorted.new.values ++ drop n (replicate 128 TERMINATED) in
    let kept_is = keeps c.args.self.now.laid.term c.args.self.now.laid.layout (drop c.in-Some.behind c.args.self.now.laid.image.now) c.full_blocks-alone.ensures c.keeps_freqs-kept.ensures in
    let has = asked_for _ n (sym kept_is ∙ c.if-not-kept.false) c.if-n-eq0.false in
    rw (c.tail_taken-2.ensures, c.counted-counted.ensures)
    (told
    (ap₂ (λ (end kept : Bool). tail_taken_of n true true false end kept (c.args.self.now.unpacked + 1)) c.none_left-2.ensures kept_is)
    (tail_with c.args.self.now.laid.term c.args.self.now.laid.layout c.args.self.now.laid.image.now c.args.self.now.found c.args.self.now.unpacked
    c.requires c.in-Some.behind c.uncompress_unsorted.new.values
    (sym c.in-Some.is ∙ c.uncompress_unsorted.ensures.value) c.uncompress_unsorted.ensures.values_after _
    (ids_left n c.args.self.now.found.least ids c.first_as_difference.new.values c.first_as_difference.ensures) has
    (pos_of_ne-zero c.if-self-eq0.false) _ _ (sym c.in-Some-uncompress_unsorted.is ∙ c.uncompress_unsorted-2.ensures.value)
    c.uncompress_unsorted-2.ensures.values_after))
