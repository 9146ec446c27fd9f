-- The questions asked of a block's values in turn are those that the definitions ask of the block. Ids by their differences are the ids of
-- the values, and question 6 is the same (`Differ`); a frequency that is out of range is 0 in its place of 32 bits, and no other is. Of a
-- full block the numbers are always there and its bytes end where its entry says; of a tail each case is one of the definition's.
-- Assumes nothing.
use Rattle.format.specs.declared.refusal.Refusal.{Refusal}
use Rattle.format.specs.declared.refusal.Refusal.TheVariants.{DocsNotRising, FreqOutOfRange, NumberBroken, BytesLeft}
use Rattle.std.specs.Prelude.{◌≡◌, ℕ, zero, suc, ◌+◌, ◌*◌, ◌%◌, ◌^◌, ◌<◌, ◌≤◌, Bool, true, false, not, ◌&&◌ as and, eqb, ltb, List, [], ◌∷◌, ◌++◌, map, length, take, drop, replicate, Ok, Err, None, Some}
use mathlib.Core.Path.{refl, sym, ap, ap₂, ◌∙◌}
use mathlib.Core.Bool.{and-true, and-false}
use mathlib.Core.List.{append-nil}
use native.Mathlib.Nat.{le_of_eq, add-zero, mod-eq_of_lt, pow-le-pow_right}
use native.Mathlib.Omega.{arith}
use lib.ListN.{length-append, length-take, length-drop, length-map, drop_of_length-le}
use lib.Seq.{take_all, take_at, drop_at}
use borrow.Author.Tests.{lt-ltb, le-ltb, ne_eqb, ltb-true}
use Rattle.format.specs.declared.BlockInfo.{BlockInfo}
use Rattle.format.specs.declared.IndexRecordOption.{IndexRecordOption}
use Rattle.format.specs.declared.Layout.{Layout}
use Rattle.format.specs.declared.Term.{Term}
use Rattle.format.specs.Basics.{Outcome, and_then, ask, choose, TERMINATED, AllBelow}
use Rattle.format.specs.Model.{member}
use Rattle.format.specs.Bitpacking.{unpack}
use Rattle.format.specs.SkipEntry.{has_freq_of}
use Rattle.format.specs.Values.{ids, rising, restored, reduction, countable}
use Rattle.format.specs.Vint.{Numbers, tail_numbers}
use Rattle.format.specs.Layout.{full_blocks_of, tail_length}
use Rattle.format.specs.Reading.{full_freqs, full_block, ended, tail_freqs, tail_has_freq, tail_block}
use Rattle.format.proofs.Choice.{choose_elim}
use Rattle.format.proofs.Lists.{AllBelow-le}
use Rattle.format.proofs.Bitpacking.{unpack-length, unpack-below}
use Rattle.format.proofs.Opened.{full_docs-is, full_freqs-unread, full_freqs-read, full_block-is, numbers-is, tail_freqs-read, tail_block-is}
use Rattle.format.proofs.Values.{length-restored}
use Rattle.format.proofs.Vints.{numbers-used}
use Rattle.bitpacking.specs.Packed.{with_more_of}
use Rattle.compression.specs.Restored.{ids_behind, differences_rise, first_difference_of, as_differences}
use Rattle.compression.proofs.Differences.{Differ, differ_strict, differ_plain}
use Rattle.compression.proofs.Frequencies.{countable-kept, countable_wrapped, countable_nonzero}
use Rattle.vint.specs.Numbers.{behind, filled}
use Rattle.segment_postings.specs.declared.find.Found.{Found}
use Rattle.segment_postings.specs.declared.load.Taken.{Taken}
use Rattle.segment_postings.specs.Landing.{load_block_of}
use Rattle.segment_postings.specs.Taken.{full_taken_of, tail_taken_of, ends_on, asked_freqs, asked_docs, asked}

-- ---- the definitions, opened by one turn

-- two questions before what follows them
then_asked : {A B : Type 0} (a b : Bool) (m n : Refusal) (x : A) (f : A → Outcome B)
    → and_then (ask a m λ _. ask b n λ _. Ok x) f ≡ ask a m λ _. ask b n λ _. f x
unfolding and_then ask
then_asked true true m n x f = refl
then_asked true false m n x f = refl
then_asked false b m n x f = refl

pub asked_is : (k : Taken) (least : ℕ) (docs freqs : List ℕ)
    → asked k least docs freqs
    ≡ (let vs : List ℕ = take k.n docs in
    ask k.docs_there NumberBroken λ _.
    ask (and (differences_rise least vs) (ends_on k.full k.last_doc (ids_behind least vs))) DocsNotRising λ _.
    and_then (asked_freqs k freqs) λ fs.
    Ok (record { docs = ids_behind least vs; freqs = fs; last = k.last_doc }))
unfolding asked asked_docs
asked_is k least docs freqs =
    let vs : List ℕ = take k.n docs in
    then_asked k.docs_there (and (differences_rise least vs) (ends_on k.full k.last_doc (ids_behind least vs))) NumberBroken DocsNotRising
    (ids_behind least vs)
    (λ ds. and_then (asked_freqs k freqs) λ fs. Ok (record { docs = ds; freqs = fs; last = k.last_doc }))

-- ---- the questions in turn, each where those before it were answered yes

module _ (k : Taken) (least : ℕ) (docs : List ℕ) where
  abbrev vs : List ℕ
  vs = take k.n docs

  pub docs_broken : k.docs_there ≡ false → asked_docs k least docs ≡ Err NumberBroken
  unfolding asked_docs ask
  docs_broken h = rw h

  module _ (there : k.docs_there ≡ true) where
    pub docs_fallen : differences_rise least vs ≡ false → asked_docs k least docs ≡ Err DocsNotRising
    unfolding asked_docs ask
    docs_fallen h = rw (there, h)

    pub docs-end_wrong : ends_on k.full k.last_doc (ids_behind least vs) ≡ false → asked_docs k least docs ≡ Err DocsNotRising
    unfolding asked_docs ask
    docs-end_wrong h = rw (there, h, and-false (differences_rise least vs))

    pub docs_right : differences_rise least vs ≡ true → ends_on k.full k.last_doc (ids_behind least vs) ≡ true
        → asked_docs k least docs ≡ Ok (ids_behind least vs)
    unfolding asked_docs ask
    docs_right rises ends = rw (there, rises, ends)

module _ (k : Taken) (freqs : List ℕ) where
  abbrev fs : List ℕ
  fs = take k.n freqs

  pub freqs_broken : k.freqs_there ≡ false → asked_freqs k freqs ≡ Err NumberBroken
  unfolding asked_freqs ask
  freqs_broken h = rw h

  module _ (there : k.freqs_there ≡ true) where
    pub freqs_wrong : member 0 fs ≡ true → asked_freqs k freqs ≡ Err FreqOutOfRange
    unfolding asked_freqs ask
    freqs_wrong h = rw (there, h)

    module _ (counts : member 0 fs ≡ false) where
      pub freqs-not-last : k.ended ≡ false → asked_freqs k freqs ≡ Err BytesLeft
      unfolding asked_freqs ask
      freqs-not-last h = rw (there, counts, h)

      pub freqs_right : k.ended ≡ true → asked_freqs k freqs ≡ Ok fs
      unfolding asked_freqs ask
      freqs_right h = rw (there, counts, h)

-- no 1 is 0
pub ones_nonzero : (n : ℕ) → member 0 (replicate n 1) ≡ false
unfolding member
ones_nonzero zero = refl
ones_nonzero (suc n) = ones_nonzero n

-- frequencies that weren't read: question 9 alone is left
asked_freqs-unread : (k : Taken) (freqs : List ℕ) → k.freqs_there ≡ true → take k.n freqs ≡ replicate k.n 1
    → asked_freqs k freqs ≡ ask k.ended BytesLeft λ _. Ok (replicate k.n 1)
unfolding asked_freqs ask
asked_freqs-unread k freqs there ones = rw (there, ones, ones_nonzero k.n)

-- ---- what differences and places of 32 bits have in the place of values

-- ids by their differences: question 6 and what follows it
docs_same : {B : Type 0} {strict : Bool} {least : ℕ} {vs ds : List ℕ} → Differ strict least vs ds → (full : Bool) (last : ℕ) (n : Refusal) (g : List ℕ → Outcome B)
    → (ask (and (differences_rise least ds) (ends_on full last (ids_behind least ds))) n λ _. g (ids_behind least ds))
    ≡ (ask (and (rising least (ids strict least vs)) (ends_on full last (ids strict least vs))) n λ _. g (ids strict least vs))
unfolding ask
docs_same {B} {strict} {least} {vs} {ds} d full last n g = go (differences_rise least ds) refl
  where
    go : (t : Bool) → differences_rise least ds ≡ t
        → (ask (and (differences_rise least ds) (ends_on full last (ids_behind least ds))) n λ _. g (ids_behind least ds))
        ≡ (ask (and (rising least (ids strict least vs)) (ends_on full last (ids strict least vs))) n λ _. g (ids strict least vs))
    go true e = rw (d.same e, ← d.question)
    go false e = rw (← d.question, e)

-- frequencies in places of 32 bits: question 7 and what follows it
freqs_same : {B : Type 0} (fs : List ℕ) → AllBelow (2 ^ 32 + 1) fs → (n : Refusal) (g : List ℕ → Outcome B)
    → (ask (not (member 0 (map (λ f. f % 2 ^ 32) fs))) n λ _. g (map (λ f. f % 2 ^ 32) fs)) ≡ (ask (countable fs) n λ _. g fs)
unfolding ask
freqs_same {B} fs small n g = go (countable fs) refl
  where
    go : (t : Bool) → countable fs ≡ t
        → (ask (not (member 0 (map (λ f. f % 2 ^ 32) fs))) n λ _. g (map (λ f. f % 2 ^ 32) fs)) ≡ (ask (countable fs) n λ _. g fs)
    go true e = rw (countable_wrapped fs small, countable-kept fs e)
    go false e = rw (countable_wrapped fs small, e)

-- ---- values with what the strict form left out

with_more_lem : (strict : Bool) (vs : List ℕ) → map (with_more_of (reduction strict)) vs ≡ map (λ f. f % 2 ^ 32) (restored strict vs)
unfolding with_more_of restored
with_more_lem strict [] = refl
with_more_lem strict (v ∷ vs) = ap (λ (ks : List ℕ). ((v + reduction strict) % 2 ^ 32) ∷ ks) (with_more_lem strict vs)

-- .. of less than 32 bits are whole
pub more-small : (strict : Bool) (vs : List ℕ) → AllBelow (2 ^ 31) vs → map (with_more_of (reduction strict)) vs ≡ restored strict vs
unfolding with_more_of restored reduction
more-small strict [] a = refl
more-small true (v ∷ vs) a = ap₂ (λ (k : ℕ) (ks : List ℕ). k ∷ ks) (mod-eq_of_lt (omega (arith, a.0))) (more-small true vs a.1)
more-small false (v ∷ vs) a = ap₂ (λ (k : ℕ) (ks : List ℕ). k ∷ ks) (mod-eq_of_lt (omega (arith, a.0))) (more-small false vs a.1)

-- .. and none of them is 0 in the strict form
pub strict_nonzero : (vs : List ℕ) → member 0 (restored true vs) ≡ false
unfolding restored reduction member
strict_nonzero [] = refl
strict_nonzero (v ∷ vs) = rw (ne_eqb 0 (v + 1) (omega arith)) (strict_nonzero vs)

-- .. and are the values themselves in the non-strict form
pub restored-plain : (vs : List ℕ) → restored false vs ≡ vs
unfolding restored reduction
restored-plain [] = refl
restored-plain (v ∷ vs) = ap₂ (λ (k : ℕ) (ks : List ℕ). k ∷ ks) (add-zero v) (restored-plain vs)

-- .. and pass a bound by one at most
restored-below : (strict : Bool) (b : ℕ) (vs : List ℕ) → AllBelow b vs → AllBelow (b + 1) (restored strict vs)
unfolding restored reduction
restored-below strict b [] a = tt
restored-below true b (v ∷ vs) a = (omega (arith, a.0), restored-below true b vs a.1)
restored-below false b (v ∷ vs) a = (omega (arith, a.0), restored-below false b vs a.1)

-- ---- a full block

-- the differences that are taken of a full block's values
unfoldable pub full_differences : Bool → ℕ → List ℕ → List ℕ
full_differences true least vs = restored true vs
full_differences false least vs = as_differences least vs

differ_full : (strict : Bool) (least : ℕ) (vs : List ℕ) → Differ strict least vs (full_differences strict least vs)
unfolding full_differences
differ_full true least vs = differ_strict least vs
differ_full false least vs = differ_plain least vs

pub length-as_differences : (least : ℕ) (vs : List ℕ) → length (as_differences least vs) ≡ length vs
unfolding as_differences
length-as_differences least [] = refl
length-as_differences zero (v ∷ _) = refl
length-as_differences (suc least) (v ∷ _) = refl

pub length-full_differences : (strict : Bool) (least : ℕ) (vs : List ℕ) → length (full_differences strict least vs) ≡ length vs
unfolding full_differences
length-full_differences true least vs = length-restored true vs
length-full_differences false least vs = length-as_differences least vs

-- they are numbers of 32 bits
first_below : (v : ℕ) → first_difference_of v < 2 ^ 32
unfolding first_difference_of
first_below v = choose_elim (λ d. d < 2 ^ 32) (ltb v TERMINATED) _ _ (λ h. omega (arith, ltb-true v TERMINATED h)) (λ _. omega arith)

pub as_differences-below : (least : ℕ) (vs : List ℕ) → AllBelow (2 ^ 32) vs → AllBelow (2 ^ 32) (as_differences least vs)
unfolding as_differences
as_differences-below least [] a = tt
as_differences-below zero (v ∷ _) a = (first_below v, a.1)
as_differences-below (suc least) (v ∷ _) a = a

pub full_differences-below : (strict : Bool) (least : ℕ) (vs : List ℕ) → AllBelow (2 ^ 31) vs → AllBelow (2 ^ 32) (full_differences strict least vs)
unfolding full_differences
full_differences-below true least vs a = AllBelow-le (restored true vs) (omega arith) (restored-below true (2 ^ 31) vs a)
full_differences-below false least vs a = as_differences-below least vs (AllBelow-le vs (omega arith) a)

module _ (e : BlockInfo) (kept : Bool) (unpacked : ℕ) (bs : List ℕ) where
  all : (xs : List ℕ) → length xs ≡ 128 → take 128 xs ≡ xs
  all xs many = take_all 128 xs (le_of_eq many)

  pub full-unread : (nonzero : Bool) → asked_freqs (full_taken_of e nonzero kept unpacked) (replicate 128 1) ≡ full_freqs false e bs
  unfolding ask
  full-unread nonzero = asked_freqs-unread (full_taken_of e nonzero kept unpacked) (replicate 128 1) refl refl ∙ sym (full_freqs-unread e bs)

  pub full-read : (nonzero : Bool) → e.freq_width ≤ 32
      → asked_freqs (full_taken_of e nonzero kept unpacked) (map (with_more_of (reduction e.strict)) (unpack e.freq_width (drop (16 * e.doc_width) bs)))
      ≡ full_freqs true e bs
  unfolding asked_freqs ask
  full-read nonzero narrow =
      let vs : List ℕ = unpack e.freq_width (drop (16 * e.doc_width) bs) in
      let below : AllBelow (2 ^ 32) vs = AllBelow-le vs (pow-le-pow_right {n = 2} (omega arith) {i = e.freq_width} {j = 32} narrow) (unpack-below _ _) in
      rw (all (map (with_more_of (reduction e.strict)) vs) (length-map vs _ ∙ unpack-length _ _), with_more_lem e.strict vs, full_freqs-read e bs)
      (freqs_same (restored e.strict vs) (restored-below e.strict (2 ^ 32) vs below) FreqOutOfRange Ok)

  pub asked-full : (least : ℕ) (nonzero read : Bool) (freqs : List ℕ) → asked_freqs (full_taken_of e nonzero kept unpacked) freqs ≡ full_freqs read e bs
      → asked (full_taken_of e nonzero kept unpacked) least (full_differences e.strict least (unpack e.doc_width bs)) freqs ≡ full_block read least e bs
  unfolding ends_on ask
  asked-full least nonzero read freqs h =
      let vs : List ℕ = unpack e.doc_width bs in
      rw (asked_is, all (full_differences e.strict least vs) (length-full_differences e.strict least vs ∙ unpack-length _ _), h, full_block-is, full_docs-is)
      (docs_same (differ_full e.strict least vs) true e.last_doc DocsNotRising
      (λ ds. and_then (full_freqs read e bs) λ fs. Ok (record { docs = ds; freqs = fs; last = e.last_doc })))

-- ---- a tail

module _ (n unpacked : ℕ) where
  pub tail_none : (wanted nonzero kept : Bool) (rest freqs : List ℕ) → take n freqs ≡ replicate n 1
      → asked_freqs (tail_taken_of n true true nonzero (eqb (length rest) 0) kept unpacked) freqs ≡ tail_freqs false wanted n rest
  unfolding tail_freqs
  tail_none wanted nonzero kept rest freqs ones =
      asked_freqs-unread (tail_taken_of n true true nonzero (eqb (length rest) 0) kept unpacked) freqs refl ones

  pub tail_unwanted : (nonzero kept : Bool) (rest freqs : List ℕ) → take n freqs ≡ replicate n 1
      → asked_freqs (tail_taken_of n true true nonzero true kept unpacked) freqs ≡ tail_freqs true false n rest
  unfolding tail_freqs
  tail_unwanted nonzero kept rest freqs ones = asked_freqs-unread (tail_taken_of n true true nonzero true kept unpacked) freqs refl ones

  pub tail-short : (nonzero kept : Bool) (rest freqs : List ℕ) → (tail_numbers n rest).complete ≡ false
      → asked_freqs (tail_taken_of n true false nonzero true kept unpacked) freqs ≡ tail_freqs true true n rest
  unfolding asked_freqs ask and_then
  tail-short nonzero kept rest freqs short = rw (tail_freqs-read, numbers-is, short)

  pub tail-read : (nonzero kept : Bool) (rest freqs : List ℕ) → (tail_numbers n rest).complete ≡ true → take n freqs ≡ (tail_numbers n rest).values
      → asked_freqs (tail_taken_of n true true nonzero (eqb (length (drop (tail_numbers n rest).used rest)) 0) kept unpacked) freqs ≡ tail_freqs true true n rest
  unfolding asked_freqs ended ask and_then
  tail-read nonzero kept rest freqs there is =
      rw (tail_freqs-read, numbers-is, there, is, countable_nonzero (tail_numbers n rest).values (numbers-used n rest).values_below)

  module _ (option : IndexRecordOption) (wanted alone : Bool) (least : ℕ) (bs docs freqs : List ℕ) where
    pub asked-short : (freqs_there nonzero end kept : Bool) → (tail_numbers n bs).complete ≡ false
        → asked (tail_taken_of n false freqs_there nonzero end kept unpacked) least docs freqs ≡ tail_block option wanted alone n least bs
    unfolding ask and_then
    asked-short freqs_there nonzero end kept short = rw (asked_is, tail_block-is, numbers-is, short)

    pub asked-tail : (freqs_there nonzero end kept : Bool) → (tail_numbers n bs).complete ≡ true
        → take n docs ≡ as_differences least (tail_numbers n bs).values
        → (let rest : List ℕ = drop (tail_numbers n bs).used bs in
        asked_freqs (tail_taken_of n true freqs_there nonzero end kept unpacked) freqs ≡ tail_freqs (tail_has_freq option alone n rest) wanted n rest)
        → asked (tail_taken_of n true freqs_there nonzero end kept unpacked) least docs freqs ≡ tail_block option wanted alone n least bs
    unfolding ask and_then ends_on
    asked-tail freqs_there nonzero end kept there is h =
        let vs : List ℕ = (tail_numbers n bs).values in
        let rest : List ℕ = drop (tail_numbers n bs).used bs in
        rw (asked_is, tail_block-is, numbers-is, there, is, h, ← and-true (rising least (ids false least vs)))
        (docs_same (differ_plain least vs) false TERMINATED DocsNotRising
        (λ ds. and_then (tail_freqs (tail_has_freq option alone n rest) wanted n rest) λ fs. Ok (record { docs = ds; freqs = fs; last = TERMINATED })))

-- ---- a block that was found

module _ (t : Term) (l : Layout) (bs : List ℕ) (f : Found) where
  pub load_full : f.block < full_blocks_of t
      → load_block_of t l bs f ≡ full_block (and (has_freq_of l.option) (ltb 0 t.requested)) f.least f.info (drop f.at bs)
  unfolding load_block_of choose
  load_full h = rw (lt-ltb _ _ h)

  pub load_tail : full_blocks_of t ≤ f.block
      → load_block_of t l bs f ≡ tail_block l.option (ltb 0 t.requested) (eqb (full_blocks_of t) 0) (tail_length t) f.least (drop f.at bs)
  unfolding load_block_of choose
  load_tail h = rw (le-ltb _ _ h)

-- ---- what is known of numbers that were read, by the place behind them

module _ (at : ℕ) (ns : Numbers) where
  pub numbers-there : {p : ℕ} → Some p ≡ behind at ns → (ns.complete ≡ true) × (p ≡ at + ns.used)
  unfolding behind choose
  numbers-there {p} e = go ns.complete e
    where
      go : (t : Bool) → Some p ≡ choose t (λ _. Some (at + ns.used)) (λ _. None) → (t ≡ true) × (p ≡ at + ns.used)
      go true e = (refl, cc)
      go false e = absurd (let z : ◌≡◌ {A = ℕ} 0 1 = cc in omega arith)

  pub numbers-short : None ≡ behind at ns → ns.complete ≡ false
  unfolding behind choose
  numbers-short e = go ns.complete e
    where
      go : (t : Bool) → None ≡ choose t (λ _. Some (at + ns.used)) (λ _. None) → t ≡ false
      go true e = absurd (let z : ◌≡◌ {A = ℕ} 0 1 = cc in omega arith)
      go false e = refl

-- ---- arrays in which a block's values stand

-- .. at the front of what stood there before
pub record InFront (n : ℕ) (values before after : List ℕ) : Type 0 where
  pub front : take n after ≡ values
  pub back : drop n after ≡ drop n before
  pub kept : length after ≡ length before

-- a tail's numbers, put into the first n places
pub filled-front : (n : ℕ) (bs before : List ℕ) → (tail_numbers n bs).complete ≡ true → n ≤ length before
    → InFront n (tail_numbers n bs).values before (filled (tail_numbers n bs) (take n before) ++ drop n before)
unfolding filled
filled-front n bs before there room =
    let ns : Numbers = tail_numbers n bs in
    let many : length ns.values ≡ n = (numbers-used n bs).complete_length there in
    let short : length (take n before) ≤ length ns.values = rw length-take (omega arith) in
    let is : (ns.values ++ drop (length ns.values) (take n before)) ++ drop n before ≡ ns.values ++ drop n before
    = rw (drop_of_length-le (take n before) short, append-nil) in
    rw is
    record {
      front = take_at _ _ n many;
      back = drop_at ns.values _ n many;
      kept = simp (length-append, length-drop) (omega arith);
    }
