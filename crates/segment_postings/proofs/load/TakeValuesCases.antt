-- What was taken of a block meets the contract of `take_values`, case by case: a full block with its frequencies or without; a tail
-- whose ids aren't all there, one that has no frequencies, one whose frequencies aren't wanted, one whose frequencies aren't all
-- there, and one that was taken whole. That no value is 0 where form and width rule it out: BlockQuestions.antt `more-small` (below 2 ^ 31
-- what is added doesn't wrap) and `strict_nonzero`.
-- Assumes nothing.
use Rattle.std.specs.Prelude.{◌≡◌, ℕ, ◌+◌, ◌-◌, ◌*◌, ◌%◌, ◌^◌, ◌<◌, ◌≤◌, Bool, true, false, ◌&&◌ as and, eqb, ltb, List, ◌++◌, map, length, take, drop, replicate, None, Some}
use mathlib.Core.Path.{refl, sym, ap, ◌∙◌}
use mathlib.Core.Bool.{and-false, false≢true}
use native.Mathlib.Nat.{pos_of_ne-zero, le_refl, le_of_eq, mod-lt, pow-le-pow_right}
use native.Mathlib.Omega.{arith}
use lib.Dec.{lit<}
use lib.ListN.{length-append, length-drop, length-map, length-replicate, replicate-append-replicate, drop_of_length-le}
use lib.Seq.{length-take-le, take_all, take_at, drop_at, drop-drop}
use borrow.Author.Tests.{le-leb, lt-ltb, le-ltb}
use Rattle.format.specs.declared.Layout.{Layout}
use Rattle.format.specs.declared.Term.{Term}
use Rattle.format.specs.Basics.{choose, TERMINATED, AllBelow}
use Rattle.format.specs.Bitpacking.{unpack}
use Rattle.format.specs.Model.{member}
use Rattle.format.specs.SkipEntry.{has_freq_of}
use Rattle.format.specs.Values.{reduction}
use Rattle.format.specs.Vint.{Numbers, tail_numbers}
use Rattle.format.specs.Layout.{full_blocks_of, tail_length}
use Rattle.format.specs.Reading.{full_freqs, keeps_freqs_of, kept_by, tail_freqs, tail_has_freq, tail_block}
use Rattle.format.proofs.Bitpacking.{unpack-length, unpack-below}
use Rattle.format.proofs.Kept.{kept_full}
use Rattle.format.proofs.Lists.{AllBelow-le}
use Rattle.format.proofs.Vints.{numbers-used}
use Rattle.bitpacking.specs.Packed.{Unpacked, with_more_of}
use Rattle.bitpacking.proofs.Room.{narrow}
use Rattle.compression.specs.Restored.{as_differences}
use Rattle.vint.specs.Numbers.{behind, filled}
use Rattle.segment_postings.specs.declared.find.Found.{Found}
use Rattle.segment_postings.specs.declared.load.Taken.{Taken}
use Rattle.segment_postings.specs.Taken.{full_taken_of, tail_taken_of, asked_freqs, asked, FilledUp, ValuesTaken}
use Rattle.segment_postings.proofs.load.BlockQuestions.{full-unread, full-read, asked-full, full_differences, full_differences-below}
use Rattle.segment_postings.proofs.load.BlockQuestions.{length-full_differences, length-as_differences, as_differences-below}
use Rattle.segment_postings.proofs.load.BlockQuestions.{more-small, restored-plain, strict_nonzero, ones_nonzero, tail_none, tail_unwanted, tail-short, tail-read}
use Rattle.segment_postings.proofs.load.BlockQuestions.{asked-short, asked-tail, load_full, load_tail, numbers-there, numbers-short, InFront, filled-front}

-- what `unpack` leaves of the bytes from a place on, where they hold the values
pub unpacked_from : (w more at : ℕ) (bs before after : List ℕ) (done : Bool) → Unpacked w more (take (length bs - at) (drop at bs)) before after done
    → w ≤ 32 → at + 16 * w ≤ length bs → after ≡ map (with_more_of more) (unpack w (drop at bs))
unfolding choose
unpacked_from w more at bs before after done u narrow-w room =
    let whole : take (length bs - at) (drop at bs) ≡ drop at bs = take_all (length bs - at) (drop at bs) (le_of_eq (length-drop at bs)) in
    let there : 16 * w ≤ length (drop at bs) = rw length-drop (omega arith) in
    u.values ∙ rw (whole, narrow w (length (drop at bs)) narrow-w, le-leb (16 * w) (length (drop at bs)) there)

-- values of less than 32 bits
pub values-small : (w : ℕ) (bs : List ℕ) → w ≤ 31 → AllBelow (2 ^ 31) (unpack w bs)
values-small w bs h = AllBelow-le (unpack w bs) (pow-le-pow_right {n = 2} (omega arith) {i = w} {j = 31} h) (unpack-below w bs)

-- a full block's ids as they are taken: in the strict form the values with what it left out, else with a list's first as a difference
pub full-docs : (strict : Bool) (least : ℕ) (vs docs docs' : List ℕ) → AllBelow (2 ^ 31) vs → docs ≡ map (with_more_of (reduction strict)) vs
    → (strict ≡ true → docs' ≡ docs) → (strict ≡ false → docs' ≡ as_differences least docs) → docs' ≡ full_differences strict least vs
unfolding full_differences
full-docs true least vs docs docs' small is same other = same refl ∙ (is ∙ more-small true vs small)
full-docs false least vs docs docs' small is same other =
    other refl ∙ ap (as_differences least) (is ∙ (more-small false vs small ∙ restored-plain vs))

-- the front and the back of an array that is filled with one value
module _ (n m a : ℕ) (few : n ≤ m) where
  parted : replicate m a ≡ replicate n a ++ replicate (m - n) a
  parted = let whole : m ≡ n + (m - n) = omega arith in ap (λ (k : ℕ). replicate k a) whole ∙ sym (replicate-append-replicate n (m - n) a)

  take-replicate : take n (replicate m a) ≡ replicate n a
  take-replicate = rw parted (take_at _ _ n (length-replicate n a))

  drop-replicate : drop n (replicate m a) ≡ replicate (m - n) a
  drop-replicate = rw parted (drop_at (replicate n a) _ n (length-replicate n a))

-- whether frequencies are taken
pub unkept : (kept : Bool) (n : ℕ) → kept ≡ false → and kept (ltb 0 n) ≡ false
unkept kept n h = rw h

pub unasked : (kept : Bool) (n : ℕ) → n ≡ 0 → and kept (ltb 0 n) ≡ false
unasked kept n h = rw (le-ltb 0 n (le_of_eq h)) (and-false kept)

pub asked_for : (kept : Bool) (n : ℕ) → kept ≡ true → (n ≡ 0 → ⊥) → and kept (ltb 0 n) ≡ true
asked_for kept n h some = rw h (lt-ltb 0 n (pos_of_ne-zero some))

-- what was taken, by other words for it
pub told : {t : Term} {l : Layout} {bs : List ℕ} {f : Found} {unpacked : ℕ} {docs freqs : List ℕ} {k k' : Taken}
    → k ≡ k' → ValuesTaken t l bs f unpacked docs freqs k' → ValuesTaken t l bs f unpacked docs freqs k
told e v = rw e v

-- all its places are filled
pub whole-up : (filler : ℕ) (values : List ℕ) → length values ≡ 128 → FilledUp 128 filler values
whole-up filler values many = record { long = many; behind = drop_of_length-le values (le_of_eq many) }

-- .. or those behind some values
front-up : (n filler : ℕ) {values after : List ℕ} → n ≤ 128 → InFront n values (replicate 128 filler) after → FilledUp n filler after
front-up n filler few i = record { long = i.kept ∙ length-replicate 128 filler; behind = i.back ∙ drop-replicate n 128 filler few }

-- other values in the place of those at the front
replaced_front : (n : ℕ) (xs : List ℕ) {values before ids : List ℕ} → InFront n values before ids → length xs ≡ n → n ≤ length before
    → InFront n xs before (xs ++ drop n ids)
replaced_front n xs {ids = ids} i many few = record {
  front = take_at xs (drop n ids) n many;
  back = drop_at xs (drop n ids) n many ∙ i.back;
  kept = rw (length-append, length-drop) (omega (arith, i.kept));
}

-- a tail's documents
module _ (t : Term) where
  abbrev pub tail_n : ℕ
  tail_n = t.count % 128

  pub n-few : tail_n ≤ 128
  n-few = omega (arith, mod-lt t.count (lit< {m = 0} {n = 128} tt))

  -- n numbers are asked for, as many as the part of an array has that is lent
  pub front-many : (filler : ℕ) → length (take tail_n (replicate 128 filler)) ≡ tail_n
  front-many filler = length-take-le tail_n (replicate 128 filler) (rw (length-replicate 128 filler) n-few)

module _ (t : Term) (l : Layout) (bs : List ℕ) (f : Found) (unpacked : ℕ) where
  -- ---- a full block

  module _ (inside : f.block < full_blocks_of t) (narrow-docs : f.info.doc_width ≤ 31) (docs : List ℕ)
      (docs_are : docs ≡ full_differences f.info.strict f.least (unpack f.info.doc_width (drop f.at bs))) where
    docs_many : length docs ≡ 128
    docs_many = rw docs_are (length-full_differences f.info.strict f.least _ ∙ unpack-length _ _)

    -- the strict form rules out a difference of 0
    apart : f.info.strict ≡ true → member 0 (take 128 docs) ≡ false
    unfolding full_differences
    apart strict = rw (take_all 128 docs (le_of_eq docs_many), docs_are, strict) (strict_nonzero _)

    full : (nonzero read : Bool) (freqs : List ℕ) → and (has_freq_of l.option) (ltb 0 t.requested) ≡ read → length freqs ≡ 128
        → (nonzero ≡ true → member 0 freqs ≡ false)
        → (let k : Taken = full_taken_of f.info nonzero (has_freq_of l.option) (unpacked + 1) in
        asked_freqs k freqs ≡ full_freqs read f.info (drop f.at bs)
        → ValuesTaken t l bs f unpacked docs freqs k)
    full nonzero read freqs wanted many none h =
        record {
          counted = refl;
          questions =
              rw (load_full t l bs f inside, wanted, docs_are)
              (asked-full f.info (has_freq_of l.option) (unpacked + 1) (drop f.at bs) f.least nonzero read freqs h);
          is_full = sym (lt-ltb _ _ inside);
          full_n = λ _. refl;
          full_last = λ _. refl;
          n_most = le_refl 128;
          docs_fill = λ _. whole-up TERMINATED docs docs_many;
          freqs_fill = whole-up 1 freqs many;
          docs_below = λ _.
              rw (take_all 128 docs (le_of_eq docs_many), docs_are)
              (full_differences-below f.info.strict f.least _ (values-small f.info.doc_width _ narrow-docs));
          docs_nonzero = apart;
          freqs_nonzero = λ e. rw (take_all 128 freqs (le_of_eq many)) (none e);
          kept = λ _. sym (kept_full t l (drop f.at bs) (omega arith));
        }

    pub full_without : and (has_freq_of l.option) (ltb 0 t.requested) ≡ false
        → ValuesTaken t l bs f unpacked docs (replicate 128 1) (full_taken_of f.info true (has_freq_of l.option) (unpacked + 1))
    full_without unwanted =
        full true false (replicate 128 1) unwanted (length-replicate {A = ℕ} 128 1) (λ _. ones_nonzero 128)
        (full-unread f.info (has_freq_of l.option) (unpacked + 1) (drop f.at bs) true)

    pub full_with : (freqs : List ℕ) (p : ℕ) (nonzero : Bool) → and (has_freq_of l.option) (ltb 0 t.requested) ≡ true
        → (nonzero ≡ true → (f.info.strict ≡ true) × (f.info.freq_width < 32)) → f.info.freq_width ≤ 32
        → p ≡ f.at + 16 * f.info.doc_width
        → freqs ≡ map (with_more_of (reduction f.info.strict)) (unpack f.info.freq_width (drop p bs))
        → ValuesTaken t l bs f unpacked docs freqs (full_taken_of f.info nonzero (has_freq_of l.option) (unpacked + 1))
    full_with freqs p nonzero wanted ruled_out narrow-w place are =
        full nonzero true freqs wanted
        (rw are (length-map (unpack f.info.freq_width (drop p bs)) (with_more_of (reduction f.info.strict)) ∙ unpack-length _ _))
        (λ e. let r = ruled_out e in
        rw (are, r.0, more-small true _ (values-small f.info.freq_width (drop p bs) (omega (arith, r.1)))) (strict_nonzero _))
        (rw (are, place, ← drop-drop) (full-read f.info (has_freq_of l.option) (unpacked + 1) (drop f.at bs) nonzero narrow-w))

  -- ---- a tail

  abbrev n : ℕ
  n = tail_n t

  module _ (past : full_blocks_of t ≤ f.block) where
    abbrev numbers : Numbers
    numbers = tail_numbers n (drop f.at bs)

    tail : (docs_there freqs_there nonzero end kept : Bool) {docs freqs : List ℕ}
        → (docs_there ≡ true → FilledUp n TERMINATED docs) → (docs_there ≡ true → AllBelow (2 ^ 32) (take n docs))
        → FilledUp n 1 freqs → (nonzero ≡ true → member 0 (take n freqs) ≡ false)
        → (docs_there ≡ true → kept ≡ kept_by t l (drop f.at bs))
        → (let k : Taken = tail_taken_of n docs_there freqs_there nonzero end kept (unpacked + 1) in
        asked k f.least docs freqs
        ≡ tail_block l.option (ltb 0 t.requested) (eqb (full_blocks_of t) 0) n f.least (drop f.at bs)
        → ValuesTaken t l bs f unpacked docs freqs k)
    unfolding tail_length
    tail docs_there freqs_there nonzero end kept d below e none is h =
        record {
          counted = refl;
          questions = h ∙ sym (load_tail t l bs f past);
          is_full = sym (le-ltb _ _ past);
          full_n = λ no. absurd (false≢true no);
          full_last = λ no. absurd (false≢true no);
          n_most = (n-few t);
          docs_fill = d;
          freqs_fill = e;
          docs_below = below;
          docs_nonzero = λ no. absurd (false≢true no);
          freqs_nonzero = none;
          kept = is;
        }

    -- frequencies that weren't taken
    abbrev ones : List ℕ
    ones = replicate 128 1

    ones-up : FilledUp n 1 ones
    ones-up = record { long = length-replicate {A = ℕ} 128 1; behind = drop-replicate n 128 1 (n-few t) }

    ones-front : take n ones ≡ replicate n 1
    ones-front = take-replicate n 128 1 (n-few t)

    ones-some : (nonzero : Bool) → nonzero ≡ true → member 0 (take n ones) ≡ false
    ones-some nonzero e = rw ones-front (ones_nonzero n)

    pub tail_broken : (docs : List ℕ) → None ≡ behind f.at (tail_numbers (length (take n (replicate 128 TERMINATED))) (drop f.at bs))
        → ValuesTaken t l bs f unpacked docs ones (tail_taken_of n false true true true false (unpacked + 1))
    tail_broken docs answer =
        tail false true true true false (λ no. absurd (false≢true no)) (λ no. absurd (false≢true no)) ones-up (ones-some true) (λ no. absurd (false≢true no))
        (asked-short n (unpacked + 1) l.option _ _ f.least (drop f.at bs) docs ones true true true false
        (numbers-short f.at numbers (rw (front-many t TERMINATED) at answer)))

    -- the ids' numbers are there, and the bytes behind them begin at place p; what was read is left with its first as a difference
    module _ (p : ℕ) (left : List ℕ) (answer : Some p ≡ behind f.at (tail_numbers (length (take n (replicate 128 TERMINATED))) (drop f.at bs)))
        (left_is : left ≡ filled (tail_numbers (length (take n (replicate 128 TERMINATED))) (drop f.at bs)) (take n (replicate 128 TERMINATED))) where
      there : (numbers.complete ≡ true) × (p ≡ f.at + numbers.used)
      there = numbers-there f.at numbers (rw (front-many t TERMINATED) at answer)

      values_in : InFront n numbers.values (replicate 128 TERMINATED) (left ++ drop n (replicate 128 TERMINATED))
      values_in =
          rw (left_is, front-many t TERMINATED)
          (filled-front n (drop f.at bs) (replicate 128 TERMINATED) there.0 (rw (length-replicate 128 TERMINATED) (n-few t)))

      pub ids-room : n ≤ length (left ++ drop n (replicate 128 TERMINATED))
      ids-room = rw (values_in.kept, length-replicate 128 TERMINATED) (n-few t)

      rest : drop numbers.used (drop f.at bs) ≡ drop p bs
      rest = rw (drop-drop, there.1)

      -- whether the image keeps frequencies, by the bytes from place p on
      abbrev pub keeps : Bool
      keeps = keeps_freqs_of l.option (eqb (full_blocks_of t) 0) n (drop p bs)

      keeps-by : keeps ≡ kept_by t l (drop f.at bs)
      unfolding kept_by tail_length
      keeps-by = rw rest

      module _ (docs : List ℕ)
          (docs-is : docs ≡ (let ids : List ℕ = left ++ drop n (replicate 128 TERMINATED) in as_differences f.least (take n ids) ++ drop n ids)) where
        docs_in_lem : InFront n (as_differences f.least numbers.values) (replicate 128 TERMINATED) docs
        docs_in_lem =
            let many : length (as_differences f.least numbers.values) ≡ n
            = length-as_differences f.least numbers.values ∙ (numbers-used n (drop f.at bs)).complete_length there.0 in
            rw (docs-is, values_in.front) (replaced_front n (as_differences f.least numbers.values) values_in many (rw (length-replicate 128 TERMINATED) (n-few t)))

        whole : (has freqs_there nonzero end : Bool) {freqs : List ℕ} → and keeps (ltb 0 n) ≡ has
            → FilledUp n 1 freqs → (nonzero ≡ true → member 0 (take n freqs) ≡ false)
            → (let k : Taken = tail_taken_of n true freqs_there nonzero end keeps (unpacked + 1) in
            asked_freqs k freqs ≡ tail_freqs has (ltb 0 t.requested) n (drop p bs)
            → ValuesTaken t l bs f unpacked docs freqs k)
        unfolding tail_has_freq
        whole has freqs_there nonzero end {freqs} is e none h =
            tail true freqs_there nonzero end keeps (λ _. front-up n TERMINATED (n-few t) docs_in_lem)
            (λ _. rw docs_in_lem.front (as_differences-below f.least _ (numbers-used n (drop f.at bs)).values_below)) e none (λ _. keeps-by)
            (asked-tail n (unpacked + 1) l.option _ _ f.least (drop f.at bs) docs freqs freqs_there nonzero end keeps there.0
            docs_in_lem.front (rw (rest, is) h))

        pub tail_without : and keeps (ltb 0 n) ≡ false
            → ValuesTaken t l bs f unpacked docs ones (tail_taken_of n true true true (eqb (length (drop p bs)) 0) keeps (unpacked + 1))
        tail_without none =
            whole false true true _ none ones-up (ones-some true) (tail_none n (unpacked + 1) _ true keeps (drop p bs) ones ones-front)

        module _ (has : and keeps (ltb 0 n) ≡ true) where
          pub tail-unasked : t.requested ≡ 0 → ValuesTaken t l bs f unpacked docs ones (tail_taken_of n true true true true keeps (unpacked + 1))
          tail-unasked none =
              whole true true true true has ones-up (ones-some true)
              (rw (le-ltb 0 t.requested (le_of_eq none)) (tail_unwanted n (unpacked + 1) true keeps (drop p bs) ones ones-front))

          module _ (wanted : 0 < t.requested) where
            pub tail-freqs_broken : None ≡ behind p (tail_numbers (length (take n ones)) (drop p bs))
                → ValuesTaken t l bs f unpacked docs ones (tail_taken_of n true false true true keeps (unpacked + 1))
            tail-freqs_broken answer' =
                whole true false true true has ones-up (ones-some true)
                (rw (lt-ltb 0 t.requested wanted)
                (tail-short n (unpacked + 1) true keeps (drop p bs) ones (numbers-short p _ (rw (front-many t 1) at answer'))))

            pub tail_with : (q : ℕ) (left' : List ℕ) → Some q ≡ behind p (tail_numbers (length (take n ones)) (drop p bs))
                → left' ≡ filled (tail_numbers (length (take n ones)) (drop p bs)) (take n ones)
                → ValuesTaken t l bs f unpacked docs (left' ++ drop n ones)
                (tail_taken_of n true true false (eqb (length (drop q bs)) 0) keeps (unpacked + 1))
            tail_with q left' answer' left'-is =
                let fs : Numbers = tail_numbers n (drop p bs) in
                let all : (fs.complete ≡ true) × (q ≡ p + fs.used) = numbers-there p fs (rw (front-many t 1) at answer') in
                let are : InFront n fs.values ones (left' ++ drop n ones)
                = rw (left'-is, front-many t 1) (filled-front n (drop p bs) ones all.0 (rw (length-replicate {A = ℕ} 128 1) (n-few t))) in
                whole true true false _ has (front-up n 1 (n-few t) are) (λ no. absurd (false≢true no))
                (rw (lt-ltb 0 t.requested wanted, all.1, ← drop-drop) (tail-read n (unpacked + 1) false keeps (drop p bs) _ all.0 are.front))
