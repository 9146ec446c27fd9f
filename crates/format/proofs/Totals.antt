-- The total below a target, on a sound image, is the sum of the frequencies of the documents below it; below TERMINATED it is the sum
-- of all. The walk finds no refusal. Documents rise, so those below the target are the first ones, as many as `count_below` says,
-- and all lie below TERMINATED. On every image the documents that are read lie below it: a total below TERMINATED passes them all, and
-- so meets the refusal with which the reading ends, if it ends with one (`total_exact`).
-- Assumes nothing.
use Rattle.std.specs.Prelude.{Ok, Err}
use mathlib.Core.Bool.{Bool, true, false}
use mathlib.Core.List.{List, [], ◌∷◌}
use mathlib.Core.Path.{◌≡◌, refl, sym, ap, ◌∙◌}
use Prim.Native.Nat.{ℕ, zero, suc, ◌+◌, ◌≤◌, ◌<◌}
use native.Mathlib.Decide.{dec_le}
use native.Mathlib.Omega.{arith}
use borrow.Author.Tests.{le-leb, lt-ltb, le-ltb}
use lib.Dec.{ltb}
use lib.ListN.{length, take, length-append}
use Rattle.format.specs.declared.IndexRecordOption.{IndexRecordOption}
use Rattle.format.specs.declared.Layout.{Layout}
use Rattle.format.specs.declared.Term.{Term}
use Rattle.format.specs.declared.refusal.Refusal.{Refusal}
use Rattle.format.specs.Basics.{and_then, Outcome, ask, choose, TERMINATED, AllBelow}
use Rattle.format.specs.Values.{rising}
use Rattle.format.specs.Layout.{full_blocks_of, tail_length, layout}
use Rattle.format.specs.Reading.{Block, Reading, nothing, before, read_from, read_all, reading, soundness, docs_of, freqs_of}
use Rattle.format.specs.Counts.{count_below, sum_below, sum, total_in, total}
use Rattle.format.proofs.Values.{rising-cons, rising-below}
use Rattle.format.proofs.Below.{count-nil, count-passes, count_stops, count-front}
use Rattle.format.proofs.Blocks.{Blocks, docs-rising, docs_many, freqs_many}
use Rattle.format.proofs.Sound.{sound-image, sound-blocks}
use Rattle.format.proofs.SoundBlock.{entry_block-read, tail_block-sound}
use Rattle.format.proofs.Opened.{walk_by, read_from-zero, read_from-suc, read_all-ok, reading-is, soundness-is}

-- none of them lies below where the least that may come doesn't
none_below : (target least : ℕ) (ds fs : List ℕ) → rising least ds ≡ true → target ≤ least → sum_below target ds fs ≡ 0
unfolding sum_below choose
none_below target least [] fs r h = refl
none_below target least (d ∷ ds) [] r h = refl
none_below target least (d ∷ ds) (f ∷ fs) r h =
    let k = rising-cons least d ds r in
    rw (le-ltb d target (omega (arith, k.above)), none_below target (d + 1) ds fs k.rest (omega (arith, k.above)))

-- on a rising list those below are the first
first_below : (target least : ℕ) (ds fs : List ℕ) → rising least ds ≡ true → length ds ≡ length fs
    → sum (take (count_below target ds) fs) ≡ sum_below target ds fs
unfolding sum_below choose sum
first_below target least [] [] r e = rw count-nil
first_below target least [] (f ∷ fs) r e = absurd (omega arith)
first_below target least (d ∷ ds) [] r e = absurd (omega arith)
first_below target least (d ∷ ds) (f ∷ fs) r e =
    let k = rising-cons least d ds r in
    elim (dec_le target d) [
      | yes a ↦ rw (count_stops target d ds a, le-ltb d target a, none_below target (d + 1) ds fs k.rest (omega arith))
      | no a ↦
          let b : d < target = omega arith in
          rw (count-passes target d ds b, lt-ltb d target b) (ap (λ n. f + n) (first_below target (d + 1) ds fs k.rest (omega arith)))
    ]

all-below : (target : ℕ) (ds fs : List ℕ) → AllBelow target ds → length ds ≡ length fs → sum_below target ds fs ≡ sum fs
unfolding sum_below choose sum
all-below target [] [] a e = refl
all-below target [] (f ∷ fs) a e = absurd (omega arith)
all-below target (d ∷ ds) [] a e = absurd (omega arith)
all-below target (d ∷ ds) (f ∷ fs) a e = rw (lt-ltb d target a.0, all-below target ds fs a.1 (omega arith))

-- a walk that isn't refused
total_in-sound : (target : ℕ) (r : Reading) → r.verdict ≡ Ok tt
    → total_in target r ≡ Ok (sum (take (count_below target (docs_of r.blocks)) (freqs_of r.blocks)))
unfolding total_in choose and_then
total_in-sound target r h = rw h (go (ltb (count_below target (docs_of r.blocks)) (length (docs_of r.blocks))))
  where
    go : (t : Bool) → (and_then (choose {A = Outcome (Unit {0})} t (λ _. Ok tt) (λ _. Ok tt)) λ _. Ok (sum (take (count_below target (docs_of r.blocks)) (freqs_of r.blocks))))
        ≡ Ok (sum (take (count_below target (docs_of r.blocks)) (freqs_of r.blocks)))
    go true = refl
    go false = refl

-- ---- what a walk over any image reads

-- all of it lies below TERMINATED
abbrev Passed : Reading → Type 0
Passed r = count_below TERMINATED (docs_of r.blocks) ≡ length (docs_of r.blocks)

nothing-passed : (v : Outcome (Unit {0})) → Passed (nothing v)
unfolding nothing docs_of
nothing-passed v = count-nil TERMINATED

before-passed : (o : Outcome Block) (rest : Bool → Reading) → ((b : Block) → o ≡ Ok b → AllBelow TERMINATED b.docs) → Passed (rest true)
    → Passed (before o rest)
unfolding before docs_of
before-passed (Ok b) rest first later =
    rw (count-front TERMINATED b.docs (docs_of (rest true).blocks) (first b refl), length-append) (ap (λ n. length b.docs + n) later)
before-passed (Err r) rest first later = nothing-passed (Err r)

module _ (option : IndexRecordOption) (wanted alone : Bool) (tail : ℕ) where
  read-passed : (n least : ℕ) (skips bs : List ℕ) → Passed (read_from (walk_by option wanted alone tail) n least skips bs)
  read-passed zero least skips bs =
      rw read_from-zero
      (before-passed _ _ (λ b e. rising-below least _ (tail_block-sound option wanted alone tail least bs e).sound.docs_rise) (nothing-passed (Ok tt)))
  read-passed (suc n) least skips bs =
      rw read_from-suc
      (before-passed _ _ (λ b e. rising-below least _ (entry_block-read option wanted least skips bs e).sound.sound.docs_rise) (read-passed n _ _ _))

reading-passed : (t : Term) (bs : List ℕ) → Passed (reading t bs)
unfolding read_all
reading-passed t bs = rw reading-is (go (layout t bs))
  where
    go : (o : Outcome Layout) → Passed (read_all t bs o)
    go (Ok l) = rw read_all-ok (read-passed _ _ _ (tail_length t) (full_blocks_of t) 0 _ _)
    go (Err r) = nothing-passed (Err r)

-- so a walk to the end meets the refusal
total_in_unsound : (r : Reading) → Passed r → {why : Refusal} → r.verdict ≡ Err why → total_in TERMINATED r ≡ Err why
unfolding total_in choose and_then
total_in_unsound r passed e = rw (passed, le-ltb (length (docs_of r.blocks)) (length (docs_of r.blocks)) (omega arith), e)

-- ---- the total

module _ (mode count : ℕ) (bs : List ℕ) where
  -- frequencies requested
  abbrev term : Term
  term = record { mode = mode; requested = 1; count = count }

  abbrev whole : Reading
  whole = reading term bs

  module _ (sound : soundness mode count bs ≡ Ok tt) where
    unrefused : whole.verdict ≡ Ok tt
    unrefused = sym (soundness-is mode count bs) ∙ sound

    blocks : Blocks (tail_length term) (full_blocks_of term) 0 whole.blocks
    blocks = sound-blocks (sound-image term bs unrefused)

    same_length : length (docs_of whole.blocks) ≡ length (freqs_of whole.blocks)
    same_length = docs_many blocks ∙ sym (freqs_many blocks)

    pub total-below : (target : ℕ) → target ≤ TERMINATED
        → total mode count bs target ≡ Ok (sum_below target (docs_of whole.blocks) (freqs_of whole.blocks))
    unfolding total ask
    total-below target h =
        rw (le-leb target TERMINATED h, total_in-sound target whole unrefused)
        (ap Ok (first_below target 0 _ _ (docs-rising blocks) same_length))

    pub total-all : total mode count bs TERMINATED ≡ Ok (sum (freqs_of whole.blocks))
    total-all =
        total-below TERMINATED (omega arith)
        ∙ ap Ok (all-below TERMINATED _ _ (rising-below 0 _ (docs-rising blocks)) same_length)

  pub total_unsound : {r : Refusal} → soundness mode count bs ≡ Err r → total mode count bs TERMINATED ≡ Err r
  unfolding total ask
  total_unsound e = total_in_unsound whole (reading-passed term bs) (sym (soundness-is mode count bs) ∙ e)

  -- below TERMINATED it is exact, on every image: the sum of all frequencies where the image is sound, else it is refused as
  -- validation refuses it
  pub total_exact : total mode count bs TERMINATED
      ≡ (and_then (soundness mode count bs) λ _. Ok (sum (freqs_of whole.blocks)))
  unfolding and_then
  total_exact = go (soundness mode count bs) refl
    where
      go : (v : Outcome (Unit {0})) → soundness mode count bs ≡ v
          → total mode count bs TERMINATED ≡ (and_then v λ _. Ok (sum (freqs_of whole.blocks)))
      go (Ok tt) e = total-all e
      go (Err r) e = total_unsound e
