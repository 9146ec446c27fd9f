-- The total below a target, block by block. In a block the documents are passed one by one while they lie below the target. Where
-- one doesn't, the total is what was passed; where none is left, it is what was passed and the total of the blocks behind.
-- Assumes nothing.
use Rattle.format.specs.declared.refusal.Refusal.{Refusal}
use Rattle.format.specs.declared.refusal.Refusal.TheVariants.{TargetTooLarge}
use Rattle.std.specs.Prelude.{◌≡◌, ℕ, suc, ◌+◌, ◌<◌, ◌≤◌, Bool, true, false, ltb, List, [], ◌∷◌, ◌++◌, length, get_or, take, drop, Ok, Err}
use mathlib.Core.Path.{refl, sym, ap, ◌∙◌}
use native.Mathlib.Nat.{add-zero, zero-add, add_assoc}
use native.Mathlib.Numerals.{add-one}
use native.Mathlib.Decide.{dec_le}
use native.Mathlib.Omega.{arith}
use lib.ListN.{length-append, drop_of_length-le}
use lib.Seq.{take-suc, drop-cons, take-append-le, take-append-add}
use borrow.Author.Tests.{ltb-true, ltb-false, lt-ltb, le-ltb, le-leb, lt-leb}
use Rattle.format.specs.Basics.{Outcome, and_then, ask, choose, TERMINATED, AllBelow}
use Rattle.format.specs.declared.Term.{Term}
use Rattle.format.specs.Layout.{layout}
use Rattle.format.specs.Reading.{Block, Reading, nothing, before, read_all, reading, docs_of, freqs_of}
use Rattle.format.specs.Counts.{count_below, sum, total_in, total}
use Rattle.format.proofs.Below.{count-passes, count_stops, count-nil, count-front, count-within}
use Rattle.format.proofs.Opened.{reading-is}

-- ---- sums

pub sum-append : (a b : List ℕ) → sum (a ++ b) ≡ sum a + sum b
unfolding sum
sum-append [] b = omega arith
sum-append (f ∷ a) b = rw (sum-append a b) (omega arith)

pub sum-next : (fs : List ℕ) (i : ℕ) → i < length fs → sum (take (i + 1) fs) ≡ sum (take i fs) + get_or fs i 0
unfolding sum
sum-next fs i h = rw (add-one, take-suc fs i 0 h, sum-append) (omega arith)

-- ---- the front of a block: i documents are passed

module _ (target : ℕ) (ds : List ℕ) (i : ℕ) (passed : count_below target ds ≡ i + count_below target (drop i ds)) where
  pub front-passes : i < length ds → get_or ds i 0 < target → count_below target ds ≡ i + 1 + count_below target (drop (i + 1) ds)
  front-passes h below =
      passed ∙ rw (add-one, drop-cons ds i 0 h, count-passes target (get_or ds i 0) (drop (suc i) ds) below) (omega arith)

  pub front_stops : i < length ds → target ≤ get_or ds i 0 → count_below target ds ≡ i
  front_stops h at = passed ∙ rw (drop-cons ds i 0 h, count_stops target (get_or ds i 0) (drop (suc i) ds) at) (add-zero i)

  pub front_ends : length ds ≤ i → count_below target ds ≡ i
  front_ends h = passed ∙ rw (drop_of_length-le ds h, count-nil target) (add-zero i)

-- ---- one block before others

-- what was passed, with what a walk from there on brings
unfoldable pub added : ℕ → Outcome ℕ → Outcome ℕ
added passed (Ok n) = Ok (passed + n)
added passed (Err r) = Err r

pub added-zero : (o : Outcome ℕ) → added 0 o ≡ o
unfolding added
added-zero (Ok n) = ap (λ (m : ℕ). Ok m) (zero-add n)
added-zero (Err r) = refl

pub added_twice : (m n : ℕ) (o : Outcome ℕ) → added m (added n o) ≡ added (m + n) o
unfolding added
added_twice m n (Ok k) = ap (λ (x : ℕ). Ok x) (sym (add_assoc m n k))
added_twice m n (Err r) = refl

pub total_in-is : (target : ℕ) (r : Reading)
    → total_in target r
    ≡ (and_then (choose (ltb (count_below target (docs_of r.blocks)) (length (docs_of r.blocks))) (λ _. Ok tt) (λ _. r.verdict)) λ _.
    Ok (sum (take (count_below target (docs_of r.blocks)) (freqs_of r.blocks))))
unfolding total_in
total_in-is target r = refl

-- no block
pub total-refused : (target : ℕ) (r : Refusal) → total_in target (nothing (Err r)) ≡ Err r
unfolding nothing docs_of choose and_then
total-refused target r = total_in-is target (nothing (Err r)) ∙ rw (count-nil target)

pub total-ended : (target : ℕ) → total_in target (nothing (Ok tt)) ≡ Ok 0
unfolding nothing docs_of freqs_of choose sum and_then
total-ended target = total_in-is target (nothing (Ok tt)) ∙ rw (count-nil target)

-- all of a list lies below the target where as many do as it has
all-below : (target : ℕ) (ds : List ℕ) → count_below target ds ≡ length ds → AllBelow target ds
all-below target [] h = tt
all-below target (d ∷ ds) h = elim (dec_le target d) [
  | yes a ↦ absurd (omega (arith, count_stops target d ds a))
  | no a ↦ (omega arith, all-below target ds (omega (arith, count-passes target d ds (omega arith))))
]

below_shifted : (l m n : ℕ) → ltb (l + m) (l + n) ≡ ltb m n
below_shifted l m n = go (ltb m n) refl
  where
    go : (t : Bool) → ltb m n ≡ t → ltb (l + m) (l + n) ≡ t
    go true e = lt-ltb (l + m) (l + n) (omega (arith, ltb-true m n e))
    go false e = le-ltb (l + m) (l + n) (omega (arith, ltb-false m n e))

added-then : (passed n : ℕ) (v : Outcome (Unit {0})) → (and_then v λ _. Ok (passed + n)) ≡ added passed (and_then v λ _. Ok n)
unfolding added and_then
added-then passed n (Ok tt) = refl
added-then passed n (Err r) = refl

module _ (target : ℕ) (b : Block) (r : Reading) (same : length b.docs ≡ length b.freqs) where
  behind-is : total_in target (before (Ok b) λ _. r)
      ≡ (and_then
      (choose (ltb (count_below target (b.docs ++ docs_of r.blocks)) (length (b.docs ++ docs_of r.blocks))) (λ _. Ok tt) (λ _. r.verdict)) λ _.
      Ok (sum (take (count_below target (b.docs ++ docs_of r.blocks)) (b.freqs ++ freqs_of r.blocks))))
  unfolding before docs_of freqs_of
  behind-is = total_in-is target (before (Ok b) λ _. r)

  pub total_stops : count_below target b.docs < length b.docs
      → total_in target (before (Ok b) λ _. r) ≡ Ok (sum (take (count_below target b.docs) b.freqs))
  unfolding choose and_then
  total_stops h =
      let n : ℕ = count_below target b.docs in
      let more : n < length (b.docs ++ docs_of r.blocks) = simp length-append (omega arith) in
      behind-is
      ∙ rw (count-within target b.docs (docs_of r.blocks) h, lt-ltb _ _ more, take-append-le n b.freqs (freqs_of r.blocks) (omega arith))

  pub total-passes : count_below target b.docs ≡ length b.docs
      → total_in target (before (Ok b) λ _. r) ≡ added (sum b.freqs) (total_in target r)
  total-passes h =
      behind-is
      ∙ rw (count-front target b.docs (docs_of r.blocks) (all-below target b.docs h), length-append, below_shifted, same, take-append-add, sum-append, total_in-is target r)
      (added-then _ _ _)

-- ---- question 10, and those of the layout

module _ (mode count : ℕ) (bs : List ℕ) (target : ℕ) where
  pub total_too_far : TERMINATED < target → total mode count bs target ≡ Err TargetTooLarge
  unfolding total ask
  total_too_far h = rw (lt-leb _ _ h)

  pub total-within : target ≤ TERMINATED
      → total mode count bs target ≡ total_in target (reading (record { mode = mode; requested = 1; count = count }) bs)
  unfolding total ask
  total-within h = rw (le-leb _ _ h)

pub total_unlaid : (t : Term) (bs : List ℕ) (target : ℕ) {n : Refusal} → layout t bs ≡ Err n → total_in target (reading t bs) ≡ Err n
unfolding read_all
total_unlaid t bs target {n} e = rw (reading-is, e) (total-refused target n)
