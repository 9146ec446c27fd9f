-- The laws of coded calls and of their answers, each opened by one turn: what a call's number says, an answer's length, and a
-- list of calls from a place on, whose first answer is that of its call and the rest those on the cursor that it left.
-- Assumes nothing.
use Rattle.std.specs.Prelude.{Ok, Err}
use Rattle.std.specs.List.{list_all}
use Rattle.std.proofs.lemmas.List.Recursion.{and_at}
use mathlib.Core.Path.{◌≡◌, refl, sym, ap, ◌∙◌}
use mathlib.Core.Bool.{Bool, true, ◌&&◌ as and}
use mathlib.Core.List.{List, [], ◌∷◌, ◌++◌, map}
use Prim.Native.Nat.{ℕ, suc, ◌+◌, ◌*◌, ◌/◌, ◌%◌, ◌-◌, ◌≤◌, ◌<◌}
use native.Mathlib.Numerals.{add-one}
use native.Mathlib.Omega.{arith}
use lib.Dec.{ltb}
use lib.ListN.{length, drop, get_or, length-append, length-map, length-drop}
use lib.Seq.{drop-cons, drop-length}
use borrow.Author.Tests.{eq-eqb, ne_eqb}
use Rattle.format.specs.declared.Term.{Term}
use Rattle.format.specs.Basics.{choose, put_at, Outcome}
use Rattle.format.specs.Model.{Call, step, seek}
use Rattle.format.proofs.Area.{put_at-nil, put_at-append}
use Rattle.segment_postings.specs.declared.Answer.{Answer}
use Rattle.segment_postings.specs.declared.Moved.{Moved}
use Rattle.segment_postings.specs.declared.SegmentPostings.{SegmentPostings}
use Rattle.segment_postings.specs.Called.{called, calls_from, answer_length, numbers, all_numbers}
use Rattle.postings.specs.RunCalls.{kind_of, target_of, call_of, all_known}

-- ---- a call's number

module _ (n : ℕ) where
  pub step-called : n / 4294967296 ≡ 0 → call_of n ≡ step
  unfolding call_of choose kind_of
  step-called e = rw (eq-eqb (n / 4294967296) 0 e)

  pub lent-step-called : n / 4294967296 ≡ 2 → call_of n ≡ step
  unfolding call_of choose kind_of
  lent-step-called e = rw (eq-eqb (n / 4294967296) 2 e, ne_eqb (n / 4294967296) 0 (λ z. omega arith))

  pub seek-called : (n / 4294967296 ≡ 0 → ⊥) → (n / 4294967296 ≡ 2 → ⊥) → call_of n ≡ seek (n % 4294967296)
  unfolding call_of choose kind_of target_of
  seek-called z w = rw (ne_eqb (n / 4294967296) 0 z, ne_eqb (n / 4294967296) 2 w)

-- ---- kinds, one by one

abbrev pub known_of : ℕ → Bool
known_of n = ltb (kind_of n) 4

pub each-known : (ns : List ℕ) → list_all known_of ns ≡ all_known ns
unfolding all_known
each-known [] = refl
each-known (n ∷ ns) = ap (λ b. and (known_of n) b) (each-known ns)

-- of known kinds each is
pub known-at : (ns : List ℕ) (i : ℕ) → i < length ns → all_known ns ≡ true → known_of (get_or ns i 0) ≡ true
unfolding all_known
known-at ns i below all = and_at all_known known_of refl (λ _ _. refl) ns i 0 below all

-- ---- a list of calls from a place on

pub numbers-length : (a : Outcome Answer) → length (numbers a) ≡ answer_length
unfolding numbers
numbers-length (Ok a) = refl
numbers-length (Err r) = refl

pub all-numbers : (answers : List (Outcome Answer)) → length (all_numbers answers) ≡ answer_length * length answers
unfolding all_numbers
all-numbers [] = refl
all-numbers (a ∷ answers) = rw length-append (omega (arith, numbers-length a, all-numbers answers))

pub as_many-answers : (bs : List ℕ) (t : Term) (c : SegmentPostings) (cs : List Call) → length (calls_from bs t c cs) ≡ length cs
unfolding calls_from
as_many-answers bs t c [] = refl
as_many-answers bs t c (call ∷ cs) = ap suc (as_many-answers bs t (called c bs t call).cursor cs)

module _ (bs : List ℕ) (t : Term) (ns : List ℕ) where
  -- the numbers of the answers to the calls from place i on
  abbrev pub numbers_from : ℕ → SegmentPostings → List ℕ
  numbers_from i c = all_numbers (calls_from bs t c (map call_of (drop i ns)))

  -- the call at place i
  abbrev called_at : ℕ → SegmentPostings → Moved
  called_at i c = called c bs t (call_of (get_or ns i 0))

  numbers-many : (i : ℕ) (c : SegmentPostings) → length (numbers_from i c) ≡ answer_length * (length ns - i)
  numbers-many i c = rw (all-numbers, as_many-answers, length-map, length-drop)

  numbers-turn : (i : ℕ) (c : SegmentPostings) → i < length ns
      → numbers_from i c ≡ numbers (called_at i c).answer ++ numbers_from (i + 1) (called_at i c).cursor
  unfolding all_numbers calls_from
  numbers-turn i c below = rw (drop-cons ns i 0 below, add-one) refl

  -- one call's answer is written, and the rest behind it
  written-turn : (i : ℕ) (c : SegmentPostings) (area : List ℕ) → i < length ns → answer_length * (length ns + 1) ≤ length area
      → put_at (answer_length * (i + 1)) (numbers_from i c) area
      ≡ put_at (answer_length * (i + 1 + 1)) (numbers_from (i + 1) (called_at i c).cursor) (put_at (answer_length * (i + 1)) (numbers (called_at i c).answer) area)
  written-turn i c area below room =
      let a : List ℕ = numbers (called_at i c).answer in
      let b : List ℕ = numbers_from (i + 1) (called_at i c).cursor in
      let turn : numbers_from i c ≡ a ++ b = numbers-turn i c below in
      let behind : answer_length * (i + 1) + length a ≡ answer_length * (i + 1 + 1) = omega (arith, numbers-length (called_at i c).answer) in
      ap (λ (l : List ℕ). put_at (answer_length * (i + 1)) l area) turn
      ∙ sym (put_at-append (answer_length * (i + 1)) a b area (omega (arith, numbers-many i c, ap length turn)))
      ∙ ap (λ (q : ℕ). put_at q b (put_at (answer_length * (i + 1)) a area)) behind

  -- .. on the cursor that the call left
  pub written_on : (i : ℕ) (c : SegmentPostings) (area : List ℕ) → i < length ns → answer_length * (length ns + 1) ≤ length area
      → {all : List ℕ} → all ≡ put_at (answer_length * (i + 1)) (numbers_from i c) area
      → {m : Moved} → m ≡ called_at i c → {area' : List ℕ} → area' ≡ put_at (answer_length * (i + 1)) (numbers m.answer) area
      → all ≡ put_at (answer_length * (i + 1 + 1)) (numbers_from (i + 1) m.cursor) area'
  written_on i c area below room so_far called-so stored = rw (stored, called-so) (so_far ∙ written-turn i c area below room)

  pub written_all : (c : SegmentPostings) (p : ℕ) (area : List ℕ) → put_at p (numbers_from (length ns) c) area ≡ area
  unfolding all_numbers calls_from
  written_all c p area = rw (drop-length, put_at-nil)
