-- What restoring a block's values in place answers and leaves.
-- Assumes nothing.
use Rattle.std.specs.Prelude.{◌≡◌, Bool, true, not, ◌&&◌ as and, List, [], ◌∷◌, ◌++◌, map, ℕ, zero, suc, ◌+◌, ◌-◌, ◌%◌, ◌^◌, leb, ltb, take, drop, Ok, Err}
use Rattle.format.specs.declared.refusal.Refusal.TheVariants.{DocsNotRising}
use Rattle.format.specs.Basics.{Outcome, ask, choose, last_of, TERMINATED}
use Rattle.format.specs.Model.{member}
use Rattle.format.specs.Values.{ids_from}

-- ---- ids by their differences. The difference of an id is what it lies above the one before; of a list's first it is one more than the
-- id, as if an id stood before 0

-- the ids of differences; `least` is one more than the id before the first
unfoldable pub ids_behind : ℕ → List ℕ → List ℕ
ids_behind least [] = []
ids_behind least (d ∷ ds) = (least + d - 1) ∷ ids_behind (least + d) ds

-- question 6 of them: no difference is 0, and each id lies below TERMINATED
unfoldable pub differences_rise : ℕ → List ℕ → Bool
differences_rise least [] = true
differences_rise least (d ∷ ds) = and (and (leb 1 d) (leb (least + d) TERMINATED)) (differences_rise (least + d) ds)

-- the difference of a list's first id; 0, which is refused as well, where the id is too large
unfoldable pub first_difference_of : ℕ → ℕ
unfolding choose
first_difference_of d = choose (ltb d TERMINATED) (λ _. d + 1) (λ _. 0)

-- the values of the non-strict form as differences: they are that, but for a list's first id
unfoldable pub as_differences : ℕ → List ℕ → List ℕ
unfolding first_difference_of
as_differences least [] = []
as_differences zero (v ∷ vs) = first_difference_of v ∷ vs
as_differences (suc least) (v ∷ vs) = v ∷ vs

-- its answer: the last id, 0 where there is none; or that it is a no
unfoldable pub risen : ℕ → List ℕ → Outcome ℕ
unfolding ask last_of differences_rise ids_behind
risen least ds = ask (differences_rise least ds) DocsNotRising λ _. Ok (last_of 0 (ids_behind least ds))

-- ---- in place

-- the numbers in the place of the first n values, every other value as before. A place has 32 bits: of a number that needs more,
-- which is no id, it has the lowest
unfoldable pub in_place : ℕ → List ℕ → List ℕ → List ℕ
in_place n ns values = map (λ k. k % 2 ^ 32) ns ++ drop n values

-- `sum`: the sums of values are ids of which nothing was left out
pub record Summed (before : ℕ) (entry exit : List ℕ) (last : ℕ) : Type 0 where
  pub answered : last ≡ last_of before (ids_from 0 before entry)
  pub left : exit ≡ map (λ k. k % 2 ^ 32) (ids_from 0 before entry)

-- `ending`: question 6 of ids of which no two are the same, by the last one
unfoldable pub ending : ℕ → Outcome ℕ
unfolding ask
ending last = ask (ltb last TERMINATED) DocsNotRising λ _. Ok last

-- the ids of differences as sums on top of the id before, of which a list's first has none
unfoldable pub sums_behind : ℕ → List ℕ → List ℕ
unfolding ids_from
sums_behind least [] = []
sums_behind zero (d ∷ ds) = ids_from 0 0 ((d - 1) ∷ ds)
sums_behind (suc before) (d ∷ ds) = ids_from 0 before (d ∷ ds)

-- a difference is 0 and the caller didn't rule that out
unfoldable pub found_zero : Bool → List ℕ → Bool
unfolding member
found_zero nonzero ds = and (not nonzero) (member 0 ds)

-- `restore_docs`: where a 0 is found nothing is written. Else the sums are, whatever they come to; the last of them answers. Where the
-- caller ruled out a 0 only if there is none, the answer is `risen`; and where that is a yes the sums are the ids (proofs/Differences.antt)
pub record DocsRestored (least n : ℕ) (nonzero : Bool) (entry exit : List ℕ) (answer : Outcome ℕ) : Type 0 where
  pub answered : answer ≡ choose (found_zero nonzero (take n entry)) (λ _. Err DocsNotRising) (λ _. ending (last_of 0 (sums_behind least (take n entry))))
  pub left : exit ≡ choose (found_zero nonzero (take n entry)) (λ _. entry) (λ _. in_place n (sums_behind least (take n entry)) entry)
