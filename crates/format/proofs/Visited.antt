-- The set of visited blocks is a counter. Positions never fall and never pass the end, so the block of the position is the greatest
-- of the set: a block that joins is a later one and is new, the set grows by one just where the block number grows. Both hold
-- from the opened state on.
-- Assumes nothing.
use mathlib.Core.Bool.{true, false}
use mathlib.Core.List.{List, [], ◌∷◌}
use mathlib.Core.Path.{◌≡◌, refl}
use Prim.Native.Nat.{ℕ, ◌+◌, ◌/◌, min, max, ◌≤◌, ◌<◌}
use native.Mathlib.Nat.{le_trans}
use native.Mathlib.Decide.{dec_le}
use native.Mathlib.Omega.{arith}
use borrow.Author.Tests.{le-leb, lt-leb, eq-eqb, ne_eqb}
use lib.Dec.{leb}
use lib.ListN.{length, drop, length-drop}
use Rattle.format.specs.Basics.{choose, TERMINATED, AllBelow}
use Rattle.format.specs.Counts.{count_below}
use Rattle.format.specs.Values.{rising}
use Rattle.format.specs.Model.{Call, step, seek, State, member, visit, opened, moved, after, after_all}
use Rattle.format.proofs.Lists.{AllBelow-le}
use Rattle.format.proofs.Choice.{choose_elim}
use Rattle.format.proofs.Below.{count-le, seek-position}

-- the block of the position
abbrev pub block_of : State → ℕ
block_of s = s.position / 128

-- the position stands in a list of n documents, its block is visited, and no later one is
pub record Tracked (n : ℕ) (s : State) : Type 0 where
  pub inside : s.position ≤ n
  pub within : member (block_of s) s.visited ≡ true
  pub latest : AllBelow (block_of s + 1) s.visited

-- what a call does to the state: it doesn't go back, and the set grows by one just where the block number grows
pub record Grown (s s' : State) : Type 0 where
  pub onward : s.position ≤ s'.position
  pub stays : block_of s' ≡ block_of s → length s'.visited ≡ length s.visited
  pub grows : block_of s < block_of s' → length s'.visited ≡ length s.visited + 1

-- a number above all of a set isn't in it
not-member : (b : ℕ) (vs : List ℕ) → AllBelow b vs → member b vs ≡ false
unfolding member
not-member b [] h = refl
not-member b (v ∷ vs) h = rw (ne_eqb b v (λ e. omega arith), not-member b vs h.1)

module _ {n : ℕ} {s : State} (k : Tracked n s) (p : ℕ) where
  -- to a position in the same block
  stays-there : p / 128 ≡ block_of s → visit (p / 128) s.visited ≡ s.visited
  unfolding visit choose
  stays-there e = rw (e, k.within)

  -- .. in a later one
  joins : block_of s < p / 128 → visit (p / 128) s.visited ≡ p / 128 ∷ s.visited
  unfolding visit choose
  joins h = rw (not-member (p / 128) s.visited (AllBelow-le s.visited (omega arith) k.latest))

  moved-tracked : s.position ≤ p → p ≤ n → Tracked n (moved s p)
  unfolding moved member
  moved-tracked h l = elim (dec_le (p / 128) (block_of s)) [
    | yes b ↦
        let e : p / 128 ≡ block_of s = omega arith in
        rw (stays-there e) (record { inside = l; within = rw e k.within; latest = rw e k.latest })
    | no b ↦
        rw (joins (omega arith))
        (record {
          inside = l;
          within = rw (eq-eqb (p / 128) (p / 128) refl);
          latest = (omega arith, AllBelow-le s.visited (omega arith) k.latest);
        })
  ]

  moved-grown : s.position ≤ p → Grown s (moved s p)
  unfolding moved
  moved-grown h =
      record {
        onward = h;
        stays = λ e. rw (stays-there e);
        grows = λ b. rw (joins b) (omega arith);
      }

-- ---- the calls

stands : (s : State) → Grown s s
stands s = record { onward = omega arith; stays = λ _. refl; grows = λ h. absurd (omega arith) }

module _ (ds : List ℕ) {s : State} (k : Tracked (length ds) s) where
  -- a step and a seek move to a position that is not before the present one and not behind the end
  abbrev Moves : State → Type 0
  Moves s' = Tracked (length ds) s' × Grown s s'

  moves_to : (p : ℕ) → s.position ≤ p → p ≤ length ds → Moves (moved s p)
  moves_to p h l = (moved-tracked k p h l, moved-grown k p h)

  after_moves : (c : Call) → Moves (after ds s c)
  unfolding after
  after_moves step = moves_to (min (s.position + 1) (length ds)) (omega arith) (omega arith)
  after_moves (seek t) =
      choose_elim Moves (leb t TERMINATED) _ _
      (λ _. moves_to _ (omega arith) (omega (arith, count-le t (drop s.position ds), length-drop s.position ds)))
      (λ _. (k, stands s))

  pub after-tracked : (c : Call) → Tracked (length ds) (after ds s c)
  after-tracked c = (after_moves c).0

  pub after-grown : (c : Call) → Grown s (after ds s c)
  after-grown c = (after_moves c).1

-- ---- where the calls go

pub step-goes : (ds : List ℕ) (s : State) → (after ds s step).position ≡ min (s.position + 1) (length ds)
unfolding after
step-goes ds s = refl

-- on documents that rise: to the least position, not before the present one, whose document is at least the target
pub seek-goes : (least : ℕ) (ds : List ℕ) (s : State) (target : ℕ) → rising least ds ≡ true → target ≤ TERMINATED
    → (after ds s (seek target)).position ≡ max s.position (count_below target ds)
unfolding after moved choose
seek-goes least ds s target r h = rw (le-leb target TERMINATED h) (seek-position target least ds s.position r)

pub seek-stands : (ds : List ℕ) (s : State) (target : ℕ) → TERMINATED < target → after ds s (seek target) ≡ s
unfolding after choose
seek-stands ds s target h = rw (lt-leb target TERMINATED h)

-- ---- a list of calls

pub opened-tracked : (n : ℕ) → Tracked n opened
unfolding opened member
opened-tracked n = record { inside = omega arith; within = refl; latest = (omega arith, tt) }

pub after_all-tracked : (ds : List ℕ) (s : State) (cs : List Call) → Tracked (length ds) s → Tracked (length ds) (after_all ds s cs)
unfolding after_all
after_all-tracked ds s [] k = k
after_all-tracked ds s (c ∷ cs) k = after_all-tracked ds (after ds s c) cs (after-tracked ds k c)

-- over a list of calls the position never falls
pub after_all-onward : (ds : List ℕ) (s : State) (cs : List Call) → Tracked (length ds) s → s.position ≤ (after_all ds s cs).position
unfolding after_all
after_all-onward ds s [] k = omega arith
after_all-onward ds s (c ∷ cs) k =
    le_trans (after-grown ds k c).onward (after_all-onward ds (after ds s c) cs (after-tracked ds k c))
