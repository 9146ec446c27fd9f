-- The size of the model's set is "the number of different blocks in which the position has been, opening included": the set holds no
-- block twice, and a block is in it exactly where one of the model's positions lies in that block.
-- Assumes nothing.
use mathlib.Core.Bool.{Bool, true, false, ◌||◌ as or, or-false, or_comm, or_assoc}
use mathlib.Core.List.{List, [], ◌∷◌}
use mathlib.Core.Path.{◌≡◌, refl, sym, ◌∙◌}
use Prim.Native.Nat.{ℕ, ◌/◌, ◌+◌, min}
use borrow.Author.Tests.{eq-eqb, eqb-true}
use lib.Dec.{eqb, leb}
use lib.ListN.{length, drop}
use Rattle.format.specs.Basics.{TERMINATED}
use Rattle.format.specs.Counts.{count_below}
use Rattle.format.specs.Model.{Call, step, seek, State, member, visit, opened, moved, after, after_all}
use Rattle.format.proofs.Choice.{choose_elim}
use Rattle.segment_postings.specs.Called.{positions_from, positions}
use Rattle.postings.specs.ThirdPromise.{distinct, blocks_of}

-- ---- a block joins the set

absorbed : (b v : ℕ) (vs : List ℕ) → member v vs ≡ true → or (eqb b v) (member b vs) ≡ member b vs
absorbed b v vs within = go (eqb b v) refl
  where
    go : (same : Bool) → eqb b v ≡ same → or same (member b vs) ≡ member b vs
    go true e = sym (rw (eqb-true b v e) within)
    go false e = refl

module _ (b v : ℕ) (vs : List ℕ) where
  member-visit : member b (visit v vs) ≡ or (eqb b v) (member b vs)
  unfolding visit member
  member-visit =
      choose_elim (λ (l : List ℕ). member b l ≡ or (eqb b v) (member b vs)) (member v vs) (λ _. vs) (λ _. v ∷ vs)
      (λ within. sym (absorbed b v vs within)) (λ _. refl)

visit-distinct : (v : ℕ) (vs : List ℕ) → distinct vs ≡ true → distinct (visit v vs) ≡ true
unfolding visit distinct
visit-distinct v vs d =
    choose_elim (λ (l : List ℕ). distinct l ≡ true) (member v vs) (λ _. vs) (λ _. v ∷ vs) (λ _. d) (λ new. rw (new, d))

-- ---- a call

abbrev Within : State → Type 0
Within s = member (s.position / 128) s.visited ≡ true

-- a state with what a call makes of it
pub record Follows (s s' : State) : Type 0 where
  pub joins : (b : ℕ) → member b s'.visited ≡ or (eqb b (s'.position / 128)) (member b s.visited)
  pub stays_distinct : distinct s.visited ≡ true → distinct s'.visited ≡ true

moved_follows : (s : State) (p : ℕ) → Follows s (moved s p)
unfolding moved
moved_follows s p = record {
  joins = λ b. member-visit b (p / 128) s.visited;
  stays_distinct = visit-distinct (p / 128) s.visited;
}

after_follows : (ds : List ℕ) (s : State) (call : Call) → Within s → Follows s (after ds s call)
unfolding after
after_follows ds s step within = moved_follows s (min (s.position + 1) (length ds))
after_follows ds s (seek target) within =
    choose_elim (Follows s) (leb target TERMINATED)
    (λ _. moved s (s.position + count_below target (drop s.position ds))) (λ _. s)
    (λ _. moved_follows s (s.position + count_below target (drop s.position ds)))
    (λ _. record { joins = λ b. sym (absorbed b (s.position / 128) s.visited within); stays_distinct = λ d. d })

follows_within : {s s' : State} → Follows s s' → Within s'
follows_within {s} {s'} f = f.joins (s'.position / 128) ∙ rw (eq-eqb (s'.position / 128) (s'.position / 128) refl)

-- ---- a list of calls

regrouped : (x y z : Bool) → or (or x y) z ≡ or y (or x z)
regrouped x y z = rw (or_comm x y) (or_assoc y x z)

visited-from : (ds : List ℕ) (s : State) (cs : List Call) (b : ℕ) → Within s
    → member b (after_all ds s cs).visited ≡ or (member b s.visited) (member b (blocks_of (positions_from ds s cs)))
unfolding after_all positions_from member
visited-from ds s [] b within = sym (or-false (member b s.visited))
visited-from ds s (call ∷ cs) b within =
    let f = after_follows ds s call within in
    let later = visited-from ds (after ds s call) cs b (follows_within f) in
    later ∙ rw (f.joins b) (regrouped (eqb b ((after ds s call).position / 128)) (member b s.visited) (member b (blocks_of (positions_from ds (after ds s call) cs))))

distinct_from : (ds : List ℕ) (s : State) (cs : List Call) → Within s → distinct s.visited ≡ true
    → distinct (after_all ds s cs).visited ≡ true
unfolding after_all
distinct_from ds s [] within d = d
distinct_from ds s (call ∷ cs) within d =
    let f = after_follows ds s call within in
    distinct_from ds (after ds s call) cs (follows_within f) (f.stays_distinct d)

-- ---- from opening on

pub visited-blocks : (ds : List ℕ) (cs : List Call) (b : ℕ)
    → member b (after_all ds opened cs).visited ≡ member b (blocks_of (positions ds cs))
unfolding opened positions member
visited-blocks ds cs b = visited-from ds opened cs b refl ∙ rw (or-false (eqb b 0))

pub visited-distinct : (ds : List ℕ) (cs : List Call) → distinct (after_all ds opened cs).visited ≡ true
unfolding opened distinct member
visited-distinct ds cs = distinct_from ds opened cs refl refl
