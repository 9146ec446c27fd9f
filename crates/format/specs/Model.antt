-- The reference model of a list of calls (document 01 calls it the book). It is fed the documents and frequencies of an image
-- and the calls, and keeps a position and the set of blocks in which the position has been. Nothing of a cursor enters it.
-- Assumes nothing.
use Rattle.format.specs.declared.refusal.Refusal.{Refusal}
use Rattle.format.specs.declared.refusal.Refusal.TheVariants.{TargetTooLarge}
use Rattle.std.specs.Prelude.{Bool, false, ◌&&◌ as and, ◌||◌ as or, List, [], ◌∷◌, ℕ, ◌+◌, ◌/◌, min, length, drop, get_or, eqb, ltb, leb}
use Rattle.format.specs.Basics.{choose, TERMINATED}
use Rattle.format.specs.Counts.{count_below}

pub data Call : Type 0 where
  step : Call
  seek : ℕ → Call

pub record State : Type 0 where
  pub position : ℕ
  pub visited : List ℕ

-- document, frequency, blocks unpacked, and whether the document is the very one that was sought; or a refusal
pub data Answer : Type 0 where
  at : ℕ → ℕ → ℕ → Bool → Answer
  refused : Refusal → Answer

unfoldable pub member : ℕ → List ℕ → Bool
member b [] = false
member b (v ∷ vs) = or (eqb b v) (member b vs)

-- b joins the set
unfoldable pub visit : ℕ → List ℕ → List ℕ
unfolding choose member
visit b vs = choose (member b vs) (λ _. vs) (λ _. b ∷ vs)

-- opening makes them 0 and block 0 alone
unfoldable pub opened : State
opened = record { position = 0; visited = 0 ∷ [] }

-- the new position's block joins the set
unfoldable pub moved : State → ℕ → State
unfolding visit
moved s p = record { position = p; visited = visit (p / 128) s.visited }

-- a step adds one to the position, at the end nothing; a seek with a target up to TERMINATED goes to the least position, not
-- before the present one, whose document is at least the target, if there is none to the end; any other changes nothing
unfoldable pub after : List ℕ → State → Call → State
unfolding moved count_below choose
after ds s step = moved s (min (s.position + 1) (length ds))
after ds s (seek t) = choose (leb t TERMINATED) (λ _. moved s (s.position + count_below t (drop s.position ds))) (λ _. s)

-- the document and the frequency at the position, at the end TERMINATED and 0, the size of the set, and whether it is a hit
unfoldable pub here : List ℕ → List ℕ → State → Bool → Answer
here ds fs s hit = at (get_or ds s.position TERMINATED) (get_or fs s.position 0) (length s.visited) hit

-- whether a target is the document at the position; at the end there is none, so that TERMINATED isn't one (document 02, Ask 2)
unfoldable pub hits : List ℕ → State → ℕ → Bool
hits ds s t = and (ltb s.position (length ds)) (eqb (get_or ds s.position TERMINATED) t)

-- a step has no target, so no hit; a target above TERMINATED is refused, at the end too (document 02, Ask 10)
unfoldable pub answer : List ℕ → List ℕ → State → Call → Answer
unfolding after here hits choose
answer ds fs s step = here ds fs (after ds s step) false
answer ds fs s (seek t) =
    choose (leb t TERMINATED)
    (λ _. let s' : State = after ds s (seek t) in here ds fs s' (hits ds s' t))
    (λ _. refused TargetTooLarge)

unfoldable pub answers_from : List ℕ → List ℕ → State → List Call → List Answer
unfolding answer after
answers_from ds fs s [] = []
answers_from ds fs s (c ∷ cs) = answer ds fs s c ∷ answers_from ds fs (after ds s c) cs

-- what opening, which has no target either, and then the calls answer
unfoldable pub answers : List ℕ → List ℕ → List Call → List Answer
unfolding answers_from here opened
answers ds fs cs = here ds fs opened false ∷ answers_from ds fs opened cs

-- the state after the calls
unfoldable pub after_all : List ℕ → State → List Call → State
unfolding after
after_all ds s [] = s
after_all ds s (c ∷ cs) = after_all ds (after ds s c) cs

-- skip entries read where block p / 128 of a list of n documents is held: its own and those before it, of which there are as
-- many as full blocks
unfoldable pub entries_read : ℕ → ℕ → ℕ
entries_read n p = min (n / 128) (p / 128 + 1)
