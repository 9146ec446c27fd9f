-- The loops at other types: the largest id, and a walk whose state is a number and two arrays.
--     larger                            the larger of a number and an id that is at least `least`
--     starts, starts_seen, starts_last    opening: the first place or a refusal, and what the arrays hold
--     marks, marks_seen, marks_last       the turn of one target: likewise
--     sums                              what is handed out at the end
--     marked, LeavesMarked              all targets, and how a contract says what is returned and left
-- Assumes nothing.
use Rattle.std.specs.Prelude.{◌≡◌, ℕ, ◌+◌, false, cond, List, set, replicate, ltb, eqb}
use Rattle.thin.specs.Fold.{Ran, begins}
use Rattle.serves.specs.declared.Target.{Target}
use Rattle.serves.specs.declared.Started.{Started}
use Rattle.serves.specs.declared.Marked.{Marked}

unfoldable pub larger : ℕ → Target → ℕ → ℕ
larger most t least = cond (ltb t.id least) most (cond (ltb most t.id) t.id most)

unfoldable pub starts : ℕ → Started
starts from = cond (ltb from 16) (record { refusal = 0; next = from }) (record { refusal = 2; next = 0 })

unfoldable pub starts_seen : List ℕ → List ℕ
starts_seen seen = seen

unfoldable pub starts_last : List ℕ → List ℕ
starts_last last = last

unfoldable pub marks : Target → ℕ → Marked
marks t next =
    cond (ltb next 16)
    (record { refusal = 0; target = record { id = t.id; doc = 1; freq = t.freq; hit = false }; next = next + 1 })
    (record { refusal = 3; target = t; next = next })

unfoldable pub marks_seen : List ℕ → ℕ → List ℕ
marks_seen seen next = cond (ltb next 16) (set seen next 1) seen

unfoldable pub marks_last : List ℕ → ℕ → List ℕ
marks_last last next = cond (ltb next 16) (set last 0 7) last

unfoldable pub sums : ℕ → ℕ → ℕ
sums refusal next = cond (eqb refusal 0) next 0

abbrev pub State : Type 0
State = ℕ × (List ℕ × List ℕ)

abbrev pub marked : List Target → ℕ → Ran Target State
marked ts from =
    begins
    (λ t z. (
      (marks t z.0).refusal,
      (
        (marks t z.0).target,
        ((marks t z.0).next, (marks_seen z.1.0 z.0, marks_last z.1.1 z.0)),
      ),
    ))
    ((starts from).refusal, ((starts from).next, (starts_seen (replicate 16 0), starts_last (replicate 2 0)))) ts

abbrev pub LeavesMarked : Ran Target State → ℕ → List Target → Type 0
LeavesMarked w r left = (r ≡ sums w.0 w.1.1.1.0) × (left ≡ w.1.1.0)
