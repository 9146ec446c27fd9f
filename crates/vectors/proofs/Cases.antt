-- The layout of a case, question by question; and the replay of the cases, opened by one turn.
-- Assumes nothing.
use Rattle.std.specs.Prelude.{None, Some, option_and_then}
use mathlib.Core.Bool.{Bool, true, false, ◌&&◌ as and, and-eq-true_iff}
use mathlib.Core.List.{List, [], ◌∷◌, ◌++◌}
use mathlib.Core.Path.{◌≡◌, refl, sym, ◌∙◌}
use Prim.Native.Nat.{ℕ, zero, suc, ◌+◌, ◌-◌, ◌*◌, ◌≤◌, ◌<◌}
use native.Mathlib.Omega.{arith}
use borrow.Author.Tests.{le-leb, lt-leb, leb-true, eq-eqb, ne_eqb}
use lib.Dec.{leb}
use lib.ListN.{length}
use Rattle.format.specs.Basics.{choose, tabulate_from, tabulate, word}
use Rattle.format.proofs.Tabulate.{tabulate-more}
use Rattle.vectors.specs.declared.sample.Case.{Case}
use Rattle.vectors.specs.Sample.{short, words, case_of, case_at}
use Rattle.vectors.specs.Replay.{agrees, Within, case_agrees, count_differing, replay_from, replayed}

module _ (bs : List ℕ) (p : ℕ) where
  -- the three questions
  abbrev there : Bool
  there = and (leb (p + 6) (length bs)) (and (leb (case_of bs p).count 512) (leb (case_of bs p).end (length bs)))

  case_at-is : case_at bs p ≡ choose there (λ _. Some (case_of bs p)) (λ _. None)
  unfolding case_at
  case_at-is = refl

-- one number more
pub words_more : (bs : List ℕ) (p n : ℕ) → words bs p (n + 1) ≡ words bs p n ++ (word bs (p + 4 * n) ∷ [])
unfolding words
words_more bs p n = tabulate-more n (λ i. word bs (p + 4 * i))

pub words-none : (bs : List ℕ) (p : ℕ) → words bs p 0 ≡ []
unfolding words tabulate tabulate_from
words-none bs p = refl

chosen : (t : Bool) (x c : Case) → choose t (λ _. Some x) (λ _. None) ≡ Some c → (t ≡ true) × (x ≡ c)
unfolding choose
chosen true x c e = (refl, cc)
chosen false x c e = let z : ◌≡◌ {A = ℕ} 0 1 = cc in absurd (omega arith)

within_of : (bs : List ℕ) (p : ℕ) → (case_of bs p).count ≤ 512 → (case_of bs p).end ≤ length bs → Within bs (case_of bs p)
unfolding case_of
within_of bs p few h =
    record { few = few; docs_there = omega arith; freqs_there = omega arith; image_there = omega arith; end_there = h }

-- a case that is found is within the sample
pub case_within : (bs : List ℕ) (p : ℕ) (c : Case) → case_at bs p ≡ Some c → Within bs c
case_within bs p c e =
    let found = chosen (there bs p) (case_of bs p) c (sym (case_at-is bs p) ∙ e) in
    let n = (case_of bs p).count in
    let end = (case_of bs p).end in
    let rest = ((and-eq-true_iff (leb (p + 6) (length bs)) (and (leb n 512) (leb end (length bs)))).0 found.0).1 in
    let both = (and-eq-true_iff (leb n 512) (leb end (length bs))).0 rest in
    rw found.1 at (within_of bs p (leb-true n 512 both.0) (leb-true end (length bs) both.1))

-- ---- the cases one after the other

module _ (bs : List ℕ) where
  pub replayed-none : length bs < 2 → replayed bs ≡ None
  unfolding replayed choose
  replayed-none h = rw (lt-leb 2 (length bs) h)

  replayed-from : 2 ≤ length bs → replayed bs ≡ replay_from bs (short bs 0) (short bs 0) 2 0
  unfolding replayed choose
  replayed-from h = rw (le-leb 2 (length bs) h)

  pub replay_begins : (cases : ℕ) → 2 ≤ length bs → cases ≡ short bs 0 → replayed bs ≡ replay_from bs cases (cases - 0) 2 0
  replay_begins cases h e = let whole : cases - 0 ≡ cases = omega arith in replayed-from h ∙ rw (← e, whole)

  module _ (cases differ p : ℕ) where
    turn : (n : ℕ)
        → replay_from bs cases (suc n) p differ
        ≡ option_and_then (λ (c : Case). replay_from bs cases n c.end (count_differing (case_agrees bs c) differ)) (case_at bs p)
    unfolding replay_from
    turn n = refl

    -- no case where one should be
    pub replay_stop : (n : ℕ) → 0 < n → case_at bs p ≡ None → replay_from bs cases n p differ ≡ None
    replay_stop (suc n) h e = rw (turn n, e)
    replay_stop zero h e = absurd (omega arith)

    -- a case, and on behind it
    pub replay_on : (n : ℕ) (c : Case) → 0 < n → case_at bs p ≡ Some c
        → replay_from bs cases n p differ ≡ replay_from bs cases (n - 1) c.end (count_differing (case_agrees bs c) differ)
    replay_on (suc n) c h e = let less : suc n - 1 ≡ n = omega arith in rw (turn n, e, less)
    replay_on zero c h e = absurd (omega arith)

    pub replay_end : p ≡ length bs → replay_from bs cases 0 p differ ≡ Some (record { cases = cases; differ = differ })
    unfolding replay_from choose
    replay_end e = rw (eq-eqb p (length bs) e)

    pub replay_left : (p ≡ length bs → ⊥) → replay_from bs cases 0 p differ ≡ None
    unfolding replay_from choose
    replay_left h = rw (ne_eqb p (length bs) h)

-- what a case adds
pub count_same : (agrees : Bool) (differ : ℕ) → agrees ≡ true → count_differing agrees differ ≡ differ
unfolding count_differing
count_same agrees differ e = rw e

pub count-more : (agrees : Bool) (differ : ℕ) → agrees ≡ false → count_differing agrees differ ≡ differ + 1
unfolding count_differing
count-more agrees differ e = rw e
