-- Question 16, asked in turn; and what a yes says of a state: few documents wait, their ids rise, and the areas reach no further than
-- their slices.
-- Assumes nothing.
use Rattle.std.specs.Prelude.{◌≡◌, ℕ, ◌+◌, ◌<◌, ◌≤◌, Bool, true, false, not, ◌&&◌ as and, ◌||◌ as or, List, leb, ltb}
use mathlib.Core.Path.{sym, ◌∙◌}
use mathlib.Core.Bool.{and_assoc, and-eq-true_iff}
use native.Mathlib.Omega.{arith}
use borrow.Author.Tests.{leb-true, le-leb, lt-leb}
use Rattle.format.specs.Accepted.{known_mode_of}
use Rattle.format.specs.Basics.{choose, TERMINATED}
use Rattle.format.specs.SkipEntry.{has_freq_of}
use Rattle.format.specs.Values.{rising, countable}
use Rattle.serializer.specs.declared.PostingsSerializer.{PostingsSerializer}
use Rattle.serializer.specs.declared.Progress.{Progress}
use Rattle.serializer.specs.Calls.{state_of}
use Rattle.serializer.specs.Writer.{bounds_hold, option_of, first_least_of, waiting_docs, waiting_freqs}

-- the least id that the first waiting document may have is 0, or one more than the last block's last id
choose-most : (t : Bool) (n : ℕ) → choose t (λ _. n) (λ _. 0) ≤ n
unfolding choose
choose-most true n = omega arith
choose-most false n = omega arith

pub least-most : (s : PostingsSerializer) → first_least_of s ≤ s.last_doc + 1
unfolding first_least_of
least-most s = choose-most (ltb s.waiting s.taken) (s.last_doc + 1)

-- ---- in turn: the first no answers it

-- what is asked of the waiting documents
abbrev pub documents_asked : PostingsSerializer → Bool
documents_asked s = and (rising (first_least_of s) (waiting_docs s)) (or (not (has_freq_of (option_of s))) (countable (waiting_freqs s)))

module _ (s : PostingsSerializer) (n m : ℕ) where
  pub many_wait : 127 < s.waiting → bounds_hold s n m ≡ false
  unfolding bounds_hold
  many_wait many = rw (lt-leb _ _ many)

  module _ (few : s.waiting ≤ 127) where
    pub documents-asked : bounds_hold s n m
        ≡ and (documents_asked s) (and (leb s.taken TERMINATED) (and (and (leb s.skips_at n) (leb s.postings_at m)) (known_mode_of s.mode)))
    unfolding bounds_hold
    documents-asked = rw (le-leb _ _ few) (sym (and_assoc (rising (first_least_of s) (waiting_docs s)) _ _))

-- ---- what a yes says

module _ (s : PostingsSerializer) (n m : ℕ) (holds : bounds_hold s n m ≡ true) where
  pub few : s.waiting ≤ 127
  unfolding bounds_hold
  few = leb-true _ _ ((and-eq-true_iff (leb s.waiting 127) _).0 holds).0

  pub waiting_rises : rising (first_least_of s) (waiting_docs s) ≡ true
  unfolding bounds_hold
  waiting_rises = ((and-eq-true_iff (rising (first_least_of s) (waiting_docs s)) _).0 ((and-eq-true_iff (leb s.waiting 127) _).0 holds).1).0

  areas-within : and (leb s.skips_at n) (leb s.postings_at m) ≡ true
  unfolding bounds_hold
  areas-within =
      let docs = ((and-eq-true_iff (leb s.waiting 127) _).0 holds).1 in
      let freqs = ((and-eq-true_iff (rising (first_least_of s) (waiting_docs s)) _).0 docs).1 in
      let taken = ((and-eq-true_iff (or (not (has_freq_of (option_of s))) (countable (waiting_freqs s))) _).0 freqs).1 in
      let areas = ((and-eq-true_iff (leb s.taken TERMINATED) _).0 taken).1 in
      ((and-eq-true_iff (and (leb s.skips_at n) (leb s.postings_at m)) _).0 areas).0

  pub skips_within : s.skips_at ≤ n
  skips_within = leb-true _ _ ((and-eq-true_iff (leb s.skips_at n) _).0 areas-within).0

  pub postings_within : s.postings_at ≤ m
  postings_within = leb-true _ _ ((and-eq-true_iff (leb s.skips_at n) _).0 areas-within).1

-- no more wait than an array has places
pub few_fit : (p : Progress) (docs freqs : List ℕ) (n m : ℕ) {held : Bool} → held ≡ bounds_hold (state_of p docs freqs) n m → held ≡ true
    → p.waiting ≤ 128
unfolding state_of
few_fit p docs freqs n m asked held = omega (arith, few (state_of p docs freqs) n m (sym asked ∙ held))
