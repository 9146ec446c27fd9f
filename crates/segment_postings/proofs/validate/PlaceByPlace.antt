-- Questions 6 and 7 asked place by place. From one id to the next all that is kept is the least id that may come next, to which the next
-- difference is added: one that is in order leaves what question 6 says of the rest, and one that isn't answers it for all. The last id is
-- one less than what is kept at the end. Frequencies go the same way, with nothing kept.
-- Assumes nothing.
use Rattle.std.specs.Prelude.{◌≡◌, ℕ, zero, suc, ◌+◌, ◌-◌, ◌<◌, ◌≤◌, Bool, true, false, eqb, leb, List, [], ◌∷◌, length, take}
use mathlib.Core.Path.{refl, sym, ◌∙◌}
use mathlib.Core.Bool.{and-false}
use Prim.Native.Nat.{zero-le}
use native.Mathlib.Nat.{le_refl}
use native.Mathlib.Numerals.{add-one}
use native.Mathlib.Omega.{arith}
use lib.Dec.{eqb-suc-suc}
use borrow.Author.Tests.{eqb-true, le-leb, lt-leb, ne_eqb}
use Rattle.format.specs.Basics.{choose, last_of, TERMINATED}
use Rattle.format.specs.Model.{member}
use Rattle.format.proofs.Choice.{choose_elim}
use Rattle.compression.specs.Restored.{ids_behind, differences_rise}
use Rattle.compression.proofs.Differences.{last_any}
use Rattle.segment_postings.specs.declared.load.Taken.{Taken}
use Rattle.segment_postings.specs.Taken.{ends_on, ends_before, freqs_to_ask_of}

-- ---- ids

-- what is known of differences once all but `rest` are in order
pub record Ordered (least₀ least : ℕ) (vs rest : List ℕ) : Type 0 where
  pub same : differences_rise least₀ vs ≡ differences_rise least rest
  pub last : 0 < length vs → last_of 0 (ids_behind least₀ vs) ≡ last_of (least - 1) (ids_behind least rest)

pub ordered_none : (least : ℕ) (vs : List ℕ) → Ordered least least vs vs
ordered_none least vs = record { same = refl; last = last_any 0 (least - 1) least vs }

-- a difference more, which is or isn't in order
module _ (least₀ least d : ℕ) (vs rest : List ℕ) (o : Ordered least₀ least vs (d ∷ rest)) where
  pub ordered_next : 0 < d → least + d ≤ TERMINATED → Ordered least₀ (least + d) vs rest
  unfolding differences_rise ids_behind last_of
  ordered_next some few =
      record { same = o.same ∙ rw (le-leb 1 d some, le-leb (least + d) TERMINATED few); last = o.last }

  pub ordered_same : d ≡ 0 → differences_rise least₀ vs ≡ false
  unfolding differences_rise
  ordered_same none = o.same ∙ rw none

  pub ordered_over : TERMINATED < least + d → differences_rise least₀ vs ≡ false
  unfolding differences_rise
  ordered_over many = o.same ∙ rw (lt-leb (least + d) TERMINATED many, and-false (leb 1 d))

one-before : (m n : ℕ) → 0 < m → eqb (m - 1) n ≡ eqb m (n + 1)
one-before zero n h = absurd (omega arith)
one-before (suc m) n h = let less : suc m - 1 ≡ m = omega arith in rw (less, add-one, eqb-suc-suc)

-- none is left
module _ (least₀ least : ℕ) (vs : List ℕ) (o : Ordered least₀ least vs []) where
  pub ordered_all : differences_rise least₀ vs ≡ true
  unfolding differences_rise
  ordered_all = o.same

  -- the last id of a full block, by the least that may come behind it
  pub ordered_ends : (full : Bool) (last : ℕ) → (full ≡ true → (0 < length vs) × (0 < least))
      → ends_on full last (ids_behind least₀ vs) ≡ ends_before full last least
  unfolding ends_on ends_before last_of ids_behind
  ordered_ends true last some = rw (o.last (some refl).0) (one-before least last (some refl).1)
  ordered_ends false last some = refl

pub ends-full : (full : Bool) (last least : ℕ) → full ≡ true → ends_before full last least ≡ true → least ≡ last + 1
unfolding ends_before
ends-full full last least f h = eqb-true _ _ (rw f at h)

-- ---- frequencies

pub freqs_to_ask_of-most : (k : Taken) → freqs_to_ask_of k ≤ k.n
unfolding freqs_to_ask_of
freqs_to_ask_of-most k = choose_elim (λ n. n ≤ k.n) k.freqs_nonzero _ _ (λ _. zero-le) (λ _. le_refl _)

-- one of all that were taken is 0 where one of those that are asked is
pub asked-all : (k : Taken) (freqs : List ℕ) → (k.freqs_nonzero ≡ true → member 0 (take k.n freqs) ≡ false)
    → member 0 (take k.n freqs) ≡ member 0 (take (freqs_to_ask_of k) freqs)
unfolding freqs_to_ask_of choose member
asked-all k freqs known = go k.freqs_nonzero refl
  where
    go : (t : Bool) → k.freqs_nonzero ≡ t → member 0 (take k.n freqs) ≡ member 0 (take (choose t (λ _. 0) (λ _. k.n)) freqs)
    go true e = known e
    go false e = refl

-- one of these is 0 where one of those still to come is
pub record ZeroToCome (fs rest : List ℕ) : Type 0 where
  pub same : member 0 fs ≡ member 0 rest

-- a frequency more, which is or isn't 0
module _ (fs : List ℕ) (f : ℕ) (rest : List ℕ) (c : ZeroToCome fs (f ∷ rest)) where
  pub to_come_next : (f ≡ 0 → ⊥) → ZeroToCome fs rest
  unfolding member
  to_come_next some = record { same = c.same ∙ rw (ne_eqb 0 f (λ e. some (sym e))) }

  pub to_come_zero : f ≡ 0 → member 0 fs ≡ true
  unfolding member
  to_come_zero none = c.same ∙ rw none

-- none is left
pub to_come_none : (fs : List ℕ) → ZeroToCome fs [] → member 0 fs ≡ false
unfolding member
to_come_none fs c = c.same
