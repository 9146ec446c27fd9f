-- A loop that goes once through a list, replaces each value by what a state and the value give, and goes on with another state. `f s vs`
-- is what such a loop makes of the values vs from the state s on; so it is given by its first step:
-- f s (v ∷ vs) ≡ out s v ∷ f (next s v) vs. What the loop leaves at its end is then the same told from any turn on, which is the loop's
-- invariant, `Replacing`. Behind that: n places of a list, where n may be larger than the list is long.
-- Assumes nothing.
use mathlib.Core.Path.{◌≡◌, ◌∙◌, sym}
use mathlib.Core.List.{List, [], ◌∷◌, ◌++◌, append-nil}
use Prim.Native.Nat.{ℕ, suc, ◌+◌, ◌≤◌, ◌<◌, min}
use native.Mathlib.Decide.{dec_le}
use native.Mathlib.Numerals.{add-one}
use native.Mathlib.Omega.{arith}
use lib.ListN.{length, get_or, take, drop, set, drop_of_length-le, length-set}
use lib.Seq.{drop-cons, take_all, take-suc-set, drop-set-lt, append_snoc}

-- the loop, begun at state s₀ over the list l₀, has come to state s, place i and list l
pub record Replacing {S : Type 0} (f : S → List ℕ → List ℕ) (s₀ : S) (l₀ : List ℕ) (s : S) (i : ℕ) (l : List ℕ) : Type 0 where
  pub long : length l ≡ length l₀
  pub leaves : f s₀ l₀ ≡ take i l ++ f s (drop i l)

-- one value more
module _ {S : Type 0} (f : S → List ℕ → List ℕ) (out : S → ℕ → ℕ) (next : S → ℕ → S)
    (turns : (s : S) (v : ℕ) (vs : List ℕ) → f s (v ∷ vs) ≡ out s v ∷ f (next s v) vs) where
  turn : (s : S) (i : ℕ) (l : List ℕ) → i < length l
      → take i l ++ f s (drop i l) ≡ take (i + 1) (set l i (out s (get_or l i 0))) ++ f (next s (get_or l i 0)) (drop (i + 1) (set l i (out s (get_or l i 0))))
  turn s i l h =
      let o : ℕ = out s (get_or l i 0) in
      rw (drop-cons l i 0 h, turns, add-one, take-suc-set l i o h, drop-set-lt (suc i) l i o (omega arith), append_snoc)

  pub replacing_next : {s₀ : S} {l₀ : List ℕ} {s : S} {i : ℕ} {l : List ℕ} → i < length l → Replacing f s₀ l₀ s i l
      → Replacing f s₀ l₀ (next s (get_or l i 0)) (i + 1) (set l i (out s (get_or l i 0)))
  replacing_next {s} {i} {l} h r = record { long = simp length-set r.long; leaves = r.leaves ∙ turn s i l h }

-- behind the last place nothing is left to do
pub replacing_all : {S : Type 0} (f : S → List ℕ → List ℕ) → ((s : S) → f s [] ≡ [])
    → {s₀ : S} {l₀ : List ℕ} {s : S} {i : ℕ} {l : List ℕ} → length l₀ ≤ i → Replacing f s₀ l₀ s i l → l ≡ f s₀ l₀
replacing_all f none {l₀} {s} {i} {l} h r =
    let all : length l ≤ i = omega (arith, r.long) in
    sym (r.leaves ∙ rw (take_all i l all, drop_of_length-le l all, none s) (append-nil l))

-- n places of a list are all of them where n is larger
module _ (m n : ℕ) (l : List ℕ) (clamps : m ≡ min n (length l)) where
  pub clamped : (take m l ≡ take n l) × (drop m l ≡ drop n l)
  clamped = go (dec_le (length l) n)
    where
      go : Dec (length l ≤ n) → (take m l ≡ take n l) × (drop m l ≡ drop n l)
      go (yes h) = (take_all m l (omega arith) ∙ sym (take_all n l h), drop_of_length-le l {i = m} (omega arith) ∙ sym (drop_of_length-le l h))
      go (no h) = let few : m ≡ n = omega arith in (rw few, rw few)

  pub take_clamped : take m l ≡ take n l
  take_clamped = clamped.0
