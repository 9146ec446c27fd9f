-- The bytes up to the first of a kind and those behind it are a front and the rest of a text, and a text that isn't empty has its first
-- line and then the lines of the bytes behind it. Each by induction on the text, by whether its first byte is the one looked for.
-- Assumes nothing.
use Rattle.std.specs.Prelude.{Option, None, Some, cond, ltb}
use Rattle.std.specs.List.{position_or_len}
use Rattle.std.proofs.lemmas.Option.{cond_some}
use mathlib.Core.Bool.{Bool, true, false}
use mathlib.Core.List.{List, [], ◌∷◌}
use mathlib.Core.Path.{◌≡◌, refl, sym, ap, ◌∙◌}
use Prim.Native.Nat.{ℕ, suc, ◌+◌, ◌-◌, ◌≤◌, ◌<◌}
use native.Mathlib.Nat.{add-suc}
use native.Mathlib.Numerals.{add-one}
use native.Mathlib.Omega.{arith}
use lib.Dec.{eqb}
use lib.ListN.{length, get_or, take, drop, length-drop}
use lib.Seq.{drop-cons, drop-drop}
use Rattle.format.specs.Basics.{choose}
use Rattle.listing.specs.Input.{up_to, behind, onto, lines}

module _ (b : ℕ) where
  -- ---- one byte

  up_to-here : (x : ℕ) (xs : List ℕ) → eqb x b ≡ true → up_to b (x ∷ xs) ≡ []
  unfolding up_to choose
  up_to-here x xs e = rw e

  up_to-on : (x : ℕ) (xs : List ℕ) → eqb x b ≡ false → up_to b (x ∷ xs) ≡ x ∷ up_to b xs
  unfolding up_to choose
  up_to-on x xs e = rw e

  behind-here : (x : ℕ) (xs : List ℕ) → eqb x b ≡ true → behind b (x ∷ xs) ≡ xs
  unfolding behind choose
  behind-here x xs e = rw e

  behind-on : (x : ℕ) (xs : List ℕ) → eqb x b ≡ false → behind b (x ∷ xs) ≡ behind b xs
  unfolding behind choose
  behind-on x xs e = rw e

  -- ---- a front and the rest

  pub up_to-take : (l : List ℕ) → take (length (up_to b l)) l ≡ up_to b l
  unfolding up_to
  up_to-take [] = refl
  up_to-take (x ∷ xs) = go (eqb x b) refl (up_to-take xs)
    where
      go : (t : Bool) → eqb x b ≡ t → take (length (up_to b xs)) xs ≡ up_to b xs → take (length (up_to b (x ∷ xs))) (x ∷ xs) ≡ up_to b (x ∷ xs)
      go true e later = rw (up_to-here x xs e)
      go false e later = rw (up_to-on x xs e) (ap (λ (l : List ℕ). x ∷ l) later)

  pub behind-drop : (l : List ℕ) → drop (suc (length (up_to b l))) l ≡ behind b l
  unfolding up_to behind
  behind-drop [] = refl
  behind-drop (x ∷ xs) = go (eqb x b) refl (behind-drop xs)
    where
      go : (t : Bool) → eqb x b ≡ t → drop (suc (length (up_to b xs))) xs ≡ behind b xs → drop (suc (length (up_to b (x ∷ xs)))) (x ∷ xs) ≡ behind b (x ∷ xs)
      go true e later = rw (up_to-here x xs e, behind-here x xs e)
      go false e later = rw (up_to-on x xs e, behind-on x xs e) later

  pub up_to-most : (l : List ℕ) → length (up_to b l) ≤ length l
  unfolding up_to
  up_to-most [] = omega arith
  up_to-most (x ∷ xs) = go (eqb x b) refl (up_to-most xs)
    where
      go : (t : Bool) → eqb x b ≡ t → length (up_to b xs) ≤ length xs → length (up_to b (x ∷ xs)) ≤ length (x ∷ xs)
      go true e later = rw (up_to-here x xs e) (omega arith)
      go false e later = rw (up_to-on x xs e) (omega arith)

  -- ---- a search

  -- the bytes up to the first are as many as its place says
  abbrev place : List ℕ → ℕ
  place l = position_or_len (λ x. eqb x b) l

  passed : (l : List ℕ) → length (up_to b l) ≡ place l
  unfolding up_to choose
  passed [] = refl
  passed (x ∷ xs) = go (eqb x b) refl (passed xs)
    where
      go : (t : Bool) → eqb x b ≡ t → length (up_to b xs) ≡ place xs → length (up_to b (x ∷ xs)) ≡ place (x ∷ xs)
      go true e later = rw (up_to-here x xs e, e)
      go false e later = rw (up_to-on x xs e, e, later) (omega arith)

  module _ (l : List ℕ) {r : Option ℕ} (told : r ≡ cond (ltb (place l) (length l)) (Some (place l)) None) where
    pub found : (n : ℕ) → r ≡ Some n → n ≡ length (up_to b l)
    found n is = sym (passed l ∙ (cond_some (ltb (place l) (length l)) (place l) n (sym told ∙ is)).1)

    pub found_none : r ≡ None → length (up_to b l) ≡ length l
    found_none is = go (ltb (place l) (length l)) refl
      where
        go : (t : Bool) → ltb (place l) (length l) ≡ t → length (up_to b l) ≡ length l
        go true e = let some : r ≡ Some (place l) = told ∙ rw e in grind arith
        go false e = let past : length l ≤ place l = grind arith in omega (arith, passed l, up_to-most l)

  -- with a byte behind it, the byte itself is there too
  pub up_to-long : (l : List ℕ) → 1 ≤ length (behind b l) → length (up_to b l) + 1 + length (behind b l) ≤ length l
  up_to-long l h = omega (arith, ap length (sym (behind-drop l)), length-drop (suc (length (up_to b l))) l)

-- ---- lines

lines-here : (x : ℕ) (xs : List ℕ) → eqb x 10 ≡ true → lines (x ∷ xs) ≡ [] ∷ lines xs
unfolding lines choose
lines-here x xs e = rw e

lines-on : (x : ℕ) (xs : List ℕ) → eqb x 10 ≡ false → lines (x ∷ xs) ≡ onto x (lines xs)
unfolding lines choose
lines-on x xs e = rw e

pub lines-first : (x : ℕ) (xs : List ℕ) → lines (x ∷ xs) ≡ up_to 10 (x ∷ xs) ∷ lines (behind 10 (x ∷ xs))
unfolding onto lines up_to behind
lines-first x [] = go (eqb x 10) refl
  where
    go : (t : Bool) → eqb x 10 ≡ t → lines (x ∷ []) ≡ up_to 10 (x ∷ []) ∷ lines (behind 10 (x ∷ []))
    go true e = rw (lines-here x [] e, up_to-here 10 x [] e, behind-here 10 x [] e)
    go false e = rw (lines-on x [] e, up_to-on 10 x [] e, behind-on 10 x [] e)
lines-first x (y ∷ ys) = go (eqb x 10) refl (lines-first y ys)
  where
    go : (t : Bool) → eqb x 10 ≡ t → lines (y ∷ ys) ≡ up_to 10 (y ∷ ys) ∷ lines (behind 10 (y ∷ ys))
        → lines (x ∷ y ∷ ys) ≡ up_to 10 (x ∷ y ∷ ys) ∷ lines (behind 10 (x ∷ y ∷ ys))
    go true e later = rw (lines-here x (y ∷ ys) e, up_to-here 10 x (y ∷ ys) e, behind-here 10 x (y ∷ ys) e)
    go false e later = rw (lines-on x (y ∷ ys) e, up_to-on 10 x (y ∷ ys) e, behind-on 10 x (y ∷ ys) e, later)

-- the line that begins at a place, as a part of the text
pub line_part : (text : List ℕ) (at end : ℕ) → end ≡ at + length (up_to 10 (drop at text)) → take (end - at) (drop at text) ≡ up_to 10 (drop at text)
line_part text at end e =
    let size : end - at ≡ length (up_to 10 (drop at text)) = omega arith in
    rw size (up_to-take 10 (drop at text))

-- the lines from a place within the text on: the one that begins there, and those from the place behind it on
pub lines_at : (text : List ℕ) (at : ℕ) → at < length text →
    lines (drop at text) ≡ up_to 10 (drop at text) ∷ lines (drop (at + length (up_to 10 (drop at text)) + 1) text)
lines_at text at h =
    let first : lines (drop at text) ≡ up_to 10 (drop at text) ∷ lines (behind 10 (drop at text)) =
    rw (drop-cons text at 0 h) (lines-first (get_or text at 0) (drop (suc at) text)) in
    first ∙ rw (← behind-drop 10 (drop at text), drop-drop, add-suc at (length (up_to 10 (drop at text))), add-one)

pub lines_none : lines [] ≡ []
unfolding lines
lines_none = refl
