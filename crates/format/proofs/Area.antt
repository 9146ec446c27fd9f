-- Bytes put into an area: where they fit they are stored one behind the other, so that putting a list is putting its parts in
-- turn, and the area's length is kept in any case.
-- Assumes nothing.
use Rattle.std.specs.Prelude.{None, Some}
use mathlib.Core.Path.{◌≡◌, sym}
use mathlib.Core.List.{List, [], ◌∷◌, ◌++◌, append_assoc}
use Prim.Native.Nat.{ℕ, suc, ◌+◌, ◌≤◌, ◌<◌}
use native.Mathlib.Nat.{add-zero, zero-add, add-suc, suc-add}
use native.Mathlib.Decide.{dec_le}
use native.Mathlib.Numerals.{add-one}
use native.Mathlib.Omega.{arith}
use lib.ListN.{length, take, drop, set, length-append, length-set}
use lib.Seq.{sets, sets-eq, length-sets, paste, take-length, take-append_seam}
use borrow.Author.Tests.{le-leb, lt-leb}
use Rattle.format.specs.Basics.{choose, fits_at, put_at, next_at}

-- a run of stores is the stores of its parts in turn
sets-append : (a b l : List ℕ) (i : ℕ) → sets l i (a ++ b) ≡ sets (sets l i a) (i + length a) b
sets-append [] b l i = rw add-zero
sets-append (x ∷ a) b l i = rw (add-suc, ← suc-add) (sets-append a b (set l i x) (suc i))

module _ (p : ℕ) (bs area : List ℕ) where
  -- where they fit, stored one behind the other, with the place behind them
  pub put_at-fits : p + length bs ≤ length area → put_at p bs area ≡ sets area p bs
  unfolding put_at choose fits_at
  put_at-fits h = rw (le-leb _ _ h, sets-eq bs area p h, append_assoc)

  -- .. a copy of them
  pub put_at-paste : p + length bs ≤ length area → put_at p bs area ≡ paste area p bs (length bs)
  unfolding put_at choose fits_at
  put_at-paste h = rw (le-leb _ _ h, take-length, append_assoc)

  pub next_at-fits : p + length bs ≤ length area → next_at p bs area ≡ Some (p + length bs)
  unfolding next_at choose fits_at
  next_at-fits h = rw (le-leb _ _ h)

  -- where they don't, nothing
  pub put_at-refused : length area < p + length bs → put_at p bs area ≡ area
  unfolding put_at choose fits_at
  put_at-refused h = rw (lt-leb _ _ h)

  pub next_at-refused : length area < p + length bs → next_at p bs area ≡ None
  unfolding next_at choose fits_at
  next_at-refused h = rw (lt-leb _ _ h)

  pub length-put_at : length (put_at p bs area) ≡ length area
  length-put_at =
      elim (dec_le (p + length bs) (length area)) [
        | yes h ↦ rw (put_at-fits h) (length-sets area p bs)
        | no h ↦ rw (put_at-refused (omega arith))
      ]

-- bytes at the front of an area that has room for them, and what is then read there
module _ (bs area : List ℕ) (h : length bs ≤ length area) where
  pub put_at-front : put_at 0 bs area ≡ bs ++ drop (length bs) area
  unfolding put_at choose fits_at
  put_at-front = rw (zero-add, le-leb _ _ h)

  pub take-put_at-front : take (length bs) (put_at 0 bs area) ≡ bs
  take-put_at-front = rw put_at-front (take-append_seam bs _)

-- no bytes change nothing
pub put_at-nil : (p : ℕ) (area : List ℕ) → put_at p [] area ≡ area
put_at-nil p area =
    elim (dec_le (p + 0) (length area)) [ yes h ↦ put_at-fits p [] area h | no h ↦ put_at-refused p [] area (omega arith) ]

-- one byte is a store
pub put_at-one : (p b : ℕ) (area : List ℕ) → p < length area → put_at p (b ∷ []) area ≡ set area p b
put_at-one p b area h = put_at-fits p (b ∷ []) area (omega arith)

-- .. and the bytes behind it are put into what it leaves
pub put_at-cons : (p b : ℕ) (bs area : List ℕ) → p + length (b ∷ bs) ≤ length area → put_at (p + 1) bs (set area p b) ≡ put_at p (b ∷ bs) area
put_at-cons p b bs area h =
    rw (add-one, put_at-fits (suc p) bs (set area p b) (rw length-set (omega arith)), put_at-fits p (b ∷ bs) area h)

module _ (p : ℕ) (a b area : List ℕ) (h : p + length (a ++ b) ≤ length area) where
  -- what fits as a whole fits in parts
  pub fits-front : p + length a ≤ length area
  fits-front = omega (arith, length-append a b)

  pub fits-back : p + length a + length b ≤ length (put_at p a area)
  fits-back = rw length-put_at (omega (arith, length-append a b))

  pub put_at-append : put_at (p + length a) b (put_at p a area) ≡ put_at p (a ++ b) area
  put_at-append =
      rw (put_at-fits (p + length a) b (put_at p a area) fits-back, put_at-fits p a area fits-front, put_at-fits p (a ++ b) area h)
      (sym (sets-append a b area p))
