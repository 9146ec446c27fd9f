-- A writer that asks `within` of the size of its bytes before it writes the first: where the answer is no, a refusal and the area as it
-- was are the whole outcome; where it is yes, there is room for all of them.
-- Assumes nothing.
use mathlib.Core.Bool.{Bool, true, false}
use mathlib.Core.List.{List}
use mathlib.Core.Path.{◌≡◌, sym, ◌∙◌}
use Prim.Native.Nat.{ℕ, ◌+◌, ◌≤◌, ◌<◌}
use native.Mathlib.Omega.{arith}
use borrow.Author.Tests.{leb-true, leb-false}
use lib.Dec.{leb}
use lib.ListN.{length}
use Rattle.std.specs.Prelude.{None}
use Rattle.format.specs.Basics.{put_at, next_at}
use Rattle.format.proofs.Area.{put_at-refused, next_at-refused}

module _ (at size : ℕ) (bs area : List ℕ) (sized : size ≡ length bs) (fits : Bool) (asked : fits ≡ leb (at + size) (length area)) where
  pub fits_not : fits ≡ false → (None ≡ next_at at bs area) × (area ≡ put_at at bs area)
  fits_not e =
      let short : length area < at + length bs = omega (arith, leb-false (at + size) (length area) (sym asked ∙ e)) in
      (sym (next_at-refused at bs area short), sym (put_at-refused at bs area short))

  pub fits-room : fits ≡ true → at + length bs ≤ length area
  fits-room e = omega (arith, leb-true (at + size) (length area) (sym asked ∙ e))
