-- On documents that rise, those below a target are the first ones, so `count_below`, which stops at the first document at or above the
-- target, counts all of the list that lie below it. By induction on the list.
-- Assumes nothing.
use mathlib.Core.Bool.{true}
use mathlib.Core.List.{List, [], ◌∷◌}
use mathlib.Core.Path.{◌≡◌, refl, ap}
use Prim.Native.Nat.{ℕ, suc, ◌+◌, ◌≤◌, ◌<◌}
use native.Mathlib.Decide.{dec_le}
use native.Mathlib.Omega.{arith}
use borrow.Author.Tests.{lt-ltb, le-ltb}
use lib.ListN.{length}
use Rattle.format.specs.Basics.{choose}
use Rattle.format.specs.Counts.{count_below, ids_below}
use Rattle.format.specs.Values.{rising}
use Rattle.format.proofs.Values.{rising-cons}
use Rattle.format.proofs.Below.{count-nil, count-passes, count_stops}

module _ (target : ℕ) where
  ids-pass : (d : ℕ) (ds : List ℕ) → d < target → ids_below target (d ∷ ds) ≡ d ∷ ids_below target ds
  unfolding ids_below choose
  ids-pass d ds h = rw (lt-ltb d target h)

  ids_leave : (d : ℕ) (ds : List ℕ) → target ≤ d → ids_below target (d ∷ ds) ≡ ids_below target ds
  unfolding ids_below choose
  ids_leave d ds h = rw (le-ltb d target h)

  -- none where the least that may come isn't below
  ids-none : (least : ℕ) (ds : List ℕ) → rising least ds ≡ true → target ≤ least → ids_below target ds ≡ []
  unfolding ids_below
  ids-none least [] r h = refl
  ids-none least (d ∷ ds) r h =
      let k = rising-cons least d ds r in
      rw (ids_leave d ds (omega (arith, k.above))) (ids-none (d + 1) ds k.rest (omega (arith, k.above)))

  pub count-ids : (least : ℕ) (ds : List ℕ) → rising least ds ≡ true → count_below target ds ≡ length (ids_below target ds)
  unfolding ids_below
  count-ids least [] r = count-nil target
  count-ids least (d ∷ ds) r =
      let k = rising-cons least d ds r in
      elim (dec_le target d) [
        | yes h ↦ rw (count_stops target d ds h, ids_leave d ds h, ids-none (d + 1) ds k.rest (omega arith))
        | no h ↦
            let b : d < target = omega arith in
            rw (count-passes target d ds b, ids-pass d ds b) (ap suc (count-ids (d + 1) ds k.rest))
      ]
