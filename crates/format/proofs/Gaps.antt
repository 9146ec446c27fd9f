-- Lists of values as code goes through them, place after place.
-- Assumes nothing.
use mathlib.Core.Path.{◌≡◌}
use mathlib.Core.List.{List, [], ◌∷◌}
use Prim.Native.Nat.{ℕ, ◌+◌, ◌-◌, ◌≤◌, ◌<◌}
use native.Mathlib.Numerals.{add-one}
use lib.ListN.{length, get_or, drop, drop_of_length-le}
use lib.Seq.{drop-cons}
use Rattle.format.specs.Values.{gaps_from}

-- the value at a place, and those behind it
pub drop-next : (vs : List ℕ) (i : ℕ) → i < length vs → drop i vs ≡ get_or vs i 0 ∷ drop (i + 1) vs
drop-next vs i h = rw add-one (drop-cons vs i 0 h)

pub gaps_from-next : (less from : ℕ) (ds : List ℕ) (i : ℕ) {next : ℕ} → get_or ds i 0 + less ≡ next → i < length ds
    → gaps_from less from (drop i ds) ≡ (get_or ds i 0 - from) ∷ gaps_from less next (drop (i + 1) ds)
unfolding gaps_from
gaps_from-next less from ds i e h = rw (drop-next ds i h, e)

-- .. and none at the end
pub gaps_from-end : (less from : ℕ) (ds : List ℕ) {i : ℕ} → length ds ≤ i → gaps_from less from (drop i ds) ≡ []
unfolding gaps_from
gaps_from-end less from ds h = rw (drop_of_length-le ds h)
