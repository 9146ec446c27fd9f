-- The areas have room for every table's list: a table of 65,536 bytes has at most 16,384 rows, for which they are always enough.
-- Assumes nothing.
use Rattle.std.specs.Prelude.{Ok}
use mathlib.Core.Bool.{true}
use mathlib.Core.List.{List}
use mathlib.Core.Path.{◌≡◌, refl}
use Prim.Native.Nat.{ℕ, ◌≤◌, ◌^◌}
use native.Mathlib.Omega.{arith}
use lib.ListN.{length}
use Rattle.format.specs.declared.IndexRecordOption.TheVariants.{WithFreqs}
use Rattle.format.specs.Basics.{choose, AllBelow}
use Rattle.format.specs.Accepted.{kept_in, written}
use Rattle.serializer.specs.EnoughRoom.{skips_enough, postings_enough, output_enough, Enough}
use Rattle.serializer.proofs.Laws.EnoughRoom.{enough-room}
use Rattle.serializer.specs.Lists.{HasRoom}

kept : kept_in 1 true ≡ WithFreqs
unfolding kept_in choose
kept = refl

enough : (n : ℕ) (skips postings output : List ℕ) → n ≤ 16384 → length skips ≡ 1024 → length postings ≡ 131072 → length output ≡ 163840
    → Enough WithFreqs n skips postings output
unfolding skips_enough postings_enough output_enough
enough n skips postings output few s p o = record { skips_long = omega arith; postings_long = omega arith; output_long = omega arith }

-- question 15 is always answered yes
pub has_room : (ds fs : List ℕ) → length ds ≤ 16384 → AllBelow (2 ^ 32) fs → {skips postings output bytes : List ℕ} → written 1 true ds fs ≡ Ok bytes
    → length skips ≡ 1024 → length postings ≡ 131072 → length output ≡ 163840 → HasRoom 1 true ds fs skips postings output bytes
has_room ds fs few small w s p o = enough-room 1 true ds fs small w (rw kept (enough (length ds) _ _ _ few s p o))
