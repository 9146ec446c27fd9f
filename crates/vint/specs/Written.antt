-- What is written of values: of sorted ones the difference of each to the one before, of others the values themselves.
-- Assumes nothing.
use Rattle.std.specs.Prelude.{Bool, true, false, List, ℕ, ◌-◌}
use Rattle.format.specs.Values.{gaps_from}

-- of one value behind `previous`
unfoldable pub number_written : Bool → ℕ → ℕ → ℕ
number_written true previous value = value - previous
number_written false previous value = value

-- of values of which the first stands behind `previous`
unfoldable pub numbers_written : Bool → ℕ → List ℕ → List ℕ
unfolding gaps_from
numbers_written true previous values = gaps_from 0 previous values
numbers_written false previous values = values
