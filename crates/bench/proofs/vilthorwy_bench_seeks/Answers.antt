-- `bench::vilthorwy_bench_seeks` meets its contract: a slice that is too short, or the run.
-- Assumes nothing.
use Rattle.std.proofs.Common.{arith}
use Rattle.bench.specs.Seeks.{room}
use Rattle.bench.proofs.Serving.{none-served, too-short, room-enough, served_as}
use Rattle.bench.proofs.vilthorwy_bench_seeks.Goals as goal

pub returns-then-min-targets : goal.returns-then-min-targets
unfolding room
returns-then-min-targets c = none-served _ (too-short _ _ _ _ (omega arith))

pub returns : goal.returns
unfolding room
returns c = served_as (room-enough _ _ _ _ (omega arith)) c.seek_each.ensures
