-- `serializer::Progress::tail_offset` meets its contract: the least id that may come is at most one more than one of 32 bits.
-- Assumes nothing.
use Rattle.std.proofs.Common.{[], arith}
use Rattle.serializer.specs.Calls.{state_of}
use Rattle.serializer.proofs.bounds.Question16.{least-most}
use Rattle.serializer.proofs.Progress.tail_offset.Goals as goal

pub overflow_cast-result : goal.overflow_cast-result
unfolding state_of
overflow_cast-result c = omega (arith, c.first_least.ensures [] [], least-most (state_of c.args.self [] []))
