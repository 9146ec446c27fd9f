-- What a branch answers is its definition, opened, at the test that led there.
use Rattle.std.proofs.Common.{rules}
use Rattle.serves.specs.Serve.{turns, turns_docs, turns_freqs}
use Rattle.serves.proofs.serve.Goals as goal

pub returns-then-place-lt128 : goal.returns-then-place-lt128
unfolding turns turns_docs turns_freqs
returns-then-place-lt128 c = search rules

pub returns-else-place-lt128 : goal.returns-else-place-lt128
unfolding turns turns_docs turns_freqs
returns-else-place-lt128 c = search rules
