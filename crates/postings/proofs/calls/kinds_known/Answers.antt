-- `postings::calls::kinds_known` meets its contract: a kind is known where its number codes something.
-- Assumes nothing.
use Rattle.std.proofs.Common.{rules, tests, ◌∙◌}
use Rattle.std.proofs.lemmas.Iterator.{YieldsList-from_slice}
use Rattle.std.proofs.lemmas.Iterator.Search.{all_from_yields_List}
use Rattle.postings.proofs.calls.CodedCalls.{known_of, each-known}
use Rattle.postings.proofs.calls.kinds_known.Goals as goal

pub returns : goal.returns
returns c =
    all_from_yields_List known_of _ _ _ c.all.ensures.ran (YieldsList-from_slice _ cc) (λ x b q k. search (rules, tests)) ∙ each-known _
