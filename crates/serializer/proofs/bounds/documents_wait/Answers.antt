-- `serializer::bounds::documents_wait` meets its contract: the first id and the last are asked for, and then whether each lies above the one
-- before it; and where frequencies are kept, whether each is at least 1.
-- Assumes nothing.
use mathlib.Core.Bool.{or-true, and-true}
use Rattle.std.proofs.Common.{◌≡◌, sym, ◌∙◌, length, arith}
use Rattle.format.specs.Values.{rising}
use Rattle.serializer.specs.Pieces.{climbing}
use Rattle.serializer.proofs.bounds.Waiting.{counting_none, rising_none, rising-low, rising-high, rising_climbs}
use Rattle.serializer.proofs.bounds.documents_wait.Goals as goal
use Rattle.serializer.proofs.bounds.documents_wait.Goals.{After-has_freq}

pub returns-then-is_empty : goal.returns-then-is_empty
returns-then-is_empty c =
    let none : length c.args.docs.now ≡ 0 = grind arith in
    rw (rising_none _ _ none, counting_none _ (sym c.requires ∙ none), or-true)

pub returns-then-docs-least : goal.returns-then-docs-least
returns-then-docs-least c = rw (rising-low c.args.least c.args.docs.now (grind arith) c.if-docs-least.true)

pub returns-then-last_of-ge-TERMINATED : goal.returns-then-last_of-ge-TERMINATED
returns-then-last_of-ge-TERMINATED c =
    rw (rising-high c.args.least c.args.docs.now (grind arith) (rw c.last_of.ensures at c.if-last_of-ge-TERMINATED.true))

-- the first and the last being in order, the ids between them decide
ids_decide : (c : After-has_freq) → rising c.args.least c.args.docs.now ≡ climbing c.args.docs.now
ids_decide c = rising_climbs _ _ (grind arith) c.if-docs-least.false (rw c.last_of.ensures at c.if-last_of-ge-TERMINATED.false)

pub returns-then-has_freq : goal.returns-then-has_freq
returns-then-has_freq c =
    let at = goal.at.returns-then-has_freq c in
    c.climbs_counted.ensures ∙ rw (ids_decide at.After-has_freq, sym c.has_freq.ensures ∙ c.if-has_freq.true)

pub returns-else-has_freq : goal.returns-else-has_freq
returns-else-has_freq c =
    let at = goal.at.returns-else-has_freq c in
    c.climbs.ensures ∙ rw (ids_decide at.After-has_freq, sym c.has_freq.ensures ∙ c.if-has_freq.false, and-true)
