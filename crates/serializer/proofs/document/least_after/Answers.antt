-- `serializer::document::least_after` meets its contract: behind an id the next is larger.
-- Assumes nothing.
use Rattle.std.proofs.Common.{sym, ap, ◌∙◌}
use Rattle.std.specs.Option.{option_copied}
use Rattle.serializer.proofs.document.TakeCases.{least-none, least-some}
use Rattle.serializer.proofs.document.least_after.Goals as goal

pub returns-in-Some : goal.returns-in-Some
returns-in-Some c = sym (least-some _ _ (ap option_copied (sym c.in-Some.is) ∙ c.last.ensures.value))

pub returns-in-None : goal.returns-in-None
returns-in-None c = sym (least-none _ _ (ap option_copied (sym c.in-None.is) ∙ c.last.ensures.value))
