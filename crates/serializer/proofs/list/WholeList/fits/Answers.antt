-- `serializer::list::WholeList::fits` meets its contract. The areas' own bytes stand in for those that are not written yet: the size of an
-- image goes by the sizes of its parts.
-- Assumes nothing.
use Rattle.std.proofs.Common.{◌≡◌, Bool, false, sym, ◌∙◌, rules}
use mathlib.Core.Logic.{⊎_elim}
use Rattle.serializer.proofs.Laws.BlockPlaces.{entries-refused, blocks-refused, fits-image}
use Rattle.serializer.proofs.list.WholeList.fits.Goals as goal

pub returns-then-sizes-postings : goal.returns-then-sizes-postings
returns-then-sizes-postings c =
    c.fits.ensures
    ∙ rw c.image.ensures (sym (fits-image c.requires c.args.skips.now c.args.postings.now c.args.len c.if-sizes-postings.true.0 c.if-sizes-postings.true.1))

through : {a b : Bool} → a ≡ false → b ≡ false → a ≡ b
through e f = e ∙ sym f

pub returns-else-sizes-postings : goal.returns-else-sizes-postings
returns-else-sizes-postings c =
    let a = c.args in
    through (search rules)
    (⊎_elim (λ b. blocks-refused c.requires a.skips.now a.postings.now a.len b.0 b.1) (λ e. entries-refused c.requires a.skips.now a.postings.now a.len e)
    c.if-sizes-postings.either)
