-- `segment_postings::find::entry_at` meets its contract: an entry within the bytes is there.
-- Assumes nothing.
use Rattle.std.proofs.Common.{refl, sym, ◌∙◌}
use Rattle.skip.proofs.Entry.{entry_at-within}
use Rattle.segment_postings.proofs.find.entry_at.Goals as goal

pub unwrap-requires : goal.unwrap-requires
unwrap-requires c = rw (c.read_entry.ensures ∙ entry_at-within _ _ _ c.requires) refl

pub returns : goal.returns
returns c =
    let same = sym c.unwrap.ensures ∙ c.read_entry.ensures ∙ entry_at-within _ _ _ c.requires in
    cc
