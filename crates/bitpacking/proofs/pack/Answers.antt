-- `bitpacking::pack` meets its contract: where there is room, the area that the rows filled has the packed bytes at its front (`packed`).
use Rattle.std.proofs.Common.{sym, ◌∙◌}
use Rattle.bitpacking.proofs.Room.{packed}
use Rattle.bitpacking.proofs.pack.Goals as goal

pub returns : goal.returns
returns c = packed _ _ _ _ (sym c.has_room.ensures ∙ c.if-not-has_room.false) c.pack_rows.ensures
