-- `listing::list::list_table` meets its contract: an input that is too long or isn't a table is refused, and the listing of a table is that of its
-- columns.
-- Assumes nothing.
use Rattle.listing.proofs.Listed.{too_long, listed_rows, listed_none}
use Rattle.listing.proofs.list.list_table.Goals as goal

pub returns-then-text-gt65536 : goal.returns-then-text-gt65536
returns-then-text-gt65536 c = rw (too_long _ c.if-text-gt65536.true) c.put_refusal.ensures

pub returns-in-Some : goal.returns-in-Some
returns-in-Some c = rw (listed_rows _ c.read_table.ensures _ c.if-text-gt65536.false c.in-Some.is) c.list_columns.ensures

pub returns-in-None : goal.returns-in-None
returns-in-None c =
    rw (listed_none _ c.read_table.ensures c.if-text-gt65536.false c.in-None.is) c.put_refusal-in-None.ensures
