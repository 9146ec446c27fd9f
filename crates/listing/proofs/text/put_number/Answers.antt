-- `listing::text::put_number` meets its contract: the fewest digits that hold the number are its decimal digits, at most 20, and the byte
-- behind them is stored where they end.
-- Assumes nothing.
use Rattle.std.proofs.Common.{◌≤◌, ◌∙◌, refl, arith}
use Rattle.serializer.proofs.Laws.ImagePieces.{put_there}
use Rattle.listing.proofs.Decimal.{decimal-is, fewest_few}
use Rattle.listing.proofs.Putting.{puts-length, puts-next, puts-field}
use Rattle.listing.proofs.text.put_number.Goals as goal

pub unwrap-next-requires : goal.unwrap-next-requires
unwrap-next-requires c =
    let d = c.decimal-size in
    let few : d.result ≤ 20 = fewest_few c.args.number d.result (omega arith) d.ensures.len in
    put_there c.args.at _ _ (omega (arith, d.ensures.in_bounds.1)) c.put.ensures.next

pub bounds-output-next : goal.bounds-output-next
bounds-output-next c =
    let d = c.decimal-size in
    let few : d.result ≤ 20 = fewest_few c.args.number d.result (omega arith) d.ensures.len in
    let first = puts-next c.args.at _ _ (omega (arith, d.ensures.in_bounds.1)) c.unwrap-next.ensures c.put.ensures.next c.put.ensures.area in
    omega (arith, first.behind, puts-length first, d.ensures.in_bounds.1)

pub overflow_add-result : goal.overflow_add-result
overflow_add-result c =
    let d = c.decimal-size in
    let few : d.result ≤ 20 = fewest_few c.args.number d.result (omega arith) d.ensures.len in
    let first = puts-next c.args.at _ _ (omega (arith, d.ensures.in_bounds.1)) c.unwrap-next.ensures c.put.ensures.next c.put.ensures.area in
    omega (arith, first.behind, d.ensures.in_bounds.1)

pub returns : goal.returns
returns c =
    let d = c.decimal-size in
    let few : d.result ≤ 20 = fewest_few c.args.number d.result (omega arith) d.ensures.len in
    let first = puts-next c.args.at _ _ (omega (arith, d.ensures.in_bounds.1)) c.unwrap-next.ensures c.put.ensures.next c.put.ensures.area in
    puts-field c.args.number c.args.behind c.args.at _ _ (d.ensures.digits ∙ decimal-is _ _ d.ensures.len few) first
    (omega (arith, first.behind, d.ensures.in_bounds.1)) refl
