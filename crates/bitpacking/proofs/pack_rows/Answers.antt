-- `bitpacking::pack_rows` meets its contract. After 32 rows the area is filled with the whole block, and nothing is left in the lanes.
use Rattle.std.proofs.Common.{refl, ◌+◌, ◌*◌, ◌≤◌, arith}
use Rattle.std.proofs.Math.Nat.{mul-le-mul_right}
use Rattle.bitpacking.proofs.Filled.{fill_none}
use Rattle.bitpacking.proofs.Pending.{none-held}
use Rattle.bitpacking.proofs.pack_rows.Goals as goal

pub loop-row-init : goal.loop-row-init
loop-row-init c = record { same_length = refl; lanes = none-held _ _; area = fill_none _ _ }

pub loop-row-preserved : goal.loop-row-preserved
loop-row-preserved c =
    let inside : (c.loop-row.row + 1) * c.args.w ≤ 32 * c.args.w = mul-le-mul_right c.args.w (omega arith) in
    let r = c.pack_row-lanes in
    record {
      same_length = omega arith;
      lanes = r.ensures.lanes_at;
      area = r.ensures.fills c.args.area.now (omega (arith, r.ensures.lanes_at.holds.packed)) c.loop-row.invariant.area;
    }
