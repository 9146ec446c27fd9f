-- `bitpacking::with_row` meets its contract: each lane takes the row's value of its own (`pending-more`).
use Rattle.std.proofs.Common.{rules, refl, ◌∙◌, ◌≡◌, ℕ, List, ◌+◌, ◌<◌, ◌%◌, ◌^◌, ◌*◌, get_or, arith}
use Rattle.std.proofs.Math.Nat.{add-mul, one-mul, add_comm}
use Rattle.std.proofs.iter.Serving.{serving}
use Rattle.format.proofs.Tabulate.{tabulate-same}
use Rattle.bitpacking.specs.declared.Lanes.{Lanes}
use Rattle.bitpacking.specs.Packed.{pending, RowPacks}
use Rattle.bitpacking.proofs.Filled.{at_four, four_of}
use Rattle.bitpacking.proofs.Pending.{pending-small, pending-more}
use Rattle.bitpacking.proofs.with_row.Goals as goal

module _ {w row : ℕ} {vs : List ℕ} {s : Lanes} (t : RowPacks w row vs s) where
  -- lane m holds what is pending of it
  lane : (m : ℕ) → m < 4 → get_or s.held m 0 ≡ pending w vs m (row * w) s.words
  lane = at_four _ 0 t.lanes.holds.held

  -- .. which is less than a word
  small : (m : ℕ) → m < 4 → get_or s.held m 0 < 2 ^ 32
  small m h = rw (lane m h) (pending-small w vs m s.bits s.words (row * w) t.lanes.below t.lanes.holds.packed)

  -- .. and with the row's value above it what it makes with a row more
  added : (m : ℕ) → m < 4 → get_or s.held m 0 + get_or vs (4 * row + m) 0 % 2 ^ w * 2 ^ s.bits ≡ pending w vs m ((row + 1) * w) s.words
  added m h =
      rw (lane m h, add_comm (4 * row) m) (pending-more w vs m s.bits s.words row t.row_below t.lanes.holds.packed)

pub from_fn-held-requires : goal.from_fn-held-requires
from_fn-held-requires c =
    let small : (m : ℕ) → m < 4 → get_or c.args.lanes.held m 0 < 2 ^ 32 = small c.requires in
    grind serving

pub returns : goal.returns
returns c =
    let lane : ℕ → ℕ = λ m. get_or c.args.lanes.held m 0 + get_or c.args.values.now (4 * c.args.row + m) 0 % 2 ^ c.args.w * 2 ^ c.args.lanes.bits in
    record {
      holds = record {
        packed = omega (arith, add-mul c.args.row 1 c.args.w, one-mul c.args.w);
        held =
            four_of 0 lane c.from_fn-held.ensures.items.long (search rules) (search rules) (search rules) (search rules)
            ∙ tabulate-same 4 lane _ (added c.requires);
      };
      words = refl;
      bits = refl;
    }
