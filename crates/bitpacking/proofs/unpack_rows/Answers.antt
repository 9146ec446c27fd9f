-- `bitpacking::unpack_rows` meets its contract. Before the first row no bit is left, and the next words are the block's first; after
-- 32 rows all values are filled.
use Rattle.std.proofs.Common.{sym, ap, ◌∙◌, ℕ, arith}
use Rattle.format.proofs.Tabulate.{tabulate-map}
use Rattle.format.specs.Bitpacking.{unpack, unpacked_at}
use Rattle.bitpacking.specs.Packed.{filled, more_at, with_more_of}
use Rattle.bitpacking.proofs.Filled.{fill_all}
use Rattle.bitpacking.proofs.unpack_rows.Goals as goal

pub returns : goal.returns
unfolding more_at unpack
returns c =
    let f : ℕ → ℕ = more_at c.args.w c.args.more c.args.bytes.now in
    c.loop-row.invariant.values
    ∙ ap (λ (n : ℕ). filled n f c.args.values.now) (omega arith)
    ∙ fill_all 128 f c.args.values.now (omega arith)
    ∙ sym (tabulate-map 128 (unpacked_at c.args.w c.args.bytes.now) (with_more_of c.args.more))
