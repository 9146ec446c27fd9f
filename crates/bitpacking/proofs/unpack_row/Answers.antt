-- `bitpacking::unpack_row` meets its contract: the row's values lie within what is left (`row_within`), or reach across into the next
-- words (`row_across`).
use Rattle.std.proofs.Common.{◌≡◌, sym, ap, ap₂, subst, ◌∙◌, ℕ, List, ◌+◌, ◌-◌, ◌*◌, ◌<◌, ◌%◌, ◌^◌, map, get_or, arith, rules}
use Rattle.std.proofs.iter.Serving.{serving}
use Rattle.std.proofs.lemmas.Grind.{common_steps}
use Rattle.format.specs.Basics.{word, tabulate, AllBelow}
use Rattle.format.proofs.Lists.{AllBelow-of}
use Rattle.format.proofs.Tabulate.{tabulate-same}
use Rattle.bitpacking.specs.declared.Left.{Left}
use Rattle.bitpacking.specs.Packed.{words_from, bits_taken_of, rest, LeftAt, RowThere}
use Rattle.bitpacking.proofs.Filled.{at_four, four_of}
use Rattle.bitpacking.proofs.Rest.{rest_below}
use Rattle.bitpacking.proofs.Rows.{row_within, left-within, row_across, left_across}
use Rattle.bitpacking.proofs.unpack_row.Goals as goal

pub returns-then-w-bits-clause-left_at : goal.returns-then-w-bits-clause-left_at
returns-then-w-bits-clause-left_at c =
    subst (LeftAt c.args.w (c.args.row + 1) c.args.bytes.now) (sym c.bits_taken.ensures) (left-within c.requires c.if-w-bits.true)

pub returns-then-w-bits-clause-fills : goal.returns-then-w-bits-clause-fills
returns-then-w-bits-clause-fills c =
    let values : c.map.result ≡ map (λ (x : ℕ). x % 2 ^ c.args.w) c.args.left.rests = grind (arith, common_steps) in
    c.put_row.ensures _ (rw values (row_within c.requires c.if-w-bits.true c.args.more))

module _ {w row : ℕ} {bs : List ℕ} {s : Left} (t : RowThere w row bs s) where
  -- lane m has its rest left
  lane : (m : ℕ) → m < 4 → get_or s.rests m 0 ≡ rest w row bs m s.bits
  lane = at_four _ 0 t.left.rests

  -- .. in as many bits
  small : (m : ℕ) → m < 4 → get_or s.rests m 0 < 2 ^ s.bits
  small m h = rw (lane m h) (rest_below w row bs m s.bits)

pub from_fn-requires : goal.from_fn-requires
from_fn-requires c =
    let small : (m : ℕ) → m < 4 → get_or c.args.left.rests m 0 < 2 ^ c.args.left.bits = small c.requires in
    let below = c.requires.left.below in
    let some = c.requires.block.some_bits in
    let most = c.requires.block.w_most in
    grind serving

pub bits_taken-requires-2 : goal.bits_taken-requires-2
unfolding words_from
bits_taken-requires-2 c =
    let bits = ap (λ (x : Left). x.bits) c.words_at-next.ensures in
    (omega arith, omega arith)

pub bits_taken-requires-3 : goal.bits_taken-requires-3
unfolding words_from bits_taken_of
bits_taken-requires-3 c =
    let bits = ap (λ (x : Left). x.bits) (c.bits_taken-2.ensures ∙ ap (bits_taken_of _) c.words_at-next.ensures) in
    (omega arith, omega arith)

pub returns-clause-left_at : goal.returns-clause-left_at
returns-clause-left_at c =
    let bs : List ℕ = c.args.bytes.now in
    let k : ℕ = c.args.w - c.args.left.bits - 1 in
    let bytes : AllBelow 256 bs = AllBelow-of bs (λ i. (c.type_inv.bytes i).fits) in
    subst (LeftAt c.args.w (c.args.row + 1) bs)
    (sym (c.bits_taken-3.ensures ∙ ap (bits_taken_of 1) (c.bits_taken-2.ensures ∙ ap (bits_taken_of k) c.words_at-next.ensures)))
    (left_across c.requires c.if-w-bits.false bytes k (omega arith))

pub returns-clause-fills : goal.returns-clause-fills
unfolding words_from
returns-clause-fills c =
    let bs : List ℕ = c.args.bytes.now in
    let s : Left = c.args.left in
    let next : Left = c.words_at-next.result in
    let bytes : AllBelow 256 bs = AllBelow-of bs (λ i. (c.type_inv.bytes i).fits) in
    let across : ℕ → ℕ → ℕ = λ l m. (l + m * 2 ^ s.bits) % 2 ^ c.args.w in
    let made : ℕ → ℕ = λ m. across (get_or s.rests m 0) (get_or next.rests m 0) in
    let words : ℕ → ℕ = λ m. word bs (s.at + 4 * m) in
    let read : next.rests ≡ tabulate 4 words = ap (λ (x : Left). x.rests) c.words_at-next.ensures in
    c.put_row-2.ensures _
    (row_across c.requires c.if-w-bits.false bytes c.args.more
    (four_of 0 made c.from_fn.ensures.items.long (search rules) (search rules) (search rules) (search rules)
    ∙ tabulate-same 4 made _ (λ m h. ap₂ across (lane c.requires m h) (at_four words 0 read m h))))
