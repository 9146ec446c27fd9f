-- `bitpacking::pack_row` meets its contract. Where the row fills a word of each lane, the words are the block's
-- next ones (`words_are`) and the lanes hold the rest (`taken_hold`).
use Rattle.std.proofs.Common.{◌≡◌, sym, ap, subst, ◌∙◌, ℕ, ◌+◌, ◌*◌, ◌%◌, ◌^◌, ◌≤◌, map, arith}
use Rattle.std.proofs.Math.Nat.{mul-le-mul_right}
use Rattle.std.proofs.lemmas.Grind.{common_steps}
use Rattle.format.specs.Bitpacking.{packed_at}
use Rattle.bitpacking.specs.declared.Lanes.{Lanes}
use Rattle.bitpacking.specs.Packed.{filled, words_taken_of, LanesAt}
use Rattle.bitpacking.proofs.Pending.{words_are, taken_hold}
use Rattle.bitpacking.proofs.pack_row.Goals as goal

pub returns-clause-lanes_at : goal.returns-clause-lanes_at
unfolding words_taken_of
returns-clause-lanes_at c =
    let n : ℕ = (c.args.row + 1) * c.args.w in
    let r = c.with_row-next in
    subst (λ (x : Lanes). LanesAt c.args.w (c.args.row + 1) c.args.values.now x) (sym c.words_taken.ensures)
    (record { holds = taken_hold c.args.w n c.args.values.now r.result r.ensures.holds c.if-next-lt32.false; below = omega arith })

pub returns-clause-fills : goal.returns-clause-fills
unfolding words_taken_of
returns-clause-fills c =
    let n : ℕ = (c.args.row + 1) * c.args.w in
    let f : ℕ → ℕ = packed_at c.args.w c.args.values.now in
    let r = c.with_row-next in
    let words : c.words_taken.result.words ≡ r.result.words + 1 = ap (λ (x : Lanes). x.words) c.words_taken.ensures in
    let inside : (c.args.row + 1) * c.args.w ≤ 32 * c.args.w = mul-le-mul_right c.args.w (omega arith) in
    let low : c.map.result ≡ map (λ (x : ℕ). x % 2 ^ 32) r.result.held = grind (arith, common_steps) in
    λ l fits same.
    c.put_words.ensures f (rw low (words_are c.args.w n c.args.values.now r.result r.ensures.holds (omega arith)))
    l (omega arith) (same ∙ ap (λ (k : ℕ). filled (16 * k) f l) (sym r.ensures.words))
    ∙ ap (λ (k : ℕ). filled k f l) (omega arith)
