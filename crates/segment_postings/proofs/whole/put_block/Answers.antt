-- `segment_postings::whole::put_block` meets its contract: the part of the slice that is lent comes back as a copy of the block's values.
-- Assumes nothing.
use Rattle.std.proofs.Common.{◌≡◌, ℕ, List, ◌+◌, ◌*◌, ◌-◌, ◌≤◌, length, take, drop, refl, sym, ap, ◌∙◌, arith}
use Rattle.std.proofs.Math.Seq.{length-take-le}
use Rattle.std.proofs.Math.ListN.{length-drop}
use Rattle.std.proofs.lemmas.Slice.{put_mid-paste}
use Rattle.format.proofs.Area.{put_at-paste}
use Rattle.format.specs.Basics.{put_at}
use Rattle.segment_postings.proofs.Admission.LandingReads.{docs_in_most}
use Rattle.segment_postings.proofs.whole.put_block.Goals as goal

pub copy_from_slice-requires : goal.copy_from_slice-requires
copy_from_slice-requires c =
    let most = docs_in_most c.args.term c.args.block in
    let is = c.docs_in-n.ensures in
    let all = length-take-le c.docs_in-n.result c.args.values.now (omega (arith, is, most)) in
    let part = length-take-le (128 * c.args.block + c.docs_in-n.result - 128 * c.args.block) (drop (128 * c.args.block) c.args.out.now)
    (omega (arith, length-drop (128 * c.args.block) c.args.out.now)) in
    omega (arith, all, part)

pub returns : goal.returns
returns c =
    let most = docs_in_most c.args.term c.args.block in
    let is = c.docs_in-n.ensures in
    let block : List ℕ = take c.docs_in-n.result c.args.values.now in
    let all : length block ≡ c.docs_in-n.result = length-take-le c.docs_in-n.result c.args.values.now (omega (arith, is, most)) in
    let room : 128 * c.args.block + length block ≤ length c.args.out.now = omega arith in
    put_mid-paste _ _ _ _ block (length block) c.copy_from_slice.ensures.after (omega arith) refl
    ∙ (sym (put_at-paste (128 * c.args.block) block c.args.out.now room)
    ∙ ap (λ (n : ℕ). put_at (128 * c.args.block) (take n c.args.values.now) c.args.out.now) is)
