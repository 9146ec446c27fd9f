-- `common::put` meets its contract.
use Rattle.std.proofs.Common.{◌≡◌, refl, sym, ap, ◌∙◌, ℕ, List, ◌+◌, ◌<◌, length, get_or, arith, add-one}
use Rattle.std.proofs.Math.ListN.{set, length-set}
use Rattle.std.proofs.Math.Seq.{paste-zero, paste-suc}
use Rattle.format.proofs.Area.{put_at-paste, next_at-fits}
use Rattle.common.proofs.Fits.{fits_not, fits-room}
use Rattle.common.proofs.put.Goals as goal

pub returns-then-not-within : goal.returns-then-not-within
returns-then-not-within c =
    let p = fits_not c.args.at _ c.args.bytes.now c.args.area.now refl _ c.within.ensures c.if-not-within.true in
    record { next = p.0; area = p.1 }

pub loop-i-init : goal.loop-i-init
loop-i-init c = record {
  within = omega arith;
  room = fits-room c.args.at _ c.args.bytes.now c.args.area.now refl _ c.within.ensures c.if-not-within.false;
  same_length = refl;
  copied = paste-zero c.args.area.now c.args.at c.args.bytes.now;
}

pub loop-i-preserved : goal.loop-i-preserved
loop-i-preserved c =
    let l = c.loop-i.invariant in
    let fill = ap (λ (d : List ℕ). set d (c.args.at + c.loop-i.i) (get_or c.args.bytes.now c.loop-i.i 0)) l.copied in
    let room : c.args.at + c.loop-i.i < length c.args.area.now = omega arith in
    let more : c.loop-i.i < length c.args.bytes.now = omega arith in
    record { within = omega arith; room = omega arith; same_length = simp length-set l.same_length; copied = fill ∙ rw (add-one, paste-suc) }

pub returns : goal.returns
returns c =
    let past : c.loop-i.i ≡ length c.args.bytes.now = omega arith in
    let room = c.loop-i.invariant.room in
    record { next = sym (next_at-fits _ _ _ room); area = c.loop-i.invariant.copied ∙ rw past (sym (put_at-paste _ _ _ room)) }
