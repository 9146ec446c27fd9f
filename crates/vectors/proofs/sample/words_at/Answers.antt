-- `vectors::sample::words_at` meets its contract: each turn puts one number more behind those that are there.
use Rattle.std.proofs.Common.{refl, sym, ◌<◌, length, arith, add-one}
use Rattle.std.proofs.Math.ListN.{length-set}
use Rattle.std.proofs.Math.Seq.{take-suc-set}
use Rattle.format.specs.Basics.{word}
use Rattle.vectors.proofs.Cases.{words_more, words-none}
use Rattle.vectors.proofs.sample.words_at.Goals as goal

pub loop-i-init : goal.loop-i-init
loop-i-init c = record { within = omega arith; room = refl; so_far = sym (words-none _ _) }

pub loop-i-preserved : goal.loop-i-preserved
unfolding word
loop-i-preserved c =
    let l = c.loop-i in
    let room : l.i < length l.values = omega arith in
    record {
      within = omega arith;
      room = simp length-set l.invariant.room;
      so_far = rw (words_more c.args.input.now c.args.at l.i, add-one l.i, take-suc-set l.values l.i, l.invariant.so_far, c.word_at.ensures);
    }
