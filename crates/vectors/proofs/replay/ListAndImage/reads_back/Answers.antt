-- `vectors::replay::ListAndImage::reads_back` meets its contract: an answer that shows the next document leads on, another ends the walk.
use Rattle.std.proofs.Common.{sym, ◌∙◌, arith}
use Rattle.vectors.proofs.Walks.{reads-from, walk_end, walk-stop, walk-on}
use Rattle.vectors.proofs.replay.ListAndImage.reads_back.Goals as goal

pub returns-then-not-shows : goal.returns-then-not-shows
returns-then-not-shows c =
    let so_far =
    reads-from c.args.self.now.mode c.args.self.now.recording c.args.self.now.ids.now c.args.self.now.freqs.now c.args.self.now.image.now _ _ _
    c.record_option.ensures c.has_freq-kept.ensures c.open-moved.ensures
    ∙ c.loop-id.invariant.so_far in
    let next = c.in-Some.ensures.steps in
    sym (walk-stop _ _ _ _ so_far next.0 next.1 (rw (← c.read_freq.ensures) (sym c.if-not-shows.ensures)))

pub loop-id-preserved : goal.loop-id-preserved
loop-id-preserved c =
    let next = c.in-Some.ensures.steps in
    let on = walk-on _ _ _ _ c.loop-id.invariant.so_far next.0 next.1 (rw (← c.read_freq.ensures) (sym c.if-not-shows.ensures)) in
    record { as_many = grind arith; so_far = rw c.advance-moved.ensures on }

pub returns : goal.returns
returns c =
    let so_far =
    reads-from c.args.self.now.mode c.args.self.now.recording c.args.self.now.ids.now c.args.self.now.freqs.now c.args.self.now.image.now _ _ _
    c.record_option.ensures c.has_freq-kept.ensures c.open-moved.ensures
    ∙ c.loop-id.invariant.so_far in
    c.shows-2.ensures ∙ sym (walk_end _ _ _ _ _ _ so_far (grind arith))
