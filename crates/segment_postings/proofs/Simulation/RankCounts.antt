-- Rank, of promise 2 (document 01: `rank` on a fresh open, requested 0, the count of ids below the target). On every sound image it
-- answers how many of the image's documents lie below the target, which is the model's position after opening and that seek. The image
-- is sound in the requested mode 0 too, with the same documents (Requested.antt), and a seek from the first document goes to the first
-- that is at least the target. A target above TERMINATED is refused, whatever the image.
-- Assumes nothing.
use Rattle.format.specs.declared.refusal.Refusal.TheVariants.{TargetTooLarge}
use Rattle.std.specs.Prelude.{◌≡◌, ℕ, ◌<◌, ◌≤◌, List, length, Ok, Err}
use mathlib.Core.Path.{sym, ap, ◌∙◌}
use native.Mathlib.Omega.{arith}
use Rattle.format.specs.declared.Term.{Term}
use Rattle.format.specs.Basics.{TERMINATED}
use Rattle.format.specs.Counts.{count_below, ids_below}
use Rattle.format.specs.Model.{seek, after}
use Rattle.format.specs.Model as model
use Rattle.format.specs.Reading.{reading, soundness, docs_of}
use Rattle.format.proofs.Blocks.{docs-rising}
use Rattle.format.proofs.IdsBelow.{count-ids}
use Rattle.format.proofs.Opened.{soundness-is}
use Rattle.format.proofs.Requested.{sound_requested, same-docs}
use Rattle.format.proofs.Sound.{Sound, sound-image, sound-blocks}
use Rattle.format.proofs.Visited.{seek-goes}
use Rattle.segment_postings.specs.Cursor.{position, ranking}
use Rattle.segment_postings.proofs.Simulation.HoldsBlock.{opening_landed, landed_there}
use Rattle.segment_postings.proofs.Simulation.SeekSimulates.{seeking-seeks}
use Rattle.segment_postings.proofs.seeks.SeekCases.{fresh-opened, ranking_too_large, ranking-found}

module _ (mode count : ℕ) (bs : List ℕ) (target : ℕ) where
  abbrev term : ℕ → Term
  term requested = record { mode = mode; requested = requested; count = count }

  pub rank_refused : TERMINATED < target → ranking mode count bs target ≡ Err TargetTooLarge
  rank_refused = ranking_too_large mode count bs target

  -- an image that is sound in the mode that rank requests
  rank_in : Sound (term 0) bs → target ≤ TERMINATED → ranking mode count bs target ≡ Ok (count_below target (docs_of (reading (term 0) bs).blocks))
  unfolding position
  rank_in s small =
      let p = opening_landed s in
      let q = seeking-seeks s p.1.holds target small in
      let first : position p.0.held ≡ 0 = omega (arith, landed_there s p.1, p.1.place_first) in
      ranking-found mode count bs target small (fresh-opened bs (term 0) target p.2 ∙ q.2) ∙ ap Ok (omega (arith, q.1.goes))

  module _ (sound : soundness mode count bs ≡ Ok tt) (small : target ≤ TERMINATED) where
    abbrev docs : List ℕ
    docs = docs_of (reading (term 1) bs).blocks

    pub rank_counts : ranking mode count bs target ≡ Ok (count_below target docs)
    rank_counts =
        rank_in (sound-image (term 0) bs (sound_requested mode 0 count bs (omega arith) sound)) small
        ∙ ap (λ (ds : List ℕ). Ok (count_below target ds)) (same-docs mode 0 count bs (omega arith) sound)

    abbrev whole : Sound (term 1) bs
    whole = sound-image (term 1) bs (sym (soundness-is mode count bs) ∙ sound)

    -- all of them, not the first ones alone
    pub rank_ids : ranking mode count bs target ≡ Ok (length (ids_below target docs))
    rank_ids = rank_counts ∙ ap Ok (count-ids target 0 docs (docs-rising (sound-blocks whole)))

    -- where the model comes to
    pub rank_model : ranking mode count bs target ≡ Ok (after docs model.opened (seek target)).position
    unfolding model.opened
    rank_model =
        let goes = seek-goes 0 docs model.opened target (docs-rising (sound-blocks whole)) small in
        rank_counts ∙ ap Ok (omega arith)
