-- A walk by steps beside a list, opened by one turn: an answer that shows the next document leads on, another ends it.
-- Assumes nothing.
use mathlib.Core.Bool.{Bool, true, false}
use mathlib.Core.List.{List, [], ◌∷◌}
use mathlib.Core.Path.{◌≡◌, ◌∙◌}
use Prim.Native.Nat.{ℕ}
use native.Mathlib.Omega.{arith}
use lib.ListN.{length}
use Rattle.format.specs.declared.Term.{Term}
use Rattle.format.specs.declared.IndexRecordOption.{IndexRecordOption}
use Rattle.format.specs.Accepted.{kept_in}
use Rattle.format.specs.Basics.{TERMINATED}
use Rattle.format.specs.SkipEntry.{has_freq_of}
use Rattle.segment_postings.specs.declared.Moved.{Moved}
use Rattle.segment_postings.specs.Cursor.{opened, advanced}
use Rattle.vectors.specs.Replay.{read_freq_of, shows_doc, walks, term_of, reads_back_of}

-- ds and fs are still to come
module _ (kept : Bool) (image : List ℕ) (t : Term) (m : Moved) {all : Bool} where
  pub walk_end : (ds fs : List ℕ) → all ≡ walks kept image t m ds fs → length ds ≡ 0 → all ≡ shows_doc m.answer TERMINATED 0
  unfolding walks
  walk_end [] fs so_far e = so_far
  walk_end (d ∷ ds) fs so_far e = absurd (omega arith)

  module _ {d f : ℕ} {ds ds' fs fs' : List ℕ} (so_far : all ≡ walks kept image t m ds fs) (next : ds ≡ d ∷ ds') (freq : fs ≡ f ∷ fs') where
    pub walk-stop : shows_doc m.answer d (read_freq_of kept f) ≡ false → all ≡ false
    unfolding walks
    walk-stop e = so_far ∙ rw (next, freq, e)

    pub walk-on : shows_doc m.answer d (read_freq_of kept f) ≡ true → all ≡ walks kept image t (advanced m.cursor image t) ds' fs'
    unfolding walks
    walk-on e = so_far ∙ rw (next, freq, e)

-- the walk from an opened list
pub reads-from : (mode : ℕ) (recording : Bool) (ds fs image : List ℕ) (option : IndexRecordOption) (kept : Bool) (m : Moved)
    → option ≡ kept_in mode recording → kept ≡ has_freq_of option → m ≡ opened image (term_of mode ds)
    → reads_back_of mode recording ds fs image ≡ walks kept image (term_of mode ds) m ds fs
unfolding reads_back_of
reads-from mode recording ds fs image option kept m e f g = rw (f, e, g)
