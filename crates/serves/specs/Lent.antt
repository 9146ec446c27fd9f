-- A step on a place, and what it leaves where the place is lent.
-- Assumes nothing.
use Rattle.std.specs.Prelude.{◌≡◌, ℕ, List, length, cond, eqb}
use Rattle.serves.specs.declared.lent.Place.{Place}
use Rattle.serves.specs.declared.lent.Stepped.{Stepped}
use Rattle.serves.specs.declared.lent.Shown.{Shown}
use Rattle.serves.specs.declared.lent.Shown.TheVariants.{Nothing, Document}

-- the document that is left is shown, where the image has a byte
unfoldable pub stepped : Place → List ℕ → ℕ → Stepped
stepped p image doc = record {
  shown = cond (eqb (length image) 0) Nothing (Document p.doc);
  place = record { doc = doc; before = p.doc };
}

-- the answer is the step's, and so is what is left of the place that was lent
abbrev pub LeavesPlace : Stepped → Shown → Place → Type 0
LeavesPlace m shown after = (shown ≡ m.shown) × (after ≡ m.place)
