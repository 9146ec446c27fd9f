-- The place, what a step shows, and what it takes beside the place, as the theorems of `thin` over one record take them.
-- Assumes nothing.
use mathlib.Core.Path.{refl}
use mathlib.Core.List.{List, [], ◌∷◌}
use mir.Syntax.{w8, w32}
use denote.Plain.{uint_row_laws}
use denote.Builtin.{u8}
use denote.Struct.Laws.{owed, owes}
use Rattle.thin.proofs.Data.{Data, Two, struct, enum}
use Rattle.thin.proofs.Shifts.{Kind, num, slice}
use Rattle.serves.specs.contracts.lent.Place as Place
use Rattle.serves.proofs.lent.Place.TheLaws as PlaceLaws
use Rattle.serves.specs.contracts.lent.Shown as Shown
use Rattle.serves.proofs.lent.Shown.TheLaws as ShownLaws
use Rattle.serves.specs.contracts.lent.Stepped as Stepped
use Rattle.serves.proofs.lent.Stepped.TheLaws as SteppedLaws

abbrev pub place : Data
place = struct Place.the_type PlaceLaws.the_laws PlaceLaws.the_plain PlaceLaws.the_copy

abbrev pub shown : Data
shown = enum Shown.the_type ShownLaws.the_laws ShownLaws.the_plain ShownLaws.the_copy tt

-- the struct as data, and read field by field
abbrev stepped_data : Data
stepped_data = struct Stepped.the_type SteppedLaws.the_laws SteppedLaws.the_plain SteppedLaws.the_copy

abbrev pub step_both : Two shown place
step_both = record {
  row = stepped_data.row;
  name = (Stepped.struct).name;
  fst = λ m. m.shown;
  snd = λ m. m.place;
  make = λ a c. record { shown = a; place = c };
  eta = λ m. refl;
  tells = stepped_data.tells;
  makes = stepped_data.makes;
  typed = stepped_data.typed;
  parts = λ m v is. let both = owed Stepped.the_type SteppedLaws.the_laws m (v ∷ []) is in (both.0, both.1.0);
  whole = λ a c p q. owes Stepped.the_type SteppedLaws.the_laws (record { shown = a; place = c }) (p, (q, tt));
}

-- what a step takes beside the place
abbrev pub step_params : List (Kind 1)
step_params = slice 0 tt u8 (uint_row_laws w8) ∷ num w32 ∷ []
