-- What is known of a numbered design's names. This project's own.
use Rattle.std.specs.Prelude.{ℕ, List}
use Rattle.netlist.specs.Design.{Flat}
use Rattle.design_names.specs.Shown.{flat_order}
use Rattle.design_names.specs.Outline.{flat_outline}
use Rattle.design_names.specs.Stops.{flat_stops}
use Rattle.design_names.specs.declared.outline.Entry.{Entry}
use Rattle.design_names.specs.declared.stops.Stop.{Stop}

-- the outline of the scopes and signals, the shown signals in order of the waveform, and the assertions by number
pub record Named : Type 0 where
  pub outline : List Entry
  pub shown : List ℕ
  pub stops : List Stop

abbrev pub names_of : Flat → Named
names_of f = record { outline = flat_outline f; shown = flat_order f; stops = flat_stops f }
