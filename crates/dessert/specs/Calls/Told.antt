-- What is reported of an assertion that has a number, and what a run over rows needs of a design. This project's own.
use Rattle.std.specs.Prelude.{◌≡◌, ℕ, ◌<◌, false, List, length, replicate, slice_index_or}
use Rattle.std.specs.List.{All}
use Rattle.dt_core.specs.declared.place.Place.{Place}
use Rattle.netlist.specs.Design.{Flat}
use Rattle.netlist.specs.Run.{Fired}
use Rattle.design_names.specs.Path.{path_text}
use Rattle.design_names.specs.Stops.{flat_stops}
use Rattle.design_names.specs.declared.stops.Stop.{Stop}
use Rattle.talk.specs.declared.answer.StopLine.{StopLine}
use Rattle.vl_stands.specs.StandsFor.{input_widths}
use Rattle.dessert.specs.Sources.{Origins, spot_in}

-- what stands for a stop of a number that isn't there
abbrev pub no_stop : Stop
no_stop = record { scope = 0; place = record { token = 0; line = 0 }; fatal = false }

abbrev pub stop_at : Flat → ℕ → Stop
stop_at f k = slice_index_or (flat_stops f) k no_stop

-- an assertion that fired: the path of its scope, and its place in a file
abbrev pub told_of : Flat → Origins → Fired → StopLine
told_of f o x = record {
  path = path_text f (stop_at f x.stop).scope;
  fatal = (stop_at f x.stop).fatal;
  file = (spot_in o (stop_at f x.stop).place.line).file;
  line = (spot_in o (stop_at f x.stop).place.line).line;
  message = x.message;
}

-- each of them has the number of a stop that is there
abbrev pub AreStops : Flat → List Fired → Type 0
AreStops f fired = All (λ x. x.stop < length (flat_stops f)) fired

-- each data input has one bit
abbrev pub TakesBits : Flat → Type 0
TakesBits f = input_widths f ≡ replicate (length f.inputs) 1
