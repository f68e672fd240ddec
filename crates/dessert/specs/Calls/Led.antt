-- What led to a call inside the top call: from there on the answer is the whole call's. This project's own.
use Rattle.std.specs.Prelude.{◌≡◌, ℕ, List, map, Option}
use Rattle.talk.specs.Words.{Asks, sim}
use Rattle.netlist.specs.Design.{Flat}
use Rattle.vl_tree.specs.Tree.{Module}
use Rattle.vl_stands.specs.StandsFor.{StandsFor}
use Rattle.vl_front.specs.OneModule.{IsDesign}
use Rattle.dessert.specs.Outside.{FilesAt}
use Rattle.dessert.specs.Answer.{Loaded}
use Rattle.dessert.specs.Sources.{Origins, design_text, line_count}
use Rattle.dessert.specs.Calls.Loading.{IsLoaded}

-- the words ask for this lag and this top, and for files that were loaded as this text
pub record LedToText (words : List (List ℕ)) (shelf : FilesAt) (lag : ℕ) (top : Option (List ℕ)) (o : Origins) (text : List ℕ)
    : Type 0 where
  pub asked : Asks words (sim lag top o.names)
  pub is_loaded : IsLoaded shelf o.names text o.counts

-- and their text is a module, for which this design stands; the top is what was asked for
pub record LedToDesign (words : List (List ℕ)) (shelf : FilesAt) (lag : ℕ) (o : Origins) (flat : Flat) : Type 0 where
  pub top : Option (List ℕ)
  pub the_module : Module
  pub files : List (List ℕ)
  pub asked : Asks words (sim lag top o.names)
  pub loaded : Loaded shelf o.names files
  pub counts : o.counts ≡ map line_count files
  pub is_design : IsDesign (design_text files) top the_module
  pub stands : StandsFor flat the_module
