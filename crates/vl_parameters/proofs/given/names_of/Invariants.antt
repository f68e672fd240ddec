use Rattle.std.proofs.Common.{◌≡◌, ◌||◌, drop}
use Rattle.vl_value.specs.Paths.{Text}
use Rattle.vl_names.specs.Names.{has}
use Rattle.vl_design.specs.Lists.{stands_in}
use Rattle.vl_parameters.specs.Open.{texts_of}
use Rattle.vl_parameters.proofs.given.names_of.Given as goal

-- the names so far, and those that are left
abbrev pub invariant-loop-name : goal.invariant-loop-name
invariant-loop-name l = (x : Text) → (has l.names x || stands_in (texts_of (drop l.name-index l.all)) x) ≡ stands_in (texts_of l.all) x
