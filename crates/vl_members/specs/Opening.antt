-- What stands at the beginning of a scope, as the program has it. This project's own.
use Rattle.std.specs.Prelude.{◌≡◌, List, [], ◌∷◌, ◌++◌, Option, None, map}
use Rattle.std.specs.Option.{option_map}
use Rattle.vl_tree.specs.Syntax as t
use Rattle.vl_value.specs.Order.{least}
use Rattle.vl_found.specs.declared.Found.{Found}
use Rattle.vl_found.specs.View.{found}
use Rattle.vl_design.specs.Limits.{limits}
use Rattle.vl_design.specs.Lists.{each_of}
use Rattle.vl_design.specs.Constants.{nothing_known}
use Rattle.vl_design.specs.Parameters.{Given, no_type, header_needs, header_worth}
use Rattle.vl_design.specs.Declarations as d
use Rattle.vl_design.specs.Declarations.{port_needs, header_ports, parameter_by}
use Rattle.vl_design.specs.Scopes.{Use, at_entry, ports_of, module_declared, body_around, body_declared}
use Rattle.vl_frames.specs.declared.frames.Frames.{Frames}
use Rattle.vl_frames.specs.Marks.{around}
use Rattle.vl_frames.specs.Changes.{Are}
use Rattle.vl_declares.specs.declared.declared.Declared.{Declared}
use Rattle.vl_declares.specs.Plain.{all_plain}

-- what was declared behind what was there, and that the scopes are as they were
pub record HasMembers (ds : List d.Declared) (was now : Frames) (old new : List Declared) : Type 0 where
  pub added : all_plain new ≡ all_plain old ++ ds
  pub frames : Are now was.inner was.outer.items

-- a module is entered, to whose parameters these values are given, by whatever instance
pub record EntersModule (gs : List Given) (m : t.Module) (now : Frames) (old new : List Declared) (f : Option Found) : Type 0 where
  pub sight : (u : Use) → u.given ≡ gs → around now ≡ at_entry u m
  pub outer : now.outer.items ≡ []
  pub added : (u : Use) → u.given ≡ gs → all_plain new
      ≡ all_plain old ++ (map parameter_by (header_worth gs no_type nothing_known m.parameters) ++ header_ports (at_entry u m).known None (ports_of m))
  pub fault : (u : Use) → u.given ≡ gs → option_map found f
      ≡ least (header_needs gs no_type nothing_known m.parameters ++ each_of (port_needs (at_entry u m).known) (ports_of m))

-- the same, with all that it declares
pub record OpensModule (gs : List Given) (m : t.Module) (now : Frames) (ds : List Declared) (f : Option Found) : Type 0 where
  pub sight : (u : Use) → u.given ≡ gs → around now ≡ at_entry u m
  pub outer : now.outer.items ≡ []
  pub declared : (u : Use) → u.given ≡ gs → all_plain ds ≡ module_declared limits u m
  pub fault : (u : Use) → u.given ≡ gs → option_map found f
      ≡ least (header_needs gs no_type nothing_known m.parameters ++ each_of (port_needs (at_entry u m).known) (ports_of m))

-- the scope of a block is entered, and what it declares
pub record EntersBlock (b : t.GenerateBlock) (was now : Frames) (ds : List Declared) : Type 0 where
  pub sight : around now ≡ body_around b (around was)
  pub outer : now.outer.items ≡ was.outer.items ++ was.inner ∷ []
  pub declared : all_plain ds ≡ body_declared limits (body_around b (around was)) b
