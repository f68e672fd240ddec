-- What is declared of a function. This project's own.
use Rattle.std.specs.Prelude.{◌≡◌, false, List, [], ◌∷◌, ◌++◌, Option}
use Rattle.std.specs.Option.{option_map}
use Rattle.vl_tree.specs.Syntax as t
use Rattle.vl_value.specs.Order.{least}
use Rattle.vl_found.specs.declared.Found.{Found}
use Rattle.vl_found.specs.View.{found}
use Rattle.vl_design.specs.Constants.{Known}
use Rattle.vl_design.specs.Declarations as d
use Rattle.vl_design.specs.Spans.{one_bit}
use Rattle.vl_design.specs.Lists.{each_of}
use Rattle.vl_frames.specs.declared.frames.Frames.{Frames}
use Rattle.vl_frames.specs.Changes.{Are}
use Rattle.vl_constants.specs.Needed.{constants_of}
use Rattle.vl_declares.specs.declared.declared.Local.{Local}
use Rattle.vl_declares.specs.declared.declared.Routine.{Routine}
use Rattle.vl_declares.specs.declared.declared.Declared.{Declared}
use Rattle.vl_declares.specs.Locals.{all_locals}
use Rattle.vl_declares.specs.Plain.{plain_local, all_plain}

pub record HasResult (k : Known) (f : t.Function) (l : Local) (g : Option Found) : Type 0 where
  pub local : plain_local l ≡ d.result_of k f
  pub fault : option_map found g ≡ least (d.result_needs k f.result)

-- a function of this result among the constants in sight in it, and the least fault of its inputs and variables
pub record HasBody (k : Known) (f : t.Function) (l : d.Local) (r : Routine) (g : Option Found) : Type 0 where
  pub result : plain_local r.result ≡ l
  pub inputs : all_locals r.inputs.items ≡ d.header_inputs k false one_bit f.ports ++ each_of (d.declared_inputs k) f.declarations
  pub locals : all_locals r.locals.items ≡ d.header_inputs k false one_bit f.ports ++ each_of (d.declared_locals k) f.declarations
  pub fault : option_map found g ≡ least (each_of (d.input_needs k) f.ports ++ each_of (d.declaration_needs k) f.declarations)

-- a function is declared, and what is in sight stays
pub record DeclaresFunction (f : t.Function) (was now : Frames) (old new : List Declared) (g : Option Found) : Type 0 where
  pub added : all_plain new ≡ all_plain old ++ d.routine (d.routine_of (constants_of was) f) ∷ []
  pub fault : option_map found g ≡ least (d.function_needs (constants_of was) f)
  pub frames : Are now was.inner was.outer.items
