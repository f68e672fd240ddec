-- What `constant` answers. This project's own.
use Rattle.std.specs.Prelude.{◌≡◌, ℕ, List, [], Option, Some, None}
use Rattle.std.specs.Option.{option_map}
use Rattle.vl_tree.specs.Syntax.{Expr}
use Rattle.vl_tree.specs.Fault.{Fault}
use Rattle.vl_value.specs.Things.{Thing, constant}
use Rattle.vl_value.specs.Constant.{Sight}
use Rattle.vl_value.specs.Meaning.{Meaning, own}
use Rattle.vl_value.specs.Order.{Found, least, of_phase}
use Rattle.vl_value.specs.Faults.{constant_meaning, early_faults}
use Rattle.vl_width.specs.declared.number.Constant.{Constant}

-- of the faults of a phase the least is told; where none is named, nothing is said
abbrev pub Tells : ℕ → List Found → Option Fault → Type 0
Tells n fs None = Unit {0}
Tells n fs (Some f) = option_map (of_phase n) (least fs) ≡ Some f

-- a parameter of the value that an expression has by itself
abbrev pub parameter_of : Meaning → Thing
parameter_of m = constant m.width m.signed (own m)

-- the number that an expression is, which has no fault where a constant is wanted
pub record IsConstantOf (s : Sight) (e : Expr) (c : Constant) : Type 0 where
  pub sound : early_faults s e ≡ []
  pub width : c.bits.width ≡ (constant_meaning s e).width
  pub signed : c.signed ≡ (constant_meaning s e).signed
  pub value : c.bits.value ≡ own (constant_meaning s e)
