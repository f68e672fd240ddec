-- What the program's objects are: each number of a kind tells one object. This project's own.
use Rattle.std.specs.Prelude.{◌≡◌, ℕ, List, length}
use Rattle.vl_value.specs.Paths.{Path}
use Rattle.vl_value.specs.Things.{Shape, Thing, signal, memory, constant, routine}
use Rattle.vl_width.specs.declared.shape.Shape as declared
use Rattle.vl_width.specs.declared.number.Constant.{Constant}
use Rattle.vl_width.specs.declared.names.Object.{Object}
use Rattle.vl_width.specs.declared.names.Object.TheVariants as o

-- the paths of the objects of each kind by number, and the shapes of a function's inputs
pub record Numbering : Type 0 where
  pub signals : ℕ → Path
  pub memories : ℕ → Path
  pub locals : ℕ → Path
  pub functions : ℕ → Path
  pub inputs : ℕ → List Shape

abbrev pub plain_shape : declared.Shape → Shape
plain_shape sh = record { left = sh.left; right = sh.right; signed = sh.signed }

abbrev pub plain_constant : Constant → Thing
plain_constant c = constant c.bits.width c.signed c.bits.value

-- what an object is
abbrev pub thing : Numbering → Object → Thing
thing ns (o.Signal n sh) = signal (ns.signals n) (plain_shape sh)
thing ns (o.Memory n sh first last) = memory (ns.memories n) (plain_shape sh) first last
thing ns (o.Constant c) = plain_constant c
thing ns (o.Local n sh) = signal (ns.locals n) (plain_shape sh)
thing ns (o.Function n sh inside k) = routine inside (ns.functions n) (plain_shape sh) (ns.inputs n)

-- that a function has as many inputs as is said of it
abbrev pub HasInputs : Numbering → Object → Type 0
HasInputs ns (o.Signal n sh) = Unit {0}
HasInputs ns (o.Memory n sh first last) = Unit {0}
HasInputs ns (o.Constant c) = Unit {0}
HasInputs ns (o.Local n sh) = Unit {0}
HasInputs ns (o.Function n sh inside k) = length (ns.inputs n) ≡ k
