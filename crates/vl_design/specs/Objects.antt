-- The objects that a scope declares: nets and variables, memories, parameters and functions (IEEE 1364-2005, clauses 4.2, 4.9,
-- 10.4, 12.3.3 and 12.5), and what a name stands for among them. A declaration that repeats a name, which is a fault, counts for
-- nothing.
use Rattle.std.specs.Prelude.{ℕ, Bool, true, false, ◌&&◌, ◌||◌, if◌then◌else◌, List, [], ◌∷◌, ◌++◌, map, bytes_eq, Option, Some, None, filter}
use Rattle.std.specs.List.{list_any}
use Rattle.vl_tree.specs.Syntax.{Name, Direction, Kept, wire, reg}
use Rattle.vl_value.specs.Paths.{Text, Path, below}
use Rattle.vl_value.specs.Things.{Shape, Thing, signal, memory, constant, routine}
use Rattle.vl_value.specs.Constant.{Sight}
use Rattle.vl_design.specs.Constants.{Worth, worth, faulty}
use Rattle.vl_design.specs.Spans.{shape, first_word, last_word}
use Rattle.vl_design.specs.Declarations.{Kind, net, register, whole_number, Local, Routine, Declared, port, object, genvar, inner, name_of, is_named}
use Rattle.vl_design.specs.Declarations as d
use Rattle.vl_design.specs.Scopes.{Level}

-- ---- one object of two declarations: a direction without `wire` or `reg`, and a net or a variable

abbrev pub is_bare_port : Declared → Bool
is_bare_port (port w None l) = true
is_bare_port _ = false

abbrev pub is_plain_object : Declared → Bool
is_plain_object (object k l) = true
is_plain_object _ = false

abbrev pub may_unite : Declared → Declared → Bool
may_unite a b = (is_bare_port a && is_plain_object b) || (is_plain_object a && is_bare_port b)

-- whether a declaration counts behind those of its name
abbrev pub counts_behind : List Declared → Declared → Bool
counts_behind [] b = true
counts_behind (a ∷ []) b = may_unite a b
counts_behind (a ∷ c ∷ ds) b = false

abbrev pub counted_behind : List Declared → List Declared → List Declared
counted_behind before [] = []
counted_behind before (b ∷ ds) = (if counts_behind (filter (is_named (name_of b).text) before) b then b ∷ [] else [])
    ++ counted_behind (before ++ b ∷ []) ds

-- the declarations of a scope, but for those that repeat a name
abbrev pub counted : Level → List Declared
counted l = counted_behind [] l.declared

-- the first of a name that passes a test
abbrev pub first_named : (Declared → Bool) → Text → List Declared → Option Declared
first_named f x [] = None
first_named f x (a ∷ ds) = if is_named x a && f a then Some a else first_named f x ds

abbrev pub has_bare_port : Text → List Declared → Bool
has_bare_port x ds = list_any (λ a. is_named x a && is_bare_port a) ds

-- ---- nets and variables

-- a net or a variable, with the direction of a port; it stands where its direction is declared
pub record Object : Type 0 where
  pub name : Name
  pub kind : Kind
  pub direction : Option Direction
  pub shape : Shape

-- the kind, and whether it is declared signed once more
abbrev pub port_kind : Option Kept → Option Declared → Kind
port_kind (Some reg) b = register
port_kind (Some wire) b = net
port_kind None (Some (object k l)) = k
port_kind None _ = net

abbrev pub signed_again : Option Kept → Option Declared → Bool
signed_again None (Some (object k l)) = l.signed
signed_again _ _ = false

-- of a declaration among those of its scope
abbrev pub object_of : List Declared → Declared → List Object
object_of ds (port w k l) = let b : Option Declared = first_named is_plain_object l.name.text ds in
    record {
      name = l.name;
      kind = port_kind k b;
      direction = Some w;
      shape = shape (l.signed || signed_again k b) l.span;
    } ∷ []
object_of ds (object k l) = if has_bare_port l.name.text ds then []
    else record { name = l.name; kind = k; direction = None; shape = shape l.signed l.span } ∷ []
object_of ds _ = []

abbrev pub objects_of : List Declared → List Declared → List Object
objects_of ds [] = []
objects_of ds (a ∷ more) = object_of ds a ++ objects_of ds more

-- those of a scope, in order of text
abbrev pub objects : Level → List Object
objects l = objects_of (counted l) (counted l)

abbrev pub object_at : List Object → Text → Option Object
object_at [] x = None
object_at (o ∷ os) x = if bytes_eq o.name.text x then Some o else object_at os x

-- ---- what a name stands for

abbrev pub local_shape : Local → Shape
local_shape l = shape l.signed l.span

abbrev pub constant_thing : Worth → Option Thing
constant_thing (worth w s n) = Some (constant w s n)
constant_thing faulty = None

-- a function, seen from outside of its body or from inside
abbrev pub routine_thing : Bool → Path → Routine → Thing
routine_thing inside p r = routine inside (below p r.result.name.text) (local_shape r.result) (map local_shape r.inputs)

abbrev pub signal_thing : Path → Option Object → Option Thing
signal_thing p None = None
signal_thing p (Some o) = Some (signal (below p o.name.text) o.shape)

abbrev pub declared_thing : Level → Text → Option Declared → Option Thing
declared_thing l x None = None
declared_thing l x (Some (d.memory m ws)) =
    Some (memory (below l.path x) (local_shape m) (first_word ws) (last_word ws))
declared_thing l x (Some (d.parameter y w)) = constant_thing w
declared_thing l x (Some (d.routine r)) = Some (routine_thing false l.path r)
declared_thing l x (Some a) = signal_thing l.path (object_at (objects l) x)

-- a genvar is in sight in its loop alone, instances and labels nowhere
abbrev pub is_in_sight : Declared → Bool
is_in_sight (genvar x) = false
is_in_sight (inner x) = false
is_in_sight _ = true

-- in one scope: what it declares, or the genvar of its turn
abbrev pub turn_thing : Option (Text × ℕ) → Text → Option Thing
turn_thing None x = None
turn_thing (Some g) x = if bytes_eq g.0 x then Some (constant 32 true g.1) else None

abbrev pub either : {A : Type 0} → Option A → Option A → Option A
either (Some a) b = Some a
either None b = b

abbrev pub level_thing : Level → Text → Option Thing
level_thing l x = either (declared_thing l x (first_named is_in_sight x (counted l))) (turn_thing l.turn x)

-- from the innermost scope to the module (12.7 and 12.4, within one module)
abbrev pub sight : List Level → Sight
sight [] x = None
sight (l ∷ ls) x = either (level_thing l x) (sight ls x)

-- ---- in a function's body (10.4.1): its inputs and variables, its own name, and then what is in sight around it

abbrev pub local_thing : Path → List Local → Text → Option Thing
local_thing p [] x = None
local_thing p (l ∷ ls) x = if bytes_eq l.name.text x then Some (signal (below p x) (local_shape l)) else local_thing p ls x

abbrev pub own_thing : Path → Routine → Text → Option Thing
own_thing p r x = if bytes_eq r.result.name.text x then Some (routine_thing true p r) else None

abbrev pub body_sight : Level → List Level → Routine → Sight
body_sight l outer r x = either (local_thing (below l.path r.result.name.text) r.locals x)
    (either (own_thing l.path r x) (sight (l ∷ outer) x))
