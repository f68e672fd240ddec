-- Faults of a scope by what makes it: of its declarations, its header and its connections. This project's own.
use Rattle.std.specs.Prelude.{◌≡◌, Bool, true, false, ◌||◌, ◌&&◌, if◌then◌else◌, bytes_eq, List, [], ◌∷◌, ◌++◌, Option, Some, None}
use Rattle.std.specs.List.{list_any}
use Rattle.std.specs.Option.{option_map}
use Rattle.vl_tree.specs.declared.fault.FaultKind.TheVariants.{Duplicate, BadPort, UnknownPort}
use Rattle.vl_tree.specs.Syntax as t
use Rattle.vl_tree.specs.Syntax.{named_port}
use Rattle.vl_tree.specs.SyntaxView as view
use Rattle.vl_tree.specs.declared.expression.Name.{Name}
use Rattle.std.specs.Borrow.{Bor}
use Rattle.vl_value.specs.Paths.{Text}
use Rattle.vl_value.specs.Order as order
use Rattle.vl_value.specs.Order.{at, least}
use Rattle.vl_found.specs.declared.Found.{Found}
use Rattle.vl_found.specs.View.{found}
use Rattle.vl_names.specs.declared.NameSet.{NameSet}
use Rattle.vl_names.specs.Names.{has}
use Rattle.vl_design.specs.Lists.{each_of, stands_in}
use Rattle.vl_design.specs.Declarations.{Declared, port, is_named}
use Rattle.vl_design.specs.Scopes.{Level, Origin, instance_of}
use Rattle.vl_design.specs.Clocks.{port_name}
use Rattle.vl_design.specs.ObjectFaults.{same_names, declaration_faults, has_direction, origin_faults, connection_order_faults}

-- ---- names with a direction

abbrev pub HasDirected : NameSet → List Declared → Type 0
HasDirected s ds = (x : Text) → has s x ≡ has_direction ds x

-- whether a declaration gives a name a direction
abbrev pub directs : Declared → Text → Bool
directs a x = is_named x a && (elim a [ port w k l ↦ true | _ ↦ false ])

abbrev pub AddsDirected : Declared → NameSet → NameSet → Type 0
AddsDirected d old new = (x : Text) → has new x ≡ (directs d x || has old x)

-- whether a port of a header has a name
abbrev pub is_header_port : List t.Port → Text → Bool
is_header_port ps x = list_any (λ p. bytes_eq (port_name p).text x) ps

abbrev pub AddsPorts : List t.Port → NameSet → NameSet → Type 0
AddsPorts ps old new = (x : Text) → has new x ≡ (is_header_port ps x || has old x)

-- ---- a header, where f says which names have a direction

abbrev pub bare_here : Bool → Bool → t.Name → List order.Found
bare_here is_known is_directed x = if is_known then at x.place Duplicate ∷ [] else (if is_directed then [] else at x.place BadPort ∷ [])

-- the name of a port without words
abbrev pub bare_name_of : t.Port → Option t.Name
bare_name_of (t.declared_port d x) = None
bare_name_of (named_port x) = Some x

abbrev pub named_by_borrow : Option (Bor Name) → Option t.Name
named_by_borrow = option_map (λ x. view.name x.now)

abbrev pub bare_by : (Text → Bool) → List Text → List t.Port → List order.Found
bare_by f before (named_port x ∷ ps) = bare_here (stands_in before x.text) (f x.text) x ++ bare_by f (x.text ∷ before) ps
bare_by f before _ = []

-- ---- connections by name, where f says which names a header has, and g which have a direction

abbrev pub named_here : Bool → Bool → t.Name → List order.Found
named_here is_port is_bound x = if is_port then (if is_bound then at x.place BadPort ∷ [] else []) else at x.place UnknownPort ∷ []

abbrev pub named_by : (Text → Bool) → (Text → Bool) → List Text → List t.NamedBind → List order.Found
named_by f g before [] = []
named_by f g before (b ∷ bs) = named_here (f b.name.text || g b.name.text) (stands_in before b.name.text) b.name
    ++ named_by f g (b.name.text ∷ before) bs

abbrev pub connected_by : (Text → Bool) → List t.Port → Option t.Binds → List order.Found
connected_by g ps None = []
connected_by g ps (Some (t.ordered es)) = connection_order_faults ps es
connected_by g ps (Some (t.by_name bs)) = named_by (is_header_port ps) g [] bs

-- ---- a scope

-- of its declarations alone
abbrev pub own_faults : List Declared → List order.Found
own_faults ds = same_names [] ds ++ each_of declaration_faults ds

-- with what makes it; of a scope these are `scope_faults`
abbrev pub scope_faults_of : List Declared → Origin → List order.Found
scope_faults_of ds o = same_names [] ds ++ (each_of declaration_faults ds ++ origin_faults ds o)

-- an instance that is connected so, wherever it stands
abbrev pub HasInstanceFault : List Declared → t.Module → Option t.Binds → Option Found → Type 0
HasInstanceFault ds m b f = (outer : List Level)
    → option_map found f ≡ least (scope_faults_of ds (instance_of m (Some (record { outer = outer; binds = b }))))
