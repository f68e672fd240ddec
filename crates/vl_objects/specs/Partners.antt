-- What declarations find under their names. This project's own.
use Rattle.std.specs.Prelude.{◌≡◌, Bool, false, ◌&&◌, ◌||◌, if◌then◌else◌, nat_eq, List, [], ◌∷◌, Option, Some, None}
use Rattle.std.specs.Cmp.Lexicographic.{pointwise}
use Rattle.std.specs.Option.{option_map}
use Rattle.indexmap.specs.IndexMap.{get}
use Rattle.vl_tree.specs.Syntax.{Direction, Kept, reg, wire}
use Rattle.vl_value.specs.Paths.{Text}
use Rattle.vl_names.specs.Names.{has}
use Rattle.vl_design.specs.Declarations.{Declared, Kind, Local, net, register, object, port, is_named, name_of}
use Rattle.vl_design.specs.Objects.{Object, is_plain_object, is_bare_port, first_named, has_bare_port}
use Rattle.vl_design.specs.Spans.{shape}
use Rattle.vl_declares.specs.Plain.{plain_kind}
use Rattle.vl_objects.specs.declared.partner.Partner as code
use Rattle.vl_objects.specs.declared.partner.Partners.{Partners}

-- the kind and the sign of a net or a variable
pub record Partner : Type 0 where
  pub kind : Kind
  pub signed : Bool

abbrev pub plain_partner : code.Partner → Partner
plain_partner p = record { kind = plain_kind p.kind; signed = p.signed }

abbrev pub partner_of : Declared → Option Partner
partner_of (object k l) = Some (record { kind = k; signed = l.signed })
partner_of _ = None

abbrev pub partner_in : Option Declared → Option Partner
partner_in (Some d) = partner_of d
partner_in None = None

abbrev pub found_partner : Partners → Text → Option Partner
found_partner p x = option_map plain_partner (get (pointwise nat_eq) p.plain x)

-- they are of no declaration
pub record HaveNone (p : Partners) : Type 0 where
  pub plain : (x : Text) → found_partner p x ≡ None
  pub bare : (x : Text) → has p.bare x ≡ false

-- they are those of some declarations
pub record AreOf (p : Partners) (ds : List Declared) : Type 0 where
  pub plain : (x : Text) → found_partner p x ≡ partner_in (first_named is_plain_object x ds)
  pub bare : (x : Text) → has p.bare x ≡ has_bare_port x ds

-- a declaration was noted, if it counts, in front of those that were
pub record Notes (b : Bool) (d : Declared) (old new : Partners) : Type 0 where
  pub plain : (x : Text) → found_partner new x ≡ (if b && (is_named x d && is_plain_object d) then partner_of d else found_partner old x)
  pub bare : (x : Text) → has new.bare x ≡ ((b && (is_named x d && is_bare_port d)) || has old.bare x)

-- ---- the object of a declaration by what it finds

abbrev pub kind_by : Option Kept → Option Partner → Kind
kind_by (Some reg) p = register
kind_by (Some wire) p = net
kind_by None (Some p) = p.kind
kind_by None None = net

abbrev pub signed_by : Option Kept → Option Partner → Bool → Bool
signed_by (Some k) p s = s
signed_by None (Some p) s = s || p.signed
signed_by None None s = s

abbrev pub port_by : Option Partner → Direction → Option Kept → Local → Object
port_by p w k l = record {
  name = l.name;
  kind = kind_by k p;
  direction = Some w;
  shape = shape (signed_by k p l.signed) l.span;
}

abbrev pub object_by : Option Partner → Bool → Declared → List Object
object_by p b (port w k l) = port_by p w k l ∷ []
object_by p b (object k l) = if b then [] else record { name = l.name; kind = k; direction = None; shape = shape l.signed l.span } ∷ []
object_by p b _ = []

abbrev pub found_by : Partners → Declared → List Object
found_by p d = object_by (found_partner p (name_of d).text) (has p.bare (name_of d).text) d
