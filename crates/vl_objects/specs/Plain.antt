-- Objects of the program as those of `vl_design`. This project's own.
use Rattle.std.specs.Prelude.{List, [], ◌∷◌, Option, Some, None}
use Rattle.std.specs.Option.{option_map}
use Rattle.vl_tree.specs.SyntaxView as view
use Rattle.vl_value.specs.Things.{Shape}
use Rattle.vl_design.specs.Objects.{Object}
use Rattle.vl_declares.specs.Plain.{plain_kind}
use Rattle.vl_objects.specs.declared.object.Range.{Range}
use Rattle.vl_objects.specs.declared.object.Object as code

abbrev pub plain_range : Range → Shape
plain_range r = record { left = r.left; right = r.right; signed = r.signed }

abbrev pub plain_object : code.Object → Object
plain_object o = record {
  name = view.name o.name.now;
  kind = plain_kind o.kind;
  direction = option_map view.direction o.direction;
  shape = plain_range o.range;
}

abbrev pub listed : Option code.Object → List Object
listed None = []
listed (Some o) = plain_object o ∷ []
