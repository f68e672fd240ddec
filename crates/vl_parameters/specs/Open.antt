-- Names of parameters, in order. This project's own.
use Rattle.std.specs.Prelude.{ℕ, List, map}
use Rattle.std.specs.Borrow.{Bor}
use Rattle.vl_tree.specs.Syntax as t
use Rattle.vl_value.specs.Paths.{Text}
use Rattle.vl_design.specs.Parameters.{header_value}

-- texts without their borrows
abbrev pub texts_of : List (Bor (List ℕ)) → List Text
texts_of = map (λ x. x.now)

abbrev pub header_names : List t.HeaderParameter → List Text
header_names = map (λ (h : t.HeaderParameter). (header_value h).name.text)

abbrev pub value_names : List t.Valued → List Text
value_names = map (λ (v : t.Valued). v.name.text)
