-- Faults of the program as the order of `vl_value` has them. This project's own.
use Rattle.std.specs.Prelude.{if◌then◌else◌}
use Rattle.vl_tree.specs.SyntaxView as view
use Rattle.vl_value.specs.Order.{is_before}
use Rattle.vl_value.specs.Order as order
use Rattle.vl_found.specs.declared.Found.{Found}

-- a fault of the program
abbrev pub found : Found → order.Found
found f = record { place = view.place f.place; kind = f.kind }

-- the lesser of two faults, the first of two that stand alike
abbrev pub first_of : order.Found → order.Found → order.Found
first_of f g = if is_before g f then g else f

-- the same of two of the program
abbrev pub earlier : Found → Found → Found
earlier f g = if is_before (found g) (found f) then g else f
