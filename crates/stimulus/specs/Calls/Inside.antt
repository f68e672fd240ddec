-- What the fields of the layout of rows stand for. This project's own.
use Rattle.std.specs.Prelude.{◌≡◌, ◌<◌, ◌≤◌, length, map, true}
use Rattle.std.specs.List.{All}
use Rattle.dt_core.specs.declared.limits.TheConstants.{MAX_WIDTH}
use Rattle.stimulus.specs.Reader.{Layout}
use Rattle.stimulus.specs.Calls.Single.{digit_limit, IsInOrder, row_of_values}
use Rattle.stimulus.specs.declared.columns.Columns.TheInside.{Inside}

abbrev pub layout_of : Inside → Layout
layout_of c = record {
  widths = c.widths.items;
  places = c.places.items;
  row = row_of_values c.in_order c.values.items c.row.items;
}

pub record IsSound (c : Inside) : Type 0 where
  pub values : length c.values.items ≡ length c.widths.items
  pub row : length c.row.items ≡ length c.places.items
  pub within : All (λ place. place < length c.widths.items) c.places.items
  pub wide : All (λ w. w ≤ MAX_WIDTH) c.widths.items
  pub limits : c.limits.items ≡ map digit_limit c.widths.items
  pub order : c.in_order ≡ true → IsInOrder (length c.widths.items) c.places.items
