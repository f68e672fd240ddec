-- What a walk goes into, as the program has it. This project's own.
use Rattle.std.specs.Prelude.{◌≡◌, Bool, true, false, Option, Some, None, map}
use Rattle.std.specs.Option.{option_map}
use Rattle.std.specs.Borrow.{Bor}
use Rattle.vl_tree.specs.Syntax as t
use Rattle.vl_tree.specs.Syntax.{Place}
use Rattle.vl_tree.specs.SyntaxView as view
use Rattle.vl_tree.specs.declared.item.Item.{Item}
use Rattle.vl_design.specs.Generate.{is_if}
use Rattle.vl_views.specs.Blocks.{items_of, block_of, branches_of, else_of}
use Rattle.vl_generate.specs.declared.form.Form.{Form}
use Rattle.vl_generate.specs.declared.form.Form.TheVariants as f

-- whether an item holds no others and makes no instance
abbrev pub is_plain : t.Item → Bool
is_plain (t.instances x ps is) = false
is_plain (t.region p is) = false
is_plain (t.generate_loop p l b) = false
is_plain (t.generate_if bs e) = false
is_plain _ = true

-- the parts of an item; the place of a region is asked for by nobody
abbrev pub HasForm : t.Item → Form → Type 0
HasForm i f.Plain = is_plain i ≡ true
HasForm i (f.Instances x ps is) =
    i ≡ t.instances (view.name x.now) (option_map (option_map view.binds) ps.now) (map view.instance is.now)
HasForm i (f.Region is) = (p : Place) × (i ≡ t.region p (items_of is.now))
HasForm i (f.Repeated p l b) = i ≡ t.generate_loop (view.place p) (view.loop l.now) (block_of b.now)
HasForm i (f.Chosen bs e) = i ≡ t.generate_if (branches_of bs.now) (else_of e.now)

-- whether a block is an `if` that stands directly as one
abbrev pub is_inner_if : t.GenerateBlock → Bool
is_inner_if (t.single i) = is_if i
is_inner_if (t.several p x is) = false

abbrev pub HasInner : t.GenerateBlock → Option (Bor Item) → Type 0
HasInner b None = is_inner_if b ≡ false
HasInner b (Some i) = (b ≡ t.single (view.item i.now)) × (is_if (view.item i.now) ≡ true)
