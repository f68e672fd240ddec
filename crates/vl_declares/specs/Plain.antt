-- Declarations of the program as those of `vl_design`. This project's own.
use Rattle.std.specs.Prelude.{◌≡◌, Bool, List, ◌++◌, Option, map}
use Rattle.std.specs.Option.{option_map}
use Rattle.vl_tree.specs.Syntax as t
use Rattle.vl_tree.specs.SyntaxView as view
use Rattle.vl_value.specs.Order as order
use Rattle.vl_value.specs.Order.{least}
use Rattle.vl_found.specs.declared.Found.{Found}
use Rattle.vl_found.specs.View.{found}
use Rattle.vl_design.specs.Declarations as d
use Rattle.vl_design.specs.Spans.{Span}
use Rattle.vl_span.specs.Plain.{plain_span}
use Rattle.vl_frames.specs.Marks.{plain_worth}
use Rattle.vl_declares.specs.declared.declared.Kind as code_kind
use Rattle.vl_declares.specs.declared.declared.Kind.TheVariants as k
use Rattle.vl_declares.specs.declared.declared.Local as code_local
use Rattle.vl_declares.specs.declared.declared.Routine as code_routine
use Rattle.vl_declares.specs.declared.declared.Declared as code
use Rattle.vl_declares.specs.declared.declared.Declared.TheVariants as c

abbrev pub plain_kind : code_kind.Kind → d.Kind
plain_kind k.Net = d.net
plain_kind k.Register = d.register
plain_kind k.Integer = d.whole_number

abbrev pub plain_local : code_local.Local → d.Local
plain_local l = record { name = view.name l.name.now; signed = l.signed; span = plain_span l.span }

abbrev pub plain_routine : code_routine.Routine → d.Routine
plain_routine r = record {
  result = plain_local r.result;
  inputs = map plain_local r.inputs.items;
  locals = map plain_local r.locals.items;
}

abbrev pub plain : code.Declared → d.Declared
plain (c.Port w q l) = d.port (view.direction w) (option_map view.kept q) (plain_local l)
plain (c.Object j l) = d.object (plain_kind j) (plain_local l)
plain (c.Memory l s) = d.memory (plain_local l) (plain_span s)
plain (c.Parameter x w) = d.parameter (view.name x.now) (plain_worth w)
plain (c.Genvar x) = d.genvar (view.name x.now)
plain (c.Routine r) = d.routine (plain_routine r)
plain (c.Inner x) = d.inner (view.name x.now)

abbrev pub all_plain : List code.Declared → List d.Declared
all_plain = map plain

-- what was declared behind what was there, and the least fault
pub record Declares (old : List code.Declared) (ds : List d.Declared) (fs : List order.Found) (new : List code.Declared) (f : Option Found) : Type 0 where
  pub declared : all_plain new ≡ all_plain old ++ ds
  pub fault : option_map found f ≡ least fs

-- ---- of one range

abbrev pub genvars : List t.Name → List d.Declared
genvars = map d.genvar

abbrev pub inner_ones : List t.Instance → List d.Declared
inner_ones = map (λ (i : t.Instance). d.inner i.name)

abbrev pub port_of : t.Directed → Span → t.Name → d.Declared
port_of g sp x = d.port g.direction g.kept (d.local g.signed sp x)

abbrev pub ports : t.Directed → Span → List t.Name → List d.Declared
ports g sp = map (port_of g sp)

abbrev pub nets : Bool → Span → List t.Net → List d.Declared
nets s sp = map (λ (n : t.Net). d.object d.net (d.local s sp n.name))
