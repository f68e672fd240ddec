-- Ports of a header, one after another. This project's own.
use Rattle.std.specs.Prelude.{◌≡◌, List, [], ◌∷◌, ◌++◌, Option, Some, None}
use Rattle.std.specs.Option.{option_map}
use Rattle.vl_tree.specs.Syntax as t
use Rattle.vl_tree.specs.SyntaxView as view
use Rattle.vl_value.specs.Order.{least}
use Rattle.vl_found.specs.declared.Found.{Found}
use Rattle.vl_found.specs.View.{found}
use Rattle.vl_design.specs.Constants.{Known}
use Rattle.vl_design.specs.Spans.{optional_span}
use Rattle.vl_design.specs.Declarations as d
use Rattle.vl_span.specs.Plain.{plain_span}
use Rattle.vl_declares.specs.declared.declared.Declared.{Declared}
use Rattle.vl_declares.specs.declared.header_ports.Words.{Words}
use Rattle.vl_declares.specs.Plain.{all_plain, port_of}

abbrev pub words_of : Option Words → Option t.Directed
words_of = option_map (λ w. view.directed w.directed.now)

-- the range is that of the words
abbrev pub Holds : Known → Option Words → Type 0
Holds k None = Unit {0}
Holds k (Some w) = plain_span w.span ≡ optional_span k (view.directed w.directed.now).range

-- what a bare name declares
abbrev pub named_here : Option Words → t.Name → List d.Declared
named_here None x = []
named_here (Some w) x = port_of (view.directed w.directed.now) (plain_span w.span) x ∷ []

-- what a port declares behind these words, and the words behind it
abbrev pub port_here : Known → Option t.Directed → t.Port → List d.Declared
port_here k g (t.declared_port e x) = d.directed_port k e x ∷ []
port_here k (Some e) (t.named_port x) = d.directed_port k e x ∷ []
port_here k None (t.named_port x) = []

abbrev pub words_behind : Option t.Directed → t.Port → Option t.Directed
words_behind g (t.declared_port e x) = Some e
words_behind g (t.named_port x) = g

pub record DeclaresPort (k : Known) (was : Option Words) (p : t.Port) (old new : List Declared) (now : Option Words) (f : Option Found) : Type 0 where
  pub added : all_plain new ≡ all_plain old ++ port_here k (words_of was) p
  pub fault : option_map found f ≡ least (d.port_needs k p)
  pub words : words_of now ≡ words_behind (words_of was) p
  pub holds : Holds k now
