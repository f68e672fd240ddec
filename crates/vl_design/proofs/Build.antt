-- Short names for the trees of the worked examples, in which every token has its number and its line.
use Rattle.std.specs.Prelude.{ℕ, Bool, List, Option, Some, None}
use Rattle.vl_tree.specs.declared.fault.FaultKind.{FaultKind}
use Rattle.vl_tree.specs.Fault.{Fault}
use Rattle.vl_tree.specs.Token.{Literal}
use Rattle.vl_tree.specs.Syntax.{Place, Name, Expr, Range, Direction, Kept, Directed, Valued, Loop, NamedBind, Net, Driven, Target, Edge, Sensed, Function, FunctionType, FunctionPort, FunctionDeclaration, Stmt, Binds, Instance, HeaderParameter, Port, Items, Module, Source}
use Rattle.vl_design.specs.Limits.{Limits, limits}
use Rattle.vl_design.specs.Design.{first_fault}

abbrev pub p : ℕ → ℕ → Place
p n l = record { token = n; line = l }

abbrev pub x : List ℕ → ℕ → ℕ → Name
x s n l = record { text = s; place = p n l }

abbrev pub lit : ℕ → Bool → Bool → ℕ → ℕ → Literal
lit w sized s v wild = record { width = w; sized = sized; signed = s; value = v; wild = wild }

abbrev pub rg : Place → Expr → Expr → Range
rg q a b = record { place = q; left = a; right = b }

abbrev pub dr : Place → Direction → Option Kept → Bool → Option Range → Directed
dr q d k s r = record { place = q; direction = d; kept = k; signed = s; range = r }

abbrev pub vl : Name → Expr → Valued
vl n e = record { name = n; value = e }

abbrev pub lo : Name → Expr → Expr → Name → Expr → Loop
lo v a c w b = record { variable = v; first = a; condition = c; stepped = w; step = b }

abbrev pub nb : Place → Name → Option Expr → NamedBind
nb q n e = record { place = q; name = n; value = e }

abbrev pub nt : Name → Option Expr → Net
nt n e = record { name = n; value = e }

abbrev pub dv : Target → Place → Expr → Driven
dv g q e = record { target = g; place = q; value = e }

abbrev pub sn : Edge → Expr → Sensed
sn g e = record { edge = g; signal = e }

abbrev pub fn : Place → Bool → Bool → FunctionType → Name → List FunctionPort → List FunctionDeclaration → Stmt → Function
fn q a s r n ps ds b = record {
  place = q;
  automatic = a;
  signed = s;
  result = r;
  name = n;
  ports = ps;
  declarations = ds;
  body = b;
}

abbrev pub ins : Name → Option Binds → Instance
ins n b = record { name = n; binds = b }

abbrev pub md : Place → Name → List HeaderParameter → Option (List Port) → Items → Module
md q n hs ps is = record { place = q; name = n; parameters = hs; ports = ps; items = is }

-- the phase, the token and the kind of a fault
abbrev pub spot : Option Fault → Option (ℕ × (Option ℕ × FaultKind))
spot None = None
spot (Some f) = Some (f.phase, (f.token, f.kind))

-- limits that small texts pass
abbrev pub few : Limits
few = record {
  instances = 3;
  depth = 2;
  turns = 3;
  tokens = 60;
  signals = 4;
  words = 8;
  inputs = 2;
  input_bits = 12;
}

abbrev pub deep_few : Limits
deep_few = record few { depth = 3 }

-- the least fault of a source, whose top is the one root, or is asked for
abbrev pub fault_in : Limits → Source → Option (ℕ × (Option ℕ × FaultKind))
fault_in q src = spot (first_fault q src None)

abbrev pub fault_asked : List ℕ → Source → Option (ℕ × (Option ℕ × FaultKind))
fault_asked top src = spot (first_fault limits src (Some top))
