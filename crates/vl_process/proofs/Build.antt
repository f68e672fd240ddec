-- Short names for the trees of the worked examples, in which every token has its number and its line.
use Rattle.std.specs.Prelude.{ℕ, zero, suc, Bool, List, [], ◌∷◌, map, Option, Some, None, Ok, Err}
use Rattle.netlist.specs.Values.{Values}
use Rattle.vl_tree.specs.declared.fault.FaultKind.{FaultKind}
use Rattle.vl_tree.specs.Fault.{Fault}
use Rattle.vl_tree.specs.Token.{Literal}
use Rattle.vl_tree.specs.Syntax.{Place, Name, Expr, Range, Direction, Kept, Directed, Valued, Loop, NamedBind, Net, Driven, Target, Edge, Sensed, Function, FunctionType, FunctionPort, FunctionDeclaration, Stmt, Binds, Instance, HeaderParameter, Port, Items, Module, Source}
use Rattle.vl_design.specs.Limits.{limits}
use Rattle.vl_design.specs.Lists.{each_of}
use Rattle.vl_design.specs.Design.{Design, design_of, elaborated}
use Rattle.vl_process.specs.Statement.{all_stored}
use Rattle.vl_process.specs.Processes.{drivers, driven}
use Rattle.vl_process.specs.Settling.{by_path, by_number, all_said, all_undriven_as}
use Rattle.vl_process.specs.Run.{Fired, initial, next}
use Rattle.vl_process.specs.Verdict.{Verdict, faulty, not_built, sound, process_fault, verdict}

abbrev pub p : ℕ → ℕ → Place
p n l = record { token = n; line = l }

abbrev pub x : List ℕ → ℕ → ℕ → Name
x s n l = record { text = s; place = p n l }

abbrev pub lit : ℕ → Bool → Bool → ℕ → ℕ → Literal
lit w sized s v wild = record { width = w; sized = sized; signed = s; value = v; wild = wild }

abbrev pub rg : Place → Expr → Expr → Range
rg q a b = record { place = q; left = a; right = b }

abbrev pub dr : Place → Direction → Option Kept → Bool → Option Range → Directed
dr q d k s r = record { place = q; direction = d; kept = k; signed = s; range = r }

abbrev pub vl : Name → Expr → Valued
vl n e = record { name = n; value = e }

abbrev pub lo : Name → Expr → Expr → Name → Expr → Loop
lo v a c w b = record { variable = v; first = a; condition = c; stepped = w; step = b }

abbrev pub nb : Place → Name → Option Expr → NamedBind
nb q n e = record { place = q; name = n; value = e }

abbrev pub nt : Name → Option Expr → Net
nt n e = record { name = n; value = e }

abbrev pub dv : Target → Place → Expr → Driven
dv g q e = record { target = g; place = q; value = e }

abbrev pub sn : Edge → Expr → Sensed
sn g e = record { edge = g; signal = e }

abbrev pub fn : Place → Bool → Bool → FunctionType → Name → List FunctionPort → List FunctionDeclaration → Stmt → Function
fn q a s r n ps ds b = record {
  place = q;
  automatic = a;
  signed = s;
  result = r;
  name = n;
  ports = ps;
  declarations = ds;
  body = b;
}

abbrev pub ins : Name → Option Binds → Instance
ins n b = record { name = n; binds = b }

abbrev pub md : Place → Name → List HeaderParameter → Option (List Port) → Items → Module
md q n hs ps is = record { place = q; name = n; parameters = hs; ports = ps; items = is }

-- ---- faults

-- the phase, the line and the kind of a fault
abbrev pub spot : Option Fault → Option (ℕ × (ℕ × FaultKind))
spot None = None
spot (Some f) = Some (f.phase, (f.line, f.kind))

-- the least fault of a source of phases 4 to 8, whatever of it is built: its phase, its token and its kind
abbrev pub token_spot : Option Fault → Option (ℕ × (Option ℕ × FaultKind))
token_spot None = None
token_spot (Some f) = Some (f.phase, (f.token, f.kind))

abbrev pub fault_in : Source → Option (ℕ × (Option ℕ × FaultKind))
fault_in src = elim (elaborated limits src None) [ Ok d ↦ token_spot (process_fault d) | Err f ↦ token_spot (Some f) ]

-- what is told of a source
pub data Told : Type 0 where
  refused : ℕ → Option ℕ → FaultKind → Told
  late : Told
  accepted : Told

abbrev pub told : Verdict → Told
told (faulty f) = refused f.phase f.token f.kind
told not_built = late
told (sound d) = accepted

abbrev pub verdict_in : Source → Told
verdict_in src = told (verdict limits src None)

-- the same with the line of the fault
abbrev pub line_in : Source → Option (ℕ × (ℕ × FaultKind))
line_in src = elim (elaborated limits src None) [ Ok d ↦ spot (process_fault d) | Err f ↦ spot (Some f) ]

-- ---- runs: what a cycle comes to where all drivers drive again and again, so often; the examples say that it is steady then

abbrev pub design_in : Source → Design
design_in src = elim (elaborated limits src None) [ Ok d ↦ d | Err f ↦ design_of [] ]

abbrev pub values : List ℕ → List (List ℕ) → Values
values xs ws = record { signals = xs; memories = ws }

abbrev pub driven_again : Design → Values → Values
driven_again d v = by_number d (all_stored (each_of (driven (by_path d v)) (drivers d)) (by_path d v))

abbrev pub come_to : ℕ → Design → Values → Values
come_to zero d v = v
come_to (suc n) d v = come_to n d (driven_again d v)

abbrev pub settled : ℕ → Design → Values → List ℕ → Values
settled n d s row = come_to n d (record { signals = all_said d row d.signals s.signals; memories = s.memories })

-- the values of each cycle, from a state on
abbrev pub cycles_from : ℕ → Design → Values → List (List ℕ) → List Values
cycles_from n d s [] = []
cycles_from n d s (row ∷ rows) = let v : Values = settled n d s row in v ∷ cycles_from n d (next d s v) rows

abbrev pub cycles : ℕ → Design → List (List ℕ) → List Values
cycles n d rows = cycles_from n d (initial d) rows

-- what each driver alone makes of values: all hold where each of these is the values again
abbrev pub each_driven : Design → Values → List Values
each_driven d v = map (λ r. by_number d (all_stored (driven (by_path d v) r) (by_path d v))) (drivers d)

-- what is shown of values whose undriven bits are what a row and a state say of them
abbrev pub undriven_from : ℕ → Design → Values → List (List ℕ) → List (List ℕ)
undriven_from n d s [] = []
undriven_from n d s (row ∷ rows) = let v : Values = settled n d s row in
    all_undriven_as d d.signals v.signals (all_said d row d.signals s.signals) ∷ undriven_from n d (next d s v) rows

abbrev pub fired : List ℕ → ℕ → ℕ → Bool → List ℕ → Fired
fired path token line fatal message = record { path = path; place = p token line; fatal = fatal; message = message }
