-- The order of static faults: where several stand in one phase, the least is told, by token and then by the order in
-- which the language lists their kinds. This project's own.
use Rattle.std.specs.Prelude.{ℕ, ◌==◌, Bool, if◌then◌else◌, nat_lt, List, [], ◌∷◌, Option, Some, None}
use Rattle.vl_tree.specs.Syntax.{Place}
use Rattle.vl_tree.specs.Fault.{Fault}
use Rattle.vl_tree.specs.declared.fault.FaultKind.{FaultKind}
use Rattle.vl_tree.specs.declared.fault.FaultKind.TheVariants as k

-- a fault of a phase that reads trees: the place of its token, and its kind
pub record Found : Type 0 where
  pub place : Place
  pub kind : FaultKind

abbrev pub at : Place → FaultKind → Found
at p f = record { place = p; kind = f }

-- The place of each kind in the one order that has the kinds of every phase as the language lists them. A kind of two
-- phases stands once: NotConstant closes phase 4 but for Expanded, and in phase 6 comes after UnknownName; TooWide comes
-- after BadRange and BadSelect. Phases 1 to 3 tell the first fault that they read, and need no order.
abbrev pub rank : FaultKind → ℕ
rank k.BadDirective = 0
rank k.Unbalanced = 0
rank k.UnknownMacro = 0
rank k.MacroDepth = 0
rank k.TooLong = 0
rank k.BadByte = 0
rank k.OpenComment = 0
rank k.BadToken = 0
rank k.BadNumber = 0
rank k.OpenString = 0
rank k.TooManyTokens = 0
rank k.Syntax = 0
rank k.Deep = 0
rank k.DuplicateModule = 0
rank k.NoTop = 1
rank k.UnknownModule = 2
rank k.UnknownParameter = 3
rank k.TooDeep = 4
rank k.TooManyInstances = 5
rank k.TooManyTurns = 6
rank k.Misplaced = 7
rank k.UnknownName = 8
rank k.NotConstant = 9
rank k.Duplicate = 10
rank k.BadRange = 11
rank k.BadSelect = 12
rank k.TooWide = 13
rank k.BadPort = 14
rank k.UnknownPort = 15
rank k.TooManySignals = 16
rank k.TooManyWords = 17
rank k.TooManyInputs = 18
rank k.ZeroReplication = 19
rank k.BadCall = 20
rank k.BadTarget = 21
rank k.BadFormat = 22
rank k.AsyncControl = 23
rank k.NegativeEdge = 24
rank k.WrongAssign = 25
rank k.LoopVariable = 26
rank k.Latch = 27
rank k.Recursive = 28
rank k.FunctionScope = 29
rank k.BadInitial = 30
rank k.TaskPlace = 31
rank k.Unrolled = 32
rank k.Expanded = 33
rank k.ManyDrivers = 34
rank k.MixedKinds = 35
rank k.BadClock = 36
rank k.SecondClock = 37
rank k.ClockAsData = 38
rank k.Loop = 39

-- whether a fault comes before another of its phase
abbrev pub is_before : Found → Found → Bool
is_before f g = if f.place.token == g.place.token then nat_lt (rank f.kind) (rank g.kind)
    else nat_lt f.place.token g.place.token

-- the lesser of two faults, of which either may be none; the first of two that stand alike
abbrev pub lesser : Option Found → Option Found → Option Found
lesser None g = g
lesser (Some f) None = Some f
lesser (Some f) (Some g) = if is_before g f then Some g else Some f

-- the least of a list
abbrev pub least : List Found → Option Found
least [] = None
least (f ∷ fs) = lesser (Some f) (least fs)

-- that fault as one of a phase
abbrev pub of_phase : ℕ → Found → Fault
of_phase n f = record { phase = n; line = f.place.line; token = Some f.place.token; kind = f.kind }
