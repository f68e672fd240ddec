-- Static faults: the name of each kind, as a report has it, and a fault with its phase, place and kind. This project's own.
use Rattle.std.specs.Prelude.{ℕ, ◌≡◌, List, Option, Some, None, Result, Err, codes}
use Rattle.vl_tree.specs.declared.fault.FaultKind.{FaultKind}
use Rattle.vl_tree.specs.declared.fault.FaultKind.TheVariants as k
use Rattle.vl_tree.specs.declared.fault.StaticFault.{StaticFault}
use Rattle.vl_tree.specs.declared.fault.StaticFault.TheVariants as f

abbrev pub name_of : FaultKind → List ℕ
name_of k.BadDirective = codes "BadDirective"
name_of k.Unbalanced = codes "Unbalanced"
name_of k.UnknownMacro = codes "UnknownMacro"
name_of k.MacroDepth = codes "MacroDepth"
name_of k.TooLong = codes "TooLong"
name_of k.BadByte = codes "BadByte"
name_of k.OpenComment = codes "OpenComment"
name_of k.BadToken = codes "BadToken"
name_of k.BadNumber = codes "BadNumber"
name_of k.TooWide = codes "TooWide"
name_of k.OpenString = codes "OpenString"
name_of k.TooManyTokens = codes "TooManyTokens"
name_of k.Syntax = codes "Syntax"
name_of k.Deep = codes "Deep"
name_of k.DuplicateModule = codes "DuplicateModule"
name_of k.NoTop = codes "NoTop"
name_of k.UnknownModule = codes "UnknownModule"
name_of k.UnknownParameter = codes "UnknownParameter"
name_of k.TooDeep = codes "TooDeep"
name_of k.TooManyInstances = codes "TooManyInstances"
name_of k.TooManyTurns = codes "TooManyTurns"
name_of k.Misplaced = codes "Misplaced"
name_of k.NotConstant = codes "NotConstant"
name_of k.Duplicate = codes "Duplicate"
name_of k.BadRange = codes "BadRange"
name_of k.BadPort = codes "BadPort"
name_of k.UnknownPort = codes "UnknownPort"
name_of k.TooManySignals = codes "TooManySignals"
name_of k.TooManyWords = codes "TooManyWords"
name_of k.TooManyInputs = codes "TooManyInputs"
name_of k.UnknownName = codes "UnknownName"
name_of k.BadSelect = codes "BadSelect"
name_of k.ZeroReplication = codes "ZeroReplication"
name_of k.BadCall = codes "BadCall"
name_of k.BadTarget = codes "BadTarget"
name_of k.BadFormat = codes "BadFormat"
name_of k.AsyncControl = codes "AsyncControl"
name_of k.NegativeEdge = codes "NegativeEdge"
name_of k.WrongAssign = codes "WrongAssign"
name_of k.LoopVariable = codes "LoopVariable"
name_of k.Latch = codes "Latch"
name_of k.Recursive = codes "Recursive"
name_of k.FunctionScope = codes "FunctionScope"
name_of k.BadInitial = codes "BadInitial"
name_of k.TaskPlace = codes "TaskPlace"
name_of k.Unrolled = codes "Unrolled"
name_of k.Expanded = codes "Expanded"
name_of k.ManyDrivers = codes "ManyDrivers"
name_of k.MixedKinds = codes "MixedKinds"
name_of k.BadClock = codes "BadClock"
name_of k.SecondClock = codes "SecondClock"
name_of k.ClockAsData = codes "ClockAsData"
name_of k.Loop = codes "Loop"

-- a static fault: the phase that has it, its line, from 1, the number of its token where there are tokens, and its kind
pub record Fault : Type 0 where
  pub phase : ℕ
  pub line : ℕ
  pub token : Option ℕ
  pub kind : FaultKind

-- a fault of a phase that reads no tokens
abbrev pub fault : ℕ → ℕ → FaultKind → Fault
fault phase line kind = record { phase = phase; line = line; token = None; kind = kind }

-- ---- what the code answers

-- a fault of the code, of a phase that reads no tokens
abbrev pub on_line : ℕ → ℕ → FaultKind → StaticFault
on_line phase line kind = f.At phase (record { line = line; token = None }) kind

-- the fault that an answer names; out of memory is none
abbrev pub fault_of : StaticFault → Option Fault
fault_of (f.At phase place kind) = Some (record { phase = phase; line = place.line; token = place.token; kind = kind })
fault_of f.Memory = None

-- the definition has this fault; where none is named, nothing is said
abbrev pub HasFault : {X : Type 0} → Result X Fault → Option Fault → Type 0
HasFault r None = Unit {0}
HasFault r (Some f) = r ≡ Err f
