-- A scope of the code as a plain module, and what is known of it. This project's own.
use Rattle.vl_tree.specs.Tree.{Module}
use Rattle.vl_tree.specs.View.{module_of}
use Rattle.vl_proc.specs.declared.names.Scope.{Scope}
use Rattle.vl_proc.specs.Ports.{Knows}

-- the plain module of a scope
abbrev pub module_in : Scope → Module
module_in s = module_of s.module.now

-- its declarations have no fault, its names are those of the ports, and so are its signals
abbrev pub IsKnown : Scope → Type 0
IsKnown s = Knows (module_in s) s.names.now s.signals.now
