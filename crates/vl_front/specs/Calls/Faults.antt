-- The fault of a design that a static fault of its text, or the lack of a tree, is. This project's own.
use Rattle.vl_tree.specs.declared.fault.StaticFault.{StaticFault}
use Rattle.vl_tree.specs.declared.fault.StaticFault.TheVariants as static
use Rattle.vl_module.specs.declared.SynFault.{SynFault}
use Rattle.vl_module.specs.declared.SynFault.TheVariants as tree
use Rattle.vl_tree.specs.Token.{Tokens}
use Rattle.vl_tree.specs.declared.fault.FaultKind.TheVariants as kind
use Rattle.vl_read.specs.declared.fault.SynFault as source
use Rattle.vl_read.specs.declared.fault.SynFault.TheVariants as refused
use Rattle.vl_front.specs.FirstFault.{line_at}
use Rattle.vl_front.specs.declared.fault.DesignFault.{DesignFault}
use Rattle.vl_front.specs.declared.fault.DesignFault.TheVariants as f

abbrev pub of_static : StaticFault → DesignFault
of_static (static.At phase place kind) = f.At phase place.line kind
of_static static.Memory = f.Memory

-- why tokens are no source
abbrev pub of_source : Tokens → source.SynFault → DesignFault
of_source ts (refused.At n) = f.At 3 (line_at ts n) kind.Syntax
of_source ts (refused.Deep n) = f.At 3 (line_at ts n) kind.Deep
of_source ts refused.Memory = f.Memory

abbrev pub of_tree : SynFault → DesignFault
of_tree tree.NoTree = f.NotYetBuilt
of_tree tree.Memory = f.Memory
