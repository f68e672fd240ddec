use Rattle.std.proofs.Common.{◌≡◌, List, map, subst, ◌∙◌, sym}
use Rattle.flat_ir.specs.FlatRun.{Flat}
use Rattle.flat_ir.specs.declared.design.Node.{Node}
use Rattle.flat_ir.specs.declared.design.Action.{Action}
use Rattle.vl_tree.specs.declared.tree.Port as port_code
use Rattle.vl_tree.specs.View.{module_of, port}
use Rattle.vl_tree.specs.Tree.{Text, Module}
use Rattle.vl_meaning.specs.StandsFor.{StandsFor, input_widths}
use Rattle.vl_proc.specs.Ports.{IsTable}
use Rattle.vl_proc.specs.Lowers.{IsBuilt}
use Rattle.one_block.specs.OneBlock as block
use Rattle.one_block.specs.OneBlock.{IsOneBlock}
use Rattle.vl_proc.proofs.OneBlock.{inputs_are_wide, design_is_block}
use Rattle.vl_proc.proofs.Whole.{design_fits, design_stands, declared_of}
use Rattle.vl_proc.proofs.lower.Goals as goal

pub close-requires : goal.close-requires
close-requires c =
    let m : Module = module_of c.args.top.now in
    let table = c.in_ok-table.table in
    let actions : List Action = c.in_ok-built.built.actions.items in
    let t : IsTable m.clock m.ports table.signals.items table.inputs table.registers.items =
    subst (λ (x : Text). IsTable x m.ports table.signals.items table.inputs table.registers.items) c.bytes.ensures
    (subst (λ (ps : List port_code.Port). IsTable c.bytes.result.now (map port ps) table.signals.items table.inputs table.registers.items) c.deref.ensures.value c.in_ok-table.ensures) in
    let b : IsBuilt m c.into_list.result.items actions = subst (λ (ns : List Node). IsBuilt m ns actions) (sym c.into_list.ensures) c.in_ok-built.ensures in
    design_fits m c.in_ok-copied.field-0 table.signals.items table.inputs table.registers.items c.into_list.result.items actions (declared_of m c.requires) t b

pub returns-clause-stands : goal.returns-clause-stands
returns-clause-stands c =
    let m : Module = module_of c.args.top.now in
    let table = c.in_ok-table.table in
    let actions : List Action = c.in_ok-built.built.actions.items in
    let t : IsTable m.clock m.ports table.signals.items table.inputs table.registers.items =
    subst (λ (x : Text). IsTable x m.ports table.signals.items table.inputs table.registers.items) c.bytes.ensures
    (subst (λ (ps : List port_code.Port). IsTable c.bytes.result.now (map port ps) table.signals.items table.inputs table.registers.items) c.deref.ensures.value c.in_ok-table.ensures) in
    let b : IsBuilt m c.into_list.result.items actions = subst (λ (ns : List Node). IsBuilt m ns actions) (sym c.into_list.ensures) c.in_ok-built.ensures in
    subst (λ (f : Flat). StandsFor f m) (sym c.close.ensures)
    (design_stands m c.in_ok-copied.field-0 table.signals.items table.inputs table.registers.items c.into_list.result.items actions (c.in_ok-copied.ensures ∙ c.bytes-2.ensures) (declared_of m c.requires) t b)

pub returns-clause-one_block : goal.returns-clause-one_block
returns-clause-one_block c =
    let m : Module = module_of c.args.top.now in
    let table = c.in_ok-table.table in
    let actions : List Action = c.in_ok-built.built.actions.items in
    let t : IsTable m.clock m.ports table.signals.items table.inputs table.registers.items =
    subst (λ (x : Text). IsTable x m.ports table.signals.items table.inputs table.registers.items) c.bytes.ensures
    (subst (λ (ps : List port_code.Port). IsTable c.bytes.result.now (map port ps) table.signals.items table.inputs table.registers.items) c.deref.ensures.value c.in_ok-table.ensures) in
    let b : IsBuilt m c.into_list.result.items actions = subst (λ (ns : List Node). IsBuilt m ns actions) (sym c.into_list.ensures) c.in_ok-built.ensures in
    subst IsOneBlock (sym c.close.ensures)
    (design_is_block m c.in_ok-copied.field-0 table.signals.items table.inputs table.registers.items c.into_list.result.items actions c.requires t
    (design_stands m c.in_ok-copied.field-0 table.signals.items table.inputs table.registers.items c.into_list.result.items actions (c.in_ok-copied.ensures ∙ c.bytes-2.ensures) (declared_of m c.requires) t b))

pub returns-clause-inputs : goal.returns-clause-inputs
returns-clause-inputs c =
    let m : Module = module_of c.args.top.now in
    let table = c.in_ok-table.table in
    let t : IsTable m.clock m.ports table.signals.items table.inputs table.registers.items =
    subst (λ (x : Text). IsTable x m.ports table.signals.items table.inputs table.registers.items) c.bytes.ensures
    (subst (λ (ps : List port_code.Port). IsTable c.bytes.result.now (map port ps) table.signals.items table.inputs table.registers.items) c.deref.ensures.value c.in_ok-table.ensures) in
    subst (λ (f : Flat). block.input_widths f.signals ≡ input_widths m) (sym c.close.ensures)
    (inputs_are_wide m table.signals.items table.inputs table.registers.items c.requires t)
