use Rattle.std.proofs.Common.{◌≡◌, ◌+◌, ◌∙◌, ℕ, List, [], ◌∷◌, ◌++◌, true, ◌&&◌, length, get_or, map, take, drop, sym, ap, subst, arith}
use Rattle.std.specs.List.{list_all}
use Rattle.std.proofs.lemmas.List.{at_drop_more, take_more, map-append, length-map, length-take}
use Rattle.vl_tree.specs.declared.tree.Port as port_code
use Rattle.vl_tree.specs.Tree.{Port}
use Rattle.vl_tree.specs.View.{port}
use Rattle.vl_meaning.specs.Faults.{is_narrow}
use Rattle.vl_proc.specs.Ports.{IsTable}
use Rattle.vl_proc.proofs.Ports.{both_true, objects_within, table_more}
use Rattle.vl_proc.proofs.table.Table.new.Goals as goal

pub add-requires-clause-few : goal.add-requires-clause-few
add-requires-clause-few c =
    let done : List Port = map port (take c.loop-port.port-index c.args.ports.now) in
    let t = c.loop-port.invariant.table in
    omega (arith, objects_within c.args.clock.now done, t.inputs_are, ap length t.widths_are, length-map (take c.loop-port.port-index c.args.ports.now) port, length-take c.loop-port.port-index c.args.ports.now)

pub loop-port-preserved : goal.loop-port-preserved
loop-port-preserved c =
    let i : ℕ = c.loop-port.port-index in
    let ports : List port_code.Port = c.args.ports.now in
    let done : List Port = map port (take i ports) in
    let t = c.loop-port.invariant.table in
    let rest : (is_narrow (port (get_or ports i c.port-item.result)) && list_all is_narrow (map port (drop (i + 1) ports))) ≡ true =
    sym (at_drop_more (λ (ps : List port_code.Port). list_all is_narrow (map port ps)) ports i c.port-item.result c.loop-port-test.true) ∙ c.loop-port.invariant.narrow in
    let e : map port (take (i + 1) ports) ≡ done ++ port c.port-item.result ∷ [] =
    ap (map port) (take_more ports i c.port-item.result c.loop-port-test.true ∙ ap (λ (p : port_code.Port). take i ports ++ p ∷ []) (sym c.port-item.is)) ∙ map-append port (take i ports) (c.port-item.result ∷ []) in
    record {
      narrow = (both_true _ _ rest).1;
      table = subst (λ (ps : List Port). IsTable c.args.clock.now ps c.add.new.self.signals.items c.add.new.self.inputs c.add.new.self.registers.items) (sym e)
          (table_more c.args.clock.now done (port c.port-item.result) c.loop-port.table.signals.items c.add.new.self.signals.items c.loop-port.table.inputs c.add.new.self.inputs c.loop-port.table.registers.items
          c.add.new.self.registers.items t c.in_ok-add.ensures.signals c.in_ok-add.ensures.inputs c.in_ok-add.ensures.registers);
    }
