use Rattle.std.proofs.Common.{◌≡◌, true, take, drop, map}
use Rattle.std.specs.List.{list_all}
use Rattle.vl_tree.specs.View.{port}
use Rattle.vl_meaning.specs.Faults.{is_narrow}
use Rattle.vl_proc.specs.Ports.{IsTable}
use Rattle.vl_proc.proofs.table.Table.new.Given as goal

abbrev pub invariant-loop-port : goal.invariant-loop-port
invariant-loop-port l = record {
  narrow : list_all is_narrow (map port (drop l.port-index l.ports)) ≡ true;
  table : IsTable l.clock (map port (take l.port-index l.ports)) l.table.signals.items l.table.inputs l.table.registers.items;
}
