-- The design of which a draft holds the parts. This project's own.
use Rattle.netlist.specs.Design.{Flat}
use Rattle.netlist.specs.declared.flat.FlatDraft.{FlatDraft}

abbrev pub drafted : FlatDraft → Flat
drafted d = record {
  scopes = d.scopes.items;
  signals = d.signals.items;
  inputs = d.inputs.items;
  driven = d.driven.items;
  registers = d.registers.items;
  memories = d.memories.items;
  nodes = d.nodes.items;
  writes = d.writes.items;
  blocks = d.blocks.items;
}
