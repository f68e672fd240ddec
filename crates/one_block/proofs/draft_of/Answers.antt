use Rattle.std.proofs.Common.{◌<◌, ◌^◌, [], ◌∷◌, ◌∙◌, length, ap, sym, subst, map}
use Rattle.one_block.specs.SameDesign.{top_scope, signal_of, input_places, register_ranges}
use Rattle.one_block.specs.Calls.Nodes.{reads_from, Stands}
use Rattle.one_block.specs.Calls.Registers.{Takes, parts_of}
use Rattle.one_block.specs.Calls.Events.{AddsEvents}
use Rattle.one_block.proofs.Parts.{inputs_below}
use Rattle.one_block.proofs.Signals.{signals_stand}
use Rattle.one_block.proofs.Whole.{nodes_fit, actions_fit, all_made, closed}
use Rattle.one_block.proofs.draft_of.Goals as goal

pub made_nodes-requires-clause-there : goal.made_nodes-requires-clause-there
made_nodes-requires-clause-there c =
    inputs_below _ _ c.args.plain.now.signals
    (c.in_ok-table.ensures.signals ∙ ap (map signal_of) c.signals.ensures.signals)
    (c.in_ok-table.ensures.inputs ∙ ap (input_places 0) c.signals.ensures.signals) c.requires.numbered

pub made_nodes-requires-clause-fits : goal.made_nodes-requires-clause-fits
made_nodes-requires-clause-fits c =
    nodes_fit c.args.plain.now _ _ _ c.requires c.nodes.ensures.fit
    (c.in_ok-table.ensures.inputs ∙ ap (input_places 0) c.signals.ensures.signals)
    (c.in_ok-table.ensures.registers ∙ ap (register_ranges 0) c.signals.ensures.signals) c.nodes.ensures.nodes

pub next_nodes-requires : goal.next_nodes-requires
next_nodes-requires c =
    actions_fit c.args.plain.now c.deref.result.now c.deref-2.result.now c.actions.result.now c.requires c.nodes.ensures.fit
    (c.deref.ensures.value ∙ c.in_ok-table.ensures.registers ∙ ap (register_ranges 0) c.signals.ensures.signals)
    (ap length c.deref-2.ensures.value ∙ c.in_ok-made.ensures.count ∙ ap length c.nodes.ensures.nodes) c.actions.ensures.actions

pub events_of-requires : goal.events_of-requires
events_of-requires c = (
  length c.deref.result.now,
  actions_fit c.args.plain.now c.deref.result.now c.deref-3.result.now c.actions-2.result.now c.requires c.nodes.ensures.fit
      (c.deref.ensures.value ∙ c.in_ok-table.ensures.registers ∙ ap (register_ranges 0) c.signals.ensures.signals)
      (ap length c.deref-3.ensures.value ∙ c.in_ok-made.ensures.count ∙ ap length c.nodes.ensures.nodes) c.actions-2.ensures.actions,
)

pub returns : goal.returns
returns c =
    let p = c.args.plain.now in
    let well = c.nodes.ensures.fit in
    let signals = c.in_ok-table.ensures.signals ∙ ap (map signal_of) c.signals.ensures.signals in
    let inputs = c.in_ok-table.ensures.inputs ∙ ap (input_places 0) c.signals.ensures.signals in
    let ranges = c.in_ok-table.ensures.registers ∙ ap (register_ranges 0) c.signals.ensures.signals in
    let table = c.in_ok-table.table in
    let first = c.in_ok-nodes.ensures ∙ ap (reads_from 0) signals in
    let made = c.in_ok-made.made.items in
    let next = c.in_ok-next.next.items in
    let events = c.in_ok-events.events.items in
    let n0 = c.in_ok-nodes.nodes in
    let n1 = c.made_nodes.new.nodes in
    let n2 = c.next_nodes.new.nodes in
    let all = c.in_ok-made.ensures.made p c.nodes.ensures.nodes (record {
      is_block = c.requires;
      well = well;
      table = record { signals_are = signals; inputs_are = inputs; registers_are = ranges };
      stands = subst (λ ns. Stands p ns []) (sym first) (signals_stand p well);
    }) in
    let taken = c.in_ok-next.ensures.next p c.requires (c.deref.ensures.value ∙ ranges)
    (subst (Stands p n1) (sym c.deref-2.ensures.value) all.stands) in
    let takes = subst (Takes p n1 n2 table.registers.items next) c.actions.ensures.actions
    (subst (λ rs. Takes p n1 n2 rs next c.actions.result.now) c.deref.ensures.value taken) in
    let tells = subst (AddsEvents made [] events) c.actions-2.ensures.actions
    (subst (λ ms. AddsEvents ms [] events c.actions-2.result.now) c.deref-3.ensures.value c.in_ok-events.ensures.events) in
    let few = subst (λ ns. length ns < 2 ^ 32) c.into_list.ensures.nodes c.into_list.ensures.few in
    let m = all_made p made table.registers.items next n0 n1 n2 events c.requires well ranges first
    (c.in_ok-made.ensures.count ∙ ap length c.nodes.ensures.nodes) all takes few c.in_ok-events.ensures.few tells in
    let parts = c.in_ok-register_parts.ensures ∙ ap (λ rs. parts_of rs c.deref-5.result.now) c.deref-4.ensures.value
    ∙ ap (parts_of table.registers.items) c.deref-5.ensures.value in
    let is = closed p made table.registers.items next n2 events _ m
    (c.in_ok-scopes_of.ensures ∙ ap (λ n. top_scope n ∷ []) c.name.ensures) signals inputs c.new.ensures.items parts
    c.new-2.ensures.items c.into_list.ensures.nodes c.new-3.ensures.items c.in_ok-blocks_of.ensures in
    record { fits = is.0; same = is.1 }
