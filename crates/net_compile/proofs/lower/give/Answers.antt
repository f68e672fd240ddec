use Rattle.std.proofs.Common.{ap, sym, ◌∙◌, get_or, arith, ◌<◌, length}
use Rattle.std.proofs.lemmas.Option.{slice_get-get_or}
use Rattle.std.specs.Prelude.{Some}
use Rattle.net_compile.specs.Pieces.{front_of}
use Rattle.net_compile.proofs.Nodes.{node_blank, one_more_node}
use Rattle.net_compile.proofs.lower.give.Goals as goal

pub lowered-requires-clause-node : goal.lowered-requires-clause-node
lowered-requires-clause-node c =
    let there : c.args.number < length c.args.flat.now.nodes = omega (arith, c.requires.count) in (
      c.nodes.ensures.fits,
      (
        c.args.number,
        slice_get-get_or c.args.flat.now.nodes c.args.number node_blank there
            ∙ ap (λ xs. Some (get_or xs c.args.number node_blank)) (sym c.nodes.ensures.nodes),
      ),
    )

pub returns-clause-nodes : goal.returns-clause-nodes
returns-clause-nodes c =
    let there : c.args.number < length c.args.flat.now.nodes = omega (arith, c.requires.count) in
    one_more_node c.args.flat.now c.nodes.ensures.fits c.values_law.ensures (front_of c.args.layout.now.given)
    c.args.builder.now c.lowered.new.builder c.args.slots.now c.args.number (get_or c.nodes.result.now c.args.number node_blank)
    c.in_ok-slot.slot c.requires.begins c.in_ok-slot.ensures.grows c.requires.nodes c.requires.count
    (slice_get-get_or c.args.flat.now.nodes c.args.number node_blank there
    ∙ ap (λ xs. Some (get_or xs c.args.number node_blank)) (sym c.nodes.ensures.nodes))
    c.in_ok-slot.ensures.slot
