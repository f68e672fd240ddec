use Rattle.std.proofs.Common.{ap, sym, ◌∙◌, get_or, arith, ◌<◌, length}
use Rattle.std.specs.Prelude.{Some}
use Rattle.std.proofs.lemmas.Option.{slice_get-get_or}
use Rattle.net_compile.proofs.Nodes.{node_blank}
use Rattle.net_compile.proofs.Sames.{one_value}
use Rattle.net_compile.proofs.same.is_one.Goals as goal

pub returns : goal.returns
returns c is =
    let long = ap length c.nodes-nodes.ensures.nodes in
    let there : c.args.node < length c.args.flat.now.nodes = omega (arith, long) in
    one_value c.args.flat.now c.nodes-nodes.ensures.fits c.values_law.ensures c.args.node
    (get_or c.nodes-nodes.result.now c.args.node node_blank)
    (slice_get-get_or c.args.flat.now.nodes c.args.node node_blank there
    ∙ ap (λ xs. Some (get_or xs c.args.node node_blank)) (sym c.nodes-nodes.ensures.nodes))
    (c.is_constant_one.ensures is)
