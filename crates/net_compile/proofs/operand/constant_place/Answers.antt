use Rattle.std.proofs.Common.{ap, sym, ◌∙◌, get_or, arith, ◌<◌, length}
use Rattle.std.specs.Prelude.{Some}
use Rattle.std.proofs.lemmas.Option.{IfSome_then, slice_get-get_or}
use Rattle.net_compile.proofs.Calculations.{numeral_place}
use Rattle.net_compile.proofs.Nodes.{node_blank}
use Rattle.net_compile.proofs.operand.constant_place.Goals as goal

pub returns : goal.returns
returns c =
    let long = ap length c.nodes-nodes.ensures.nodes in
    let there : c.args.index.node < length c.args.flat.now.nodes = omega (arith, long) in
    IfSome_then c.numeral.result c.numeral.ensures (λ k h. numeral_place c.args.flat.now c.nodes-nodes.ensures.fits
    c.values_law.ensures c.args.index (get_or c.nodes-nodes.result.now c.args.index.node node_blank) k
    (slice_get-get_or c.args.flat.now.nodes c.args.index.node node_blank there
    ∙ ap (λ xs. Some (get_or xs c.args.index.node node_blank)) (sym c.nodes-nodes.ensures.nodes)) h)
