use Rattle.std.proofs.Common.{subst, sym, ap, ◌∙◌, get_or}
use Rattle.std.specs.Prelude.{None}
use Rattle.std.proofs.lemmas.List.{with_items_is}
use Rattle.net_compile.specs.Pieces.{front_of}
use Rattle.net_compile.specs.Stands.{NodesStand}
use Rattle.net_compile.proofs.Nodes.{no_nodes}
use Rattle.net_compile.proofs.lower.all_nodes.Goals as goal

pub give_all-requires-clause-nodes : goal.give_all-requires-clause-nodes
give_all-requires-clause-nodes c =
    no_nodes c.args.flat.now (front_of c.args.layout.now.given) c.in_ok-builder.builder c.as_mut_slice.result.now
    (λ n. ap (λ s. get_or s n None) c.as_mut_slice.ensures.value ∙ c.in_ok-slots.ensures.none n)

pub returns-clause-nodes : goal.returns-clause-nodes
returns-clause-nodes c =
    subst (λ s. NodesStand c.args.flat.now (front_of c.args.layout.now.given) c.give_all.new.builder s)
    (sym (with_items_is c.in_ok-slots.slots c.give_all.new.slots (c.give_all.auto.slots ∙ c.as_mut_slice.ensures.len)))
    c.in_ok-give_all.ensures.nodes
