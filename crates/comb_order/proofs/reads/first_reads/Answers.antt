use Rattle.std.proofs.Common.{◌+◌, length, get_or, ap, sym, subst, ◌∙◌}
use Rattle.std.specs.Prelude.{None}
use Rattle.std.proofs.lemmas.List.{length_push}
use Rattle.netlist.specs.Graph.{ReadsPart}
use Rattle.comb_order.specs.First.{IsFirst}
use Rattle.comb_order.proofs.Nodes.{part_first_of, one_more_part}
use Rattle.comb_order.proofs.reads.first_reads.Goals as goal

pub loop-part-preserved : goal.loop-part-preserved
loop-part-preserved c = record {
  count = ap length c.in_ok-push.ensures.items ∙ length_push c.loop-part.firsts.items c.first_at.result
      ∙ ap (λ n. n + 1) c.loop-part.invariant.count;
  each = λ p l. subst (λ v. IsFirst c.args.ranks.now (ReadsPart c.args.flat.now p) (get_or v p None))
      (sym c.in_ok-push.ensures.items) (one_more_part c.args.flat.now c.args.ranks.now c.loop-part.firsts.items
      c.loop-part.part-index c.first_at.result c.loop-part.invariant.count c.loop-part.invariant.each
      (part_first_of c.args.flat.now c.driven-part-items.ensures.fits c.args.ranks.now c.in_ok-nodes.nodes.items
      c.deref.result.now c.driven-part-items.result.now c.loop-part.part-index _ c.first_at.result
      c.in_ok-nodes.ensures.count c.in_ok-nodes.ensures.each c.driven-part-items.ensures.driven c.loop-part-test.true
      c.deref.ensures.value c.first_at.ensures) p l);
}
