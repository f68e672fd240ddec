use Rattle.std.proofs.Common.{rules}
use Rattle.std.proofs.lemmas.List.Sorted.{IsNonDecreasingBy-from_sort_by_key, length_permutation}
use Rattle.std.proofs.Math.Facts.{Fits-lt-pow}
use Rattle.comb_order.proofs.ByLabels.{key, sorted_order}
use Rattle.comb_order.proofs.sorted.by_labels.Goals as goal

pub returns : goal.returns
returns c =
    sorted_order c.args.flat.now c.args.ranks.now c.in_ok-parts.parts.items c.sort_by_key.new.self.items c.requires
    (λ p. Fits-lt-pow (c.type_inv.ranks p)) c.in_ok-parts.ensures.count c.in_ok-parts.ensures.each
    (length_permutation _ _ c.in_ok-sort_by_key.ensures.permutation) c.in_ok-sort_by_key.ensures.permutation
    (IsNonDecreasingBy-from_sort_by_key (key c.args.ranks.now) _ c.in_ok-sort_by_key.ensures.sorted
    (λ a r q k. search rules))
