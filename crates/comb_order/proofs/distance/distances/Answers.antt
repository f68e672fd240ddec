use Rattle.std.proofs.Common.{rules, ℕ, ◌≡◌, List, length, sym, subst, arith}
use Rattle.std.proofs.lemmas.List.{with_items_is}
use Rattle.comb_order.specs.Distance.{AreDistances}
use Rattle.comb_order.proofs.Distances.{are_distances}
use Rattle.comb_order.proofs.distance.distances.Goals as goal

pub returns-then-not-branch : goal.returns-then-not-branch
returns-then-not-branch c =
    let long : length c.shorten.new.ranks ≡ c.loop-ranks.ranks.len =
    omega (arith, c.shorten.auto.ranks, c.deref_mut.ensures.len) in
    subst (λ (r : List ℕ). AreDistances c.args.flat.now c.args.to r)
    (sym (with_items_is c.loop-ranks.ranks c.shorten.new.ranks long))
    (are_distances c.args.flat.now c.args.to c.shorten.new.ranks c.in_ok-ranks.ensures.few
    c.in_ok-shorten.ensures.supported (c.in_ok-shorten.ensures.settled (search rules)))
