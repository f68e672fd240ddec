use Rattle.std.proofs.Common.{◌≡◌, ◌+◌, ◌-◌, ◌<◌, drop, length, arith, subst}
use Rattle.vl_design.specs.Clocks.{clocks_at_top}
use Rattle.vl_paths.specs.Sets.{HoldsPaths}
use Rattle.vl_scopes.specs.Plain.{plain_scopes}
use Rattle.vl_top_clocks.specs.Passing.{AddsClocks}
use Rattle.vl_top_clocks.proofs.Turning.{none_left, one_further}
use Rattle.vl_top_clocks.proofs.clocks.clocks.Goals as goal

pub loop-k-init : goal.loop-k-init
loop-k-init c are = none_left c.args.numbers.now c.new-clocks.result c.args.scopes.now _ (omega arith) c.new-clocks.ensures

pub loop-k-preserved : goal.loop-k-preserved
loop-k-preserved c =
    let cs = c.args.scopes.now in let j = c.loop-k.k - 1 in
    let up : j + 1 ≡ c.loop-k.k = omega arith in
    let below : j < length cs = omega arith in
    let adds : AddsClocks c.args.numbers.now (plain_scopes cs) j c.index-scopes-k.result c.loop-k.clocks c.add_scope.new.clocks =
    subst (λ f. AddsClocks c.args.numbers.now (plain_scopes cs) f c.index-scopes-k.result c.loop-k.clocks c.add_scope.new.clocks)
    c.in-Ok.ensures.1 c.in_ok-add_scope.ensures in
    one_further c.args.numbers.now c.loop-k.clocks c.add_scope.new.clocks cs j c.loop-k.k c.index-scopes-k.result up below
    c.index-scopes-k.is adds c.loop-k.invariant

pub returns : goal.returns
returns c are =
    let none : c.loop-k.k ≡ 0 = omega arith in let ss = plain_scopes c.args.scopes.now in
    subst (λ i. HoldsPaths c.args.numbers.now c.loop-k.clocks ss (clocks_at_top (drop i ss))) none (c.loop-k.invariant are)
