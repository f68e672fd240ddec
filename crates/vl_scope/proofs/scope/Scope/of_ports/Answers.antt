use Rattle.std.proofs.Common.{◌≡◌, ◌+◌, ◌-◌, ◌<◌, ◌&&◌, length, nat_eq, sym, ap, ◌∙◌, arith}
use Rattle.std.specs.Cmp.Lexicographic.{pointwise}
use Rattle.indexmap.specs.IndexMap.{get}
use Rattle.vl_tree.specs.View.{port}
use Rattle.vl_meaning.specs.Objects.{port_name}
use Rattle.vl_scope.proofs.Numbers.{numbers_more, distinct_more}
use Rattle.vl_scope.proofs.scope.Scope.of_ports.Goals as goal
use Rattle.vl_scope.proofs.scope.Scope.of_ports.Goals.{then-is_new, else-is_new}

pub loop-i-preserved : goal.loop-i-preserved
loop-i-preserved c =
    let j = c.loop-i.i - 1 in
    let p = c.index-ports-i.result in
    let up : j + 1 ≡ c.loop-i.i = omega arith in
    let below : j < length c.args.ports.now = omega arith in
    let named : c.in_ok-name.name ≡ port_name (port p) = c.in_ok-name.ensures ∙ c.bytes.ensures ∙ c.name_of.ensures in
    let both : c.if-is_new.distinct ≡ (c.in_ok-is_new.is_new && c.loop-i.distinct) =
    elim c.if-is_new.branch [
      | then-is_new w ↦ w.distinct-is ∙ ap (λ b. b && c.loop-i.distinct) (sym w.if-is_new.true)
      | else-is_new w ↦ w.distinct-is ∙ w.if-is_new.false ∙ ap (λ b. b && c.loop-i.distinct) (sym w.if-is_new.false)
    ] in
    record {
      numbers = λ x. numbers_more c.args.ports.now j c.loop-i.i up p below c.index-ports-i.is c.in_ok-name.name named x
          (get (pointwise nat_eq) c.loop-i.numbers x) _ (c.loop-i.invariant.numbers x) (c.in_ok-is_new.ensures.updates.0 x);
      distinct = distinct_more c.args.ports.now j c.loop-i.i up p below c.index-ports-i.is c.in_ok-name.name named c.in_ok-is_new.is_new c.loop-i.distinct _
          (get (pointwise nat_eq) c.loop-i.numbers c.in_ok-name.name) (c.loop-i.invariant.numbers c.in_ok-name.name) c.in_ok-is_new.ensures.new c.loop-i.invariant.distinct both;
    }
