use Rattle.std.proofs.Common.{◌≡◌, ◌++◌, ◌∷◌, [], List, All, sym, ap, ◌∙◌, subst, append_assoc, arith, length}
use Rattle.std.proofs.lemmas.List.{length-append}
use Rattle.std.specs.Vec.Iter.{into_iter_items}
use Rattle.named_run.specs.Named.{HasShape}
use Rattle.named_run.specs.declared.token.Token.{Token}
use Rattle.token_chan.specs.Names.{Name}
use Rattle.token_chan.proofs.ReturnSteps.{begins, names, sends, learns_no_room, is_filled_more}
use Rattle.token_chan.proofs.Shapes.{middle}
use Rattle.token_chan.proofs.open.open_returns.Goals as goal

pub ruled-requires-clause-rule : goal.ruled-requires-clause-rule
ruled-requires-clause-rule g c = begins

pub another-requires-clause-rule : goal.another-requires-clause-rule
another-requires-clause-rule g c = names _ _ _ c.in_ok-returns.ensures.3

pub push_as-requires-clause-rule : goal.push_as-requires-clause-rule
push_as-requires-clause-rule g c =
    let at = c.loop-blank in let is = at.invariant.1 in let x = g.C.ChannelName.name in
    let P : Token → Type 0 = HasShape x.run x.channel in
    let steps : into_iter_items at.blank-iterator ≡ c.in-Some.blank ∷ into_iter_items c.next.new.self = c.in-Some.ensures.steps.0 in
    let all : at.yielded ++ c.in-Some.blank ∷ into_iter_items c.next.new.self ≡ c.args.blanks.items =
    ap (λ (l : List Token). at.yielded ++ l) (sym steps) ∙ at.invariant.2 ∙ c.into_iter-blank-iterator.ensures.into_iter_gives.0 in
    let shape : P c.in-Some.blank = middle P at.yielded _ c.in-Some.blank (subst (All P) (sym all) c.requires.blanks) in (
      sends _ _ _ _ is.hands_back (ap (λ (y : Name). y.depth) is.name ∙ c.requires.depth ∙ sym c.in_ok-returns.ensures.0)
          (subst (λ (z : Name). HasShape z.run z.channel c.in-Some.blank) (sym is.name) shape),
      learns_no_room _ _ is.hands_back,
    )

pub unreachable-requires : goal.unreachable-requires
unreachable-requires g c =
    let at = c.loop-blank in let is = at.invariant.1 in
    let steps : into_iter_items at.blank-iterator ≡ c.in-Some.blank ∷ into_iter_items c.next.new.self = c.in-Some.ensures.steps.0 in
    let all : at.yielded ++ c.in-Some.blank ∷ into_iter_items c.next.new.self ≡ c.args.blanks.items =
    ap (λ (l : List Token). at.yielded ++ l) (sym steps) ∙ at.invariant.2 ∙ c.into_iter-blank-iterator.ensures.into_iter_gives.0 in
    let long = sym (length-append at.yielded _) ∙ ap (λ (l : List Token). length l) all in
    let returned = ap (λ (l : List Token). length l) is.returned in let count = c.requires.count in let cap = c.in_ok-returns.ensures.0 in
    let held = c.in-Err.ensures.rule.2 in let many = held.1 in let full = held.2.2 in
    omega (arith, long, returned, count, cap, many, full)

pub loop-blank-preserved : goal.loop-blank-preserved
loop-blank-preserved g c =
    let at = c.loop-blank in let x = c.in-Some.blank in let returned = c.in-Ok.ensures in
    let steps : into_iter_items at.blank-iterator ≡ x ∷ into_iter_items c.next.new.self = c.in-Some.ensures.steps.0 in
    let here : at.yielded ++ x ∷ into_iter_items c.next.new.self ≡ at.yielded ++ into_iter_items at.blank-iterator =
    ap (λ (l : List Token). at.yielded ++ l) (sym steps) in (
      (returned.queue.0 ∙ at.invariant.0.0, returned.queue.2 ∙ at.invariant.0.1),
      is_filled_more _ _ _ x _ at.invariant.1 returned.rule,
      append_assoc at.yielded (x ∷ []) (into_iter_items c.next.new.self) ∙ here ∙ at.invariant.2,
      let was = at.invariant.3 in let gone = c.in-Some.ensures.steps.1 in let short = ap (λ (l : List Token). length l) steps in
          omega (arith, was, gone, short),
    )
