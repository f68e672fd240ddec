use Rattle.std.proofs.Common.{◌≡◌, ℕ, ◌+◌, ◌<◌, List, [], ◌∷◌, length, drop, get_or, map, refl, sym, ap, ◌∙◌}
use Rattle.std.proofs.lemmas.List.{drop_all, drop_more}
use Rattle.vl_tree.specs.SyntaxView as view
use Rattle.vl_tree.specs.declared.item.Instance.{Instance}
use Rattle.vl_opening.specs.Entering.{begins}
use Rattle.vl_opening.proofs.Entering.{walks_begin}
use Rattle.vl_opening.proofs.Passing.{leads_on, leads_end}
use Rattle.vl_opening.proofs.instance.begin_all.Goals as goal

one_further : (all : List Instance) (i : ℕ) (a : Instance) → i < length all → a ≡ get_or all i a
    → map begins (map view.instance (drop i all)) ≡ begins (view.instance a) ∷ map begins (map view.instance (drop (i + 1) all))
one_further all i a below is = ap (λ xs. map begins (map view.instance xs)) (drop_more all i a below)
    ∙ ap (λ (y : Instance). begins (view.instance y) ∷ map begins (map view.instance (drop (i + 1) all))) (sym is)

pub loop-instance-preserved : goal.loop-instance-preserved
loop-instance-preserved c =
    let all = c.args.instances.now in let k = c.loop-instance.instance-index in let x = c.instance-item.result in
    leads_on (map begins (map view.instance all)) (map begins (map view.instance (drop k all))) (begins (view.instance x) ∷ [])
    (map begins (map view.instance (drop (k + 1) all))) c.args.walk.now c.loop-instance.walk
    (record { progress = c.begin_instance.new.self; scopes = c.loop-instance.walk.scopes })
    (one_further all k x c.loop-instance-test.true c.instance-item.is)
    (walks_begin _ c.loop-instance.walk (record { progress = c.begin_instance.new.self; scopes = c.loop-instance.walk.scopes }) refl
    c.begin_instance.ensures)
    c.loop-instance.invariant

pub returns : goal.returns
returns c =
    let all = c.args.instances.now in let k = c.loop-instance.instance-index in
    leads_end (map begins (map view.instance all)) (map begins (map view.instance (drop k all))) c.args.walk.now c.loop-instance.walk
    (ap (λ xs. map begins (map view.instance xs)) (drop_all k all c.loop-instance-test.false)) c.loop-instance.invariant
