use Rattle.std.proofs.Common.{◌≡◌, ◌∷◌, [], ◌++◌, map, append-nil}
use Rattle.std.proofs.lemmas.Result.{err_from_is_err_and}
use Rattle.vl_tree.specs.SyntaxView as plain
use Rattle.vl_simple.proofs.Steps.{fails_at, after_part}
use Rattle.vl_source.proofs.ModuleRules as rule
use Rattle.vl_source.proofs.module.read_modules.Goals as goal

pub loop-modules-init : goal.loop-modules-init
loop-modules-init c = record {
  took = λ xs rest p. rw c.new-modules.ensures p;
  fails = λ e r. r;
}

pub returns-in-None : goal.returns-in-None
returns-in-None c = record {
  reads = rw (← append-nil (map plain.module_tree c.loop-modules.modules))
      (c.loop-modules.invariant.took [] _ (rule.source_none c.loop-modules.rest c.in-None.ensures.reads));
}

pub returns-in_err-tree-in-Some : goal.returns-in_err-tree-in-Some
returns-in_err-tree-in-Some c =
    let p = err_from_is_err_and c.from_residual.result c.from_residual.ensures.1 in
    record {
      reads = rw (p.1, p.2) (c.loop-modules.invariant.fails c.in_err-tree-in-Some.field-0.0
          (fails_at (rule.module_next (plain.place c.in-Some.place))
          (rule.source_part (plain.place c.in-Some.place) c.loop-modules.rest _ c.in-Some.ensures.reads)
          c.in_err-tree-in-Some.field-0.0 c.in_err-tree-in-Some.ensures.reads));
    }

pub loop-modules-preserved : goal.loop-modules-preserved
loop-modules-preserved c =
    let k =
    after_part (rule.module_next (plain.place c.in-Some.place))
    (rule.source_part (plain.place c.in-Some.place) c.loop-modules.rest _ c.in-Some.ensures.reads) _ _
    c.in_ok-tree-in-Some.ensures.reads in
    let e : c.push.new.self ≡ c.loop-modules.modules ++ c.in_ok-tree-in-Some.tree ∷ [] = c.in_ok-push-in-Some.ensures.ok in
    record {
      took = λ xs rest p. rw (e, rule.map_one) (c.loop-modules.invariant.took (plain.module_tree c.in_ok-tree-in-Some.tree ∷ xs) rest
          (k.took xs rest p));
      fails = λ e r. c.loop-modules.invariant.fails e (k.fails e r);
    }
