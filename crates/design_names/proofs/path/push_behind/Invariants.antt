use Rattle.std.proofs.Common.{◌≡◌, ◌++◌, drop, map}
use Rattle.design_names.specs.Shown.{scope_at}
use Rattle.design_names.specs.Path.{dotted_behind}
use Rattle.design_names.proofs.path.push_behind.Given as goal

-- what was pushed, and the names of what is left
abbrev pub invariant-loop-scope : goal.invariant-loop-scope
invariant-loop-scope l =
    l.text.items ++ dotted_behind (map (λ k. (scope_at l.flat k).name) (drop l.scope-index l.scopes))
    ≡ l.fn.text.items ++ dotted_behind (map (λ k. (scope_at l.flat k).name) l.scopes)
