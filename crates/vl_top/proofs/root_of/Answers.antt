use Rattle.std.proofs.Common.{ap, ◌∙◌, filter, not, map, nat_eq}
use Rattle.std.specs.Cmp.Lexicographic.{pointwise}
use Rattle.indexmap.specs.IndexMap.{get}
use Rattle.vl_design.specs.Walk.{only_one, is_instantiated}
use Rattle.vl_top.specs.Names.{tree_of}
use Rattle.vl_top.proofs.Roots.{unused_roots}
use Rattle.vl_top.proofs.root_of.Goals as goal

pub returns : goal.returns
returns c =
    let ms = c.as_slice-modules.result.now in
    c.only_root.ensures ∙ ap only_one (unused_roots (get (pointwise nat_eq) c.in_ok-used.used) (map tree_of ms) c.in_ok-used.ensures ms
    ∙ ap (λ src. filter (λ m. not (is_instantiated src m)) src) (ap (map tree_of) c.as_slice-modules.ensures.value ∙ c.in_ok-first.ensures))
