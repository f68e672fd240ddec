use Rattle.std.proofs.Common.{◌≡◌, ◌+◌, ◌∷◌, ◌||◌, map, drop, sym, ap, ◌∙◌}
use Rattle.std.proofs.lemmas.List.{drop_more, drop_all}
use Rattle.vl_tree.specs.SyntaxView as view
use Rattle.vl_design.specs.Lists.{each_of}
use Rattle.vl_design.specs.Declarations.{is_any_name, local_names}
use Rattle.vl_frames.specs.Named.{local_named, named}
use Rattle.vl_frames.proofs.Noted.{hidden_on, hidden_end, any_joined}
use Rattle.vl_frames.proofs.notes.hide_declarations.Goals as goal

pub loop-declaration-preserved : goal.loop-declaration-preserved
loop-declaration-preserved c =
    let xs = c.args.declarations.now in let k = c.loop-declaration.declaration-index in
    let e : drop k xs ≡ c.declaration-item.result ∷ drop (k + 1) xs = drop_more xs k c.declaration-item.result c.loop-declaration-test.true ∙ ap (λ y. y ∷ drop (k + 1) xs) (sym c.declaration-item.is) in
    record {
      sight = hidden_on _ _ (named c.names_of.result.now) (local_named (drop (k + 1) xs)) (local_named (drop k xs)) _ (ap local_named e ∙ (λ i x. any_joined x (local_names (view.function_declaration c.declaration-item.result)) (each_of local_names (map view.function_declaration (drop (k + 1) xs))) i) ∙ (λ i x. is_any_name x (sym c.names_of.ensures i) || local_named (drop (k + 1) xs) x)) c.in_ok-hide_names.ensures c.loop-declaration.invariant.sight;
      outer = c.in_ok-hide_names.ensures.outer ∙ c.loop-declaration.invariant.outer;
    }

pub returns : goal.returns
returns c =
    let xs = c.args.declarations.now in let k = c.loop-declaration.declaration-index in
    record {
      sight = hidden_end c.loop-declaration.frames (local_named (drop k xs)) _ (ap local_named (drop_all k xs c.loop-declaration-test.false)) c.loop-declaration.invariant.sight;
      outer = c.loop-declaration.invariant.outer;
    }
