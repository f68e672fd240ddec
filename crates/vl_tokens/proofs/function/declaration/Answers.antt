use Rattle.std.proofs.Common.{◌+◌, false, refl, sym, ap, ◌∙◌, length, map}
use Rattle.std.specs.Option.{option_map}
use Rattle.vl_tree.specs.SyntaxView as view
use Rattle.vl_tree.specs.Depth.{comma_depths, type_depths, name_depth, function_declaration_depths}
use Rattle.vl_tokens.specs.Counted.{capped, in_list}
use Rattle.vl_tokens.proofs.Counting.{sums}
use Rattle.vl_tokens.proofs.DeclarationParts.{declared_tokens, worded_tokens}
use Rattle.vl_tokens.proofs.function.declaration.Goals as goal

pub returns-in-Inputs : goal.returns-in-Inputs
returns-in-Inputs c =
    let w = c.in-Inputs in
    let ts = type_depths 0 w.signed (option_map view.range w.declared) in let ns = comma_depths name_depth 0 (map view.name w.all) in
    sums (length ts) (2 + length ns) c.plus.ensures c.shape.ensures
    (sums 2 (length ns) c.plus-names.ensures refl (c.names_in_commas.ensures ∙ ap (λ y. capped (in_list name_depth false (map view.name y))) c.as_slice.ensures))
    ∙ ap capped (sym (ap (λ y. length (function_declaration_depths 0 (view.function_declaration y))) w.is ∙ declared_tokens ts ns))

pub returns-in-Variables : goal.returns-in-Variables
returns-in-Variables c =
    let w = c.in-Variables in
    let ts = type_depths 0 w.signed (option_map view.range w.declared) in let ns = comma_depths name_depth 0 (map view.name w.all) in
    sums (length ts) (2 + length ns) c.plus-in-Variables.ensures c.shape-in-Variables.ensures
    (sums 2 (length ns) c.plus-names-in-Variables.ensures refl
    (c.names_in_commas-in-Variables.ensures ∙ ap (λ y. capped (in_list name_depth false (map view.name y))) c.as_slice-in-Variables.ensures))
    ∙ ap capped (sym (ap (λ y. length (function_declaration_depths 0 (view.function_declaration y))) w.is ∙ declared_tokens ts ns))

pub returns-in-Integers : goal.returns-in-Integers
returns-in-Integers c =
    let w = c.in-Integers in let ns = comma_depths name_depth 0 (map view.name w.all) in
    sums 2 (length ns) c.plus-in-Integers.ensures refl
    (c.names_in_commas-in-Integers.ensures ∙ ap (λ y. capped (in_list name_depth false (map view.name y))) c.as_slice-in-Integers.ensures)
    ∙ ap capped (sym (ap (λ y. length (function_declaration_depths 0 (view.function_declaration y))) w.is ∙ worded_tokens ns))
