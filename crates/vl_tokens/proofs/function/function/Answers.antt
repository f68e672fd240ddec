use Rattle.std.proofs.Common.{◌+◌, refl, sym, ap, ◌∙◌, length, map}
use Rattle.vl_tree.specs.SyntaxView as view
use Rattle.vl_tree.specs.Depth.{one_if, function_ports_depths, function_type_depths, function_declaration_depths, each_depth, stmt_depths}
use Rattle.vl_tokens.specs.Counted.{capped}
use Rattle.vl_tokens.proofs.Counting.{sums}
use Rattle.vl_tokens.proofs.DeclarationParts.{whole_tokens}
use Rattle.vl_tokens.proofs.function.function.Goals as goal

pub returns : goal.returns
returns c =
    let f = view.function c.args.f.now in
    let a = length (one_if 0 f.automatic) + (length (one_if 0 f.signed) + length (function_type_depths 0 f.result)) in
    let p = length (function_ports_depths 0 f.ports) in let d = length (each_depth function_declaration_depths 0 f.declarations) in
    let s = length (stmt_depths 0 f.body) in
    sums a (p + (d + (4 + s))) c.plus.ensures c.front.ensures
    (sums p (d + (4 + s)) c.plus-rest.ensures
    (c.ports.ensures ∙ ap (λ y. capped (length (function_ports_depths 0 (map view.function_port y)))) c.as_slice-2.ensures)
    (sums d (4 + s) c.plus-inner.ensures
    (c.declarations.ensures ∙ ap (λ y. capped (length (each_depth function_declaration_depths 0 (map view.function_declaration y)))) c.as_slice.ensures)
    (sums 4 s c.plus-body.ensures refl c.stmt.ensures)))
    ∙ ap capped (sym (whole_tokens f))
