use Rattle.std.proofs.Common.{subst, sym, ◌∙◌, length, map}
use Rattle.std.proofs.lemmas.List.{length-map}
use Rattle.vl_tree.specs.Token.{coded, all_coded}
use Rattle.vl_tree.specs.SyntaxView.{module_tree}
use Rattle.vl_tree.specs.Modules.{source_at}
use Rattle.vl_tree.specs.Depth.{source_depths}
use Rattle.vl_read.specs.Reading.{Took, Refuses}
use Rattle.vl_source.specs.Readers.{NoModule}
use Rattle.vl_source.proofs.Whole.{refused, left_over, parsed, only_parsed}
use Rattle.vl_source.proofs.parse_source.Goals as goal

pub returns-then-left-eq0-clause-parses : goal.returns-then-left-eq0-clause-parses
returns-then-left-eq0-clause-parses c =
    parsed (all_coded c.args.tokens.now) (length c.args.tokens.now) (sym (length-map c.args.tokens.now coded))
    (map module_tree c.in-Ok.modules) c.in-Ok.rest
    (subst (λ us. Took source_at source_depths NoModule NoModule (map module_tree c.in-Ok.modules) us c.in-Ok.rest) c.over.ensures
    c.in-Ok.ensures.reads)
    (sym c.left-left.ensures ∙ c.if-left-eq0.true)

pub returns-then-left-eq0-clause-only : goal.returns-then-left-eq0-clause-only
returns-then-left-eq0-clause-only c =
    only_parsed (all_coded c.args.tokens.now) (length c.args.tokens.now) (sym (length-map c.args.tokens.now coded))
    (map module_tree c.in-Ok.modules) c.in-Ok.rest
    (subst (λ us. Took source_at source_depths NoModule NoModule (map module_tree c.in-Ok.modules) us c.in-Ok.rest) c.over.ensures
    c.in-Ok.ensures.reads)
    (sym c.left-left.ensures ∙ c.if-left-eq0.true)

pub returns-else-left-eq0-clause-parses : goal.returns-else-left-eq0-clause-parses
returns-else-left-eq0-clause-parses c =
    rw c.told.ensures
    (left_over (all_coded c.args.tokens.now) (length c.args.tokens.now) (sym (length-map c.args.tokens.now coded))
    (map module_tree c.in-Ok.modules) c.in-Ok.rest
    (subst (λ us. Took source_at source_depths NoModule NoModule (map module_tree c.in-Ok.modules) us c.in-Ok.rest) c.over.ensures
    c.in-Ok.ensures.reads)
    _ c.left-left.ensures c.if-left-eq0.false)

pub returns-in-Err-clause-parses : goal.returns-in-Err-clause-parses
returns-in-Err-clause-parses c =
    rw c.told-in-Err.ensures
    (refused (all_coded c.args.tokens.now) (length c.args.tokens.now) (sym (length-map c.args.tokens.now coded)) c.in-Err.fault
    (subst (λ us. Refuses source_at source_depths NoModule NoModule us c.in-Err.fault) c.over.ensures c.in-Err.ensures.reads))
