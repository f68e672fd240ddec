use Rattle.vl_tree.specs.declared.token.Mark.TheVariants as m
use Rattle.vl_tree.specs.Grammar.{mark, name_at, expr_at}
use Rattle.vl_module.specs.Reading.{Any, one}
use Rattle.vl_module.specs.Rules.{Ends, assign_at, assign_of}
use Rattle.vl_module.proofs.Pieces.{fails, took_lead, no_lead_1, no_lead_2, took_trail, no_trail_1, no_trail_2, took_pair, no_pair_1, no_pair_2}
use Rattle.vl_module.proofs.ExprRules.{semicolon_ends}
use Rattle.vl_module.proofs.Chains.{assign_value, assign_arrow}
use Rattle.vl_module.proofs.stmt.read_assign.Goals as goal

pub returns-in_err-name-clause-reads : goal.returns-in_err-name-clause-reads
returns-in_err-name-clause-reads c =
    fails (name_at c.args.depth) Any _ assign_of (assign_at c.args.depth) Any _
    (λ n. no_pair_1 (name_at c.args.depth) (assign_arrow c.args.depth) _ n) c.in_err-name.field-0.0 c.in_err-name.ensures.reads
    c.from_residual.result c.from_residual.ensures.1

pub returns-in_err-rest-clause-reads : goal.returns-in_err-rest-clause-reads
returns-in_err-rest-clause-reads c =
    fails (one (mark c.args.depth m.LessEqual)) Any _ assign_of (assign_at c.args.depth) Any _
    (λ n. no_pair_2 (name_at c.args.depth) (assign_arrow c.args.depth) _ _ _ c.in_ok-name.ensures.reads
    (no_lead_1 (mark c.args.depth m.LessEqual) (assign_value c.args.depth) _ n)) c.in_err-rest.field-0.0 c.in_err-rest.ensures.reads
    c.from_residual-in_err-rest.result c.from_residual-in_err-rest.ensures.1

pub returns-in_err-value-clause-reads : goal.returns-in_err-value-clause-reads
returns-in_err-value-clause-reads c =
    fails (expr_at c.args.depth) Ends _ assign_of (assign_at c.args.depth) Any _
    (λ n. no_pair_2 (name_at c.args.depth) (assign_arrow c.args.depth) _ _ _ c.in_ok-name.ensures.reads
    (no_lead_2 (mark c.args.depth m.LessEqual) (assign_value c.args.depth) _ _ c.in_ok-rest.ensures.reads
    (no_trail_1 (expr_at c.args.depth) Ends (mark c.args.depth m.Semicolon) (semicolon_ends c.args.depth) _ n))) c.in_err-value.field-0.0 c.in_err-value.ensures.reads
    c.from_residual-in_err-value.result c.from_residual-in_err-value.ensures.1

pub returns-in_err-rest-2-clause-reads : goal.returns-in_err-rest-2-clause-reads
returns-in_err-rest-2-clause-reads c =
    fails (one (mark c.args.depth m.Semicolon)) Any _ assign_of (assign_at c.args.depth) Any _
    (λ n. no_pair_2 (name_at c.args.depth) (assign_arrow c.args.depth) _ _ _ c.in_ok-name.ensures.reads
    (no_lead_2 (mark c.args.depth m.LessEqual) (assign_value c.args.depth) _ _ c.in_ok-rest.ensures.reads
    (no_trail_2 (expr_at c.args.depth) Ends (mark c.args.depth m.Semicolon) (semicolon_ends c.args.depth) _ _ _ c.in_ok-value.ensures.reads n))) c.in_err-rest-2.field-0.0 c.in_err-rest-2.ensures.reads
    c.from_residual-in_err-rest-2.result c.from_residual-in_err-rest-2.ensures.1

pub returns-clause-reads : goal.returns-clause-reads
returns-clause-reads c =
    took_pair (name_at c.args.depth) (assign_arrow c.args.depth) _ _ _ c.in_ok-name.ensures.reads _ _
    (took_lead (mark c.args.depth m.LessEqual) (assign_value c.args.depth) _ _ c.in_ok-rest.ensures.reads _ _
    (took_trail (expr_at c.args.depth) Ends (mark c.args.depth m.Semicolon) (semicolon_ends c.args.depth) _ _ _ c.in_ok-value.ensures.reads _ c.in_ok-rest-2.ensures.reads))
