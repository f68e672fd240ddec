use Rattle.std.proofs.Common.{◌+◌}
use Rattle.vl_tree.specs.declared.token.Mark.TheVariants as m
use Rattle.vl_tree.specs.Grammar.{mark}
use Rattle.vl_module.specs.Reading.{Any, one}
use Rattle.vl_module.specs.Rules.{range_at, range_of}
use Rattle.vl_module.proofs.Pieces.{fails, took_lead, no_lead_1, no_lead_2, took_trail, no_trail_1, no_trail_2, took_pair, no_pair_1, no_pair_2}
use Rattle.vl_module.proofs.Chains.{number_at, range_right, range_colon, range_left}
use Rattle.vl_module.proofs.module.read_range.Goals as goal

pub returns-in_err-rest-clause-reads : goal.returns-in_err-rest-clause-reads
returns-in_err-rest-clause-reads c =
    fails (one (mark c.args.depth m.OpenBracket)) Any _ range_of (range_at c.args.depth) Any _
    (λ n. no_lead_1 (mark c.args.depth m.OpenBracket) (range_left c.args.depth) _ n) c.in_err-rest.field-0.0 c.in_err-rest.ensures.reads
    c.from_residual.result c.from_residual.ensures.1

pub returns-in_err-left-clause-reads : goal.returns-in_err-left-clause-reads
returns-in_err-left-clause-reads c =
    fails (number_at (c.args.depth + 1)) Any _ range_of (range_at c.args.depth) Any _
    (λ n. no_lead_2 (mark c.args.depth m.OpenBracket) (range_left c.args.depth) _ _ c.in_ok-rest.ensures.reads
    (no_pair_1 (number_at (c.args.depth + 1)) (range_colon c.args.depth) _ n)) c.in_err-left.field-0.0 c.in_err-left.ensures.reads
    c.from_residual-in_err-left.result c.from_residual-in_err-left.ensures.1

pub returns-in_err-rest-2-clause-reads : goal.returns-in_err-rest-2-clause-reads
returns-in_err-rest-2-clause-reads c =
    fails (one (mark (c.args.depth + 1) m.Colon)) Any _ range_of (range_at c.args.depth) Any _
    (λ n. no_lead_2 (mark c.args.depth m.OpenBracket) (range_left c.args.depth) _ _ c.in_ok-rest.ensures.reads
    (no_pair_2 (number_at (c.args.depth + 1)) (range_colon c.args.depth) _ _ _ c.in_ok-left.ensures.reads
    (no_lead_1 (mark (c.args.depth + 1) m.Colon) (range_right c.args.depth) _ n))) c.in_err-rest-2.field-0.0 c.in_err-rest-2.ensures.reads
    c.from_residual-in_err-rest-2.result c.from_residual-in_err-rest-2.ensures.1

pub returns-in_err-right-clause-reads : goal.returns-in_err-right-clause-reads
returns-in_err-right-clause-reads c =
    fails (number_at (c.args.depth + 1)) Any _ range_of (range_at c.args.depth) Any _
    (λ n. no_lead_2 (mark c.args.depth m.OpenBracket) (range_left c.args.depth) _ _ c.in_ok-rest.ensures.reads
    (no_pair_2 (number_at (c.args.depth + 1)) (range_colon c.args.depth) _ _ _ c.in_ok-left.ensures.reads
    (no_lead_2 (mark (c.args.depth + 1) m.Colon) (range_right c.args.depth) _ _ c.in_ok-rest-2.ensures.reads
    (no_trail_1 (number_at (c.args.depth + 1)) Any (mark c.args.depth m.CloseBracket) (λ a z q. tt) _ n)))) c.in_err-right.field-0.0 c.in_err-right.ensures.reads
    c.from_residual-in_err-right.result c.from_residual-in_err-right.ensures.1

pub returns-in_err-rest-3-clause-reads : goal.returns-in_err-rest-3-clause-reads
returns-in_err-rest-3-clause-reads c =
    fails (one (mark c.args.depth m.CloseBracket)) Any _ range_of (range_at c.args.depth) Any _
    (λ n. no_lead_2 (mark c.args.depth m.OpenBracket) (range_left c.args.depth) _ _ c.in_ok-rest.ensures.reads
    (no_pair_2 (number_at (c.args.depth + 1)) (range_colon c.args.depth) _ _ _ c.in_ok-left.ensures.reads
    (no_lead_2 (mark (c.args.depth + 1) m.Colon) (range_right c.args.depth) _ _ c.in_ok-rest-2.ensures.reads
    (no_trail_2 (number_at (c.args.depth + 1)) Any (mark c.args.depth m.CloseBracket) (λ a z q. tt) _ _ _ c.in_ok-right.ensures.reads n)))) c.in_err-rest-3.field-0.0 c.in_err-rest-3.ensures.reads
    c.from_residual-in_err-rest-3.result c.from_residual-in_err-rest-3.ensures.1

pub returns-clause-reads : goal.returns-clause-reads
returns-clause-reads c =
    took_lead (mark c.args.depth m.OpenBracket) (range_left c.args.depth) _ _ c.in_ok-rest.ensures.reads _ _
    (took_pair (number_at (c.args.depth + 1)) (range_colon c.args.depth) _ _ _ c.in_ok-left.ensures.reads _ _
    (took_lead (mark (c.args.depth + 1) m.Colon) (range_right c.args.depth) _ _ c.in_ok-rest-2.ensures.reads _ _
    (took_trail (number_at (c.args.depth + 1)) Any (mark c.args.depth m.CloseBracket) (λ a z q. tt) _ _ _ c.in_ok-right.ensures.reads _ c.in_ok-rest-3.ensures.reads)))
