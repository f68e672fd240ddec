use Rattle.std.proofs.Common.{◌+◌}
use Rattle.vl_tree.specs.declared.token.Mark.TheVariants as m
use Rattle.vl_tree.specs.declared.token.System.TheVariants as s
use Rattle.vl_tree.specs.Token as k
use Rattle.vl_tree.specs.Grammar.{kind, kind_on, mark}
use Rattle.vl_module.specs.Reading.{Any, one}
use Rattle.vl_module.specs.Rules.{shown_end, display_at}
use Rattle.vl_module.proofs.Pieces.{fails, took_lead, no_lead_1, no_lead_2, took_pair, no_pair_1, no_pair_2, took_any_line, no_any_line}
use Rattle.vl_module.proofs.Chains.{string_at, display_format, display_open}
use Rattle.vl_module.proofs.stmt.read_display.Goals as goal

pub returns-in_err-rest-clause-reads : goal.returns-in_err-rest-clause-reads
returns-in_err-rest-clause-reads c =
    fails (λ line. kind_on c.args.depth line (k.system s.Display)) Any _ (λ x. x) (display_at c.args.depth) Any _
    (λ n. no_lead_1 (kind c.args.depth (k.system s.Display)) (display_open c.args.depth) _ (no_any_line c.args.depth (k.system s.Display) _ n)) c.in_err-rest.field-0.0 c.in_err-rest.ensures.reads
    c.from_residual.result c.from_residual.ensures.1

pub returns-in_err-rest-2-clause-reads : goal.returns-in_err-rest-2-clause-reads
returns-in_err-rest-2-clause-reads c =
    fails (one (mark c.args.depth m.OpenParen)) Any _ (λ x. x) (display_at c.args.depth) Any _
    (λ n. no_lead_2 (kind c.args.depth (k.system s.Display)) (display_open c.args.depth) _ _ (took_any_line c.args.depth (k.system s.Display) _ c.in_ok-rest.field-0-0 _ c.in_ok-rest.ensures.reads)
    (no_lead_1 (mark c.args.depth m.OpenParen) (display_format c.args.depth) _ n)) c.in_err-rest-2.field-0.0 c.in_err-rest-2.ensures.reads
    c.from_residual-in_err-rest-2.result c.from_residual-in_err-rest-2.ensures.1

pub returns-in_err-format-clause-reads : goal.returns-in_err-format-clause-reads
returns-in_err-format-clause-reads c =
    fails (string_at (c.args.depth + 1)) Any _ (λ x. x) (display_at c.args.depth) Any _
    (λ n. no_lead_2 (kind c.args.depth (k.system s.Display)) (display_open c.args.depth) _ _ (took_any_line c.args.depth (k.system s.Display) _ c.in_ok-rest.field-0-0 _ c.in_ok-rest.ensures.reads)
    (no_lead_2 (mark c.args.depth m.OpenParen) (display_format c.args.depth) _ _ c.in_ok-rest-2.ensures.reads
    (no_pair_1 (string_at (c.args.depth + 1)) (shown_end c.args.depth) _ n))) c.in_err-format.field-0.0 c.in_err-format.ensures.reads
    c.from_residual-in_err-format.result c.from_residual-in_err-format.ensures.1

pub returns-in_err-name-clause-reads : goal.returns-in_err-name-clause-reads
returns-in_err-name-clause-reads c =
    fails (shown_end c.args.depth) Any _ (λ x. x) (display_at c.args.depth) Any _
    (λ n. no_lead_2 (kind c.args.depth (k.system s.Display)) (display_open c.args.depth) _ _ (took_any_line c.args.depth (k.system s.Display) _ c.in_ok-rest.field-0-0 _ c.in_ok-rest.ensures.reads)
    (no_lead_2 (mark c.args.depth m.OpenParen) (display_format c.args.depth) _ _ c.in_ok-rest-2.ensures.reads
    (no_pair_2 (string_at (c.args.depth + 1)) (shown_end c.args.depth) _ _ _ c.in_ok-format.ensures.reads
    (n)))) c.in_err-name.field-0.0 c.in_err-name.ensures.reads
    c.from_residual-in_err-name.result c.from_residual-in_err-name.ensures.1

pub returns-clause-reads : goal.returns-clause-reads
returns-clause-reads c =
    took_lead (kind c.args.depth (k.system s.Display)) (display_open c.args.depth) _ _ (took_any_line c.args.depth (k.system s.Display) _ c.in_ok-rest.field-0-0 _ c.in_ok-rest.ensures.reads) _ _
    (took_lead (mark c.args.depth m.OpenParen) (display_format c.args.depth) _ _ c.in_ok-rest-2.ensures.reads _ _
    (took_pair (string_at (c.args.depth + 1)) (shown_end c.args.depth) _ _ _ c.in_ok-format.ensures.reads _ _ c.in_ok-name.ensures.reads))
