use Rattle.vl_tree.specs.declared.token.Mark.TheVariants as m
use Rattle.vl_tree.specs.declared.token.System.TheVariants as s
use Rattle.vl_tree.specs.Token as k
use Rattle.vl_tree.specs.Grammar.{kind_on, mark}
use Rattle.vl_module.specs.Reading.{Any, one}
use Rattle.vl_module.specs.Rules.{stop_at}
use Rattle.vl_module.proofs.Pieces.{fails, took_trail, no_trail_1, no_trail_2}
use Rattle.vl_module.proofs.stmt.read_stop.Goals as goal

pub returns-in_err-line-clause-reads : goal.returns-in_err-line-clause-reads
returns-in_err-line-clause-reads c =
    fails (λ line. kind_on c.args.depth line (k.system s.Stop)) Any _ (λ line. line) (stop_at c.args.depth) Any _
    (λ n. no_trail_1 (λ line. kind_on c.args.depth line (k.system s.Stop)) Any (mark c.args.depth m.Semicolon) (λ a z q. tt) _ n) c.in_err-line.field-0.0 c.in_err-line.ensures.reads
    c.from_residual.result c.from_residual.ensures.1

pub returns-in_err-rest-clause-reads : goal.returns-in_err-rest-clause-reads
returns-in_err-rest-clause-reads c =
    fails (one (mark c.args.depth m.Semicolon)) Any _ (λ line. line) (stop_at c.args.depth) Any _
    (λ n. no_trail_2 (λ line. kind_on c.args.depth line (k.system s.Stop)) Any (mark c.args.depth m.Semicolon) (λ a z q. tt) _ _ _ c.in_ok-line.ensures.reads n) c.in_err-rest.field-0.0 c.in_err-rest.ensures.reads
    c.from_residual-in_err-rest.result c.from_residual-in_err-rest.ensures.1

pub returns-clause-reads : goal.returns-clause-reads
returns-clause-reads c =
    took_trail (λ line. kind_on c.args.depth line (k.system s.Stop)) Any (mark c.args.depth m.Semicolon) (λ a z q. tt) _ _ _ c.in_ok-line.ensures.reads _ c.in_ok-rest.ensures.reads
