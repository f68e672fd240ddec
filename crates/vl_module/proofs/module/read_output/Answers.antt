use Rattle.vl_tree.specs.declared.token.Key.TheVariants as w
use Rattle.vl_tree.specs.Grammar.{word, name_at}
use Rattle.vl_module.specs.Reading.{Any, one}
use Rattle.vl_module.specs.Rules.{range_at, output_at, output_of}
use Rattle.vl_module.proofs.Pieces.{fails, took_lead, no_lead_1, no_lead_2, took_pair, no_pair_1, no_pair_2}
use Rattle.vl_module.proofs.Chains.{output_range, output_reg}
use Rattle.vl_module.proofs.module.read_output.Goals as goal

pub returns-in_err-rest-clause-reads : goal.returns-in_err-rest-clause-reads
returns-in_err-rest-clause-reads c =
    fails (one (word c.args.depth w.Output)) Any _ output_of (output_at c.args.depth) Any _
    (λ n. no_lead_1 (word c.args.depth w.Output) (output_reg c.args.depth) _ n) c.in_err-rest.field-0.0 c.in_err-rest.ensures.reads
    c.from_residual.result c.from_residual.ensures.1

pub returns-in_err-rest-2-clause-reads : goal.returns-in_err-rest-2-clause-reads
returns-in_err-rest-2-clause-reads c =
    fails (one (word c.args.depth w.Reg)) Any _ output_of (output_at c.args.depth) Any _
    (λ n. no_lead_2 (word c.args.depth w.Output) (output_reg c.args.depth) _ _ c.in_ok-rest.ensures.reads
    (no_lead_1 (word c.args.depth w.Reg) (output_range c.args.depth) _ n)) c.in_err-rest-2.field-0.0 c.in_err-rest-2.ensures.reads
    c.from_residual-in_err-rest-2.result c.from_residual-in_err-rest-2.ensures.1

pub returns-in_err-range-clause-reads : goal.returns-in_err-range-clause-reads
returns-in_err-range-clause-reads c =
    fails (range_at c.args.depth) Any _ output_of (output_at c.args.depth) Any _
    (λ n. no_lead_2 (word c.args.depth w.Output) (output_reg c.args.depth) _ _ c.in_ok-rest.ensures.reads
    (no_lead_2 (word c.args.depth w.Reg) (output_range c.args.depth) _ _ c.in_ok-rest-2.ensures.reads
    (no_pair_1 (range_at c.args.depth) (name_at c.args.depth) _ n))) c.in_err-range.field-0.0 c.in_err-range.ensures.reads
    c.from_residual-in_err-range.result c.from_residual-in_err-range.ensures.1

pub returns-in_err-name-clause-reads : goal.returns-in_err-name-clause-reads
returns-in_err-name-clause-reads c =
    fails (name_at c.args.depth) Any _ output_of (output_at c.args.depth) Any _
    (λ n. no_lead_2 (word c.args.depth w.Output) (output_reg c.args.depth) _ _ c.in_ok-rest.ensures.reads
    (no_lead_2 (word c.args.depth w.Reg) (output_range c.args.depth) _ _ c.in_ok-rest-2.ensures.reads
    (no_pair_2 (range_at c.args.depth) (name_at c.args.depth) _ _ _ c.in_ok-range.ensures.reads
    (n)))) c.in_err-name.field-0.0 c.in_err-name.ensures.reads
    c.from_residual-in_err-name.result c.from_residual-in_err-name.ensures.1

pub returns-clause-reads : goal.returns-clause-reads
returns-clause-reads c =
    took_lead (word c.args.depth w.Output) (output_reg c.args.depth) _ _ c.in_ok-rest.ensures.reads _ _
    (took_lead (word c.args.depth w.Reg) (output_range c.args.depth) _ _ c.in_ok-rest-2.ensures.reads _ _
    (took_pair (range_at c.args.depth) (name_at c.args.depth) _ _ _ c.in_ok-range.ensures.reads _ _ c.in_ok-name.ensures.reads))
