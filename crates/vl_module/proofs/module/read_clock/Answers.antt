use Rattle.std.proofs.Common.{◌+◌}
use Rattle.vl_tree.specs.declared.token.Key.TheVariants as w
use Rattle.vl_tree.specs.declared.token.Mark.TheVariants as m
use Rattle.vl_tree.specs.Grammar.{word, mark, name_at}
use Rattle.vl_module.specs.Reading.{Any, one}
use Rattle.vl_module.specs.Rules.{clock_at}
use Rattle.vl_module.proofs.Pieces.{fails, took_lead, no_lead_1, no_lead_2, took_trail, no_trail_1, no_trail_2}
use Rattle.vl_module.proofs.Chains.{clock_name, clock_edge, clock_open, clock_mark}
use Rattle.vl_module.proofs.module.read_clock.Goals as goal

pub returns-in_err-rest : goal.returns-in_err-rest
returns-in_err-rest c =
    record {
      reads = fails (one (word c.args.depth w.Always)) Any _ (λ clock. clock) (clock_at c.args.depth) Any _
          (λ n. no_lead_1 (word c.args.depth w.Always) (clock_mark c.args.depth) _ n) c.in_err-rest.field-0.0 c.in_err-rest.ensures.reads
          c.from_residual.result c.from_residual.ensures.1;
    }

pub returns-in_err-rest-2 : goal.returns-in_err-rest-2
returns-in_err-rest-2 c =
    record {
      reads = fails (one (mark c.args.depth m.At)) Any _ (λ clock. clock) (clock_at c.args.depth) Any _
          (λ n. no_lead_2 (word c.args.depth w.Always) (clock_mark c.args.depth) _ _ c.in_ok-rest.ensures.reads
          (no_lead_1 (mark c.args.depth m.At) (clock_open c.args.depth) _ n)) c.in_err-rest-2.field-0.0 c.in_err-rest-2.ensures.reads
          c.from_residual-in_err-rest-2.result c.from_residual-in_err-rest-2.ensures.1;
    }

pub returns-in_err-rest-3 : goal.returns-in_err-rest-3
returns-in_err-rest-3 c =
    record {
      reads = fails (one (mark c.args.depth m.OpenParen)) Any _ (λ clock. clock) (clock_at c.args.depth) Any _
          (λ n. no_lead_2 (word c.args.depth w.Always) (clock_mark c.args.depth) _ _ c.in_ok-rest.ensures.reads
          (no_lead_2 (mark c.args.depth m.At) (clock_open c.args.depth) _ _ c.in_ok-rest-2.ensures.reads
          (no_lead_1 (mark c.args.depth m.OpenParen) (clock_edge c.args.depth) _ n))) c.in_err-rest-3.field-0.0 c.in_err-rest-3.ensures.reads
          c.from_residual-in_err-rest-3.result c.from_residual-in_err-rest-3.ensures.1;
    }

pub returns-in_err-rest-4 : goal.returns-in_err-rest-4
returns-in_err-rest-4 c =
    record {
      reads = fails (one (word (c.args.depth + 1) w.Posedge)) Any _ (λ clock. clock) (clock_at c.args.depth) Any _
          (λ n. no_lead_2 (word c.args.depth w.Always) (clock_mark c.args.depth) _ _ c.in_ok-rest.ensures.reads
          (no_lead_2 (mark c.args.depth m.At) (clock_open c.args.depth) _ _ c.in_ok-rest-2.ensures.reads
          (no_lead_2 (mark c.args.depth m.OpenParen) (clock_edge c.args.depth) _ _ c.in_ok-rest-3.ensures.reads
          (no_lead_1 (word (c.args.depth + 1) w.Posedge) (clock_name c.args.depth) _ n)))) c.in_err-rest-4.field-0.0 c.in_err-rest-4.ensures.reads
          c.from_residual-in_err-rest-4.result c.from_residual-in_err-rest-4.ensures.1;
    }

pub returns-in_err-clock : goal.returns-in_err-clock
returns-in_err-clock c =
    record {
      reads = fails (name_at (c.args.depth + 1)) Any _ (λ clock. clock) (clock_at c.args.depth) Any _
          (λ n. no_lead_2 (word c.args.depth w.Always) (clock_mark c.args.depth) _ _ c.in_ok-rest.ensures.reads
          (no_lead_2 (mark c.args.depth m.At) (clock_open c.args.depth) _ _ c.in_ok-rest-2.ensures.reads
          (no_lead_2 (mark c.args.depth m.OpenParen) (clock_edge c.args.depth) _ _ c.in_ok-rest-3.ensures.reads
          (no_lead_2 (word (c.args.depth + 1) w.Posedge) (clock_name c.args.depth) _ _ c.in_ok-rest-4.ensures.reads
          (no_trail_1 (name_at (c.args.depth + 1)) Any (mark c.args.depth m.CloseParen) (λ a z q. tt) _ n))))) c.in_err-clock.field-0.0 c.in_err-clock.ensures.reads
          c.from_residual-in_err-clock.result c.from_residual-in_err-clock.ensures.1;
    }

pub returns-in_err-rest-5 : goal.returns-in_err-rest-5
returns-in_err-rest-5 c =
    record {
      reads = fails (one (mark c.args.depth m.CloseParen)) Any _ (λ clock. clock) (clock_at c.args.depth) Any _
          (λ n. no_lead_2 (word c.args.depth w.Always) (clock_mark c.args.depth) _ _ c.in_ok-rest.ensures.reads
          (no_lead_2 (mark c.args.depth m.At) (clock_open c.args.depth) _ _ c.in_ok-rest-2.ensures.reads
          (no_lead_2 (mark c.args.depth m.OpenParen) (clock_edge c.args.depth) _ _ c.in_ok-rest-3.ensures.reads
          (no_lead_2 (word (c.args.depth + 1) w.Posedge) (clock_name c.args.depth) _ _ c.in_ok-rest-4.ensures.reads
          (no_trail_2 (name_at (c.args.depth + 1)) Any (mark c.args.depth m.CloseParen) (λ a z q. tt) _ _ _ c.in_ok-clock.ensures.reads n))))) c.in_err-rest-5.field-0.0 c.in_err-rest-5.ensures.reads
          c.from_residual-in_err-rest-5.result c.from_residual-in_err-rest-5.ensures.1;
    }

pub returns : goal.returns
returns c =
    record {
      reads = took_lead (word c.args.depth w.Always) (clock_mark c.args.depth) _ _ c.in_ok-rest.ensures.reads _ _
          (took_lead (mark c.args.depth m.At) (clock_open c.args.depth) _ _ c.in_ok-rest-2.ensures.reads _ _
          (took_lead (mark c.args.depth m.OpenParen) (clock_edge c.args.depth) _ _ c.in_ok-rest-3.ensures.reads _ _
          (took_lead (word (c.args.depth + 1) w.Posedge) (clock_name c.args.depth) _ _ c.in_ok-rest-4.ensures.reads _ _
          (took_trail (name_at (c.args.depth + 1)) Any (mark c.args.depth m.CloseParen) (λ a z q. tt) _ _ _ c.in_ok-clock.ensures.reads _ c.in_ok-rest-5.ensures.reads))));
    }
