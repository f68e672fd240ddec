use Rattle.vl_module.specs.Reading.{Any}
use Rattle.vl_module.specs.Rules.{block_at, clock_at, clocked_at, clocked_of}
use Rattle.vl_module.proofs.Pieces.{fails, took_pair, no_pair_1, no_pair_2}
use Rattle.vl_module.proofs.module.read_always.Goals as goal

pub returns-in_err-clock : goal.returns-in_err-clock
returns-in_err-clock c =
    record {
      reads = fails (clock_at c.args.depth) Any _ clocked_of (clocked_at c.args.depth) Any _
          (λ n. no_pair_1 (clock_at c.args.depth) (block_at c.args.depth) _ n) c.in_err-clock.field-0.0 c.in_err-clock.ensures.reads
          c.from_residual.result c.from_residual.ensures.1;
    }

pub returns-in_err-body : goal.returns-in_err-body
returns-in_err-body c =
    record {
      reads = fails (block_at c.args.depth) Any _ clocked_of (clocked_at c.args.depth) Any _
          (λ n. no_pair_2 (clock_at c.args.depth) (block_at c.args.depth) _ _ _ c.in_ok-clock.ensures.reads
          (n)) c.in_err-body.field-0.0 c.in_err-body.ensures.reads
          c.from_residual-in_err-body.result c.from_residual-in_err-body.ensures.1;
    }

pub returns : goal.returns
returns c =
    record { reads = took_pair (clock_at c.args.depth) (block_at c.args.depth) _ _ _ c.in_ok-clock.ensures.reads _ _ c.in_ok-body.ensures.reads }
