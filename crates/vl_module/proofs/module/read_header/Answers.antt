use Rattle.vl_tree.specs.declared.token.Key.TheVariants as w
use Rattle.vl_tree.specs.Grammar.{word, name_at}
use Rattle.vl_module.specs.Reading.{Any, one}
use Rattle.vl_module.specs.Rules.{list_at, header_at, header_of}
use Rattle.vl_module.proofs.Pieces.{fails, took_lead, no_lead_1, no_lead_2, took_pair, no_pair_1, no_pair_2}
use Rattle.vl_module.proofs.Chains.{header_name}
use Rattle.vl_module.proofs.module.read_header.Goals as goal

pub returns-in_err-rest : goal.returns-in_err-rest
returns-in_err-rest c =
    record {
      reads = fails (one (word 0 w.Module)) Any _ header_of header_at Any _
          (λ n. no_lead_1 (word 0 w.Module) header_name _ n) c.in_err-rest.field-0.0 c.in_err-rest.ensures.reads
          c.from_residual.result c.from_residual.ensures.1;
    }

pub returns-in_err-name : goal.returns-in_err-name
returns-in_err-name c =
    record {
      reads = fails (name_at 0) Any _ header_of header_at Any _
          (λ n. no_lead_2 (word 0 w.Module) header_name _ _ c.in_ok-rest.ensures.reads
          (no_pair_1 (name_at 0) list_at _ n)) c.in_err-name.field-0.0 c.in_err-name.ensures.reads
          c.from_residual-in_err-name.result c.from_residual-in_err-name.ensures.1;
    }

pub returns-in_err-ports : goal.returns-in_err-ports
returns-in_err-ports c =
    record {
      reads = fails list_at Any _ header_of header_at Any _
          (λ n. no_lead_2 (word 0 w.Module) header_name _ _ c.in_ok-rest.ensures.reads
          (no_pair_2 (name_at 0) list_at _ _ _ c.in_ok-name.ensures.reads
          (n))) c.in_err-ports.field-0.0 c.in_err-ports.ensures.reads
          c.from_residual-in_err-ports.result c.from_residual-in_err-ports.ensures.1;
    }

pub returns : goal.returns
returns c =
    record {
      reads = took_lead (word 0 w.Module) header_name _ _ c.in_ok-rest.ensures.reads _ _
          (took_pair (name_at 0) list_at _ _ _ c.in_ok-name.ensures.reads _ _ c.in_ok-ports.ensures.reads);
    }
