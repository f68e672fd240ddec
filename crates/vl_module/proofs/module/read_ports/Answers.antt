use Rattle.std.proofs.Common.{◌≡◌, ◌∷◌, [], ◌++◌, map, rules}
use Rattle.vl_tree.specs.declared.token.Mark.TheVariants as m
use Rattle.vl_tree.specs.View as view
use Rattle.vl_tree.specs.Grammar.{mark, port_at}
use Rattle.vl_module.specs.Reading.{Any, one}
use Rattle.vl_module.specs.Rules.{closing, ports_end, list_at, list_of}
use Rattle.vl_module.proofs.Pieces.{fails, took_lead, no_lead_1, no_lead_2}
use Rattle.vl_module.proofs.ModuleRules.{ports_none_1, ports_none_2, ports_took, comma_none, comma_took, closed_none, closed_took, map-one, append-none}
use Rattle.vl_module.proofs.module.read_ports.Goals as goal

pub returns-in_err-rest : goal.returns-in_err-rest
returns-in_err-rest c =
    record {
      reads = fails (one (mark 0 m.OpenParen)) Any _ list_of list_at Any _ (no_lead_1 (mark 0 m.OpenParen) ports_end _) c.in_err-rest.field-0.0 c.in_err-rest.ensures.reads c.from_residual.result c.from_residual.ensures.1;
    }

pub loop-ports-init : goal.loop-ports-init
loop-ports-init c = record {
  took = λ ps z p. rw c.new-ports.ensures.items (took_lead (mark 0 m.OpenParen) ports_end _ _ c.in_ok-rest.ensures.reads ps z p);
  none = no_lead_2 (mark 0 m.OpenParen) ports_end _ _ c.in_ok-rest.ensures.reads;
}

pub returns-in_err-port : goal.returns-in_err-port
returns-in_err-port c =
    record {
      reads = fails (port_at 1) Any _ list_of list_at Any _ (λ n. c.loop-ports.invariant.none (ports_none_1 _ n)) c.in_err-port.field-0.0 c.in_err-port.ensures.reads
          c.from_residual-in_err-port.result c.from_residual-in_err-port.ensures.1;
    }

pub loop-ports-preserved : goal.loop-ports-preserved
loop-ports-preserved c = record {
  took = λ ps z p.
      let e : c.push.new.self.items ≡ c.loop-ports.ports.items ++ c.in_ok-port.port ∷ [] = search rules in
      rw (e, map-one)
      (c.loop-ports.invariant.took (view.port c.in_ok-port.port ∷ ps) z (ports_took _ _ _ c.in_ok-port.ensures.reads ps z (comma_took _ _ c.in-Some.ensures.reads ps z p)));
  none = λ n. c.loop-ports.invariant.none (ports_none_2 _ _ _ c.in_ok-port.ensures.reads (comma_none _ _ c.in-Some.ensures.reads n));
}

pub returns-in_err-rest-in-None : goal.returns-in_err-rest-in-None
returns-in_err-rest-in-None c =
    record {
      reads = fails (one (closing 0)) Any _ list_of list_at Any _ (λ n. c.loop-ports.invariant.none (ports_none_2 _ _ _ c.in_ok-port.ensures.reads (closed_none _ c.in-None.ensures.reads n))) c.in_err-rest-in-None.field-0.0
          c.in_err-rest-in-None.ensures.reads c.from_residual-in_err-rest-in-None.result c.from_residual-in_err-rest-in-None.ensures.1;
    }

pub returns-in-None : goal.returns-in-None
returns-in-None c =
    let e : c.push.new.self.items ≡ c.loop-ports.ports.items ++ c.in_ok-port.port ∷ [] = search rules in
    record {
      reads = rw (e, ← append-none (map view.port (c.loop-ports.ports.items ++ c.in_ok-port.port ∷ [])), map-one)
          (c.loop-ports.invariant.took (view.port c.in_ok-port.port ∷ []) _ (ports_took _ _ _ c.in_ok-port.ensures.reads [] _ (closed_took _ c.in-None.ensures.reads _ c.in_ok-rest-in-None.ensures.reads)));
    }
