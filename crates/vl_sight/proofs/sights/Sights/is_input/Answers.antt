use Rattle.vl_sight.proofs.Here.{input_at, input_past}
use Rattle.vl_sight.proofs.sights.Sights.is_input.Goals as goal

pub returns-in-Some : goal.returns-in-Some
returns-in-Some c cs h =
    let k = c.args.scope in let n = c.in-Some.names.now in let here = c.in-Some.ensures.lookup in
    input_at cs c.args.self.now.levels.items c.as_slice.result.now k n c.args.name.now _ c.as_slice.ensures.value here.3.0 here.1 h c.is_input.ensures

pub returns-in-None : goal.returns-in-None
returns-in-None c cs h =
    input_past cs c.args.self.now.levels.items c.as_slice.result.now c.args.scope c.args.name.now c.as_slice.ensures.value c.in-None.ensures.lookup.3 h
