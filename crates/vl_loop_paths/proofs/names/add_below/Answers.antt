use Rattle.std.proofs.Common.{sym, subst}
use Rattle.vl_sight.specs.Seen.{own_path}
use Rattle.vl_loop_paths.specs.Adding.{AddsPaths}
use Rattle.vl_loop_paths.proofs.Added.{on_ok, own_added}
use Rattle.vl_loop_paths.proofs.names.add_below.Goals as goal

pub returns : goal.returns
returns c = on_ok c.add.result
    (λ adds ss. subst (λ o. AddsPaths c.args.numbers.now ss (own_path ss c.args.name.now o) c.args.loops.now c.add.new.self) (sym c.in-Some.is)
    (own_added c.args.numbers.now ss c.in-Some.scope c.args.name.now c.number.result c.args.loops.now c.add.new.self c.number.ensures adds)) c.add.ensures
