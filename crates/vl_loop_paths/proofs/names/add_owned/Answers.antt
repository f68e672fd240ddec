use Rattle.std.proofs.Common.{sym, subst}
use Rattle.vl_sight.specs.Seen.{owned_path}
use Rattle.vl_loop_paths.specs.Adding.{AddsPaths}
use Rattle.vl_loop_paths.proofs.Added.{on_ok}
use Rattle.vl_loop_paths.proofs.names.add_owned.Goals as goal

pub returns : goal.returns
returns c = on_ok c.add_of.result
    (λ adds ss. subst (λ o. AddsPaths c.args.numbers.now ss (owned_path ss c.args.function.now c.args.name.now o) c.args.loops.now c.add_of.new.loops)
    (sym c.in-Some.is) (adds ss)) c.add_of.ensures
