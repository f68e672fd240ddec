use Rattle.std.proofs.Common.{Some, sym, subst}
use Rattle.vl_sight.specs.Seen.{owned_path}
use Rattle.vl_loop_paths.specs.Adding.{AddsPaths}
use Rattle.vl_loop_paths.proofs.Added.{on_ok, own_added, inside_added}
use Rattle.vl_loop_paths.proofs.names.add_of.Goals as goal

pub returns-in-Scope : goal.returns-in-Scope
returns-in-Scope c = on_ok c.add.result
    (λ adds ss. subst (λ o. AddsPaths c.args.numbers.now ss (owned_path ss c.args.function.now c.args.name.now (Some o)) c.args.loops.now c.add.new.self)
    (sym c.in-Scope.is)
    (own_added c.args.numbers.now ss c.in-Scope.scope c.args.name.now c.number.result c.args.loops.now c.add.new.self c.number.ensures adds)) c.add.ensures

pub returns-in_ok-path-in-Function : goal.returns-in_ok-path-in-Function
returns-in_ok-path-in-Function c = let add = c.add-in-Function in let path = c.in_ok-path-in-Function in on_ok add.result
    (λ adds ss. subst (λ o. AddsPaths c.args.numbers.now ss (owned_path ss c.args.function.now c.args.name.now (Some o)) c.args.loops.now add.new.self)
    (sym c.in-Function.is)
    (inside_added c.args.numbers.now ss c.in-Function.scope c.args.function.now c.args.name.now path.path c.args.loops.now add.new.self path.ensures adds))
    add.ensures
