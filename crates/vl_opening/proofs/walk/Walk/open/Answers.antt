use Rattle.std.proofs.Common.{refl, arith}
use Rattle.vl_opening.proofs.Walking.{opens_scope}
use Rattle.vl_opening.proofs.walk.Walk.open.Goals as goal

pub returns-in_ok-push-in-Ok : goal.returns-in_ok-push-in-Ok
returns-in_ok-push-in-Ok c =
    opens_scope c.args.self.now (record { progress = c.args.self.now.progress; scopes = c.push.new.scopes }) c.args.scope c.if-self.false refl
    c.in_ok-push-in-Ok.ensures c.in-Ok.number (omega (arith, c.in-Ok.ensures, c.len.ensures))
