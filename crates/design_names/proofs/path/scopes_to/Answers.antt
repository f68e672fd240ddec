use Rattle.design_names.proofs.PathLaws.{up_read, up_end}
use Rattle.design_names.proofs.path.scopes_to.Goals as goal

pub loop-next-preserved : goal.loop-next-preserved
loop-next-preserved c =
    up_read c.args.flat.now c.args.scope c.in-Some.number _ _ _ _ c.index-scopes-number.result c.scopes-scopes.ensures.fits
    c.in-Some.is c.in_ok-push.ensures c.scopes-scopes.ensures.scopes c.loop-next.invariant

pub returns-clause-there : goal.returns-clause-there
returns-clause-there c =
    up_end c.args.flat.now c.args.scope _ _ _ c.scopes-scopes.ensures.fits c.requires c.in_default.is
    c.reverse.ensures.items c.loop-next.invariant
