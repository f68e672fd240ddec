use Rattle.vl_scope_paths.proofs.Scopes.{scopes_law}
use Rattle.vl_scope_paths.proofs.scopes_law.Goals as goal

pub returns : goal.returns
returns c = scopes_law
