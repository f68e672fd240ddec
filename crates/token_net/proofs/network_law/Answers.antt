use Rattle.token_net.proofs.Steps.{laws}
use Rattle.token_net.proofs.network_law.Goals as goal

pub returns : goal.returns
returns g c = λ n. laws n
