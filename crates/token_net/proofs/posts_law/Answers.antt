use Rattle.token_net.proofs.PostsEnd.{posts_laws}
use Rattle.token_net.proofs.posts_law.Goals as goal

pub returns : goal.returns
returns g n = posts_laws n
