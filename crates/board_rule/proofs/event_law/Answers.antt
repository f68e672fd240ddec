use Rattle.board_rule.proofs.PostsSteps.{network_posts}
use Rattle.board_rule.proofs.event_law.Goals as goal

pub returns : goal.returns
returns g c = network_posts
