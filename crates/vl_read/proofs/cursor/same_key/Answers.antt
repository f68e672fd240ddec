use Rattle.std.proofs.Common.{rules, sym, ◌∙◌}
use denote.Enum.Bare.{same_true}
use Rattle.vl_tree.specs.contracts.token.Key.{the_type}
use Rattle.vl_read.proofs.cursor.same_key.Goals as goal

pub returns : goal.returns
returns c = (λ is. same_true the_type (search rules) _ _ (sym c.eq.ensures ∙ is), λ e. search rules)
