use Rattle.std.proofs.Common.{◌≡◌, ◌∙◌, ap, rules}
use Rattle.vl_tree.specs.Token.{coded_kind}
use Rattle.vl_tree.specs.Token as k
use Rattle.vl_module.proofs.Pieces.{first_is}
use Rattle.vl_module.proofs.OneToken.{took_token}
use Rattle.vl_module.proofs.tokens.behind_mark.Goals as goal

pub returns-then-same_mark-clause-reads : goal.returns-then-same_mark-clause-reads
returns-then-same_mark-clause-reads c =
    let i : c.in-Mark.mark ≡ c.args.wanted = search rules in
    took_token c.args.depth c.in_ok-first.ensures.shallow c.in_ok-first.first.now.line _ _ (k.mark c.args.wanted)
    (first_is c.args.tokens.now c.in_ok-first.rest.now c.in_ok-first.first.now (k.mark c.args.wanted) c.in_ok-first.ensures.first (ap coded_kind c.in-Mark.is ∙ ap k.mark i))
