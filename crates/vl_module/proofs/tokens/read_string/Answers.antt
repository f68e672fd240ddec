use Rattle.std.proofs.Common.{◌∙◌, ap, sym}
use Rattle.vl_tree.specs.Token.{coded_kind}
use Rattle.vl_tree.specs.Token as k
use Rattle.vl_module.proofs.Pieces.{first_is}
use Rattle.vl_module.proofs.OneToken.{took_string}
use Rattle.vl_module.proofs.tokens.read_string.Goals as goal

pub returns-in_ok-copy-in-Str-clause-reads : goal.returns-in_ok-copy-in-Str-clause-reads
returns-in_ok-copy-in-Str-clause-reads c =
    took_string c.args.depth c.in-Some.ensures.shallow c.in-Some.first.now.line _ _ c.in_ok-copy-in-Str.copy
    (first_is c.args.tokens.now c.in-Some.rest.now c.in-Some.first.now (k.str c.in_ok-copy-in-Str.copy) c.in-Some.ensures.first
    (ap coded_kind c.in-Str.is ∙ ap k.str (sym (c.in_ok-copy-in-Str.ensures ∙ c.bytes.ensures))))
