use Rattle.std.proofs.Common.{rules, ◌≡◌, true, sym, ◌∙◌}
use Rattle.vl_pre.specs.Bytes.{is_white}
use Rattle.vl_pre.proofs.DirectiveLaws.{blank_last}
use Rattle.vl_pre.proofs.directives.before_blanks.Goals as goal

pub loop-byte-preserved : goal.loop-byte-preserved
loop-byte-preserved c =
    let white : is_white c.in-Some.byte ≡ true = search rules in
    sym (blank_last c.loop-byte.rest.now c.in-Some.front.now c.in-Some.byte c.in-Some.ensures white) ∙ c.loop-byte.invariant
