use Rattle.std.proofs.Common.{rules, ◌≡◌, ◌-◌, ◌∷◌, [], true, false, ap}
use Rattle.std.specs.Prelude.{Some}
use Rattle.std.proofs.lemmas.Result.{err_from_is_err_and}
use Rattle.vl_pre.specs.Bytes.{at_line, is_allowed}
use Rattle.vl_tree.specs.declared.fault.FaultKind.TheVariants.{BadByte}
use Rattle.vl_pre.specs.Pieces.{Part, fault, gives, kept}
use Rattle.vl_pre.specs.Calls.Reading.{fault_of}
use Rattle.vl_pre.proofs.KeptLaws.{kept_more, kept_bad}
use Rattle.vl_pre.proofs.WriteLaws.{collects_more, collects_stop, collects_as, fault_first}
use Rattle.vl_pre.proofs.lines.keep.Goals as goal

pub returns-then-not-is_allowed : goal.returns-then-not-is_allowed
returns-then-not-is_allowed c =
    let next : c.loop-left.at ≡ at_line c.in-Some.line c.in-Some.byte ∷ c.next.new.self = search rules in
    let bad : is_allowed c.in-Some.byte ≡ false = search rules in
    rw c.in_text.ensures (collects_stop (Some (fault BadByte c.in-Some.line)) c.loop-left.invariant
    (ap (λ (x : Part). x.fault) (kept_bad c.loop-left.left c.loop-left.at c.next.new.self (at_line c.in-Some.line c.in-Some.byte) (search rules) next bad)))

pub returns-in_err-push : goal.returns-in_err-push
returns-in_err-push c =
    let next : c.loop-left.at ≡ at_line c.in-Some.line c.in-Some.byte ∷ c.next.new.self = search rules in
    let good : is_allowed c.in-Some.byte ≡ true = search rules in
    let p = err_from_is_err_and c.from_residual.result c.from_residual.ensures.1 in
    let part = gives (at_line c.in-Some.line c.in-Some.byte ∷ []) c.next.new.self in
    let more = kept_more c.loop-left.left c.loop-left.at c.next.new.self (at_line c.in-Some.line c.in-Some.byte) (search rules) next good in
    rw (p.1, p.2) (collects_stop (fault_of c.in_err-push.field-0.0) (collects_as c.loop-left.invariant more)
    (fault_first part (kept (c.loop-left.left - 1)) (fault_of c.in_err-push.field-0.0) (c.in_err-push.ensures c.next.new.self)))

pub loop-left-preserved : goal.loop-left-preserved
loop-left-preserved c =
    let next : c.loop-left.at ≡ at_line c.in-Some.line c.in-Some.byte ∷ c.next.new.self = search rules in
    let good : is_allowed c.in-Some.byte ≡ true = search rules in
    collects_more (gives (at_line c.in-Some.line c.in-Some.byte ∷ []) c.next.new.self) (kept (c.loop-left.left - 1)) c.loop-left.invariant
    (kept_more c.loop-left.left c.loop-left.at c.next.new.self (at_line c.in-Some.line c.in-Some.byte) (search rules) next good) (c.in_ok-push.ensures c.next.new.self)
