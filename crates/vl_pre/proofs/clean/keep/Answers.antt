use Rattle.std.proofs.Common.{rules, ◌≡◌, ◌-◌, ◌∷◌, [], true, false, refl}
use Rattle.std.specs.Prelude.{Some}
use Rattle.std.proofs.lemmas.Result.{err_from_is_err_and}
use Rattle.vl_pre.specs.Bytes.{at_line, is_allowed}
use Rattle.vl_tree.specs.declared.fault.FaultKind.TheVariants.{BadByte}
use Rattle.vl_pre.specs.Pieces.{fault, gives, fails, kept}
use Rattle.vl_pre.specs.Calls.Reading.{fault_of}
use Rattle.vl_pre.proofs.KeptLaws.{kept_more, kept_bad}
use Rattle.vl_pre.proofs.WriteLaws.{leads_as, leads_ends, leads_more, leads_stop, ends_at_once}
use Rattle.vl_pre.proofs.clean.keep.Goals as goal

pub returns-then-not-is_allowed : goal.returns-then-not-is_allowed
returns-then-not-is_allowed c =
    let next : c.loop-left.at ≡ at_line c.in-Some.line c.in-Some.byte ∷ c.next.new.self = search rules in
    let bad : is_allowed c.in-Some.byte ≡ false = search rules in
    let f = fault BadByte c.in-Some.line in
    rw c.in_text.ensures (leads_ends (Some f) (leads_as c.loop-left.invariant.leads (kept_bad c.loop-left.left c.loop-left.at c.next.new.self (at_line c.in-Some.line c.in-Some.byte) (search rules) next bad))
    (ends_at_once c.loop-left.out (fails BadByte c.in-Some.line) f c.loop-left.invariant.fits refl refl))

pub returns-in_err-push : goal.returns-in_err-push
returns-in_err-push c =
    let next : c.loop-left.at ≡ at_line c.in-Some.line c.in-Some.byte ∷ c.next.new.self = search rules in
    let good : is_allowed c.in-Some.byte ≡ true = search rules in
    let p = err_from_is_err_and c.from_residual.result c.from_residual.ensures.1 in
    rw (p.1, p.2) (leads_stop (gives (at_line c.in-Some.line c.in-Some.byte ∷ []) c.next.new.self) (kept (c.loop-left.left - 1)) (fault_of c.in_err-push.field-0.0) c.loop-left.invariant.leads
    (kept_more c.loop-left.left c.loop-left.at c.next.new.self (at_line c.in-Some.line c.in-Some.byte) (search rules) next good) (c.in_err-push.ensures c.next.new.self))

pub loop-left-preserved : goal.loop-left-preserved
loop-left-preserved c =
    let next : c.loop-left.at ≡ at_line c.in-Some.line c.in-Some.byte ∷ c.next.new.self = search rules in
    let good : is_allowed c.in-Some.byte ≡ true = search rules in
    let wrote = c.in_ok-push.ensures c.next.new.self in
    record {
      leads = leads_more (gives (at_line c.in-Some.line c.in-Some.byte ∷ []) c.next.new.self) (kept (c.loop-left.left - 1)) c.loop-left.invariant.leads
          (kept_more c.loop-left.left c.loop-left.at c.next.new.self (at_line c.in-Some.line c.in-Some.byte) (search rules) next good) wrote;
      fits = wrote.fits;
    }
