use Rattle.std.proofs.Common.{rules, ◌≡◌, ◌-◌, ◌<◌, ◌≤◌, [], drop, length, List, ℕ, refl, sym, subst, ap, ◌∙◌, arith, nat_eq}
use Rattle.std.specs.Prelude.{Some, None}
use Rattle.std.proofs.lemmas.Result.{err_from_is_err_and}
use Rattle.std.specs.Cmp.Lexicographic.{pointwise}
use Rattle.indexmap.specs.IndexMap.{get}
use Rattle.vl_pre.specs.Bytes.{at_line}
use Rattle.std.proofs.lemmas.Bool.{eqb-true}
use Rattle.vl_pre.proofs.BlankLaws.{noted_from, blank_wrote, wrote_blank, knows_noted, gives_noted}
use Rattle.vl_tree.specs.declared.fault.FaultKind.TheVariants.{UnknownMacro, MacroDepth, BadDirective}
use Rattle.vl_pre.specs.Pieces.{Part, fault}
use Rattle.vl_pre.specs.CleanText.{use_of, whole_body, body_reading}
use Rattle.vl_pre.specs.Calls.Reading.{fault_of, macros_of, IsBlank, Wrote, body_piece_at}
use Rattle.std.proofs.lemmas.List.{length-map}
use Rattle.vl_pre.proofs.ReadingLaws.{empty_text}
use Rattle.vl_pre.proofs.StepLaws.{body_at_length, body_reads_more}
use Rattle.vl_pre.proofs.MacroLaws.{use_unknown, use_too_deep, use_body, body_more, body_ended, use_missing, use_found}
use Rattle.vl_pre.proofs.WriteLaws.{leads_here, leads_as, leads_done, leads_stop, wrote_as, ends_as, ends_anywhere, ends_fails}
use Rattle.vl_pre.proofs.macros.+expand.Goals as goal

pub expand-returns-in_default-get-clause-gives : goal.expand-returns-in_default-get-clause-gives
expand-returns-in_default-get-clause-gives t c =
    let m = macros_of c.args.macros.now in
    let none : m c.args.name.now ≡ None = ap m (sym c.in-Ok.ensures) ∙ sym c.in_default-get.ensures.value in
    rw c.in_text.ensures (ends_fails c.args.out.now _ (fault UnknownMacro c.args.line) c.requires.room (use_unknown c.args.depth m c.args.line c.args.name.now none))

pub expand-returns-then-depth-eq0-clause-gives : goal.expand-returns-then-depth-eq0-clause-gives
expand-returns-then-depth-eq0-clause-gives t c =
    let m = macros_of c.args.macros.now in
    let some : m c.args.name.now ≡ Some c.in-Some.body.now = ap m (sym c.in-Ok.ensures) ∙ sym c.in-Some.ensures.value in
    rw c.in_text-then-depth-eq0.ensures (ends_fails c.args.out.now _ (fault MacroDepth c.args.line) c.requires.room
    (use_too_deep c.args.depth m c.args.line c.args.name.now c.in-Some.body.now c.if-depth-eq0.true some))

-- what the use gives is what its body gives
pub expand-returns-in_err-write_body-clause-gives : goal.expand-returns-in_err-write_body-clause-gives
expand-returns-in_err-write_body-clause-gives t c =
    let m = macros_of c.args.macros.now in
    let line = c.args.line in
    let some : m c.args.name.now ≡ Some c.in-Some.body.now = ap m (sym c.in-Ok.ensures) ∙ sym c.in-Some.ensures.value in
    let reading = whole_body (use_of (c.args.depth - 1) m line) line in
    let p = err_from_is_err_and c.from_residual.result c.from_residual.ensures.1 in
    rw (p.1, p.2) (ends_as c.args.out.now _ (reading c.bytes.result.now) (fault_of c.in_err-write_body.field-0.0)
    (use_body c.args.depth m line c.args.name.now c.in-Some.body.now (omega arith) some ∙ ap reading (sym c.bytes.ensures)) c.in_err-write_body.ensures.gives)

pub expand-returns-then-is_blank-clause-gives : goal.expand-returns-then-is_blank-clause-gives
expand-returns-then-is_blank-clause-gives t c =
    let m = macros_of c.args.macros.now in
    let noted = noted_from (get (pointwise nat_eq) c.args.blanks.now c.in-Ok.name) c.args.depth (sym c.is_blank.ensures ∙ c.if-is_blank.true) in
    let P : List ℕ → Type 0 = λ n. IsBlank (use_of c.args.depth m c.args.line n) in
    blank_wrote c.args.out.now _ c.requires.room (subst P c.in-Ok.ensures (c.requires.known c.in-Ok.name noted.0 noted.1 c.args.depth noted.2))

pub expand-returns-clause-known : goal.expand-returns-clause-known
expand-returns-clause-known t c =
    let m = macros_of c.args.macros.now in
    let line = c.args.line in
    let some : m c.in-Ok.name ≡ Some c.in-Some.body.now = sym c.in-Some.ensures.value in
    let reading = whole_body (use_of (c.args.depth - 1) m line) line in
    let p : Part = use_of c.args.depth m line c.in-Ok.name in
    let wrote : Wrote c.args.out.now c.write_body.new.out p.rest p =
    wrote_as c.args.out.now c.write_body.new.out p (reading c.bytes.result.now) (use_body c.args.depth m line c.in-Ok.name c.in-Some.body.now (omega arith) some ∙ ap reading (sym c.bytes.ensures))
    c.in_ok-write_body.ensures.gives in
    knows_noted m line c.write_body.new.blanks c.note.new.blanks c.in-Ok.name c.args.depth (nat_eq c.len.result c.len-before.result) c.note.result c.in_ok-write_body.ensures.known
    (λ e. wrote_blank c.args.out.now c.write_body.new.out p.rest p wrote (sym c.len.ensures.length ∙ eqb-true c.len.result c.len-before.result e ∙ c.len-before.ensures.length)) c.note.ensures

pub expand-returns-clause-gives : goal.expand-returns-clause-gives
expand-returns-clause-gives t c =
    let m = macros_of c.args.macros.now in
    let line = c.args.line in
    let some : m c.args.name.now ≡ Some c.in-Some.body.now = ap m (sym c.in-Ok.ensures) ∙ sym c.in-Some.ensures.value in
    let reading = whole_body (use_of (c.args.depth - 1) m line) line in
    let p : Part = use_of c.args.depth m line c.args.name.now in
    gives_noted c.args.out.now c.write_body.new.out p c.write_body.new.blanks c.note.new.blanks c.in-Ok.name c.args.depth (nat_eq c.len.result c.len-before.result) c.note.result
    (wrote_as c.args.out.now c.write_body.new.out p (reading c.bytes.result.now) (use_body c.args.depth m line c.args.name.now c.in-Some.body.now (omega arith) some ∙ ap reading (sym c.bytes.ensures))
    c.in_ok-write_body.ensures.gives) c.note.ensures

pub write_body-loop-at-init : goal.write_body-loop-at-init
write_body-loop-at-init t c =
    let counted = ap length c.over_body-at.ensures in
    let placed = length-map c.args.body.now (at_line c.args.line) in
    let all : length c.over_body-at.result ≤ length c.args.body.now = omega (arith, counted, placed) in
    let expand = use_of c.args.depth (macros_of c.args.macros.now) c.args.line in
    record {
      reads = (length c.args.body.now, all, leads_as (leads_here c.args.out.now _) (ap (body_reading expand c.args.line (length c.args.body.now)) (sym c.over_body-at.ensures)));
      fits = c.requires.room;
      known = c.requires.known;
    }

pub write_body-returns-in_err-write_next-clause-gives : goal.write_body-returns-in_err-write_next-clause-gives
write_body-returns-in_err-write_next-clause-gives t c =
    let expand = use_of c.args.depth (macros_of c.args.macros.now) c.args.line in
    let left : 0 < length c.loop-at.at = search rules in
    let reads = c.loop-at.invariant.reads in
    let p = err_from_is_err_and c.from_residual.result c.from_residual.ensures.1 in
    rw (p.1, p.2) (leads_stop (body_piece_at expand c.args.line c.loop-at.at) (body_reading expand c.args.line (reads.0 - 1)) (fault_of c.in_err-write_next.field-0.0) reads.2
    (body_more expand c.args.line reads.0 c.loop-at.at (let k = reads.1 in omega (arith, k, left)) left) c.in_err-write_next.ensures.writes)

pub write_body-loop-at-preserved : goal.write_body-loop-at-preserved
write_body-loop-at-preserved t c =
    let expand = use_of c.args.depth (macros_of c.args.macros.now) c.args.line in
    let left : 0 < length c.loop-at.at = search rules in
    let wrote = c.in_ok-write_next.ensures.writes in
    record {
      reads = body_reads_more c.args.out.now c.loop-at.out c.write_next.new.out c.write_next.new.at _ expand c.args.line c.loop-at.at c.loop-at.invariant.reads left wrote;
      fits = wrote.fits;
      known = c.in_ok-write_next.ensures.known;
    }

pub write_body-loop-at-smaller : goal.write_body-loop-at-smaller
write_body-loop-at-smaller t c =
    let expand = use_of c.args.depth (macros_of c.args.macros.now) c.args.line in
    let left : 0 < length c.loop-at.at = search rules in
    let wrote = c.in_ok-write_next.ensures.writes in
    let i = body_at_length expand c.args.line c.loop-at.at left wrote.sound in
    let j = ap length wrote.left in omega (arith, i, j)

pub write_body-returns-clause-gives : goal.write_body-returns-clause-gives
write_body-returns-clause-gives t c =
    let expand = use_of c.args.depth (macros_of c.args.macros.now) c.args.line in
    let none : c.bytes.result.now ≡ [] = search rules in
    let reads = c.loop-at.invariant.reads in
    let w : Wrote c.args.out.now c.loop-at.out c.loop-at.at _ = leads_done reads.2 (body_ended expand c.args.line reads.0 c.loop-at.at (empty_text c.loop-at.at (sym c.bytes.ensures ∙ none))) c.loop-at.invariant.fits in
    record { sound = w.sound; all = w.all; fits = w.fits; left = refl }

pub write_use-returns-in_default-clause-writes : goal.write_use-returns-in_default-clause-writes
write_use-returns-in_default-clause-writes t c =
    let expand = use_of c.args.depth (macros_of c.args.macros.now) c.args.line in
    rw c.in_text.ensures (ends_fails c.args.out.now _ (fault BadDirective c.args.line) c.requires.room
    (use_missing expand c.args.line c.args.at.now c.skip.new.at c.name_at-name.result.now c.after_tick.result c.skip.ensures c.name_at-name.ensures c.after_tick.ensures c.in_default.not-Macro))

pub write_use-returns-in_err-expand-clause-writes : goal.write_use-returns-in_err-expand-clause-writes
write_use-returns-in_err-expand-clause-writes t c =
    let expand = use_of c.args.depth (macros_of c.args.macros.now) c.args.line in
    let name = c.name_at-name.result.now in
    let new = drop (length name) c.skip.new.at in
    let p = err_from_is_err_and c.from_residual.result c.from_residual.ensures.1 in
    rw (p.1, p.2) (ends_as c.args.out.now _ (record (expand name) { rest = new }) (fault_of c.in_err-expand.field-0.0)
    (use_found expand c.args.line c.args.at.now c.skip.new.at new name c.after_tick.result c.skip.ensures c.name_at-name.ensures c.after_tick.ensures c.in-Macro.is refl)
    (ends_anywhere c.args.out.now new (expand name) (fault_of c.in_err-expand.field-0.0) c.in_err-expand.ensures.gives))
