use Rattle.std.proofs.Common.{◌∙◌, ◌∷◌, ◌+◌, ap, sym, subst, drop, Ok}
use Rattle.std.proofs.lemmas.List.{drop_more}
use Rattle.std.specs.Option.{option_map}
use Rattle.vl_tree.specs.SyntaxView as view
use Rattle.vl_value.specs.Meaning as m
use Rattle.vl_width.specs.Lists.{exprs_of, links_of, choices_of}
use Rattle.vl_width.proofs.Views.{expr-number, expr-system, expr-unary, expr-read, expr-call, expr-concat, expr-repeat, expr-chain, expr-choose}
use Rattle.vl_sized.specs.Moments.{on_one}
use Rattle.vl_sized.specs.Told.{mapped}
use Rattle.vl_value.specs.Order.{lesser}
use Rattle.vl_sized.specs.Sensed as sensed
use Rattle.vl_sized.specs.Plain.{sense_of, case_of, plain_pick, plain_picks, Gives}
use Rattle.vl_sized.specs.Moments.{constant_sense}
use Rattle.vl_found.specs.View.{found}
use Rattle.vl_sized.specs.Told.{fault_in, joint}
use Rattle.vl_value.specs.Constant.{is_constant}
use Rattle.vl_value.specs.Faults as faults
use Rattle.vl_sized.proofs.Joints.{one_done, pick_more, IsPicked}
use Rattle.vl_sized.proofs.Copies.{counted}
use Rattle.vl_sized.proofs.walk.+size.Goals.{size_selects-in-Index+in_ok-sized-in-Index+in_ok-fault-in-Index, size_selects-in-Part+in_ok-size-in-Part+in_ok-size-in-Part-2+in_ok-left-in-Part+in_ok-right-in-Part, size_selects-in-Upward+in_ok-sized-in-Upward+in_ok-fault-in-Upward+in_ok-size-in-Upward+in_ok-width-in-Upward, size_selects-in-Downward+in_ok-sized-in-Downward+in_ok-fault-in-Downward+in_ok-size-in-Downward+in_ok-width-in-Downward}
use Rattle.vl_sized.proofs.walk.+size.Goals as goal

pub size-returns-in-Number : goal.size-returns-in-Number
size-returns-in-Number g t c =
    let s = g.N.Names.sight c.args.names.now in let ns = g.N.Names.numbering c.args.names.now in
    ap Ok (c.number.ensures ns ∙ (λ i. constant_sense (m.operand (c.number_of.ensures.bits.0 i) (c.number_of.ensures.signed i) (c.number_of.ensures.bits.1 i))))
    ∙ sym (ap (λ e. sensed.sensed s (view.expr e)) c.in-Number.is ∙ ap (sensed.sensed s) (expr-number c.in-Number.field-0 c.in-Number.literal))

pub size-returns-in_ok-picks-in-Read : goal.size-returns-in_ok-picks-in-Read
size-returns-in_ok-picks-in-Read g t c =
    let s = g.N.Names.sight c.args.names.now in let ns = g.N.Names.numbering c.args.names.now in
    let k = c.in_ok-picks-in-Read.ensures ∙ ap (λ ks. sensed.all_picked s (view.read_selects ks)) c.as_slice.ensures in
    c.read.ensures ns ∙ (λ i. sensed.read_sensed (c.find.ensures.thing i) (view.place c.in-Read.name.place) (k i))
    ∙ sym (ap (λ e. sensed.sensed s (view.expr e)) c.in-Read.is ∙ ap (sensed.sensed s) (expr-read c.in-Read.name c.in-Read.selects))

pub size-returns-in_ok-inputs-in-Call : goal.size-returns-in_ok-inputs-in-Call
size-returns-in_ok-inputs-in-Call g t c =
    let s = g.N.Names.sight c.args.names.now in let ns = g.N.Names.numbering c.args.names.now in
    let k = c.in_ok-inputs-in-Call.ensures ∙ ap (λ es. sensed.all_sensed s (exprs_of es)) c.as_slice-in-Call.ensures in
    let n = c.len.ensures ∙ sym (counted s c.in-Call.arguments) in
    subst (λ r. Gives (sense_of ns) c.call.result r)
    ((λ i. sensed.call_sensed (s c.in-Call.name.text) (view.place c.in-Call.name.place) (n i) (k i))
    ∙ sym (ap (λ e. sensed.sensed s (view.expr e)) c.in-Call.is ∙ ap (sensed.sensed s) (expr-call c.in-Call.name c.in-Call.arguments)))
    c.call.ensures

pub size-returns-in_ok-size-in-System : goal.size-returns-in_ok-size-in-System
size-returns-in_ok-size-in-System g t c =
    let s = g.N.Names.sight c.args.names.now in let ns = g.N.Names.numbering c.args.names.now in
    let h = c.in_ok-size-in-System.ensures ∙ ap (λ e. sensed.sensed s (view.expr e)) c.get.ensures in
    subst (λ r. Gives (sense_of ns) c.system.result r)
    (ap (mapped (on_one (m.system_of (view.system_function c.in-System.function)))) h
    ∙ sym (ap (λ e. sensed.sensed s (view.expr e)) c.in-System.is ∙ ap (sensed.sensed s) (expr-system c.in-System.field-0 c.in-System.function c.in-System.operand)))
    (c.system.ensures ns)

pub size-returns-in_ok-size_all-in-Concat : goal.size-returns-in_ok-size_all-in-Concat
size-returns-in_ok-size_all-in-Concat g t c =
    let s = g.N.Names.sight c.args.names.now in let ns = g.N.Names.numbering c.args.names.now in
    let k = c.in_ok-size_all-in-Concat.ensures ∙ ap (λ es. sensed.all_sensed s (exprs_of es)) c.as_slice-in-Concat.ensures in
    c.braces.ensures ns ∙ ap (sensed.braces_sensed (view.place c.in-Concat.place)) k
    ∙ sym (ap (λ e. sensed.sensed s (view.expr e)) c.in-Concat.is ∙ ap (sensed.sensed s) (expr-concat c.in-Concat.place c.in-Concat.parts))

pub size-returns-in_ok-number-in-Repeat : goal.size-returns-in_ok-number-in-Repeat
size-returns-in_ok-number-in-Repeat g t c =
    let s = g.N.Names.sight c.args.names.now in let ns = g.N.Names.numbering c.args.names.now in
    let x = view.expr c.in-Repeat.count in
    let h = c.in_ok-sized-in-Repeat.ensures ∙ ap (λ e. sensed.sensed s (view.expr e)) c.get-count.ensures in
    let z = c.in_ok-number-in-Repeat.ensures ∙ ap (λ e. sensed.whole_settled s (view.expr e)) c.get-count.ensures in
    let k = c.in_ok-inner-in-Repeat.ensures ∙ ap (λ es. sensed.all_sensed s (exprs_of es)) c.as_slice-in-Repeat.ensures in
    let d = c.needed-fault.ensures ns ∙ (λ i. sensed.needed (is_constant s (view.expr (c.get-count.ensures i))) (faults.start (view.expr (c.get-count.ensures i))) (fault_in (h i))) in
    c.copied.ensures ns ∙ (λ i. sensed.copies_sensed (view.place c.in-Repeat.place) (z i) (d i) (k i))
    ∙ sym (ap (λ e. sensed.sensed s (view.expr e)) c.in-Repeat.is ∙ ap (sensed.sensed s) (expr-repeat c.in-Repeat.place c.in-Repeat.count c.in-Repeat.parts))

pub size-returns-in_ok-size-in-Unary : goal.size-returns-in_ok-size-in-Unary
size-returns-in_ok-size-in-Unary g t c =
    let s = g.N.Names.sight c.args.names.now in let ns = g.N.Names.numbering c.args.names.now in
    let h = c.in_ok-size-in-Unary.ensures ∙ ap (λ e. sensed.sensed s (view.expr e)) c.get-in-Unary.ensures in
    subst (λ r. Gives (sense_of ns) c.unary.result r)
    (ap (mapped (on_one (m.unary_of c.in-Unary.operator))) h
    ∙ sym (ap (λ e. sensed.sensed s (view.expr e)) c.in-Unary.is ∙ ap (sensed.sensed s) (expr-unary c.in-Unary.field-0 c.in-Unary.operator c.in-Unary.operand)))
    (c.unary.ensures ns)

pub size-returns-in_ok-first-in-Chain : goal.size-returns-in_ok-first-in-Chain
size-returns-in_ok-first-in-Chain g t c =
    let s = g.N.Names.sight c.args.names.now in let ns = g.N.Names.numbering c.args.names.now in
    let h = c.in_ok-first-in-Chain.ensures ∙ ap (λ e. sensed.sensed s (view.expr e)) c.get-in-Chain.ensures in
    subst (λ r. Gives (sense_of ns) c.size_links.result r)
    ((λ i. sensed.linked s (links_of (c.as_slice-in-Chain.ensures i)) (h i))
    ∙ sym (ap (λ e. sensed.sensed s (view.expr e)) c.in-Chain.is ∙ ap (sensed.sensed s) (expr-chain c.in-Chain.first c.in-Chain.links)))
    c.size_links.ensures

pub size-returns-in_ok-last-in-Choose : goal.size-returns-in_ok-last-in-Choose
size-returns-in_ok-last-in-Choose g t c =
    let s = g.N.Names.sight c.args.names.now in let ns = g.N.Names.numbering c.args.names.now in
    let b = c.in_ok-cases-in-Choose.ensures ∙ ap (λ cs. sensed.all_choices s (choices_of cs)) c.as_slice-in-Choose.ensures in
    let h = c.in_ok-last-in-Choose.ensures ∙ ap (λ e. sensed.sensed s (view.expr e)) c.get-in-Choose.ensures in
    subst (λ r. Gives (sense_of ns) c.chosen.result r)
    ((λ i. joint sensed.chosen_among (b i) (h i))
    ∙ sym (ap (λ e. sensed.sensed s (view.expr e)) c.in-Choose.is ∙ ap (sensed.sensed s) (expr-choose c.in-Choose.choices c.in-Choose.last)))
    (c.chosen.ensures ns)

pub size_all-loop-part-preserved : goal.size_all-loop-part-preserved
size_all-loop-part-preserved g t c =
    let s = g.N.Names.sight c.args.names.now in let ns = g.N.Names.numbering c.args.names.now in
    let parts = c.args.parts.now in let k = c.loop-part.part-index in let x = c.part-item.result in
    let e = drop_more parts k x c.loop-part-test.true ∙ ap (λ y. y ∷ drop (k + 1) parts) (sym c.part-item.is) in
    one_done (sense_of ns) c.loop-part.all c.in_ok-all.all c.in_ok-next.next (sensed.sensed s (view.expr x)) (sensed.all_sensed s (exprs_of (drop k parts)))
    (sensed.all_sensed s (exprs_of (drop (k + 1) parts))) (sensed.all_sensed s (exprs_of parts)) c.in_ok-all.ensures c.in_ok-next.ensures
    (ap (λ l. sensed.all_sensed s (exprs_of l)) e) c.loop-part.invariant

pub size_choices-loop-choice-preserved : goal.size_choices-loop-choice-preserved
size_choices-loop-choice-preserved g t c =
    let s = g.N.Names.sight c.args.names.now in let ns = g.N.Names.numbering c.args.names.now in
    let cs = c.args.choices.now in let k = c.loop-choice.choice-index in let x = c.choice-item.result in
    let e = drop_more cs k x c.loop-choice-test.true ∙ ap (λ y. y ∷ drop (k + 1) cs) (sym c.choice-item.is) in
    let h = c.paired.ensures ns ∙ (λ i. joint sensed.paired (c.in_ok-condition.ensures i) (c.in_ok-value.ensures i)) in
    one_done (case_of ns) c.loop-choice.all c.in_ok-all.all c.paired.result (joint sensed.paired (sensed.sensed s (view.expr x.condition)) (sensed.sensed s (view.expr x.value)))
    (sensed.all_choices s (choices_of (drop k cs))) (sensed.all_choices s (choices_of (drop (k + 1) cs))) (sensed.all_choices s (choices_of cs))
    c.in_ok-all.ensures h (ap (λ l. sensed.all_choices s (choices_of l)) e) c.loop-choice.invariant

pub size_selects-loop-selected-init : goal.size_selects-loop-selected-init
size_selects-loop-selected-init g t c =
    let s = g.N.Names.sight c.args.names.now in let ns = g.N.Names.numbering c.args.names.now in
    ap (λ k. sensed.picks_joined k (sensed.all_picked s (view.read_selects c.args.selects.now))) (c.none-picks.ensures ns)

pub size_selects-loop-selected-preserved : goal.size_selects-loop-selected-preserved
size_selects-loop-selected-preserved g t c =
    let s = g.N.Names.sight c.args.names.now in let ns = g.N.Names.numbering c.args.names.now in
    let ss = c.args.selects.now in let n = c.loop-selected.selected-index in let x = c.selected-item.result in
    let e = ap (λ l. sensed.all_picked s (view.read_selects l)) (drop_more ss n x c.loop-selected-test.true ∙ ap (λ y. y ∷ drop (n + 1) ss) (sym c.selected-item.is)) in
    let left = sensed.all_picked s (view.read_selects (drop n ss)) in let rest = sensed.all_picked s (view.read_selects (drop (n + 1) ss)) in
    let whole = sensed.all_picked s (view.read_selects ss) in let p = c.match-selected.picked in
    let both : IsPicked s ns x.select p = elim c.match-selected.branch [
      | size_selects-in-Index+in_ok-sized-in-Index+in_ok-fault-in-Index w ↦
          let h = w.in_ok-sized-in-Index.ensures in let q = w.in_ok-fault-in-Index.ensures ns in (
            ap (λ k. option_map found k.fault) w.picked-is ∙ q.0 ∙ ap fault_in h ∙ ap (λ y. sensed.picked_fault s (view.read_select y)) (sym w.in-Index.is),
            ap (λ k. plain_pick ns k.pick) w.picked-is
                ∙ ap sensed.one (q.1 ∙ ap (sensed.basis_of (sensed.whole_settled s (view.expr w.in-Index.index))) h) ∙ ap (λ y. sensed.picked s (view.read_select y)) (sym w.in-Index.is),
          )
      | size_selects-in-Part+in_ok-size-in-Part+in_ok-size-in-Part-2+in_ok-left-in-Part+in_ok-right-in-Part w ↦
          let n1 = w.needed-first.ensures ns ∙ ap (λ r. sensed.needed (is_constant s (view.expr w.in-Part.left)) (faults.start (view.expr w.in-Part.left)) (fault_in r)) w.in_ok-size-in-Part.ensures in
          let n2 = w.needed-second.ensures ns ∙ ap (λ r. sensed.needed (is_constant s (view.expr w.in-Part.right)) (faults.start (view.expr w.in-Part.right)) (fault_in r)) w.in_ok-size-in-Part-2.ensures in (
            ap (λ k. option_map found k.fault) w.picked-is ∙ w.lesser.ensures ∙ (λ i. lesser (n1 i) (n2 i)) ∙ ap (λ y. sensed.picked_fault s (view.read_select y)) (sym w.in-Part.is),
            ap (λ k. plain_pick ns k.pick) w.picked-is
                ∙ (λ i. sensed.span (w.in_ok-left-in-Part.ensures i) (w.in_ok-right-in-Part.ensures i)) ∙ ap (λ y. sensed.picked s (view.read_select y)) (sym w.in-Part.is),
          )
      | size_selects-in-Upward+in_ok-sized-in-Upward+in_ok-fault-in-Upward+in_ok-size-in-Upward+in_ok-width-in-Upward w ↦
          let h = w.in_ok-sized-in-Upward.ensures in let q = w.in_ok-fault-in-Upward.ensures ns in
          let n1 = q.0 ∙ ap fault_in h in let n2 = w.needed-other.ensures ns ∙ ap (λ r. sensed.needed (is_constant s (view.expr w.in-Upward.width)) (faults.start (view.expr w.in-Upward.width)) (fault_in r)) w.in_ok-size-in-Upward.ensures in
          let b = q.1 ∙ ap (sensed.basis_of (sensed.whole_settled s (view.expr w.in-Upward.base))) h in (
            ap (λ k. option_map found k.fault) w.picked-is ∙ w.lesser-in-Upward.ensures ∙ (λ i. lesser (n1 i) (n2 i)) ∙ ap (λ y. sensed.picked_fault s (view.read_select y)) (sym w.in-Upward.is),
            ap (λ k. plain_pick ns k.pick) w.picked-is
                ∙ (λ i. sensed.up (b i) (w.in_ok-width-in-Upward.ensures i)) ∙ ap (λ y. sensed.picked s (view.read_select y)) (sym w.in-Upward.is),
          )
      | size_selects-in-Downward+in_ok-sized-in-Downward+in_ok-fault-in-Downward+in_ok-size-in-Downward+in_ok-width-in-Downward w ↦
          let h = w.in_ok-sized-in-Downward.ensures in let q = w.in_ok-fault-in-Downward.ensures ns in
          let n1 = q.0 ∙ ap fault_in h in let n2 = w.needed-other-in-Downward.ensures ns ∙ ap (λ r. sensed.needed (is_constant s (view.expr w.in-Downward.width)) (faults.start (view.expr w.in-Downward.width)) (fault_in r)) w.in_ok-size-in-Downward.ensures in
          let b = q.1 ∙ ap (sensed.basis_of (sensed.whole_settled s (view.expr w.in-Downward.base))) h in (
            ap (λ k. option_map found k.fault) w.picked-is ∙ w.lesser-in-Downward.ensures ∙ (λ i. lesser (n1 i) (n2 i)) ∙ ap (λ y. sensed.picked_fault s (view.read_select y)) (sym w.in-Downward.is),
            ap (λ k. plain_pick ns k.pick) w.picked-is
                ∙ (λ i. sensed.down (b i) (w.in_ok-width-in-Downward.ensures i)) ∙ ap (λ y. sensed.picked s (view.read_select y)) (sym w.in-Downward.is),
          )
    ] in
    pick_more (plain_picks ns c.loop-selected.picks) (plain_picks ns c.in_ok-picks.picks) (option_map found p.fault) (sensed.picked_fault s (view.read_select x.select))
    (plain_pick ns p.pick) (sensed.picked s (view.read_select x.select)) left rest whole (c.in_ok-picks.ensures ns) both.0 both.1 e c.loop-selected.invariant
