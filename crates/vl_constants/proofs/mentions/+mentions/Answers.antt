use Rattle.std.proofs.Common.{◌≡◌, ◌+◌, ◌∷◌, ◌||◌, drop, sym, ap, ◌∙◌}
use Rattle.std.proofs.lemmas.List.{drop_more}
use Rattle.vl_tree.specs.SyntaxView as view
use Rattle.vl_width.specs.Lists.{exprs_of, links_of, choices_of}
use Rattle.vl_width.proofs.Views.{expr-read, expr-call, expr-concat, expr-repeat, expr-chain, expr-choose}
use Rattle.vl_design.specs.Constants as design
use Rattle.vl_constants.specs.Needed.{faulty_in}
use Rattle.vl_constants.proofs.Mentioning.{by_first, by_rest, by_second, by_third, pair_first, pair_second, pair_rest}
use Rattle.vl_constants.proofs.mentions.+mentions.Goals as goal
use Rattle.vl_constants.proofs.mentions.+mentions.Goals.{selects_mention-in-Index+else-mentions, selects_mention-in-Part+else-mentions-2+else-mentions-3, selects_mention-in-Upward+else-mentions-4+else-mentions-5, selects_mention-in-Downward+else-mentions-6+else-mentions-7}

pub some_mention-loop-e-preserved : goal.some_mention-loop-e-preserved
some_mention-loop-e-preserved t c =
    let f = faulty_in c.args.frames.now in
    let xs = c.args.all.now in let k = c.loop-e.e-index in
    let e : drop k xs ≡ c.e-item.result ∷ drop (k + 1) xs = drop_more xs k c.e-item.result c.loop-e-test.true ∙ ap (λ y. y ∷ drop (k + 1) xs) (sym c.e-item.is) in
    let h = ap (λ ys. design.some_mention f (exprs_of ys)) (sym e) ∙ c.loop-e.invariant in
    by_rest (design.mentions f (view.expr c.e-item.result)) (design.some_mention f (exprs_of (drop (k + 1) xs))) _ (sym c.mentions.ensures ∙ c.if-mentions.false) h

pub some_mention-returns-then-mentions : goal.some_mention-returns-then-mentions
some_mention-returns-then-mentions t c =
    let f = faulty_in c.args.frames.now in
    let xs = c.args.all.now in let k = c.loop-e.e-index in
    let e : drop k xs ≡ c.e-item.result ∷ drop (k + 1) xs = drop_more xs k c.e-item.result c.loop-e-test.true ∙ ap (λ y. y ∷ drop (k + 1) xs) (sym c.e-item.is) in
    let h = ap (λ ys. design.some_mention f (exprs_of ys)) (sym e) ∙ c.loop-e.invariant in
    by_first (design.mentions f (view.expr c.e-item.result)) (design.some_mention f (exprs_of (drop (k + 1) xs))) _ (sym c.mentions.ensures ∙ c.if-mentions.true) h

pub links_mention-loop-link-preserved : goal.links_mention-loop-link-preserved
links_mention-loop-link-preserved t c =
    let f = faulty_in c.args.frames.now in
    let xs = c.args.links.now in let k = c.loop-link.link-index in
    let e : drop k xs ≡ c.link-item.result ∷ drop (k + 1) xs = drop_more xs k c.link-item.result c.loop-link-test.true ∙ ap (λ y. y ∷ drop (k + 1) xs) (sym c.link-item.is) in
    let h = ap (λ ys. design.links_mention f (links_of ys)) (sym e) ∙ c.loop-link.invariant in
    by_rest (design.mentions f (view.expr c.link-item.result.operand)) (design.links_mention f (links_of (drop (k + 1) xs))) _ (sym c.mentions.ensures ∙ c.if-mentions.false) h

pub links_mention-returns-then-mentions : goal.links_mention-returns-then-mentions
links_mention-returns-then-mentions t c =
    let f = faulty_in c.args.frames.now in
    let xs = c.args.links.now in let k = c.loop-link.link-index in
    let e : drop k xs ≡ c.link-item.result ∷ drop (k + 1) xs = drop_more xs k c.link-item.result c.loop-link-test.true ∙ ap (λ y. y ∷ drop (k + 1) xs) (sym c.link-item.is) in
    let h = ap (λ ys. design.links_mention f (links_of ys)) (sym e) ∙ c.loop-link.invariant in
    by_first (design.mentions f (view.expr c.link-item.result.operand)) (design.links_mention f (links_of (drop (k + 1) xs))) _ (sym c.mentions.ensures ∙ c.if-mentions.true) h

pub selects_mention-loop-selected-preserved : goal.selects_mention-loop-selected-preserved
selects_mention-loop-selected-preserved t c =
    let f = faulty_in c.args.frames.now in
    let xs = c.args.selects.now in let k = c.loop-selected.selected-index in let one = c.selected-item.result in
    let e : drop k xs ≡ one ∷ drop (k + 1) xs = drop_more xs k one c.loop-selected-test.true ∙ ap (λ y. y ∷ drop (k + 1) xs) (sym c.selected-item.is) in
    let h = ap (λ ys. design.selects_mention f (view.read_selects ys)) (sym e) ∙ c.loop-selected.invariant in
    let rest = design.selects_mention f (view.read_selects (drop (k + 1) xs)) in
    elim c.match-selected.branch [
      | selects_mention-in-Index+else-mentions w ↦
          by_rest (design.mentions f (view.expr w.in-Index.e)) rest _ (sym w.mentions.ensures ∙ w.if-mentions.false) (ap (λ y. design.select_mentions f (view.read_select y) || rest) (sym w.in-Index.is) ∙ h)
      | selects_mention-in-Part+else-mentions-2+else-mentions-3 w ↦
          pair_rest (design.mentions f (view.expr w.in-Part.a)) (design.mentions f (view.expr w.in-Part.b)) rest _
          (sym w.mentions-in-Part.ensures ∙ w.if-mentions-2.false) (sym w.mentions-in-Part-2.ensures ∙ w.if-mentions-3.false) (ap (λ y. design.select_mentions f (view.read_select y) || rest) (sym w.in-Part.is) ∙ h)
      | selects_mention-in-Upward+else-mentions-4+else-mentions-5 w ↦
          pair_rest (design.mentions f (view.expr w.in-Upward.a)) (design.mentions f (view.expr w.in-Upward.b)) rest _
          (sym w.mentions-in-Upward.ensures ∙ w.if-mentions-4.false) (sym w.mentions-in-Upward-2.ensures ∙ w.if-mentions-5.false) (ap (λ y. design.select_mentions f (view.read_select y) || rest) (sym w.in-Upward.is) ∙ h)
      | selects_mention-in-Downward+else-mentions-6+else-mentions-7 w ↦
          pair_rest (design.mentions f (view.expr w.in-Downward.a)) (design.mentions f (view.expr w.in-Downward.b)) rest _
          (sym w.mentions-in-Downward.ensures ∙ w.if-mentions-6.false) (sym w.mentions-in-Downward-2.ensures ∙ w.if-mentions-7.false) (ap (λ y. design.select_mentions f (view.read_select y) || rest) (sym w.in-Downward.is) ∙ h)
    ]

pub selects_mention-returns-then-mentions : goal.selects_mention-returns-then-mentions
selects_mention-returns-then-mentions t c =
    let f = faulty_in c.args.frames.now in
    let xs = c.args.selects.now in let k = c.loop-selected.selected-index in let one = c.selected-item.result in
    let e : drop k xs ≡ one ∷ drop (k + 1) xs = drop_more xs k one c.loop-selected-test.true ∙ ap (λ y. y ∷ drop (k + 1) xs) (sym c.selected-item.is) in
    let h = ap (λ ys. design.selects_mention f (view.read_selects ys)) (sym e) ∙ c.loop-selected.invariant in
    let rest = design.selects_mention f (view.read_selects (drop (k + 1) xs)) in
    by_first (design.mentions f (view.expr c.in-Index.e)) rest _ (sym c.mentions.ensures ∙ c.if-mentions.true) (ap (λ y. design.select_mentions f (view.read_select y) || rest) (sym c.in-Index.is) ∙ h)

pub selects_mention-returns-then-mentions-2 : goal.selects_mention-returns-then-mentions-2
selects_mention-returns-then-mentions-2 t c =
    let f = faulty_in c.args.frames.now in
    let xs = c.args.selects.now in let k = c.loop-selected.selected-index in let one = c.selected-item.result in
    let e : drop k xs ≡ one ∷ drop (k + 1) xs = drop_more xs k one c.loop-selected-test.true ∙ ap (λ y. y ∷ drop (k + 1) xs) (sym c.selected-item.is) in
    let h = ap (λ ys. design.selects_mention f (view.read_selects ys)) (sym e) ∙ c.loop-selected.invariant in
    let rest = design.selects_mention f (view.read_selects (drop (k + 1) xs)) in
    pair_first (design.mentions f (view.expr c.in-Part.a)) (design.mentions f (view.expr c.in-Part.b)) rest _
    (sym c.mentions-in-Part.ensures ∙ c.if-mentions-2.true) (ap (λ y. design.select_mentions f (view.read_select y) || rest) (sym c.in-Part.is) ∙ h)

pub selects_mention-returns-then-mentions-3 : goal.selects_mention-returns-then-mentions-3
selects_mention-returns-then-mentions-3 t c =
    let f = faulty_in c.args.frames.now in
    let xs = c.args.selects.now in let k = c.loop-selected.selected-index in let one = c.selected-item.result in
    let e : drop k xs ≡ one ∷ drop (k + 1) xs = drop_more xs k one c.loop-selected-test.true ∙ ap (λ y. y ∷ drop (k + 1) xs) (sym c.selected-item.is) in
    let h = ap (λ ys. design.selects_mention f (view.read_selects ys)) (sym e) ∙ c.loop-selected.invariant in
    let rest = design.selects_mention f (view.read_selects (drop (k + 1) xs)) in
    pair_second (design.mentions f (view.expr c.in-Part.a)) (design.mentions f (view.expr c.in-Part.b)) rest _
    (sym c.mentions-in-Part.ensures ∙ c.if-mentions-2.false) (sym c.mentions-in-Part-2.ensures ∙ c.if-mentions-3.true) (ap (λ y. design.select_mentions f (view.read_select y) || rest) (sym c.in-Part.is) ∙ h)

pub selects_mention-returns-then-mentions-4 : goal.selects_mention-returns-then-mentions-4
selects_mention-returns-then-mentions-4 t c =
    let f = faulty_in c.args.frames.now in
    let xs = c.args.selects.now in let k = c.loop-selected.selected-index in let one = c.selected-item.result in
    let e : drop k xs ≡ one ∷ drop (k + 1) xs = drop_more xs k one c.loop-selected-test.true ∙ ap (λ y. y ∷ drop (k + 1) xs) (sym c.selected-item.is) in
    let h = ap (λ ys. design.selects_mention f (view.read_selects ys)) (sym e) ∙ c.loop-selected.invariant in
    let rest = design.selects_mention f (view.read_selects (drop (k + 1) xs)) in
    pair_first (design.mentions f (view.expr c.in-Upward.a)) (design.mentions f (view.expr c.in-Upward.b)) rest _
    (sym c.mentions-in-Upward.ensures ∙ c.if-mentions-4.true) (ap (λ y. design.select_mentions f (view.read_select y) || rest) (sym c.in-Upward.is) ∙ h)

pub selects_mention-returns-then-mentions-5 : goal.selects_mention-returns-then-mentions-5
selects_mention-returns-then-mentions-5 t c =
    let f = faulty_in c.args.frames.now in
    let xs = c.args.selects.now in let k = c.loop-selected.selected-index in let one = c.selected-item.result in
    let e : drop k xs ≡ one ∷ drop (k + 1) xs = drop_more xs k one c.loop-selected-test.true ∙ ap (λ y. y ∷ drop (k + 1) xs) (sym c.selected-item.is) in
    let h = ap (λ ys. design.selects_mention f (view.read_selects ys)) (sym e) ∙ c.loop-selected.invariant in
    let rest = design.selects_mention f (view.read_selects (drop (k + 1) xs)) in
    pair_second (design.mentions f (view.expr c.in-Upward.a)) (design.mentions f (view.expr c.in-Upward.b)) rest _
    (sym c.mentions-in-Upward.ensures ∙ c.if-mentions-4.false) (sym c.mentions-in-Upward-2.ensures ∙ c.if-mentions-5.true) (ap (λ y. design.select_mentions f (view.read_select y) || rest) (sym c.in-Upward.is) ∙ h)

pub selects_mention-returns-then-mentions-6 : goal.selects_mention-returns-then-mentions-6
selects_mention-returns-then-mentions-6 t c =
    let f = faulty_in c.args.frames.now in
    let xs = c.args.selects.now in let k = c.loop-selected.selected-index in let one = c.selected-item.result in
    let e : drop k xs ≡ one ∷ drop (k + 1) xs = drop_more xs k one c.loop-selected-test.true ∙ ap (λ y. y ∷ drop (k + 1) xs) (sym c.selected-item.is) in
    let h = ap (λ ys. design.selects_mention f (view.read_selects ys)) (sym e) ∙ c.loop-selected.invariant in
    let rest = design.selects_mention f (view.read_selects (drop (k + 1) xs)) in
    pair_first (design.mentions f (view.expr c.in-Downward.a)) (design.mentions f (view.expr c.in-Downward.b)) rest _
    (sym c.mentions-in-Downward.ensures ∙ c.if-mentions-6.true) (ap (λ y. design.select_mentions f (view.read_select y) || rest) (sym c.in-Downward.is) ∙ h)

pub selects_mention-returns-then-mentions-7 : goal.selects_mention-returns-then-mentions-7
selects_mention-returns-then-mentions-7 t c =
    let f = faulty_in c.args.frames.now in
    let xs = c.args.selects.now in let k = c.loop-selected.selected-index in let one = c.selected-item.result in
    let e : drop k xs ≡ one ∷ drop (k + 1) xs = drop_more xs k one c.loop-selected-test.true ∙ ap (λ y. y ∷ drop (k + 1) xs) (sym c.selected-item.is) in
    let h = ap (λ ys. design.selects_mention f (view.read_selects ys)) (sym e) ∙ c.loop-selected.invariant in
    let rest = design.selects_mention f (view.read_selects (drop (k + 1) xs)) in
    pair_second (design.mentions f (view.expr c.in-Downward.a)) (design.mentions f (view.expr c.in-Downward.b)) rest _
    (sym c.mentions-in-Downward.ensures ∙ c.if-mentions-6.false) (sym c.mentions-in-Downward-2.ensures ∙ c.if-mentions-7.true) (ap (λ y. design.select_mentions f (view.read_select y) || rest) (sym c.in-Downward.is) ∙ h)

pub choices_mention-loop-choice-preserved : goal.choices_mention-loop-choice-preserved
choices_mention-loop-choice-preserved t c =
    let f = faulty_in c.args.frames.now in
    let xs = c.args.choices.now in let k = c.loop-choice.choice-index in
    let e : drop k xs ≡ c.choice-item.result ∷ drop (k + 1) xs = drop_more xs k c.choice-item.result c.loop-choice-test.true ∙ ap (λ y. y ∷ drop (k + 1) xs) (sym c.choice-item.is) in
    let h = ap (λ ys. design.choices_mention f (choices_of ys)) (sym e) ∙ c.loop-choice.invariant in
    let one = design.mentions f (view.expr c.choice-item.result.condition) in let two = design.mentions f (view.expr c.choice-item.result.value) in
    let rest = design.choices_mention f (choices_of (drop (k + 1) xs)) in
    by_third one two rest _ (sym c.mentions.ensures ∙ c.if-mentions.false) (sym c.mentions-in-loop-choice.ensures ∙ c.if-mentions-2.false) h

pub choices_mention-returns-then-mentions : goal.choices_mention-returns-then-mentions
choices_mention-returns-then-mentions t c =
    let f = faulty_in c.args.frames.now in
    let xs = c.args.choices.now in let k = c.loop-choice.choice-index in
    let e : drop k xs ≡ c.choice-item.result ∷ drop (k + 1) xs = drop_more xs k c.choice-item.result c.loop-choice-test.true ∙ ap (λ y. y ∷ drop (k + 1) xs) (sym c.choice-item.is) in
    let h = ap (λ ys. design.choices_mention f (choices_of ys)) (sym e) ∙ c.loop-choice.invariant in
    let one = design.mentions f (view.expr c.choice-item.result.condition) in let two = design.mentions f (view.expr c.choice-item.result.value) in
    let rest = design.choices_mention f (choices_of (drop (k + 1) xs)) in
    by_first one (two || rest) _ (sym c.mentions.ensures ∙ c.if-mentions.true) h

pub choices_mention-returns-then-mentions-2 : goal.choices_mention-returns-then-mentions-2
choices_mention-returns-then-mentions-2 t c =
    let f = faulty_in c.args.frames.now in
    let xs = c.args.choices.now in let k = c.loop-choice.choice-index in
    let e : drop k xs ≡ c.choice-item.result ∷ drop (k + 1) xs = drop_more xs k c.choice-item.result c.loop-choice-test.true ∙ ap (λ y. y ∷ drop (k + 1) xs) (sym c.choice-item.is) in
    let h = ap (λ ys. design.choices_mention f (choices_of ys)) (sym e) ∙ c.loop-choice.invariant in
    let one = design.mentions f (view.expr c.choice-item.result.condition) in let two = design.mentions f (view.expr c.choice-item.result.value) in
    let rest = design.choices_mention f (choices_of (drop (k + 1) xs)) in
    by_second one two rest _ (sym c.mentions.ensures ∙ c.if-mentions.false) (sym c.mentions-in-loop-choice.ensures ∙ c.if-mentions-2.true) h

pub mentions-returns-in-Call : goal.mentions-returns-in-Call
mentions-returns-in-Call t c =
    let f = faulty_in c.args.frames.now in
    c.some_mention.ensures ∙ ap (λ es. design.some_mention f (exprs_of es)) c.as_slice-in-Call.ensures
    ∙ sym (ap (λ e. design.mentions f (view.expr e)) c.in-Call.is ∙ ap (design.mentions f) (expr-call c.in-Call.field-0 c.in-Call.arguments))

pub mentions-returns-in-Concat : goal.mentions-returns-in-Concat
mentions-returns-in-Concat t c =
    let f = faulty_in c.args.frames.now in
    c.some_mention-in-Concat.ensures ∙ ap (λ es. design.some_mention f (exprs_of es)) c.as_slice-in-Concat.ensures
    ∙ sym (ap (λ e. design.mentions f (view.expr e)) c.in-Concat.is ∙ ap (design.mentions f) (expr-concat c.in-Concat.field-0 c.in-Concat.parts))

pub mentions-returns-then-choices_mention : goal.mentions-returns-then-choices_mention
mentions-returns-then-choices_mention t c =
    let f = faulty_in c.args.frames.now in
    by_first (design.choices_mention f (choices_of c.as_slice-in-Choose.result.now)) (design.mentions f (view.expr c.in-Choose.last)) _
    (sym c.choices_mention.ensures ∙ c.if-choices_mention.true)
    (ap (λ cs. design.choices_mention f (choices_of cs) || design.mentions f (view.expr c.in-Choose.last)) c.as_slice-in-Choose.ensures
    ∙ sym (ap (λ e. design.mentions f (view.expr e)) c.in-Choose.is ∙ ap (design.mentions f) (expr-choose c.in-Choose.choices c.in-Choose.last)))

pub mentions-returns-else-choices_mention : goal.mentions-returns-else-choices_mention
mentions-returns-else-choices_mention t c =
    let f = faulty_in c.args.frames.now in
    c.mentions-in-Choose.ensures ∙ ap (λ e. design.mentions f (view.expr e)) c.get-in-Choose.ensures
    ∙ by_rest (design.choices_mention f (choices_of c.as_slice-in-Choose.result.now)) (design.mentions f (view.expr c.in-Choose.last)) _
    (sym c.choices_mention.ensures ∙ c.if-choices_mention.false)
    (ap (λ cs. design.choices_mention f (choices_of cs) || design.mentions f (view.expr c.in-Choose.last)) c.as_slice-in-Choose.ensures
    ∙ sym (ap (λ e. design.mentions f (view.expr e)) c.in-Choose.is ∙ ap (design.mentions f) (expr-choose c.in-Choose.choices c.in-Choose.last)))

pub mentions-returns-else-is_faulty : goal.mentions-returns-else-is_faulty
mentions-returns-else-is_faulty t c =
    let f = faulty_in c.args.frames.now in
    c.selects_mention.ensures ∙ ap (λ ks. design.selects_mention f (view.read_selects ks)) c.as_slice.ensures
    ∙ by_rest (f c.in-Read.name.text) (design.selects_mention f (view.read_selects c.in-Read.selects)) _
    (sym c.is_faulty.ensures ∙ c.if-is_faulty.false)
    (sym (ap (λ e. design.mentions f (view.expr e)) c.in-Read.is ∙ ap (design.mentions f) (expr-read c.in-Read.name c.in-Read.selects)))

pub mentions-returns-else-mentions : goal.mentions-returns-else-mentions
mentions-returns-else-mentions t c =
    let f = faulty_in c.args.frames.now in
    c.some_mention-in-Repeat.ensures ∙ ap (λ es. design.some_mention f (exprs_of es)) c.as_slice-in-Repeat.ensures
    ∙ by_rest (design.mentions f (view.expr c.in-Repeat.count)) (design.some_mention f (exprs_of c.in-Repeat.parts)) _
    (sym (c.mentions-in-Repeat.ensures ∙ ap (λ e. design.mentions f (view.expr e)) c.get-in-Repeat.ensures) ∙ c.if-mentions.false)
    (sym (ap (λ e. design.mentions f (view.expr e)) c.in-Repeat.is ∙ ap (design.mentions f) (expr-repeat c.in-Repeat.field-0 c.in-Repeat.count c.in-Repeat.parts)))

pub mentions-returns-else-mentions-2 : goal.mentions-returns-else-mentions-2
mentions-returns-else-mentions-2 t c =
    let f = faulty_in c.args.frames.now in
    c.links_mention.ensures ∙ ap (λ ls. design.links_mention f (links_of ls)) c.as_slice-in-Chain.ensures
    ∙ by_rest (design.mentions f (view.expr c.in-Chain.first)) (design.links_mention f (links_of c.in-Chain.links)) _
    (sym (c.mentions-in-Chain.ensures ∙ ap (λ e. design.mentions f (view.expr e)) c.get-in-Chain.ensures) ∙ c.if-mentions-2.false)
    (sym (ap (λ e. design.mentions f (view.expr e)) c.in-Chain.is ∙ ap (design.mentions f) (expr-chain c.in-Chain.first c.in-Chain.links)))
