use Rattle.std.proofs.Common.{◌≡◌, ◌-◌, ◌+◌, ◌∷◌, [], ◌++◌, arith, subst, refl, ◌∙◌}
use Rattle.std.proofs.lemmas.Result.{err_from_is_err_and}
use Rattle.std.specs.Prelude.{Some}
use Rattle.vl_tree.specs.Syntax.{no_expr, no_link, more_link, no_choice, more_choice, no_select, more_select, more_expr}
use Rattle.vl_tree.specs.SyntaxView as plain
use Rattle.vl_tree.specs.Token.{coded_kind, literal_of}
use Rattle.vl_tree.specs.Expressions.{select_at}
use Rattle.vl_tree.specs.Depth.{select_depths}
use Rattle.vl_read.specs.Reading.{Took}
use Rattle.vl_read.proofs.Leads.{leads_reads}
use Rattle.vl_expr.specs.Ends.{EndsSelect}
use Rattle.vl_expr.specs.Lists.{exprs_of, links_of, choices_of, select_of}
use Rattle.vl_expr.proofs.Views as view
use Rattle.vl_expr.proofs.Selects as rule_select
use Rattle.vl_expr.proofs.Chains as rule_chain
use Rattle.vl_expr.proofs.Commas as rule_list
use Rattle.vl_expr.proofs.Primaries as rule
use Rattle.vl_expr.proofs.Braces as rule_brace
use Rattle.vl_expr.proofs.expression.+expression.Goals as goal

-- ---- what stands between brackets

pub read_select-returns-in_err-first-clause-reads : goal.read_select-returns-in_err-first-clause-reads
read_select-returns-in_err-first-clause-reads t c =
    let p = err_from_is_err_and c.from_residual.result c.from_residual.ensures.1 in
    rw (p.1, p.2) (rule_select.select_fails_0 c.args.depth c.args.at c.in_err-first.field-0.0 c.in_err-first.ensures.reads)

pub read_select-returns-in_default-clause-reads : goal.read_select-returns-in_default-clause-reads
read_select-returns-in_default-clause-reads t c =
    rule_select.select_alone c.args.depth c.args.at _ _ c.in_ok-first.ensures.reads c.in_default.ensures.reads

pub read_select-returns-in_err-second-clause-reads : goal.read_select-returns-in_err-second-clause-reads
read_select-returns-in_err-second-clause-reads t c =
    let p = err_from_is_err_and c.from_residual-in_err-second.result c.from_residual-in_err-second.ensures.1 in
    rw (p.1, p.2) ((rule_select.select_second c.args.depth c.args.at _ _ c.in_ok-first.ensures.reads c.in_ok-first.ensures.shallow c.in-Some.separator _ c.in-Some.ensures.reads).fails c.in_err-second.field-0.0 c.in_err-second.ensures.reads)

pub read_select-returns-in-Part-clause-reads : goal.read_select-returns-in-Part-clause-reads
read_select-returns-in-Part-clause-reads t c =
    subst (λ v. Took select_at (select_depths c.args.depth) EndsSelect EndsSelect (select_of (plain.expr c.in_ok-first.first) (Some (v, plain.expr c.in_ok-second.second))) c.args.at c.in_ok-second.rest) c.in-Part.is
    ((rule_select.select_second c.args.depth c.args.at _ _ c.in_ok-first.ensures.reads c.in_ok-first.ensures.shallow c.in-Some.separator _ c.in-Some.ensures.reads).took _ _ c.in_ok-second.ensures.reads)

pub read_select-returns-in-Upward-clause-reads : goal.read_select-returns-in-Upward-clause-reads
read_select-returns-in-Upward-clause-reads t c =
    subst (λ v. Took select_at (select_depths c.args.depth) EndsSelect EndsSelect (select_of (plain.expr c.in_ok-first.first) (Some (v, plain.expr c.in_ok-second.second))) c.args.at c.in_ok-second.rest) c.in-Upward.is
    ((rule_select.select_second c.args.depth c.args.at _ _ c.in_ok-first.ensures.reads c.in_ok-first.ensures.shallow c.in-Some.separator _ c.in-Some.ensures.reads).took _ _ c.in_ok-second.ensures.reads)

pub read_select-returns-in-Downward-clause-reads : goal.read_select-returns-in-Downward-clause-reads
read_select-returns-in-Downward-clause-reads t c =
    subst (λ v. Took select_at (select_depths c.args.depth) EndsSelect EndsSelect (select_of (plain.expr c.in_ok-first.first) (Some (v, plain.expr c.in_ok-second.second))) c.args.at c.in_ok-second.rest) c.in-Downward.is
    ((rule_select.select_second c.args.depth c.args.at _ _ c.in_ok-first.ensures.reads c.in_ok-first.ensures.shallow c.in-Some.separator _ c.in-Some.ensures.reads).took _ _ c.in_ok-second.ensures.reads)

-- ---- selects

pub read_selects-returns-in_default-clause-reads : goal.read_selects-returns-in_default-clause-reads
read_selects-returns-in_default-clause-reads t c = rw c.new.ensures (rule_select.selects_none c.args.depth c.args.at c.in_default.ensures.reads)

pub read_selects-returns-in-None-clause-reads : goal.read_selects-returns-in-None-clause-reads
read_selects-returns-in-None-clause-reads t c =
    rw (← view.selects_on-none c.loop-selects.selects) (c.loop-selects.invariant.took no_select _ (rule_select.selects_none c.args.depth c.loop-selects.rest c.in-None.ensures.reads))

pub read_selects-returns-in_err-select-in-Some-find_mark-clause-reads : goal.read_selects-returns-in_err-select-in-Some-find_mark-clause-reads
read_selects-returns-in_err-select-in-Some-find_mark-clause-reads t c =
    let p = err_from_is_err_and c.from_residual-in_err-select-in-Some-find_mark.result c.from_residual-in_err-select-in-Some-find_mark.ensures.1 in
    rw (p.1, p.2) (c.loop-selects.invariant.fails c.in_err-select-in-Some-find_mark.field-0.0
    (rule_select.selects_fails_0 c.args.depth _ c.requires.low c.loop-selects.rest _ c.in-Some-find_mark.ensures.reads c.in_err-select-in-Some-find_mark.field-0.0 c.in_err-select-in-Some-find_mark.ensures.reads))

pub read_selects-returns-in_err-after-in-Some-find_mark-clause-reads : goal.read_selects-returns-in_err-after-in-Some-find_mark-clause-reads
read_selects-returns-in_err-after-in-Some-find_mark-clause-reads t c =
    let p = err_from_is_err_and c.from_residual-in_err-after-in-Some-find_mark.result c.from_residual-in_err-after-in-Some-find_mark.ensures.1 in
    rw (p.1, p.2) (c.loop-selects.invariant.fails c.in_err-after-in-Some-find_mark.field-0.0
    (rule_select.selects_fails_1 c.args.depth _ c.requires.low c.loop-selects.rest _ c.in-Some-find_mark.ensures.reads _ _ c.in_ok-select-in-Some-find_mark.ensures.reads
    c.in_err-after-in-Some-find_mark.field-0.0 (c.in_err-after-in-Some-find_mark.ensures.reads c.args.depth)))

pub read_selects-loop-selects-preserved : goal.read_selects-loop-selects-preserved
read_selects-loop-selects-preserved t c = record {
  took = λ ss rest p.
      let e : c.push.new.self ≡ c.loop-selects.selects ++ (record { place = c.in-Some-find_mark.place; select = c.in_ok-select-in-Some-find_mark.select }) ∷ [] = c.in_ok-push-in-Some-find_mark.ensures.ok in
      rw (e, view.selects_on-one) (c.loop-selects.invariant.took (more_select (plain.place c.in-Some-find_mark.place) (plain.read_select c.in_ok-select-in-Some-find_mark.select) ss) rest
      ((rule_select.selects_next c.args.depth _ c.requires.low c.loop-selects.rest _ c.in-Some-find_mark.ensures.reads _ _ c.in_ok-select-in-Some-find_mark.ensures.reads _ c.in_ok-after-in-Some-find_mark.ensures.reads).took ss rest p));
  fails = λ e r. c.loop-selects.invariant.fails e ((rule_select.selects_next c.args.depth _ c.requires.low c.loop-selects.rest _ c.in-Some-find_mark.ensures.reads _ _ c.in_ok-select-in-Some-find_mark.ensures.reads _ c.in_ok-after-in-Some-find_mark.ensures.reads).fails e r);
  shorter = omega (arith, c.in-Some-find_mark.ensures.shorter, c.in_ok-select-in-Some-find_mark.ensures.shorter, c.in_ok-after-in-Some-find_mark.ensures.shorter, c.loop-selects.invariant.shorter);
}

-- ---- expressions with commas

pub read_more-loop-all-init : goal.read_more-loop-all-init
read_more-loop-all-init t c =
    let e : c.in_ok-all.all ≡ c.args.first ∷ [] = c.in_ok-all.ensures in
    record {
      took = λ es rest p. rw e ((rule_list.list_more c.args.depth (plain.expr c.args.first) c.args.at).took es rest p);
      fails = λ e r. (rule_list.list_more c.args.depth (plain.expr c.args.first) c.args.at).fails e r;
      shorter = omega arith;
    }

pub read_more-returns-in-None-clause-reads : goal.read_more-returns-in-None-clause-reads
read_more-returns-in-None-clause-reads t c =
    rw (← view.exprs_on-none c.loop-all.all) (c.loop-all.invariant.took no_expr _ (rule_list.more_none c.args.depth c.loop-all.rest c.in-None.ensures.reads))

pub read_more-returns-in_err-expr-in-Some-clause-reads : goal.read_more-returns-in_err-expr-in-Some-clause-reads
read_more-returns-in_err-expr-in-Some-clause-reads t c =
    let p = err_from_is_err_and c.from_residual-in_err-expr-in-Some.result c.from_residual-in_err-expr-in-Some.ensures.1 in
    rw (p.1, p.2) (c.loop-all.invariant.fails c.in_err-expr-in-Some.field-0.0
    (rule_list.more_fails c.args.depth _ c.requires.low c.loop-all.rest _ c.in-Some.ensures.reads c.in_err-expr-in-Some.field-0.0 c.in_err-expr-in-Some.ensures.reads))

pub read_more-loop-all-preserved : goal.read_more-loop-all-preserved
read_more-loop-all-preserved t c = record {
  took = λ es rest p.
      let e : c.push.new.self ≡ c.loop-all.all ++ c.in_ok-expr-in-Some.expr ∷ [] = c.in_ok-push-in-Some.ensures.ok in
      rw (e, view.exprs_on-one) (c.loop-all.invariant.took (more_expr (plain.expr c.in_ok-expr-in-Some.expr) es) rest ((rule_list.more_next c.args.depth _ c.requires.low c.loop-all.rest _ c.in-Some.ensures.reads _ _ c.in_ok-expr-in-Some.ensures.reads).took es rest p));
  fails = λ e r. c.loop-all.invariant.fails e ((rule_list.more_next c.args.depth _ c.requires.low c.loop-all.rest _ c.in-Some.ensures.reads _ _ c.in_ok-expr-in-Some.ensures.reads).fails e r);
  shorter = omega (arith, c.in-Some.ensures.shorter, c.in_ok-expr-in-Some.ensures.shorter, c.loop-all.invariant.shorter);
}

pub read_list-returns-in_err-first-clause-reads : goal.read_list-returns-in_err-first-clause-reads
read_list-returns-in_err-first-clause-reads t c =
    let p = err_from_is_err_and c.from_residual.result c.from_residual.ensures.1 in
    rw (p.1, p.2) (rule_list.list_fails c.args.depth c.args.at c.in_err-first.field-0.0 c.in_err-first.ensures.reads)

pub read_list-returns-clause-reads : goal.read_list-returns-clause-reads
read_list-returns-clause-reads t c =
    rule_list.list_reads c.args.depth c.args.at _ _ c.in_ok-first.ensures.reads exprs_of c.read_more.result c.read_more.ensures.reads

-- ---- choices

pub read_expr-returns-in_err-condition-clause-reads : goal.read_expr-returns-in_err-condition-clause-reads
read_expr-returns-in_err-condition-clause-reads t c =
    let p = err_from_is_err_and c.from_residual.result c.from_residual.ensures.1 in
    rw (p.1, p.2) ((rule_chain.expr_parts c.args.depth c.args.at).fails c.in_err-condition.field-0.0 (c.loop-choices.invariant.fails c.in_err-condition.field-0.0
    (rule_chain.tail_fails_0 c.args.depth c.loop-choices.rest c.in_err-condition.field-0.0 c.in_err-condition.ensures.reads)))

pub read_expr-returns-in-None-clause-reads : goal.read_expr-returns-in-None-clause-reads
read_expr-returns-in-None-clause-reads t c =
    rw c.in_ok-expr-in-None.ensures
    ((rule_chain.expr_parts c.args.depth c.args.at).took (choices_of c.loop-choices.choices, plain.expr c.in_ok-condition.condition) _
    (rw (← view.choices_on-none c.loop-choices.choices)
    (c.loop-choices.invariant.took no_choice _ _ (rule_chain.tail_last c.args.depth c.loop-choices.rest _ _ c.in_ok-condition.ensures.reads c.in-None.ensures.reads))))

pub read_expr-returns-in_err-value-in-Some-clause-reads : goal.read_expr-returns-in_err-value-in-Some-clause-reads
read_expr-returns-in_err-value-in-Some-clause-reads t c =
    let p = err_from_is_err_and c.from_residual-in_err-value-in-Some.result c.from_residual-in_err-value-in-Some.ensures.1 in
    rw (p.1, p.2) ((rule_chain.expr_parts c.args.depth c.args.at).fails c.in_err-value-in-Some.field-0.0 (c.loop-choices.invariant.fails c.in_err-value-in-Some.field-0.0
    (rule_chain.tail_fails_1 c.args.depth c.loop-choices.rest _ _ c.in_ok-condition.ensures.reads c.in_ok-condition.ensures.shallow _ _ c.in-Some.ensures.reads
    c.in_err-value-in-Some.field-0.0 c.in_err-value-in-Some.ensures.reads)))

pub read_expr-returns-in_err-after-in-Some-clause-reads : goal.read_expr-returns-in_err-after-in-Some-clause-reads
read_expr-returns-in_err-after-in-Some-clause-reads t c =
    let p = err_from_is_err_and c.from_residual-in_err-after-in-Some.result c.from_residual-in_err-after-in-Some.ensures.1 in
    rw (p.1, p.2) ((rule_chain.expr_parts c.args.depth c.args.at).fails c.in_err-after-in-Some.field-0.0 (c.loop-choices.invariant.fails c.in_err-after-in-Some.field-0.0
    (rule_chain.tail_fails_2 c.args.depth c.loop-choices.rest _ _ c.in_ok-condition.ensures.reads c.in_ok-condition.ensures.shallow _ _ c.in-Some.ensures.reads _ _ c.in_ok-value-in-Some.ensures.reads
    c.in_err-after-in-Some.field-0.0 (c.in_err-after-in-Some.ensures.reads c.args.depth))))

pub read_expr-loop-choices-preserved : goal.read_expr-loop-choices-preserved
read_expr-loop-choices-preserved t c = record {
  took = λ cs x rest p.
      let e : c.push.new.self ≡ c.loop-choices.choices ++ (record { condition = c.in_ok-condition.condition; place = c.in-Some.place; value = c.in_ok-value-in-Some.value }) ∷ [] = c.in_ok-push-in-Some.ensures.ok in
      rw (e, view.choices_on-one)
      (c.loop-choices.invariant.took (more_choice (plain.expr c.in_ok-condition.condition) (plain.place c.in-Some.place) (plain.expr c.in_ok-value-in-Some.value) cs) x rest
      ((rule_chain.tail_next c.args.depth c.loop-choices.rest _ _ c.in_ok-condition.ensures.reads c.in_ok-condition.ensures.shallow _ _ c.in-Some.ensures.reads _ _ c.in_ok-value-in-Some.ensures.reads _ c.in_ok-after-in-Some.ensures.reads).took (cs, x) rest p));
  fails = λ e r. c.loop-choices.invariant.fails e ((rule_chain.tail_next c.args.depth c.loop-choices.rest _ _ c.in_ok-condition.ensures.reads c.in_ok-condition.ensures.shallow _ _ c.in-Some.ensures.reads _ _ c.in_ok-value-in-Some.ensures.reads _ c.in_ok-after-in-Some.ensures.reads).fails e r);
  shorter = omega (arith, c.in_ok-condition.ensures.shorter, c.in-Some.ensures.shorter, c.in_ok-value-in-Some.ensures.shorter, c.in_ok-after-in-Some.ensures.shorter, c.loop-choices.invariant.shorter);
}

-- ---- operators of each level in turn

pub read_chain-returns-in_err-first-clause-reads : goal.read_chain-returns-in_err-first-clause-reads
read_chain-returns-in_err-first-clause-reads t c =
    let p = err_from_is_err_and c.from_residual.result c.from_residual.ensures.1 in
    rw (p.1, p.2) (rule_chain.raise_fails c.args.depth c.args.limit c.requires.most c.args.at (c.args.limit - 1) 1 (omega (arith, c.requires.some)) (omega arith)
    c.in_err-first.field-0.0 c.in_err-first.ensures.reads)

pub read_chain-loop-expr-init : goal.read_chain-loop-expr-init
read_chain-loop-expr-init t c = record {
  took = c.in_ok-first.ensures.reads;
  some = omega arith;
  most = c.requires.some;
  shorter = c.in_ok-first.ensures.shorter;
}

pub read_chain-returns-in-None-clause-reads : goal.read_chain-returns-in-None-clause-reads
read_chain-returns-in-None-clause-reads t c =
    rule_chain.raise_took c.args.depth c.args.limit c.requires.most c.args.at c.loop-expr.rest _ (c.args.limit - c.loop-expr.lower) c.loop-expr.lower
    (omega (arith, c.loop-expr.invariant.most)) c.loop-expr.invariant.some c.in-None.ensures c.loop-expr.invariant.took

pub read_chain-returns-in_err-chain-in-Some-clause-reads : goal.read_chain-returns-in_err-chain-in-Some-clause-reads
read_chain-returns-in_err-chain-in-Some-clause-reads t c =
    let p = err_from_is_err_and c.from_residual-in_err-chain-in-Some.result c.from_residual-in_err-chain-in-Some.ensures.1 in
    let n = c.in-Some.level in
    let q = c.in-Some.ensures in
    let w = rule_chain.raise_took c.args.depth n (omega (arith, q.2, c.requires.most)) c.args.at c.loop-expr.rest _ (n - c.loop-expr.lower) c.loop-expr.lower
    (omega (arith, q.1)) c.loop-expr.invariant.some (λ l i j. rule_chain.level_above n c.loop-expr.rest q.0 l j) c.loop-expr.invariant.took in
    rw (p.1, p.2) (rule_chain.raise_fails c.args.depth c.args.limit c.requires.most c.args.at (c.args.limit - (n + 1)) (n + 1) (omega (arith, q.2)) (omega arith)
    c.in_err-chain-in-Some.field-0.0 (c.in_err-chain-in-Some.ensures.reads c.args.at w))

pub read_chain-loop-expr-preserved : goal.read_chain-loop-expr-preserved
read_chain-loop-expr-preserved t c =
    let n = c.in-Some.level in
    let q = c.in-Some.ensures in
    let w = rule_chain.raise_took c.args.depth n (omega (arith, q.2, c.requires.most)) c.args.at c.loop-expr.rest _ (n - c.loop-expr.lower) c.loop-expr.lower
    (omega (arith, q.1)) c.loop-expr.invariant.some (λ l i j. rule_chain.level_above n c.loop-expr.rest q.0 l j) c.loop-expr.invariant.took in
    record {
      took = c.in_ok-chain-in-Some.ensures.reads c.args.at w;
      some = omega arith;
      most = omega (arith, q.2);
      shorter = omega (arith, c.in_ok-chain-in-Some.ensures.shorter, c.loop-expr.invariant.shorter);
    }

-- ---- operators of one level

pub read_links-loop-first-init : goal.read_links-loop-first-init
read_links-loop-first-init t c = record {
  same = refl;
  took = λ ls rest p. rw c.in_ok-links.ensures p;
  fails = λ e r. r;
  shorter = omega arith;
}

pub read_links-returns-in-None-clause-reads : goal.read_links-returns-in-None-clause-reads
read_links-returns-in-None-clause-reads t c =
    λ ts w. rw (c.in_ok-expr-in-None.ensures, c.loop-first.invariant.same)
    ((rule_chain.chain_next c.args.depth (c.args.level + 1) c.args.level (omega arith) c.requires.some c.requires.most ts _ c.args.at w).took (links_of c.loop-first.links) _
    (rw (← view.links_on-none c.loop-first.links)
    (c.loop-first.invariant.took no_link _ (rule_chain.links_none c.args.depth c.args.level c.loop-first.rest c.in-None.ensures.reads))))

pub read_links-returns-in_err-operand-in-Some-clause-reads : goal.read_links-returns-in_err-operand-in-Some-clause-reads
read_links-returns-in_err-operand-in-Some-clause-reads t c =
    let p = err_from_is_err_and c.from_residual-in_err-operand-in-Some.result c.from_residual-in_err-operand-in-Some.ensures.1 in
    λ ts w. rw (p.1, p.2)
    ((rule_chain.chain_next c.args.depth (c.args.level + 1) c.args.level (omega arith) c.requires.some c.requires.most ts _ c.args.at w).fails c.in_err-operand-in-Some.field-0.0
    (c.loop-first.invariant.fails c.in_err-operand-in-Some.field-0.0
    (rule_chain.link_fails c.args.depth c.args.level c.in-Some.ensures.reads.0 c.in-Some.operator c.in-Some.ensures.reads.1 c.in-Some.ensures.reads.2 _ c.requires.low c.loop-first.rest _ c.in-Some.ensures.reads.3
    c.in_err-operand-in-Some.field-0.0 c.in_err-operand-in-Some.ensures.reads)))

pub read_links-loop-first-preserved : goal.read_links-loop-first-preserved
read_links-loop-first-preserved t c =
    let k = rule_chain.link_next c.args.depth c.args.level c.in-Some.ensures.reads.0 c.in-Some.operator c.in-Some.ensures.reads.1 c.in-Some.ensures.reads.2 _ c.requires.low c.loop-first.rest _ c.in-Some.ensures.reads.3 _ _ c.in_ok-operand-in-Some.ensures.reads in
    record {
      same = c.loop-first.invariant.same;
      took = λ ls rest p.
          let e : c.push.new.self ≡ c.loop-first.links ++ (record { operator = c.in-Some.operator; place = c.in-Some.place; operand = c.in_ok-operand-in-Some.operand }) ∷ [] = c.in_ok-push-in-Some.ensures.ok in
          rw (e, view.links_on-one)
          (c.loop-first.invariant.took (more_link c.in-Some.operator (plain.place c.in-Some.place) (plain.expr c.in_ok-operand-in-Some.operand) ls) rest (k.took ls rest p));
      fails = λ e r. c.loop-first.invariant.fails e (k.fails e r);
      shorter = omega (arith, c.in-Some.ensures.shorter, c.in_ok-operand-in-Some.ensures.shorter, c.loop-first.invariant.shorter);
    }

-- ---- after a name

pub read_named-returns-in_err-arguments-in-Some-clause-reads : goal.read_named-returns-in_err-arguments-in-Some-clause-reads
read_named-returns-in_err-arguments-in-Some-clause-reads t c =
    let p = err_from_is_err_and c.from_residual-in_err-arguments-in-Some.result c.from_residual-in_err-arguments-in-Some.ensures.1 in
    rw (p.1, p.2) (rule.call_fails_0 c.args.depth c.requires.low c.args.text.now (plain.place c.args.place) c.args.at _ _ c.in-Some.ensures.reads c.in_err-arguments-in-Some.field-0.0 c.in_err-arguments-in-Some.ensures.reads)

pub read_named-returns-in_err-rest-in-Some-clause-reads : goal.read_named-returns-in_err-rest-in-Some-clause-reads
read_named-returns-in_err-rest-in-Some-clause-reads t c =
    let p = err_from_is_err_and c.from_residual-in_err-rest-in-Some.result c.from_residual-in_err-rest-in-Some.ensures.1 in
    rw (p.1, p.2) (rule.call_fails_1 c.args.depth c.requires.low c.args.text.now (plain.place c.args.place) c.args.at _ _ c.in-Some.ensures.reads _ _ c.in_ok-arguments-in-Some.ensures.reads c.in_err-rest-in-Some.field-0.0 (c.in_err-rest-in-Some.ensures.reads c.args.depth))

pub read_named-returns-in_err-selects-in-None-clause-reads : goal.read_named-returns-in_err-selects-in-None-clause-reads
read_named-returns-in_err-selects-in-None-clause-reads t c =
    let p = err_from_is_err_and c.from_residual-in_err-selects-in-None.result c.from_residual-in_err-selects-in-None.ensures.1 in
    rw (p.1, p.2) ((rule.read_part c.args.depth c.requires.low c.args.text.now (plain.place c.args.place) c.args.at c.in-None.ensures.reads).fails c.in_err-selects-in-None.field-0.0 c.in_err-selects-in-None.ensures.reads)

pub read_named-returns-in_ok-rest-in-Some-clause-reads : goal.read_named-returns-in_ok-rest-in-Some-clause-reads
read_named-returns-in_ok-rest-in-Some-clause-reads t c =
    let s : c.in_ok-text.text ≡ c.args.text.now = c.in_ok-text.ensures ∙ c.bytes.ensures in
    rw (view.expr-call (record { text = c.in_ok-text.text; place = c.args.place }) c.in_ok-arguments-in-Some.arguments, s)
    (rule.call_took c.args.depth c.requires.low c.args.text.now (plain.place c.args.place) c.args.at _ _ c.in-Some.ensures.reads _ _ c.in_ok-arguments-in-Some.ensures.reads _ c.in_ok-rest-in-Some.ensures.reads)

pub read_named-returns-in_ok-selects-in-None-clause-reads : goal.read_named-returns-in_ok-selects-in-None-clause-reads
read_named-returns-in_ok-selects-in-None-clause-reads t c =
    let s : c.in_ok-text.text ≡ c.args.text.now = c.in_ok-text.ensures ∙ c.bytes.ensures in
    rw (view.expr-read (record { text = c.in_ok-text.text; place = c.args.place }) c.in_ok-selects-in-None.selects, s)
    ((rule.read_part c.args.depth c.requires.low c.args.text.now (plain.place c.args.place) c.args.at c.in-None.ensures.reads).took _ _ c.in_ok-selects-in-None.ensures.reads)

-- ---- after a brace

pub read_braces-returns-in_err-first-clause-reads : goal.read_braces-returns-in_err-first-clause-reads
read_braces-returns-in_err-first-clause-reads t c =
    let p = err_from_is_err_and c.from_residual.result c.from_residual.ensures.1 in
    rw (p.1, p.2) (rule_brace.braces_fails c.args.depth c.requires.low (plain.place c.args.place) c.args.at c.in_err-first.field-0.0 c.in_err-first.ensures.reads)

pub read_braces-returns-in_err-parts-in-Some-clause-reads : goal.read_braces-returns-in_err-parts-in-Some-clause-reads
read_braces-returns-in_err-parts-in-Some-clause-reads t c =
    let p = err_from_is_err_and c.from_residual-in_err-parts-in-Some.result c.from_residual-in_err-parts-in-Some.ensures.1 in
    rw (p.1, p.2) (rule_brace.repeat_fails_0 c.args.depth c.requires.low (plain.place c.args.place) c.args.at _ _ c.in_ok-first.ensures.reads c.in_ok-first.ensures.shallow _ _ c.in-Some.ensures.reads c.in_err-parts-in-Some.field-0.0 c.in_err-parts-in-Some.ensures.reads)

pub read_braces-returns-in_err-rest-in-Some-clause-reads : goal.read_braces-returns-in_err-rest-in-Some-clause-reads
read_braces-returns-in_err-rest-in-Some-clause-reads t c =
    let p = err_from_is_err_and c.from_residual-in_err-rest-in-Some.result c.from_residual-in_err-rest-in-Some.ensures.1 in
    rw (p.1, p.2) (rule_brace.repeat_fails_1 c.args.depth c.requires.low (plain.place c.args.place) c.args.at _ _ c.in_ok-first.ensures.reads c.in_ok-first.ensures.shallow _ _ c.in-Some.ensures.reads _ _ c.in_ok-parts-in-Some.ensures.reads c.in_err-rest-in-Some.field-0.0 (c.in_err-rest-in-Some.ensures.reads (c.args.depth + 1)))

pub read_braces-returns-in_err-rest-in-Some-2-clause-reads : goal.read_braces-returns-in_err-rest-in-Some-2-clause-reads
read_braces-returns-in_err-rest-in-Some-2-clause-reads t c =
    let p = err_from_is_err_and c.from_residual-in_err-rest-in-Some-2.result c.from_residual-in_err-rest-in-Some-2.ensures.1 in
    rw (p.1, p.2) (rule_brace.repeat_fails_2 c.args.depth c.requires.low (plain.place c.args.place) c.args.at _ _ c.in_ok-first.ensures.reads c.in_ok-first.ensures.shallow _ _ c.in-Some.ensures.reads _ _ c.in_ok-parts-in-Some.ensures.reads _ c.in_ok-rest-in-Some.ensures.reads c.in_err-rest-in-Some-2.field-0.0 (c.in_err-rest-in-Some-2.ensures.reads c.args.depth))

pub read_braces-returns-in_ok-count-in-Some-clause-reads : goal.read_braces-returns-in_ok-count-in-Some-clause-reads
read_braces-returns-in_ok-count-in-Some-clause-reads t c =
    let s : c.in_ok-count-in-Some.count ≡ c.in_ok-first.first = c.in_ok-count-in-Some.ensures in
    rw (view.expr-repeat c.args.place c.in_ok-count-in-Some.count c.in_ok-parts-in-Some.parts, s)
    (rule_brace.repeat_took c.args.depth c.requires.low (plain.place c.args.place) c.args.at _ _ c.in_ok-first.ensures.reads c.in_ok-first.ensures.shallow _ _ c.in-Some.ensures.reads _ _ c.in_ok-parts-in-Some.ensures.reads _ c.in_ok-rest-in-Some.ensures.reads _ c.in_ok-rest-in-Some-2.ensures.reads)

pub read_braces-returns-in_err-parts-in-None-clause-reads : goal.read_braces-returns-in_err-parts-in-None-clause-reads
read_braces-returns-in_err-parts-in-None-clause-reads t c =
    let p = err_from_is_err_and c.from_residual-in_err-parts-in-None.result c.from_residual-in_err-parts-in-None.ensures.1 in
    rw (p.1, p.2) (rule_brace.concat_fails_0 c.args.depth c.requires.low (plain.place c.args.place) c.args.at _ _ c.in_ok-first.ensures.reads c.in-None.ensures.reads c.in_err-parts-in-None.field-0.0 c.in_err-parts-in-None.ensures.reads)

pub read_braces-returns-in_err-rest-in-None-clause-reads : goal.read_braces-returns-in_err-rest-in-None-clause-reads
read_braces-returns-in_err-rest-in-None-clause-reads t c =
    let p = err_from_is_err_and c.from_residual-in_err-rest-in-None.result c.from_residual-in_err-rest-in-None.ensures.1 in
    rw (p.1, p.2) (rule_brace.concat_fails_1 c.args.depth c.requires.low (plain.place c.args.place) c.args.at _ _ c.in_ok-first.ensures.reads c.in-None.ensures.reads _ _ c.in_ok-parts-in-None.ensures.reads c.in_err-rest-in-None.field-0.0 (c.in_err-rest-in-None.ensures.reads c.args.depth))

pub read_braces-returns-in_ok-rest-in-None-clause-reads : goal.read_braces-returns-in_ok-rest-in-None-clause-reads
read_braces-returns-in_ok-rest-in-None-clause-reads t c =
    rw (view.expr-concat c.args.place c.in_ok-parts-in-None.parts)
    (rule_brace.concat_took c.args.depth c.requires.low (plain.place c.args.place) c.args.at _ _ c.in_ok-first.ensures.reads c.in-None.ensures.reads _ _ c.in_ok-parts-in-None.ensures.reads _ c.in_ok-rest-in-None.ensures.reads)

-- ---- primaries

pub read_primary-returns-in_default-clause-reads : goal.read_primary-returns-in_default-clause-reads
read_primary-returns-in_default-clause-reads t c =
    rw c.left.ensures (rule.primary_end c.args.depth c.args.at c.in_default.ensures)

pub read_primary-returns-in_default-start_of-clause-reads : goal.read_primary-returns-in_default-start_of-clause-reads
read_primary-returns-in_default-start_of-clause-reads t c =
    rw c.left-in_default-start_of.ensures (rule.primary_stuck c.args.depth (coded_kind c.in-Some.token.now.kind) (plain.place c.in-Some.place) c.args.at _ c.in-Some.ensures c.in_default-start_of.ensures)

pub read_primary-returns-then-depth-gt-MAX_DEPTH-clause-reads : goal.read_primary-returns-then-depth-gt-MAX_DEPTH-clause-reads
read_primary-returns-then-depth-gt-MAX_DEPTH-clause-reads t c =
    let i : c.args.depth ≡ 201 = omega (arith, c.requires.low, c.if-depth-gt-MAX_DEPTH.true) in
    rw c.left-then-depth-gt-MAX_DEPTH.ensures
    (rule.primary_sunk c.args.depth (coded_kind c.in-Some.token.now.kind) (plain.place c.in-Some.place) c.in-Some-start_of.start c.args.at _ c.in-Some.ensures c.in-Some-start_of.ensures i)

pub read_primary-returns-in-Number-clause-reads : goal.read_primary-returns-in-Number-clause-reads
read_primary-returns-in-Number-clause-reads t c =
    rw (view.expr-number c.in-Some.place c.in-Number.literal)
    (rule.number_took c.args.depth (omega (arith, c.requires.low, c.if-depth-gt-MAX_DEPTH.false)) (plain.place c.in-Some.place) c.args.at _ (literal_of c.in-Number.literal) (rule.begins_number (coded_kind c.in-Some.token.now.kind) (plain.place c.in-Some.place) c.args.at _ c.in-Some.ensures c.in-Some-start_of.start c.in-Some-start_of.ensures c.in-Number.literal c.in-Number.is))

pub read_primary-returns-in-Name-clause-reads : goal.read_primary-returns-in-Name-clause-reads
read_primary-returns-in-Name-clause-reads t c =
    leads_reads (rule.named_part c.args.depth (omega (arith, c.requires.low, c.if-depth-gt-MAX_DEPTH.false)) (plain.place c.in-Some.place) c.args.at _ c.in-Name.text.now (rule.begins_name (coded_kind c.in-Some.token.now.kind) (plain.place c.in-Some.place) c.args.at _ c.in-Some.ensures c.in-Some-start_of.start c.in-Some-start_of.ensures c.in-Name.text c.in-Name.is)) plain.expr plain.expr (λ x. refl)
    c.read_named.result c.read_named.ensures.reads

pub read_primary-returns-in-Brace-clause-reads : goal.read_primary-returns-in-Brace-clause-reads
read_primary-returns-in-Brace-clause-reads t c =
    leads_reads (rule.braces_part c.args.depth (omega (arith, c.requires.low, c.if-depth-gt-MAX_DEPTH.false)) (plain.place c.in-Some.place) c.args.at _ (rule.begins_brace (coded_kind c.in-Some.token.now.kind) (plain.place c.in-Some.place) c.args.at _ c.in-Some.ensures c.in-Some-start_of.start c.in-Some-start_of.ensures c.in-Brace.is)) plain.expr plain.expr (λ x. refl)
    c.read_braces.result c.read_braces.ensures.reads

pub read_primary-returns-in-System-clause-reads : goal.read_primary-returns-in-System-clause-reads
read_primary-returns-in-System-clause-reads t c =
    rw (rule.begins_system (coded_kind c.in-Some.token.now.kind) (plain.place c.in-Some.place) c.args.at _ c.in-Some.ensures c.in-Some-start_of.start c.in-Some-start_of.ensures c.in-System.function c.in-System.is)
    c.read_system.ensures.reads

pub read_primary-returns-in-Paren-clause-reads : goal.read_primary-returns-in-Paren-clause-reads
read_primary-returns-in-Paren-clause-reads t c =
    rw (rule.begins_paren (coded_kind c.in-Some.token.now.kind) (plain.place c.in-Some.place) c.args.at _ c.in-Some.ensures c.in-Some-start_of.start c.in-Some-start_of.ensures c.in-Paren.is)
    c.read_group.ensures.reads

pub read_primary-returns-in-Unary-clause-reads : goal.read_primary-returns-in-Unary-clause-reads
read_primary-returns-in-Unary-clause-reads t c =
    let o = rule.begins_unary (coded_kind c.in-Some.token.now.kind) (plain.place c.in-Some.place) c.args.at _ c.in-Some.ensures c.in-Some-start_of.start c.in-Some-start_of.ensures c.in-Unary.operator c.in-Unary.is in
    rw o.2 (c.read_unary.ensures.reads o.0 o.1)

-- ---- functions of the language

pub read_system-returns-in_err-rest-clause-reads : goal.read_system-returns-in_err-rest-clause-reads
read_system-returns-in_err-rest-clause-reads t c =
    let p = err_from_is_err_and c.from_residual.result c.from_residual.ensures.1 in
    rw (p.1, p.2) (rule.system_fails_0 c.args.depth c.requires.low (plain.place c.args.place) _ c.args.at (plain.system_function c.args.function) refl c.in_err-rest.field-0.0 (c.in_err-rest.ensures.reads c.args.depth))

pub read_system-returns-in_err-operand-clause-reads : goal.read_system-returns-in_err-operand-clause-reads
read_system-returns-in_err-operand-clause-reads t c =
    let p = err_from_is_err_and c.from_residual-in_err-operand.result c.from_residual-in_err-operand.ensures.1 in
    rw (p.1, p.2) (rule.system_fails_1 c.args.depth c.requires.low (plain.place c.args.place) _ c.args.at (plain.system_function c.args.function) refl _ c.in_ok-rest.ensures.reads c.in_err-operand.field-0.0 c.in_err-operand.ensures.reads)

pub read_system-returns-in_err-rest-2-clause-reads : goal.read_system-returns-in_err-rest-2-clause-reads
read_system-returns-in_err-rest-2-clause-reads t c =
    let p = err_from_is_err_and c.from_residual-in_err-rest-2.result c.from_residual-in_err-rest-2.ensures.1 in
    rw (p.1, p.2) (rule.system_fails_2 c.args.depth c.requires.low (plain.place c.args.place) _ c.args.at (plain.system_function c.args.function) refl _ c.in_ok-rest.ensures.reads _ _ c.in_ok-operand.ensures.reads c.in_err-rest-2.field-0.0 (c.in_err-rest-2.ensures.reads c.args.depth))

pub read_system-returns-clause-reads : goal.read_system-returns-clause-reads
read_system-returns-clause-reads t c =
    let s : c.in_ok-operand-2.operand ≡ c.in_ok-operand.operand = c.in_ok-operand-2.ensures in
    rw (view.expr-system c.args.place c.args.function c.in_ok-operand-2.operand, s)
    (rule.system_took c.args.depth c.requires.low (plain.place c.args.place) _ c.args.at (plain.system_function c.args.function) refl _ c.in_ok-rest.ensures.reads _ _ c.in_ok-operand.ensures.reads _ c.in_ok-rest-2.ensures.reads)

-- ---- after an opening parenthesis

pub read_group-returns-in_err-inner-clause-reads : goal.read_group-returns-in_err-inner-clause-reads
read_group-returns-in_err-inner-clause-reads t c =
    let p = err_from_is_err_and c.from_residual.result c.from_residual.ensures.1 in
    rw (p.1, p.2) (rule.group_fails_0 c.args.depth c.requires.low (plain.place c.args.place) _ c.args.at refl c.in_err-inner.field-0.0 c.in_err-inner.ensures.reads)

pub read_group-returns-in_err-rest-clause-reads : goal.read_group-returns-in_err-rest-clause-reads
read_group-returns-in_err-rest-clause-reads t c =
    let p = err_from_is_err_and c.from_residual-in_err-rest.result c.from_residual-in_err-rest.ensures.1 in
    rw (p.1, p.2) (rule.group_fails_1 c.args.depth c.requires.low (plain.place c.args.place) _ c.args.at refl _ _ c.in_ok-inner.ensures.reads c.in_err-rest.field-0.0 (c.in_err-rest.ensures.reads c.args.depth))

pub read_group-returns-clause-reads : goal.read_group-returns-clause-reads
read_group-returns-clause-reads t c =
    let s : c.in_ok-inner-2.inner ≡ c.in_ok-inner.inner = c.in_ok-inner-2.ensures in
    rw (view.expr-group c.args.place c.in_ok-inner-2.inner, s)
    (rule.group_took c.args.depth c.requires.low (plain.place c.args.place) _ c.args.at refl _ _ c.in_ok-inner.ensures.reads _ c.in_ok-rest.ensures.reads)

-- ---- after an operator before its operand

pub read_unary-returns-in_err-operand-clause-reads : goal.read_unary-returns-in_err-operand-clause-reads
read_unary-returns-in_err-operand-clause-reads t c = λ b e.
    let p = err_from_is_err_and c.from_residual.result c.from_residual.ensures.1 in
    rw (p.1, p.2) ((rule.unary_part c.args.depth c.requires.low (plain.place c.args.place) _ c.args.at b c.args.operator e refl).fails c.in_err-operand.field-0.0 c.in_err-operand.ensures.reads)

pub read_unary-returns-clause-reads : goal.read_unary-returns-clause-reads
read_unary-returns-clause-reads t c = λ b e.
    let s : c.in_ok-operand-2.operand ≡ c.in_ok-operand.operand = c.in_ok-operand-2.ensures in
    rw (view.expr-unary c.args.place c.args.operator c.in_ok-operand-2.operand, s)
    ((rule.unary_part c.args.depth c.requires.low (plain.place c.args.place) _ c.args.at b c.args.operator e refl).took _ _ c.in_ok-operand.ensures.reads)
