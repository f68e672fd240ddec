use Rattle.std.proofs.Common.{◌≡◌, ◌∷◌, [], ◌++◌, arith, ap, ◌∙◌, map, append-nil}
use Rattle.std.proofs.lemmas.Result.{err_from_is_err_and}
use Rattle.vl_tree.specs.Token.{coded_kind}
use Rattle.vl_tree.specs.SyntaxView as plain
use Rattle.vl_tree.specs.Statements.{target_at}
use Rattle.vl_tree.specs.Depth.{target_depths}
use Rattle.vl_read.proofs.Leads.{leads_on}
use Rattle.vl_read.proofs.CommaRules as list
use Rattle.vl_simple.specs.Targets.{EndsTarget}
use Rattle.vl_simple.proofs.TargetRules as rule
use Rattle.vl_simple.proofs.target.+target.Goals as goal

pub read_target-returns-in_default-clause-reads : goal.read_target-returns-in_default-clause-reads
read_target-returns-in_default-clause-reads t c =
    rw c.left.ensures (rule.target_end c.args.depth c.args.at c.in_default.ensures)

pub read_target-returns-in_default-start_of-clause-reads : goal.read_target-returns-in_default-start_of-clause-reads
read_target-returns-in_default-start_of-clause-reads t c =
    rw c.left-in_default-start_of.ensures (rule.target_stuck c.args.depth (coded_kind c.in-Some.token.now.kind) (plain.place c.in-Some.place) c.args.at _ c.in-Some.ensures c.in_default-start_of.ensures)

pub read_target-returns-then-depth-gt-MAX_DEPTH-clause-reads : goal.read_target-returns-then-depth-gt-MAX_DEPTH-clause-reads
read_target-returns-then-depth-gt-MAX_DEPTH-clause-reads t c =
    let i : c.args.depth ≡ 201 = omega (arith, c.requires.low, c.if-depth-gt-MAX_DEPTH.true) in
    rw c.left-then-depth-gt-MAX_DEPTH.ensures
    (rule.start_sunk c.args.depth (coded_kind c.in-Some.token.now.kind) (plain.place c.in-Some.place) c.in-Some-start_of.start c.args.at _ c.in-Some.ensures c.in-Some-start_of.ensures i)

pub read_target-returns-in_err-selects-in-Name-clause-reads : goal.read_target-returns-in_err-selects-in-Name-clause-reads
read_target-returns-in_err-selects-in-Name-clause-reads t c =
    let p = err_from_is_err_and c.from_residual-in_err-selects-in-Name.result c.from_residual-in_err-selects-in-Name.ensures.1 in
    rw (p.1, p.2) ((rule.name_part c.args.depth (omega (arith, c.requires.low, c.if-depth-gt-MAX_DEPTH.false)) (plain.place c.in-Some.place) c.args.at _ c.in-Name.text.now (rule.begins_name c.args.depth (coded_kind c.in-Some.token.now.kind) (plain.place c.in-Some.place) c.args.at _ c.in-Some.ensures c.in-Some-start_of.start c.in-Some-start_of.ensures c.in-Name.text c.in-Name.is)).fails c.in_err-selects-in-Name.field-0.0 c.in_err-selects-in-Name.ensures.reads)

pub read_target-returns-in_ok-selects-in-Name-clause-reads : goal.read_target-returns-in_ok-selects-in-Name-clause-reads
read_target-returns-in_ok-selects-in-Name-clause-reads t c =
    let s : c.in_ok-text-in-Name.text ≡ c.in-Name.text.now = c.in_ok-text-in-Name.ensures ∙ c.bytes.ensures in
    rw (rule.target-name (record { text = c.in_ok-text-in-Name.text; place = c.in-Some.place }) c.in_ok-selects-in-Name.selects, s)
    ((rule.name_part c.args.depth (omega (arith, c.requires.low, c.if-depth-gt-MAX_DEPTH.false)) (plain.place c.in-Some.place) c.args.at _ c.in-Name.text.now (rule.begins_name c.args.depth (coded_kind c.in-Some.token.now.kind) (plain.place c.in-Some.place) c.args.at _ c.in-Some.ensures c.in-Some-start_of.start c.in-Some-start_of.ensures c.in-Name.text c.in-Name.is)).took _ _ c.in_ok-selects-in-Name.ensures.reads)

pub read_target-returns-in_err-targets-in-Brace-clause-reads : goal.read_target-returns-in_err-targets-in-Brace-clause-reads
read_target-returns-in_err-targets-in-Brace-clause-reads t c =
    let p = err_from_is_err_and c.from_residual-in_err-targets-in-Brace.result c.from_residual-in_err-targets-in-Brace.ensures.1 in
    rw (p.1, p.2) (rule.braces_fails_0 c.args.depth (omega (arith, c.requires.low, c.if-depth-gt-MAX_DEPTH.false)) (plain.place c.in-Some.place) c.args.at _ (rule.begins_brace c.args.depth (coded_kind c.in-Some.token.now.kind) (plain.place c.in-Some.place) c.args.at _ c.in-Some.ensures c.in-Some-start_of.start c.in-Some-start_of.ensures c.in-Brace.is) c.in_err-targets-in-Brace.field-0.0 c.in_err-targets-in-Brace.ensures.reads)

pub read_target-returns-in_err-rest-in-Brace-clause-reads : goal.read_target-returns-in_err-rest-in-Brace-clause-reads
read_target-returns-in_err-rest-in-Brace-clause-reads t c =
    let p = err_from_is_err_and c.from_residual-in_err-rest-in-Brace.result c.from_residual-in_err-rest-in-Brace.ensures.1 in
    rw (p.1, p.2) (rule.braces_fails_1 c.args.depth (omega (arith, c.requires.low, c.if-depth-gt-MAX_DEPTH.false)) (plain.place c.in-Some.place) c.args.at _ (rule.begins_brace c.args.depth (coded_kind c.in-Some.token.now.kind) (plain.place c.in-Some.place) c.args.at _ c.in-Some.ensures c.in-Some-start_of.start c.in-Some-start_of.ensures c.in-Brace.is) _ _ c.in_ok-targets-in-Brace.ensures.reads c.in_err-rest-in-Brace.field-0.0 (c.in_err-rest-in-Brace.ensures.reads c.args.depth))

pub read_target-returns-in_ok-rest-in-Brace-clause-reads : goal.read_target-returns-in_ok-rest-in-Brace-clause-reads
read_target-returns-in_ok-rest-in-Brace-clause-reads t c =
    rw (rule.target-targets c.in-Some.place c.in_ok-targets-in-Brace.targets)
    (rule.braces_took c.args.depth (omega (arith, c.requires.low, c.if-depth-gt-MAX_DEPTH.false)) (plain.place c.in-Some.place) c.args.at _ (rule.begins_brace c.args.depth (coded_kind c.in-Some.token.now.kind) (plain.place c.in-Some.place) c.args.at _ c.in-Some.ensures c.in-Some-start_of.start c.in-Some-start_of.ensures c.in-Brace.is) _ _ c.in_ok-targets-in-Brace.ensures.reads _ c.in_ok-rest-in-Brace.ensures.reads)

pub read_targets-returns-in_err-first-clause-reads : goal.read_targets-returns-in_err-first-clause-reads
read_targets-returns-in_err-first-clause-reads t c =
    let p = err_from_is_err_and c.from_residual.result c.from_residual.ensures.1 in
    rw (p.1, p.2) ((rule.list_part c.args.depth c.args.at).fails c.in_err-first.field-0.0 (list.list_fails target_at target_depths EndsTarget rule.target_laws c.args.depth c.args.at c.in_err-first.field-0.0 c.in_err-first.ensures.reads))

pub read_targets-loop-all-init : goal.read_targets-loop-all-init
read_targets-loop-all-init t c =
    let k = leads_on (list.list_rest target_at target_depths EndsTarget rule.target_laws c.args.depth c.args.at _ _ c.in_ok-first.ensures.reads) (rule.list_part c.args.depth c.args.at) in
    let e : c.in_ok-all.all ≡ c.in_ok-first.first ∷ [] = c.in_ok-all.ensures in
    record {
      took = λ es rest p. rw e (k.took es rest p);
      fails = k.fails;
      shorter = c.in_ok-first.ensures.shorter;
    }

pub read_targets-returns-in-None-clause-reads : goal.read_targets-returns-in-None-clause-reads
read_targets-returns-in-None-clause-reads t c =
    rw (← rule.joined-of c.loop-all.all) (rw (← append-nil (map plain.target c.loop-all.all))
    (c.loop-all.invariant.took [] _ (list.more_none target_at target_depths EndsTarget rule.target_laws c.args.depth c.loop-all.rest c.in-None.ensures.reads)))

pub read_targets-returns-in_err-target-in-Some-clause-reads : goal.read_targets-returns-in_err-target-in-Some-clause-reads
read_targets-returns-in_err-target-in-Some-clause-reads t c =
    let p = err_from_is_err_and c.from_residual-in_err-target-in-Some.result c.from_residual-in_err-target-in-Some.ensures.1 in
    rw (p.1, p.2) (c.loop-all.invariant.fails c.in_err-target-in-Some.field-0.0
    (list.more_fails target_at target_depths EndsTarget rule.target_laws c.args.depth _ c.in_ok-first.ensures.shallow c.loop-all.rest _ c.in-Some.ensures.reads c.in_err-target-in-Some.field-0.0 c.in_err-target-in-Some.ensures.reads))

pub read_targets-loop-all-preserved : goal.read_targets-loop-all-preserved
read_targets-loop-all-preserved t c =
    let k = list.more_next target_at target_depths EndsTarget rule.target_laws c.args.depth _ c.in_ok-first.ensures.shallow c.loop-all.rest _ c.in-Some.ensures.reads _ _ c.in_ok-target-in-Some.ensures.reads in
    let e : c.push.new.self ≡ c.loop-all.all ++ c.in_ok-target-in-Some.target ∷ [] = c.in_ok-push-in-Some.ensures.ok in
    record {
      took = λ es rest p. rw (e, list.map_more) (c.loop-all.invariant.took (plain.target c.in_ok-target-in-Some.target ∷ es) rest (k.took es rest p));
      fails = λ e r. c.loop-all.invariant.fails e (k.fails e r);
      shorter = omega (arith, c.in-Some.ensures.shorter, c.in_ok-target-in-Some.ensures.shorter, c.loop-all.invariant.shorter);
    }
