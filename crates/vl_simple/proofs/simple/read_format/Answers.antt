use Rattle.std.proofs.Common.{◌≡◌, ◌∷◌, ◌∙◌, ap, arith}
use Rattle.std.proofs.lemmas.Result.{err_from_is_err_and}
use Rattle.vl_tree.specs.Token.{coded_kind}
use Rattle.vl_tree.specs.Token as k
use Rattle.vl_tree.specs.Placed.{at}
use Rattle.vl_tree.specs.SyntaxView as plain
use Rattle.vl_simple.proofs.SimpleRules as rule
use Rattle.vl_simple.proofs.simple.read_format.Goals as goal

pub returns-in_default-clause-reads : goal.returns-in_default-clause-reads
returns-in_default-clause-reads c =
    rw c.left.ensures (rule.format_end c.args.depth c.args.at c.in_default.ensures)

pub returns-then-depth-gt-MAX_DEPTH-clause-reads : goal.returns-then-depth-gt-MAX_DEPTH-clause-reads
returns-then-depth-gt-MAX_DEPTH-clause-reads c =
    let h : c.args.at ≡ at (k.str c.in-Str.text) (plain.place c.in-Some.place) ∷ c.in-Some.rest =
    c.in-Some.ensures ∙ ap (λ v. at (coded_kind v) (plain.place c.in-Some.place) ∷ c.in-Some.rest) c.in-Str.is in
    let i : c.args.depth ≡ 201 = omega (arith, c.requires.low, c.if-depth-gt-MAX_DEPTH.true) in
    rw c.left-then-depth-gt-MAX_DEPTH.ensures (rule.format_sunk c.args.depth c.in-Str.text (plain.place c.in-Some.place) c.args.at _ h i)

pub returns-in_err-values-in-Str-clause-reads : goal.returns-in_err-values-in-Str-clause-reads
returns-in_err-values-in-Str-clause-reads c =
    let h : c.args.at ≡ at (k.str c.in-Str.text) (plain.place c.in-Some.place) ∷ c.in-Some.rest =
    c.in-Some.ensures ∙ ap (λ v. at (coded_kind v) (plain.place c.in-Some.place) ∷ c.in-Some.rest) c.in-Str.is in
    let l = rule.format_part c.args.depth (omega (arith, c.requires.low, c.if-depth-gt-MAX_DEPTH.false)) c.in-Str.text
    (plain.place c.in-Some.place) c.args.at _ h in
    let p = err_from_is_err_and c.from_residual-in_err-values-in-Str.result c.from_residual-in_err-values-in-Str.ensures.1 in
    rw (p.1, p.2) (l.fails c.in_err-values-in-Str.field-0.0 c.in_err-values-in-Str.ensures.reads)

pub returns-in_ok-values-in-Str-clause-reads : goal.returns-in_ok-values-in-Str-clause-reads
returns-in_ok-values-in-Str-clause-reads c =
    let h : c.args.at ≡ at (k.str c.in-Str.text) (plain.place c.in-Some.place) ∷ c.in-Some.rest =
    c.in-Some.ensures ∙ ap (λ v. at (coded_kind v) (plain.place c.in-Some.place) ∷ c.in-Some.rest) c.in-Str.is in
    let l = rule.format_part c.args.depth (omega (arith, c.requires.low, c.if-depth-gt-MAX_DEPTH.false)) c.in-Str.text
    (plain.place c.in-Some.place) c.args.at _ h in
    let s : c.in_ok-text-in-Str.text ≡ c.in-Str.text = c.in_ok-text-in-Str.ensures ∙ c.bytes.ensures in
    rw s (l.took _ _ c.in_ok-values-in-Str.ensures.reads)

pub returns-in_default-kind : goal.returns-in_default-kind
returns-in_default-kind c =
    record {
      reads = rw c.left-in_default-kind.ensures
          (rule.format_stuck c.args.depth (coded_kind c.in-Some.token.now.kind) (plain.place c.in-Some.place) c.args.at _ c.in-Some.ensures
          (rule.not_str c.in-Some.token.now.kind c.in_default-kind.not-Str));
      shorter = tt;
    }
