use Rattle.std.proofs.Common.{◌≡◌, ◌∙◌, ap, sym, subst, length}
use Rattle.std.specs.Prelude.{Ok, IfOk, IfErr}
use Rattle.vl_tree.specs.Token.{all_coded}
use Rattle.vl_pre.specs.Bytes.{Text}
use Rattle.vl_lex.specs.Tokens.{tokens_of}
use Rattle.vl_tree.specs.Fault.{HasFault, fault_of}
use Rattle.vl_lex.proofs.LoopLaws.{paired, same_text}
use Rattle.vl_lex.proofs.lex.Goals as goal

pub lex_lines-requires : goal.lex_lines-requires
lex_lines-requires c = ap length c.bytes.ensures ∙ paired c.args.clean.now ∙ sym (ap length c.lines.ensures)

pub returns-clause-tokens : goal.returns-clause-tokens
returns-clause-tokens c =
    let e = same_text c.args.clean.now _ _ c.bytes.ensures c.lines.ensures in
    subst (λ (x : Text). IfOk c.lex_lines.result (λ v. tokens_of x ≡ Ok (all_coded v.items))) e c.lex_lines.ensures.tokens

pub returns-clause-fault : goal.returns-clause-fault
returns-clause-fault c =
    let same = same_text c.args.clean.now _ _ c.bytes.ensures c.lines.ensures in
    subst (λ (x : Text). IfErr c.lex_lines.result (λ e. HasFault (tokens_of x) (fault_of e))) same c.lex_lines.ensures.fault
