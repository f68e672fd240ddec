use Rattle.std.proofs.Common.{◌≡◌, List, ℕ, map, subst, ap, ◌∙◌}
use Rattle.std.specs.Prelude.{option_map}
use Rattle.std.specs.Borrow.{Bor}
use Rattle.vl_pre.specs.Tables.{entry, pairs}
use Rattle.vl_pre.specs.Calls.Views.{directive_of}
use Rattle.vl_pre.specs.declared.names.Directive as word
use Rattle.vl_pre.proofs.TableLaws.{entry_map}
use Rattle.vl_pre.proofs.names.directive_of.Goals as goal

pub returns : goal.returns
returns c =
    let P : List (Bor (List ℕ) × word.Directive) → Type 0 = λ x. option_map directive_of c.find.result ≡ entry (map (λ e. (e.0, directive_of e.1)) (pairs x)) c.args.name.now in
    subst P c.as_slice.ensures (ap (option_map directive_of) c.find.ensures ∙ entry_map directive_of (pairs c.as_slice.result.now) c.args.name.now)
