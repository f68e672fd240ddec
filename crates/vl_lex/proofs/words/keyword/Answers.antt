use Rattle.std.proofs.Common.{◌≡◌, List, ℕ, subst}
use Rattle.std.specs.Borrow.{Bor}
use Rattle.vl_pre.specs.Tables.{entry, pairs}
use Rattle.vl_tree.specs.declared.token.Key.{Key}
use Rattle.vl_lex.proofs.words.keyword.Goals as goal

pub returns : goal.returns
returns c =
    let P : List (Bor (List ℕ) × Key) → Type 0 = λ x. c.find.result ≡ entry (pairs x) c.args.word.now in
    subst P c.as_slice.ensures c.find.ensures
