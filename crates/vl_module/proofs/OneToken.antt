-- Single tokens.
use Rattle.std.proofs.Common.{◌≡◌, ◌≤◌, ℕ, ◌∷◌, refl}
use Rattle.vl_tree.specs.declared.token.Mark.{Mark}
use Rattle.vl_tree.specs.Token.{Kind, Token, Tokens, Literal, token}
use Rattle.vl_tree.specs.Token as k
use Rattle.vl_tree.specs.Tree.{Text}
use Rattle.vl_tree.specs.Grammar.{kind, mark, name_at}
use Rattle.vl_module.specs.Reading.{Any, Took, one}
use Rattle.vl_module.proofs.Pieces.{took_kind}

module _ (d : ℕ) (low : d ≤ 200) (line : ℕ) (ts us : Tokens) where
  pub took_token : (a : Kind) → ts ≡ token line a ∷ us → Took (one (kind d a)) Any tt ts us
  took_token a = took_kind {N = Unit {0}} (λ u. a) (λ u v e. refl) d low tt line ts us

  pub took_mark : (a : Mark) → ts ≡ token line (k.mark a) ∷ us → Took (mark d) Any a ts us
  took_mark a = took_kind k.mark (λ u v e. cc) d low a line ts us

  pub took_name : (n : Text) → ts ≡ token line (k.name n) ∷ us → Took (name_at d) Any n ts us
  took_name n = took_kind k.name (λ u v e. cc) d low n line ts us

  pub took_string : (s : Text) → ts ≡ token line (k.str s) ∷ us → Took (λ x. kind d (k.str x)) Any s ts us
  took_string s = took_kind k.str (λ u v e. cc) d low s line ts us

  pub took_number : (l : Literal) → ts ≡ token line (k.number l) ∷ us → Took (λ x. kind d (k.number x)) Any l ts us
  took_number l = took_kind k.number (λ u v e. cc) d low l line ts us
