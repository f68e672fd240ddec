-- Which texts are designs: sources of one module with one clocked block that is sound: it has no static fault, and one `$stop` at
-- most; where a top is asked for, it is this module. This project's own form.
use Rattle.std.specs.Prelude.{◌≡◌, ℕ, true, List, Ok}
use Rattle.vl_tree.specs.Token.{Tokens}
use Rattle.vl_tree.specs.Tree.{Module}
use Rattle.vl_tree.specs.Grammar.{Derives}
use Rattle.vl_meaning.specs.Faults.{is_sound}
use Rattle.vl_front.specs.Spelled.{spelled}
use Rattle.vl_front.specs.Top.{Asked, HaveTop, is_asked}

-- the text is the module's: it is spelled of tokens, these are a source with a top, and are the module in today's form, which is the top
-- and sound
pub record IsOneModule (text : List ℕ) (top : Asked) (m : Module) : Type 0 where
  pub tokens : Tokens
  pub is_spelled : spelled text ≡ Ok tokens
  pub have_top : HaveTop top tokens
  pub derived : Derives tokens m
  pub is_top : is_asked top m.name ≡ true
  pub sound : is_sound m ≡ true

-- the text is the module's, and no other's
pub record IsDesign (text : List ℕ) (top : Asked) (m : Module) : Type 0 where
  pub here : IsOneModule text top m
  pub only : (n : Module) → IsOneModule text top n → n ≡ m

-- the text is a source with a top, but no sound module's of this form
pub record IsNoDesign (text : List ℕ) (top : Asked) : Type 0 where
  pub tokens : Tokens
  pub is_spelled : spelled text ≡ Ok tokens
  pub have_top : HaveTop top tokens
  pub none : (m : Module) → IsOneModule text top m → ⊥
