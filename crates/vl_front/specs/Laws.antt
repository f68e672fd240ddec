-- What follows from the definition of the first fault. This project's own.
use Rattle.std.specs.Prelude.{ℕ, ◌≡◌, List, Ok}
use Rattle.vl_tree.specs.Fault.{Fault}
use Rattle.vl_tree.specs.Token.{Tokens}
use Rattle.vl_front.specs.Spelled.{spelled}
use Rattle.vl_front.specs.FirstFault.{AreSource, HasFirst}

-- a text has one first fault at most
abbrev pub HaveOneFault : Type 0
HaveOneFault = (text : List ℕ) (f g : Fault) → HasFirst text f → HasFirst text g → f ≡ g

-- a text whose tokens are a source has none
abbrev pub SourcesHaveNone : Type 0
SourcesHaveNone = (text : List ℕ) (ts : Tokens) (f : Fault) → spelled text ≡ Ok ts → AreSource ts → HasFirst text f → ⊥
