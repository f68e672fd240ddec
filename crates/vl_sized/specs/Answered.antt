-- What `size_expr` answers. This project's own.
use Rattle.std.specs.Prelude.{◌≡◌, ℕ, max, []}
use Rattle.vl_tree.specs.Syntax.{Expr}
use Rattle.vl_value.specs.Meaning.{Meaning, meaning, own}
use Rattle.vl_value.specs.Constant.{Sight}
use Rattle.vl_value.specs.Faults.{faults}
use Rattle.vl_value.specs.Reads.{reads}
use Rattle.vl_width.specs.Objects.{Numbering}
use Rattle.vl_sized.specs.declared.node.SizedNode.{SizedNode}
use Rattle.vl_sized.specs.declared.node.Node.{Node}
use Rattle.vl_sized.specs.Moments.{Moment, in_sight}
use Rattle.vl_sized.specs.Nodes.{reads_of}
use Rattle.vl_sized.specs.Plain.{meaning_of}

-- what a sized expression is at its context in a moment: the width, the sign and the value of its meaning there
pub record IsAt (a : Meaning) (context : ℕ) (x : Meaning) : Type 0 where
  pub width : x.width ≡ max a.width context
  pub signed : x.signed ≡ a.signed
  pub value : own x ≡ a.at (max a.width context) a.signed

-- an expression without a fault, at a context: what it is in each moment, and what it reads
pub record IsSized (s : Sight) (ns : Numbering) (e : Expr) (context : ℕ) (x : SizedNode Node) : Type 0 where
  pub sound : faults s e ≡ []
  pub means : (t : Moment) → IsAt (meaning (in_sight s t) e) context (meaning_of ns t x)
  pub reads : reads_of ns x.node ≡ reads s e
