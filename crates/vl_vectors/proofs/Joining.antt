-- Nodes that are made one after another.
use Rattle.std.proofs.Common.{◌≡◌, ℕ, ◌≤◌, List}
use Rattle.std.specs.Prelude.{Result, Ok, Err, IfOk}
use Rattle.netlist.specs.declared.design.Range.{Range}
use Rattle.netlist.specs.declared.node.Node.{Node}
use Rattle.netlist.specs.Values.{Values}
use Rattle.vl_nodes.specs.declared.made.Made.{Made}
use Rattle.vl_nodes.specs.Sense.{Sense, Ground}
use Rattle.vl_nodes.specs.Nodes.{ValuesFit, Grows}
use Rattle.vl_nodes.specs.Calls.{MakesAt}
use Rattle.vl_nodes.proofs.Making.{grows_on, is_as}

-- what is made after nodes were added, as another sense that is the same
pub then : {E : Type 0} (g : Ground) (a b c : List Node) (w : ℕ) (x y : Sense) (r : Result Made E) → Grows g a b
    → IfOk r (MakesAt g b c w x) → ((v : Values) → ValuesFit g v → x.value v ≡ y.value v)
    → ((q : Range) → 1 ≤ q.width → x.reads q ≡ y.reads q) → IfOk r (MakesAt g a c w y)
then g a b c w x y (Ok m) h k same reads = (
  k.0,
  record { grown = grows_on g a b c h k.1.grown; is = is_as g c m x y k.1.is same reads },
)
then g a b c w x y (Err z) h k same reads = tt
