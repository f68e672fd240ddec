-- Nodes of which each part is made something else. This project's own.
use Rattle.vl_sized.specs.declared.node.SizedNode.{SizedNode}
use Rattle.vl_sized.specs.declared.node.Source.{Source}
use Rattle.vl_sized.specs.declared.node.Source.TheVariants as source
use Rattle.vl_sized.specs.declared.node.Index.{Index}
use Rattle.vl_sized.specs.declared.node.Index.TheVariants as index
use Rattle.vl_sized.specs.declared.node.Part.{Part}
use Rattle.vl_sized.specs.declared.node.Part.TheVariants as part
use Rattle.vl_sized.specs.declared.node.Test.{Test}
use Rattle.vl_sized.specs.declared.node.Step.{Step}
use Rattle.vl_sized.specs.declared.node.Step.TheVariants as step
use Rattle.vl_sized.specs.declared.node.Case.{Case}
use Rattle.vl_sized.specs.declared.node.Node.{Node}

abbrev pub sized_by : {X : Type 0} → (Node → X) → SizedNode Node → SizedNode X
sized_by f x = record { size = x.size; node = f x.node }

abbrev pub index_by : {X : Type 0} → (Node → X) → Index Node → Index X
index_by f (index.Fixed c) = index.Fixed c
index_by f (index.Varying x) = index.Varying (sized_by f x)

abbrev pub part_by : {X : Type 0} → (Node → X) → Part Node → Part X
part_by f part.Whole = part.Whole
part_by f (part.Upward i k) = part.Upward (index_by f i) k
part_by f (part.Downward i k) = part.Downward (index_by f i) k

abbrev pub source_by : {X : Type 0} → (Node → X) → Source Node → Source X
source_by f (source.Signal k) = source.Signal k
source_by f (source.Local k) = source.Local k
source_by f (source.Function k) = source.Function k
source_by f (source.Word k first last i) = source.Word k first last (index_by f i)

abbrev pub test_by : {X : Type 0} → (Node → X) → Test Node → Test X
test_by f t = record { operator = t.operator; left = t.left; right = sized_by f t.right }

abbrev pub step_by : {X : Type 0} → (Node → X) → Step Node → Step X
step_by f (step.Alike o b) = step.Alike o (f b)
step_by f (step.Shift o x) = step.Shift o (sized_by f x)

abbrev pub case_by : {X : Type 0} → (Node → X) → Case Node → Case X
case_by f k = record { condition = sized_by f k.condition; value = sized_by f k.value }
