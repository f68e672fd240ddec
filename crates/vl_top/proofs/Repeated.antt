-- The least fault of modules whose name stood before, with one module more.
use Rattle.std.proofs.Common.{◌≡◌, Bool, ◌∷◌, sym, ap, ◌∙◌}
use Rattle.std.specs.Prelude.{Option, None, Some}
use Rattle.vl_tree.specs.Syntax as t
use Rattle.vl_value.specs.Order.{lesser, least}
use Rattle.vl_value.proofs.OrderLaws.{lesser_joined, least_joined}
use Rattle.vl_design.specs.Walk.{has_module, duplicate_modules}
use Rattle.vl_top.specs.Names.{duplicate_here}
use Rattle.vl_value.specs.Order as order
use Rattle.std.proofs.Common.{refl}

pub least_on : (before rest : t.Source) (m : t.Module) (known : Bool) (a b n all : Option order.Found)
    → known ≡ has_module before m.name.text → b ≡ least (duplicate_here known m.name) → n ≡ lesser a b
    → lesser a (least (duplicate_modules before (m ∷ rest))) ≡ all → lesser n (least (duplicate_modules (m ∷ before) rest)) ≡ all
least_on before rest m known a b n all k e f h =
    let here = duplicate_here (has_module before m.name.text) m.name in let left = duplicate_modules (m ∷ before) rest in
    ap (λ o. lesser o (least left)) f ∙ lesser_joined a b (least left)
    ∙ ap (lesser a) ((λ i. lesser ((e ∙ ap (λ q. least (duplicate_here q m.name)) k) i) (least left)) ∙ sym (least_joined here left)) ∙ h

pub least_end : (a : Option order.Found) → lesser a None ≡ a
least_end None = refl
least_end (Some f) = refl
