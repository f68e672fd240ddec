use Rattle.std.proofs.Common.{◌≡◌, ◌+◌, sym, ap, ◌∙◌}
use Rattle.std.specs.Prelude.{Option, Some, None, IfSome, ℕ}
use Rattle.vl_design.specs.Generate.{constructs_of}
use Rattle.vl_views.proofs.ItemViews.{region_is}
use Rattle.vl_generate.proofs.construct.+number.Goals as goal

same_sum : (o : Option ℕ) (a b : ℕ) → a ≡ b → IfSome o (λ m. m ≡ a) → IfSome o (λ m. m ≡ b)
same_sum None a b e h = h
same_sum (Some m) a b e h = h ∙ e

pub number_behind-returns-in-Region : goal.number_behind-returns-in-Region
number_behind-returns-in-Region t c =
    same_sum c.number_behind_all.result _ _
    (ap (λ i. c.args.n + constructs_of i)
    (sym (region_is c.args.item.now c.in-Region.field-0 c.in-Region.items c.as_slice.result.now c.in-Region.is c.as_slice.ensures)))
    c.number_behind_all.ensures
