use Rattle.vl_tree.specs.SyntaxView as view
use Rattle.vl_views.proofs.ItemViews.{region_is, loop_is, if_is}
use Rattle.vl_generate.proofs.form.form_of.Goals as goal

pub returns-in-Region : goal.returns-in-Region
returns-in-Region c = (
  view.place c.in-Region.field-0,
  region_is c.args.item.now c.in-Region.field-0 c.in-Region.items c.as_slice-in-Region.result.now c.in-Region.is c.as_slice-in-Region.ensures,
)

pub returns-in-GenerateLoop : goal.returns-in-GenerateLoop
returns-in-GenerateLoop c =
    loop_is c.args.item.now c.in-GenerateLoop.place c.in-GenerateLoop.header c.in-GenerateLoop.block c.in-GenerateLoop.is

pub returns-in-GenerateIf : goal.returns-in-GenerateIf
returns-in-GenerateIf c =
    if_is c.args.item.now c.in-GenerateIf.branches c.as_slice-in-GenerateIf.result.now c.in-GenerateIf.last c.in-GenerateIf.is
    c.as_slice-in-GenerateIf.ensures
