use Rattle.std.proofs.Common.{refl, sym, ap, ◌∙◌}
use Rattle.std.specs.Prelude.{Some}
use Rattle.vl_tree.specs.Token.{coded_kind}
use Rattle.vl_tree.specs.SyntaxView as view
use Rattle.vl_read.proofs.Leads.{leads_on, leads_reads}
use Rattle.vl_item.specs.declared.start.Start.TheVariants as start
use Rattle.vl_item.proofs.Heads as head
use Rattle.vl_item.proofs.item.read_plain_item.Goals as goal

pub returns-in_default-clause-reads : goal.returns-in_default-clause-reads
returns-in_default-clause-reads c = rw c.left.ensures (head.plain_end c.args.depth c.args.at c.in_default.ensures)

pub returns-in_default-start_of-clause-reads : goal.returns-in_default-start_of-clause-reads
returns-in_default-start_of-clause-reads c =
    rw c.left-in_default-start_of.ensures
    (head.plain_stuck c.args.depth (coded_kind c.in-Some.token.now.kind) _ c.args.at _ c.in-Some.ensures
    (sym c.in_default-start_of.ensures))

pub returns-in-Declaration-clause-reads : goal.returns-in-Declaration-clause-reads
returns-in-Declaration-clause-reads c =
    let i = sym c.in-Some-start_of.ensures ∙ ap Some c.in-Declaration.is in
    let l = head.sort_part c.args.depth start.Declaration (coded_kind c.in-Some.token.now.kind) _ c.args.at _ c.in-Some.ensures i in
    leads_reads (leads_on (head.declared_part c.args.depth c.args.at) l) view.item view.item (λ x. refl) c.read_declared.result
    c.read_declared.ensures.reads

pub returns-in-Always-clause-reads : goal.returns-in-Always-clause-reads
returns-in-Always-clause-reads c =
    let i = sym c.in-Some-start_of.ensures ∙ ap Some c.in-Always.is in
    let l = head.sort_part c.args.depth start.Always (coded_kind c.in-Some.token.now.kind) _ c.args.at _ c.in-Some.ensures i in
    leads_reads l view.item view.item (λ x. refl) c.read_always.result c.read_always.ensures.reads

pub returns-in-Initial-clause-reads : goal.returns-in-Initial-clause-reads
returns-in-Initial-clause-reads c =
    let i = sym c.in-Some-start_of.ensures ∙ ap Some c.in-Initial.is in
    let l = head.sort_part c.args.depth start.Initial (coded_kind c.in-Some.token.now.kind) _ c.args.at _ c.in-Some.ensures i in
    leads_reads l view.item view.item (λ x. refl) c.read_initial.result c.read_initial.ensures.reads

pub returns-in-Function-clause-reads : goal.returns-in-Function-clause-reads
returns-in-Function-clause-reads c =
    let i = sym c.in-Some-start_of.ensures ∙ ap Some c.in-Function.is in
    let l = head.sort_part c.args.depth start.Function (coded_kind c.in-Some.token.now.kind) _ c.args.at _ c.in-Some.ensures i in
    leads_reads l view.item view.item (λ x. refl) c.read_function_item.result c.read_function_item.ensures.reads

pub returns-in-Instances-clause-reads : goal.returns-in-Instances-clause-reads
returns-in-Instances-clause-reads c =
    let i = sym c.in-Some-start_of.ensures ∙ ap Some c.in-Instances.is in
    let l = head.sort_part c.args.depth start.Instances (coded_kind c.in-Some.token.now.kind) _ c.args.at _ c.in-Some.ensures i in
    leads_reads l view.item view.item (λ x. refl) c.read_instances.result c.read_instances.ensures.reads
