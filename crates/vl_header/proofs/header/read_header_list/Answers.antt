use Rattle.std.proofs.Common.{refl, map}
use Rattle.vl_tree.specs.SyntaxView as view
use Rattle.vl_header.proofs.HeaderRules as rule
use Rattle.vl_read.proofs.Leads.{leads_reads}
use Rattle.vl_header.proofs.header.read_header_list.Goals as goal

pub returns-in-Some-clause-reads : goal.returns-in-Some-clause-reads
returns-in-Some-clause-reads c =
    leads_reads (rule.list_part c.args.depth _ _ _ c.in-Some.ensures.reads) (map view.header_parameter) (map view.header_parameter) (λ x. refl) c.read_commas.result c.read_commas.ensures.reads

pub returns-in-None-clause-reads : goal.returns-in-None-clause-reads
returns-in-None-clause-reads c =
    rw c.left.ensures (rule.list_stuck c.args.depth _ c.in-None.ensures.reads)
