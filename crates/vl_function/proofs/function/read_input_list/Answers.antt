use Rattle.std.proofs.Common.{arith, ◌≡◌, ◌≤◌, ◌∷◌, [], ◌++◌, ap, sym, subst, refl, ◌∙◌, map, append-nil}
use Rattle.std.proofs.lemmas.Result.{err_from_is_err_and}
use Rattle.vl_tree.specs.declared.token.Mark.TheVariants as m
use Rattle.vl_tree.specs.declared.token.Key.TheVariants as w
use Rattle.vl_tree.specs.Token as k
use Rattle.vl_tree.specs.SyntaxView as view
use Rattle.vl_declaration.proofs.Parts.{first, next, named, found, passed, passes, valued_by, flag, flag_took}
use Rattle.vl_function.proofs.FunctionRules as rule
use Rattle.vl_read.proofs.Leads.{leads_reads}
use Rattle.vl_function.proofs.function.read_input_list.Goals as goal

pub returns-in-Some-clause-reads : goal.returns-in-Some-clause-reads
returns-in-Some-clause-reads c =
    leads_reads (rule.list_part c.args.depth _ _ _ c.in-Some.ensures.reads) (map view.function_port) (map view.function_port) (λ x. refl) c.read_commas.result c.read_commas.ensures.reads

pub returns-in-None-clause-reads : goal.returns-in-None-clause-reads
returns-in-None-clause-reads c =
    rw c.left.ensures (rule.list_stuck c.args.depth _ c.in-None.ensures.reads)
