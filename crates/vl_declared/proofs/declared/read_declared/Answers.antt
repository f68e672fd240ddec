use Rattle.vl_declared.proofs.DeclaredRules as rule
use Rattle.vl_declared.proofs.declared.read_declared.Goals as goal

pub returns-in_default-clause-reads : goal.returns-in_default-clause-reads
returns-in_default-clause-reads c =
    rw c.left.ensures (rule.declared_stuck c.args.depth _ c.in_default.ensures)

pub returns-in_default-word : goal.returns-in_default-word
returns-in_default-word c =
    let n = c.in_default-word in
    let i = rule.other_word c.in-Some.word n.not-Assign n.not-Genvar n.not-Input n.not-Integer n.not-Localparam n.not-Output n.not-Parameter
    n.not-Reg n.not-Wire in
    record {
      reads = rw c.left-in_default-word.ensures (rule.word_stuck c.args.depth c.in-Some.word i _ c.in-Some.ensures);
      shorter = tt;
      shallow = tt;
    }
