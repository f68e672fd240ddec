use Rattle.std.proofs.Common.{subst, sym}
use Rattle.vl_read.proofs.TokenRules.{NotName, stuck_name, not_name}
use Rattle.vl_read.proofs.cursor.Cursor.expect_name.Goals as goal

pub returns-in_default-clause-reads : goal.returns-in_default-clause-reads
returns-in_default-clause-reads c = λ d. rw c.left.ensures (stuck_name d _ (subst NotName (sym c.in_default.ensures) tt))

pub returns-in_default-kind : goal.returns-in_default-kind
returns-in_default-kind c = record {
  reads = λ d. rw c.left-in_default-kind.ensures
      (stuck_name d _ (subst NotName (sym c.in-Some.ensures) (not_name c.in-Some.token.now.kind c.in_default-kind.not-Name)));
  shorter = tt;
}
