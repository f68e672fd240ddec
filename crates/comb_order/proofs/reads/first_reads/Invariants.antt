use Rattle.std.proofs.Common.{◌≡◌, ℕ, ◌<◌, length, get_or}
use Rattle.std.specs.Prelude.{None}
use Rattle.netlist.specs.Graph.{ReadsPart}
use Rattle.comb_order.specs.First.{IsFirst}
use Rattle.comb_order.proofs.reads.first_reads.Given as goal

-- each part so far has an entry
abbrev pub invariant-loop-part : goal.invariant-loop-part
invariant-loop-part l = record {
  count : length l.firsts.items ≡ l.part-index;
  each : (p : ℕ) → p < l.part-index → IsFirst l.ranks (ReadsPart l.flat p) (get_or l.firsts.items p None);
}
