use Rattle.std.proofs.Common.{◌≡◌, ◌+◌, ◌-◌, IsTrue}
use Rattle.vl_stands.specs.StandsFor.{input_names}
use Rattle.dt_core.specs.declared.limits.TheConstants.{MAX_ROWS}
use Rattle.dessert.specs.Outside.{source_at}
use Rattle.dessert.proofs.RowsLaws.{Far}
use Rattle.dessert.proofs.rows.run_rows.Given as goal

abbrev pub invariant-rows : goal.invariant-rows
invariant-rows g l = record {
  far : Far l.fn.run.flat (input_names l.fn.run.flat) (source_at g.S.Source l.fn.source) (source_at g.S.Source l.source) l.reader l.run l.fn.steps l.steps;
  live : IsTrue l.reader.live;
  flat : l.run.flat ≡ l.fn.run.flat;
  lag : l.run.lag ≡ l.fn.run.lag;
}

abbrev pub decreases-rows : goal.decreases-rows
decreases-rows g l = MAX_ROWS + 1 - l.run.cycles
