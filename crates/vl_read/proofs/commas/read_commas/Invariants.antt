use Rattle.std.proofs.Common.{◌<◌, List, ◌++◌, length, map}
use Rattle.vl_tree.specs.Placed.{Placed}
use Rattle.vl_tree.specs.Piece.{more_of, commas}
use Rattle.vl_tree.specs.Depth.{more_depths, comma_depths}
use Rattle.vl_read.specs.declared.fault.Fault.{Fault}
use Rattle.vl_read.specs.Reading.{Took, Refuses}
use Rattle.vl_read.specs.Commas.{EndsCommas}
use Rattle.vl_read.proofs.commas.read_commas.Given as goal

abbrev pub invariant-loop-all : goal.invariant-loop-all
invariant-loop-all g l = record {
  took : (es : List g.R.Rule.Plain) (rest : List Placed)
      → Took (more_of g.R.Rule.at) (more_depths g.R.Rule.depths l.depth) (EndsCommas g.R.Rule.may) (EndsCommas g.R.Rule.may) es l.rest rest
      → Took (commas g.R.Rule.at) (comma_depths g.R.Rule.depths l.depth) (EndsCommas g.R.Rule.may) (EndsCommas g.R.Rule.may)
      (map g.R.Rule.view l.all ++ es) l.fn.cursor rest;
  fails : (e : Fault)
      → Refuses (more_of g.R.Rule.at) (more_depths g.R.Rule.depths l.depth) (EndsCommas g.R.Rule.may) (EndsCommas g.R.Rule.may) l.rest e
      → Refuses (commas g.R.Rule.at) (comma_depths g.R.Rule.depths l.depth) (EndsCommas g.R.Rule.may) (EndsCommas g.R.Rule.may)
      l.fn.cursor e;
  shorter : length l.rest < length l.fn.cursor;
}

abbrev pub decreases-loop-all : goal.decreases-loop-all
decreases-loop-all g l = length l.rest
