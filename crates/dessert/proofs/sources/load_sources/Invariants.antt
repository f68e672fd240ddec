use Rattle.std.proofs.Common.{◌≡◌}
use Rattle.dessert.specs.Outside.{files_at}
use Rattle.talk.specs.Plain.{named}
use Rattle.dessert.proofs.LoadLaws.{Front}
use Rattle.dessert.proofs.sources.load_sources.Given as goal

abbrev pub invariant-loop-name : goal.invariant-loop-name
invariant-loop-name g l = record {
  front : Front (files_at g.F.Files l.fn.files) (named l.names) l.name-index l.text.items l.counts.items;
  same : files_at g.F.Files l.files ≡ files_at g.F.Files l.fn.files;
}
