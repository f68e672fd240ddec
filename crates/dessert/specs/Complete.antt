-- When all is well outside: the words are allowed, the files load and are a design, the input is a stimulus, and no count of faults
-- rises. This project's own.
use Rattle.std.specs.Prelude.{◌≡◌, ℕ, true, List, Some}
use Rattle.dt_core.specs.Causes.{Rose}
use Rattle.talk.specs.Words.{Job, Asks}
use Rattle.stimulus.specs.Stimulus as text
use Rattle.vl_tree.specs.Tree.{Module}
use Rattle.vl_front.specs.OneModule.{IsOneModule}
use Rattle.dessert.specs.Outside.{Outside}
use Rattle.dessert.specs.Answer.{Loaded}
use Rattle.talk.specs.Words.{top_of, files_of}
use Rattle.dessert.specs.Inputs.{inputs_of}
use Rattle.dessert.specs.Sources.{design_text}

pub record AllWell (words : List (List ℕ)) (old new : Outside) : Type 0 where
  pub job : Job
  pub files : List (List ℕ)
  pub the_module : Module
  pub rows : List (List ℕ)
  pub bytes : List ℕ
  pub asked : Asks words job
  pub is_told : old.files.told ≡ true
  pub loaded : Loaded old.files (files_of job) files
  pub design : IsOneModule (design_text files) (top_of job) the_module
  pub left : old.source.left ≡ Some bytes
  pub stimulus : text.stimulus (inputs_of the_module) bytes ≡ text.rows rows
  pub loads : Rose old.files.faults new.files.faults → ⊥
  pub reads : Rose old.source.faults new.source.faults → ⊥
  pub writes : Rose old.out.faults new.out.faults → ⊥
  pub reports : Rose old.report.faults new.report.faults → ⊥
