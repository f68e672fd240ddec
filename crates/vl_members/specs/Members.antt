-- What a scope declares, as the program has it. This project's own.
use Rattle.std.specs.Prelude.{◌≡◌, Bool, false, if◌then◌else◌, List, [], ◌++◌, Some, None}
use Rattle.std.specs.Borrow.{Bor}
use Rattle.vl_tree.specs.Syntax as t
use Rattle.vl_tree.specs.SyntaxView as view
use Rattle.vl_tree.specs.declared.expression.Name.{Name}
use Rattle.vl_value.specs.Meaning.{true_of}
use Rattle.vl_design.specs.Constants.{Worth, value_of}
use Rattle.vl_design.specs.Declarations as d
use Rattle.vl_design.specs.Parameters.{Given}
use Rattle.vl_design.specs.Generate.{Around, behind, has_one_genvar, label_declared}
use Rattle.vl_frames.specs.declared.frames.Frames.{Frames}
use Rattle.vl_frames.specs.Marks.{around}
use Rattle.vl_frames.specs.Changes.{declared}
use Rattle.vl_turns.specs.Turns.{genvar_worth}
use Rattle.vl_declares.specs.declared.declared.Declared.{Declared}
use Rattle.vl_declares.specs.Plain.{all_plain}

abbrev pub name_tree : Bor Name → t.Name
name_tree x = view.name x.now

-- what was declared behind what was there, and what is around behind that
pub record DeclaresBy (ds : List d.Declared) (a : Around) (was now : Frames) (old new : List Declared) : Type 0 where
  pub added : all_plain new ≡ all_plain old ++ ds
  pub sight : around now ≡ a
  pub outer : now.outer.items ≡ was.outer.items

-- what is around behind items
abbrev pub all_behind : List Given → Around → t.Items → Around
all_behind gs a t.no_item = a
all_behind gs a (t.more_item i is) = all_behind gs (behind gs a i) is

-- whether the condition of a loop holds where its genvar has a worth
abbrev pub holds_at : Around → t.Loop → Worth → Bool
holds_at a l w = elim (value_of (declared l.variable.text w a).known l.condition) [ Some m ↦ true_of m | None ↦ false ]

-- whether a loop over a genvar has a turn
abbrev pub has_turn_in : Around → t.Loop → Bool
has_turn_in a l = elim (genvar_worth (value_of a.known l.first)) [ Some w ↦ holds_at a l w | None ↦ false ]

-- what a loop declares
abbrev pub loop_members : Around → t.Loop → t.GenerateBlock → List d.Declared
loop_members a l b = if has_one_genvar a l then (if has_turn_in a l then label_declared b else []) else []
