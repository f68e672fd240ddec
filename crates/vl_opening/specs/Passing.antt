-- How items are passed: what is heard of them, and what is around behind them. This project's own.
use Rattle.std.specs.Prelude.{◌≡◌, Bool, true, false, List, ◌++◌}
use Rattle.vl_tree.specs.Syntax as t
use Rattle.vl_design.specs.Declarations.{item_needs}
use Rattle.vl_design.specs.Parameters.{Given}
use Rattle.vl_design.specs.Generate.{Around, behind}
use Rattle.vl_design.specs.Scopes.{Request, failing, misplaced}
use Rattle.vl_frames.specs.declared.frames.Frames.{Frames}
use Rattle.vl_frames.specs.Marks.{around}
use Rattle.vl_generate.specs.Forms.{is_plain}
use Rattle.vl_opening.specs.declared.walk.Walk.{Walk}
use Rattle.vl_opening.specs.Walking.{Walks}

-- requests are heard, and this is around behind them, unless the walk has ended
pub record Passes (rs : List Request) (a : Around) (was now : Frames) (old new : Walk) : Type 0 where
  pub walks : Walks rs old new
  pub sight : new.progress.ended ≡ false → around now ≡ a
  pub outer : now.outer.items ≡ was.outer.items

-- what a plain item asks for
abbrev pub plain_requests : List Given → Bool → Around → t.Item → List Request
plain_requests gs b a i = failing (misplaced b i ++ item_needs gs a.known i)

abbrev pub PassesPlain : List Given → Bool → t.Item → Frames → Frames → Walk → Walk → Type 0
PassesPlain gs b i was now old new =
    is_plain i ≡ true → Passes (plain_requests gs b (around was) i) (behind gs (around was) i) was now old new
