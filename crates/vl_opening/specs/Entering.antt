-- How the scope of a block and that of an instance are opened. This project's own.
use Rattle.std.specs.Prelude.{◌≡◌, ℕ, true, false, List, [], ◌∷◌, ◌++◌, Option, Some, None, option_to_list, slice_get}
use Rattle.std.specs.Option.{option_map}
use Rattle.vl_tree.specs.Syntax as t
use Rattle.vl_tree.specs.SyntaxView as view
use Rattle.vl_design.specs.Limits.{limits}
use Rattle.vl_design.specs.Lists.{each_of}
use Rattle.vl_design.specs.Constants.{nothing_known}
use Rattle.vl_design.specs.Declarations.{port_needs}
use Rattle.vl_design.specs.Parameters.{Given, no_type, header_needs}
use Rattle.vl_design.specs.Generate.{Around, items_tokens}
use Rattle.vl_design.specs.Scopes.{Scope, Request, instance_begins, expands, opens, failing, Use, instance_of, body_around, block_scope, at_entry, ports_of, module_scope}
use Rattle.vl_frames.specs.declared.frames.Frames.{Frames}
use Rattle.vl_frames.specs.Marks.{around}
use Rattle.vl_scopes.specs.Plain.{plain_step, plain_turn, plain_origin, outer_of, made_of, path_at}
use Rattle.vl_opening.specs.declared.walk.Walk.{Walk}
use Rattle.vl_opening.specs.declared.block.BlockSite.{BlockSite}
use Rattle.vl_opening.specs.declared.instance.Site.{Site}
use Rattle.vl_opening.specs.declared.instance.Entered.{Entered}
use Rattle.vl_opening.specs.Walking.{IsNumbered, Walks, here_in, scopes_of}

-- ---- a block

-- its scope, where these scopes are there
abbrev pub scope_at : List Scope → BlockSite → Around → t.GenerateBlock → Scope
scope_at ss site a b = block_scope limits (here_in ss site.within [] false) (plain_step site.step) (option_map plain_turn site.turn) a b

pub record EntersBody (site : BlockSite) (b : t.GenerateBlock) (was now : Frames) (old new : Walk) (n : Option ℕ) : Type 0 where
  pub walks : Walks (opens (scope_at (scopes_of old) site (around was) b) ∷ []) old new
  pub number : IsNumbered new (scope_at (scopes_of old) site (around was) b) n
  pub sight : around now ≡ body_around b (around was)
  pub outer : now.outer.items ≡ was.outer.items ++ was.inner ∷ []

-- ---- an instance

-- an instance begins
abbrev pub begins : t.Instance → Request
begins i = instance_begins i.name.place

-- a use of a module is what the program says of it
pub record IsUse (ss : List Scope) (site : Site) (gs : List Given) (u : Use) (m : t.Module) : Type 0 where
  pub place : view.place site.place ≡ u.place
  pub path : path_at ss site.within ++ option_to_list (option_map plain_step site.step) ≡ u.path
  pub given : u.given ≡ gs
  pub origin : plain_origin ss site.within site.origin ≡ instance_of m u.joined
  pub outer : outer_of ss site.within site.origin ≡ []
  pub items : made_of site.origin ≡ m.items

-- what a use asks for before its items
abbrev pub entry_requests : Use → t.Module → List Request
entry_requests u m = instance_begins u.place ∷ (expands (items_tokens m.items)
    ∷ (opens (module_scope limits u m)
    ∷ failing (header_needs u.given no_type nothing_known m.parameters ++ each_of (port_needs (at_entry u m).known) (ports_of m))))

-- its scope is open, and its names are in sight; or the walk has ended
abbrev pub IsEntered : Walk → Use → t.Module → Option Entered → Type 0
IsEntered w u m None = w.progress.ended ≡ true
IsEntered w u m (Some e) =
    (slice_get (scopes_of w) e.scope ≡ Some (module_scope limits u m)) × (around e.frames ≡ at_entry u m)

pub record EntersUse (u : Use) (m : t.Module) (old new : Walk) (e : Option Entered) : Type 0 where
  pub walks : Walks (entry_requests u m) old new
  pub entered : IsEntered new u m e

-- as whatever use of the module it is
abbrev pub EntersInstance : Site → List Given → t.Module → Walk → Walk → Option Entered → Type 0
EntersInstance site gs m old new e = (u : Use) → IsUse (scopes_of old) site gs u m → EntersUse u m old new e
