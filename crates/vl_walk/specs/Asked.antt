-- What each part of the walk asks for, and how it is passed. This project's own.
use Rattle.std.specs.Prelude.{◌≡◌, ℕ, Bool, List, [], ◌∷◌, ◌++◌, Option, Some, None, map}
use Rattle.vl_tree.specs.Syntax as t
use Rattle.vl_tree.specs.Syntax.{Place}
use Rattle.vl_tree.specs.SyntaxView as view
use Rattle.vl_value.specs.Paths.{named}
use Rattle.vl_design.specs.Limits.{limits}
use Rattle.vl_design.specs.Constants.{Known}
use Rattle.vl_design.specs.Parameters.{Given, given_of, binds_faults}
use Rattle.vl_design.specs.Generate.{Around, behind, turn_tokens}
use Rattle.vl_design.specs.Scopes as d
use Rattle.vl_design.specs.Scopes.{Request, Use, expands, opens, failing, instances_by, module_at, items_requests, item_requests, block_requests, within, body_around, body_items}
use Rattle.vl_frames.specs.declared.frames.Frames.{Frames}
use Rattle.vl_frames.specs.Marks.{around}
use Rattle.vl_parameters.specs.Plain.{plain_given}
use Rattle.vl_members.specs.Members.{all_behind}
use Rattle.vl_opening.specs.declared.walk.Walk.{Walk}
use Rattle.vl_opening.specs.declared.block.BlockSite.{BlockSite}
use Rattle.vl_opening.specs.declared.instance.Site.{Site}
use Rattle.vl_opening.specs.Walking.{Walks, here_in, scopes_of}
use Rattle.vl_opening.specs.Entering.{IsUse, scope_at}
use Rattle.vl_opening.specs.Passing.{Passes}
use Rattle.vl_walk.specs.declared.modules.Modules.{Modules}
use Rattle.vl_walk.specs.declared.supply.Supply.{Supply}
use Rattle.vl_walk.specs.declared.walking.Here.{Here}
use Rattle.vl_walk.specs.Library.{source_of, maker_of}

-- where an item stands
abbrev pub place_of : Walk → Here → List Given → d.Here
place_of w here gs = here_in (scopes_of w) here.scope gs here.in_block

-- ---- items

abbrev pub asks_items : Modules → ℕ → d.Here → ℕ → Around → t.Items → List Request
asks_items m depth h = items_requests (maker_of m depth) (source_of m) limits h

abbrev pub asks_item : Modules → ℕ → d.Here → ℕ → Around → t.Item → List Request
asks_item m depth h = item_requests (maker_of m depth) (source_of m) limits h

abbrev pub PassesItems : Modules → Here → List Given → ℕ → t.Items → Frames → Frames → Walk → Walk → Type 0
PassesItems m here gs n is was now old new =
    Passes (asks_items m here.depth (place_of old here gs) n (around was) is) (all_behind gs (around was) is) was now old new

abbrev pub PassesItem : Modules → Here → List Given → ℕ → t.Item → Frames → Frames → Walk → Walk → Type 0
PassesItem m here gs n i was now old new =
    Passes (asks_item m here.depth (place_of old here gs) n (around was) i) (behind gs (around was) i) was now old new

-- ---- blocks

abbrev pub PassesBlock : Modules → Here → List Given → ℕ → t.GenerateBlock → Frames → Frames → Walk → Walk → Type 0
PassesBlock m here gs n b was now old new =
    Passes (block_requests (maker_of m here.depth) (source_of m) limits (place_of old here gs) n (around was) b) (around was) was now old new

-- the scope of a block, and then its items
abbrev pub asks_scope : Modules → ℕ → List d.Scope → BlockSite → Around → t.GenerateBlock → List Request
asks_scope m depth ss site a b = opens (scope_at ss site a b)
    ∷ asks_items m depth (within (scope_at ss site a b)) 1 (body_around b a) (body_items b)

abbrev pub PassesScope : Modules → ℕ → BlockSite → t.GenerateBlock → Frames → Frames → Walk → Walk → Type 0
PassesScope m depth site b was now old new = Passes (asks_scope m depth (scopes_of old) site (around was) b) (around was) was now old new

-- ---- loops

abbrev pub PassesLoop : Modules → Here → ℕ → Place → t.Loop → t.GenerateBlock → Frames → Frames → Walk → Walk → Type 0
PassesLoop m here n p l b was now old new = (gs : List Given)
    → Passes (asks_item m here.depth (place_of old here gs) n (around was) (t.generate_loop p l b)) (around was) was now old new

-- the turn of a number, where this is around in it
abbrev pub asks_turn : Modules → ℕ → d.Here → ℕ → t.Loop → t.GenerateBlock → ℕ → Around → List Request
asks_turn m depth h n l b k a = expands (turn_tokens b)
    ∷ d.scope_requests (maker_of m depth) (source_of m) limits h (d.turn_step n b k) (Some (l.variable.text, k)) a b

abbrev pub PassesTurn : Modules → Here → ℕ → t.Loop → t.GenerateBlock → ℕ → Frames → Frames → Walk → Walk → Type 0
PassesTurn m here n l b k was now old new = (gs : List Given)
    → Passes (asks_turn m here.depth (place_of old here gs) n l b k (around was)) (around was) was now old new

-- ---- instances

abbrev pub HearsInstances : Modules → Here → t.Name → Option (Option t.Binds) → List t.Instance → Frames → Walk → Walk → Type 0
HearsInstances m here x ps is f old new = (gs : List Given)
    → Walks (instances_by (maker_of m here.depth) (place_of old here gs) (around f).known x (module_at (source_of m) x.text) ps is) old new

-- the use of a module that an instance is
abbrev pub use_of : d.Here → List Given → t.Instance → Use
use_of h gs i = record {
  place = i.name.place;
  path = h.path ++ named i.name.text ∷ [];
  given = gs;
  joined = Some (record { outer = h.levels; binds = i.binds });
}

-- how an instance stands in the scope of a number, whatever is given to it
abbrev pub IsInstanceSite : ℕ → t.Module → t.Instance → Site → Type 0
IsInstanceSite k m i site = (ss : List d.Scope) (gs : List Given) (y : Bool) → IsUse ss site gs (use_of (here_in ss k gs y) gs i) m

-- some use of a module stands there
abbrev pub IsSite : Walk → Site → List Given → t.Module → Type 0
IsSite w site gs parent = (u : Use) × IsUse (scopes_of w) site gs u parent

-- a module, as whatever use of it stands there
abbrev pub HearsModule : Modules → ℕ → Site → List Given → t.Module → Walk → Walk → Type 0
HearsModule m depth site gs parent old new = (u : Use) → IsUse (scopes_of old) site gs u parent → Walks (maker_of m depth u parent) old new

-- no module has the name, and then all is heard; or the faults of what is given are, and that is at hand
abbrev pub Supplies : Modules → Known → t.Name → Option (Option t.Binds) → List t.Instance → Walk → Walk → Option Supply → Type 0
Supplies m k x ps is old new None = (make : d.Maker) (h : d.Here)
    → Walks (instances_by make h k x (module_at (source_of m) x.text) ps is) old new
Supplies m k x ps is old new (Some s) = let parent = view.module_tree s.parent.now in
    (module_at (source_of m) x.text ≡ Some parent) × (map plain_given s.given.items ≡ given_of k parent ps)
    × Walks (failing (binds_faults k parent ps)) old new
