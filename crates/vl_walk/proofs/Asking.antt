-- What blocks and modules ask for, by their parts; and where items stand in a scope that is there.
use Rattle.std.proofs.Common.{◌≡◌, refl, sym, ap, ◌∙◌, ℕ, suc, ◌-◌, ◌<◌, Bool, true, false, if◌then◌else◌, List, [], ◌∷◌, ◌++◌, append-nil, arith}
use Rattle.std.specs.Prelude.{Option, Some, None, slice_get}
use Rattle.std.specs.Option.{option_map}
use Rattle.vl_tree.specs.Syntax as t
use Rattle.vl_tree.specs.Syntax.{Place, Source}
use Rattle.vl_tree.specs.declared.fault.FaultKind.TheVariants.{TooDeep}
use Rattle.vl_value.specs.Paths.{Step}
use Rattle.vl_value.specs.Order.{at}
use Rattle.vl_design.specs.Limits.{limits}
use Rattle.vl_design.specs.Parameters.{Given}
use Rattle.vl_design.specs.Generate.{Around, is_if, step_of, label_of}
use Rattle.vl_design.specs.Scopes as d
use Rattle.vl_design.specs.Scopes.{Scope, Maker, Request, Use, instance_begins, fails, opens, block_requests, scope_requests, items_requests, item_requests, within, inside, body_around, body_items, at_entry, module_scope}
use Rattle.vl_generate.specs.Forms.{is_inner_if}
use Rattle.vl_scopes.specs.Plain.{plain_step, plain_turn}
use Rattle.vl_opening.specs.declared.walk.Walk.{Walk}
use Rattle.vl_opening.specs.declared.block.BlockSite.{BlockSite}
use Rattle.vl_opening.specs.Walking.{IsOpen, Walks, here_in, scopes_of}
use Rattle.vl_opening.specs.Entering.{entry_requests, scope_at}
use Rattle.vl_opening.proofs.Placing.{here_of, here_kept}
use Rattle.vl_walk.specs.declared.modules.Modules.{Modules}
use Rattle.vl_walk.specs.declared.walking.Here.{Here}
use Rattle.vl_walk.specs.Library.{source_of, maker_of}
use Rattle.vl_walk.specs.Asked.{asks_items, asks_scope, place_of}

-- ---- where items stand

pub place_on : (rs : List Request) (old new : Walk) (here : Here) (gs : List Given) → Walks rs old new → IsOpen old here.scope
    → place_of new here gs ≡ place_of old here gs
place_on rs old new here gs w o = here_kept (scopes_of old) (scopes_of new) here.scope gs here.in_block o.0 o.1 w.kept

-- the items of a block that is open stand in it
pub within_is : (w : Walk) (k : ℕ) (s : Scope) → slice_get (scopes_of w) k ≡ Some s → here_in (scopes_of w) k [] true ≡ within s
within_is w k s e = here_of (scopes_of w) k [] true s e

-- and those of an instance
pub inside_is : (w : Walk) (k : ℕ) (gs : List Given) (u : Use) (m : t.Module) → slice_get (scopes_of w) k ≡ Some (module_scope limits u m)
    → u.given ≡ gs → here_in (scopes_of w) k gs false ≡ inside u (module_scope limits u m)
inside_is w k gs u m e g = ap (λ xs. here_in (scopes_of w) k xs false) (sym g) ∙ here_of (scopes_of w) k u.given false (module_scope limits u m) e

-- ---- a block

scope_by : (m : Modules) (depth : ℕ) (ss : List Scope) (gs : List Given) (y : Bool) (site : BlockSite) (a : Around) (b : t.GenerateBlock)
    → asks_scope m depth ss site a b
    ≡ scope_requests (maker_of m depth) (source_of m) limits (here_in ss site.within gs y) (plain_step site.step) (option_map plain_turn site.turn) a b
scope_by m depth ss gs y site a (t.single i) = ap (λ rs. opens (scope_at ss site a (t.single i)) ∷ rs) (append-nil _)
scope_by m depth ss gs y site a (t.several p x is) = refl

-- what makes a scope asks for that scope, and then for what its items do
pub scope_asks : (m : Modules) (depth k : ℕ) (ss : List Scope) (gs : List Given) (y : Bool) (site : BlockSite) (st : Step) (turn : Option (List ℕ × ℕ)) (a : Around)
    (b : t.GenerateBlock) → site.within ≡ k → plain_step site.step ≡ st → option_map plain_turn site.turn ≡ turn
    → asks_scope m depth ss site a b ≡ scope_requests (maker_of m depth) (source_of m) limits (here_in ss k gs y) st turn a b
scope_asks m depth k ss gs y site st turn a b ek es et = scope_by m depth ss gs y site a b
    ∙ (λ i. scope_requests (maker_of m depth) (source_of m) limits (here_in ss (ek i) gs y) (es i) (et i) a b)

-- a block that is an `if`, and another one
pub inner_asks : (make : Maker) (src : Source) (h : d.Here) (n : ℕ) (a : Around) (b : t.GenerateBlock) (i : t.Item) → b ≡ t.single i → is_if i ≡ true
    → item_requests make src limits h n a i ≡ block_requests make src limits h n a b
inner_asks make src h n a b i e is = ap (λ y. if y then item_requests make src limits h n a i
    else d.in_scope limits h (step_of n None None) None a (t.single i) (λ g c. item_requests make src limits g 1 c i)) (sym is)
    ∙ ap (block_requests make src limits h n a) (sym e)

pub other_asks : (make : Maker) (src : Source) (h : d.Here) (n : ℕ) (a : Around) (b : t.GenerateBlock) → is_inner_if b ≡ false
    → scope_requests make src limits h (step_of n (label_of b) None) None a b ≡ block_requests make src limits h n a b
other_asks make src h n a (t.single i) is = ap (λ y. if y then item_requests make src limits h n a i
    else d.in_scope limits h (step_of n None None) None a (t.single i) (λ g c. item_requests make src limits g 1 c i)) (sym is)
other_asks make src h n a (t.several p x is) e = refl

-- ---- a module

less_one : (k : ℕ) → 0 < k → k ≡ suc (k - 1)
less_one k h = omega (arith, h)

-- what is asked for before its items, and then what they ask for
pub module_asks : (m : Modules) (depth : ℕ) (u : Use) (parent : t.Module) → 0 < depth
    → entry_requests u parent ++ asks_items m (depth - 1) (inside u (module_scope limits u parent)) 1 (at_entry u parent) parent.items
    ≡ maker_of m depth u parent
module_asks m depth u parent h = ap (λ k. maker_of m k u parent) (sym (less_one depth h))

pub deep_asks : (m : Modules) (depth : ℕ) (u : Use) (parent : t.Module) → depth ≡ 0
    → fails (at u.place TooDeep) ∷ (instance_begins u.place ∷ []) ≡ maker_of m depth u parent
deep_asks m depth u parent e = ap (λ k. maker_of m k u parent) (sym e)
