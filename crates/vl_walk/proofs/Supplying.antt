-- Instances of a module one after another.
use Rattle.std.proofs.Common.{◌≡◌, sym, ap, ◌∙◌, true, List, [], ◌∷◌, ◌++◌, map}
use Rattle.std.specs.Prelude.{Option, Some, None}
use Rattle.vl_tree.specs.Syntax as t
use Rattle.vl_tree.specs.declared.fault.FaultKind.TheVariants.{UnknownModule}
use Rattle.vl_value.specs.Order.{at}
use Rattle.vl_design.specs.Constants.{Known}
use Rattle.vl_design.specs.Parameters.{Given, given_of, binds_faults}
use Rattle.vl_design.specs.Scopes.{fails, failing, each_instance, instances_by, module_at}
use Rattle.vl_frames.specs.declared.frames.Frames.{Frames}
use Rattle.vl_frames.specs.Marks.{around}
use Rattle.vl_constants.specs.Needed.{constants_of}
use Rattle.vl_opening.specs.declared.walk.Walk.{Walk}
use Rattle.vl_opening.specs.declared.instance.Site.{Site}
use Rattle.vl_opening.specs.Walking.{IsOpen, Walks, scopes_of}
use Rattle.vl_opening.specs.Entering.{begins}
use Rattle.vl_opening.proofs.Walking.{walks_as, walks_on, open_on}
use Rattle.vl_opening.proofs.Passing.{Leads, leads_on, leads_end, leads_ended}
use Rattle.vl_walk.specs.declared.modules.Modules.{Modules}
use Rattle.vl_walk.specs.declared.walking.Here.{Here}
use Rattle.vl_walk.specs.Library.{source_of, maker_of}
use Rattle.vl_walk.specs.Asked.{HearsInstances, HearsModule, IsInstanceSite, Supplies, place_of, use_of}
use Rattle.vl_walk.proofs.Asking.{place_on}

-- no module has the name
pub supplies_none : (m : Modules) (k : Known) (x : t.Name) (ps : Option (Option t.Binds)) (is : List t.Instance) (old new : Walk)
    → None ≡ module_at (source_of m) x.text → Walks (fails (at x.place UnknownModule) ∷ map begins is) old new → Supplies m k x ps is old new None
supplies_none m k x ps is old new e w make h =
    walks_as _ (instances_by make h k x (module_at (source_of m) x.text) ps is) old new (ap (λ o. instances_by make h k x o ps is) e) w

-- what was walked since the start, and the instances that are left
pub record AmongInstances (m : Modules) (here : Here) (x : t.Name) (ps : Option (Option t.Binds)) (is left : List t.Instance) (f : Frames) (gs : List Given)
    (parent : t.Module) (start now : Walk) : Type 0 where
  pub leads : (hs : List Given) → Leads (instances_by (maker_of m here.depth) (place_of start here hs) (around f).known x (module_at (source_of m) x.text) ps is)
      (each_instance (maker_of m here.depth) (place_of start here hs) gs parent left) start now
  pub is_open : IsOpen now here.scope
  pub place : (hs : List Given) → place_of now here hs ≡ place_of start here hs

module _ (m : Modules) (here : Here) (x : t.Name) (ps : Option (Option t.Binds)) (is : List t.Instance) (f : Frames) (gs : List Given) (parent : t.Module) where
  pub among_start : (start now : Walk) → IsOpen start here.scope → module_at (source_of m) x.text ≡ Some parent → gs ≡ given_of (constants_of f) parent ps
      → Walks (failing (binds_faults (constants_of f) parent ps)) start now → AmongInstances m here x ps is is f gs parent start now
  among_start start now o e eg w = record {
    leads = λ hs. record {
      leads = λ end v. walks_as (failing (binds_faults (constants_of f) parent ps) ++ each_instance (maker_of m here.depth) (place_of start here hs) gs parent is)
          (instances_by (maker_of m here.depth) (place_of start here hs) (around f).known x (module_at (source_of m) x.text) ps is) start end
          (ap (λ ks. failing (binds_faults (constants_of f) parent ps) ++ each_instance (maker_of m here.depth) (place_of start here hs) ks parent is) eg
          ∙ ap (λ q. instances_by (maker_of m here.depth) (place_of start here hs) (around f).known x q ps is) (sym e))
          (walks_on (failing (binds_faults (constants_of f) parent ps)) _ start now end w v);
    };
    is_open = open_on _ start now here.scope w o;
    place = λ hs. place_on _ start now here hs w o;
  }

  pub among_on : (start now next : Walk) (i : t.Instance) (left rest : List t.Instance) (site : Site) → left ≡ i ∷ rest
      → IsInstanceSite here.scope parent i site → HearsModule m here.depth site gs parent now next
      → AmongInstances m here x ps is left f gs parent start now → AmongInstances m here x ps is rest f gs parent start next
  among_on start now next i left rest site e is_site h s =
      let one = λ (hs : List Given). h (use_of (place_of now here hs) gs i) (is_site (scopes_of now) gs here.in_block) in
      record {
        leads = λ hs. leads_on _ (each_instance (maker_of m here.depth) (place_of start here hs) gs parent left)
            (maker_of m here.depth (use_of (place_of start here hs) gs i) parent) (each_instance (maker_of m here.depth) (place_of start here hs) gs parent rest)
            start now next (ap (each_instance (maker_of m here.depth) (place_of start here hs) gs parent) e)
            (walks_as _ (maker_of m here.depth (use_of (place_of start here hs) gs i) parent) now next
            (ap (λ p. maker_of m here.depth (use_of p gs i) parent) (s.place hs)) (one hs)) (s.leads hs);
        is_open = open_on _ now next here.scope (one []) s.is_open;
        place = λ hs. place_on _ now next here hs (one []) s.is_open ∙ s.place hs;
      }

  pub among_end : (start now : Walk) (left : List t.Instance) → left ≡ [] → AmongInstances m here x ps is left f gs parent start now
      → HearsInstances m here x ps is f start now
  among_end start now left e s hs = leads_end _ (each_instance (maker_of m here.depth) (place_of start here hs) gs parent left) start now
      (ap (each_instance (maker_of m here.depth) (place_of start here hs) gs parent) e) (s.leads hs)

  pub among_ended : (start now : Walk) (left : List t.Instance) → now.progress.ended ≡ true → AmongInstances m here x ps is left f gs parent start now
      → HearsInstances m here x ps is f start now
  among_ended start now left stop s hs = leads_ended _ _ start now stop (s.leads hs)
