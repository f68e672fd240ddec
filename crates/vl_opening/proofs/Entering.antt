-- The scope of a block and that of an instance as the program opens them.
use Rattle.std.proofs.Common.{◌≡◌, refl, sym, ap, ◌∙◌, subst, ℕ, true, List, [], ◌∷◌, ◌++◌}
use Rattle.std.specs.Prelude.{Option, Some, None, slice_get, option_to_list}
use Rattle.std.specs.Option.{option_map}
use Rattle.vl_tree.specs.Syntax as t
use Rattle.vl_tree.specs.Syntax.{Place}
use Rattle.vl_tree.specs.SyntaxView as view
use Rattle.vl_value.specs.Order as order
use Rattle.vl_value.specs.Order.{least}
use Rattle.vl_found.specs.declared.Found.{Found}
use Rattle.vl_found.specs.View.{found}
use Rattle.vl_design.specs.Limits.{limits}
use Rattle.vl_design.specs.Lists.{each_of}
use Rattle.vl_design.specs.Constants.{nothing_known}
use Rattle.vl_design.specs.Declarations.{port_needs}
use Rattle.vl_design.specs.Parameters.{Given, no_type, header_needs}
use Rattle.vl_design.specs.Generate.{items_tokens}
use Rattle.vl_design.specs.Scopes.{Scope, Request, instance_begins, expands, opens, failing, Use, block, body_items, at_entry, ports_of, module_scope}
use Rattle.vl_frames.specs.declared.frames.Frames.{Frames}
use Rattle.vl_frames.specs.Marks.{around}
use Rattle.vl_tokens.specs.Counted.{capped}
use Rattle.vl_build.specs.Heard.{HearsBegin, HearsExpand, HearsFaults}
use Rattle.vl_declares.specs.declared.declared.Declared.{Declared}
use Rattle.vl_declares.specs.Plain.{all_plain}
use Rattle.vl_members.specs.Opening as members
use Rattle.vl_scopes.specs.declared.scope.Scope as code
use Rattle.vl_scopes.specs.Plain.{plain_scope, plain_step, plain_turn, plain_scopes, plain_origin, outer_of, made_of, path_at, levels_at}
use Rattle.vl_opening.specs.declared.walk.Walk.{Walk}
use Rattle.vl_opening.specs.declared.block.BlockSite.{BlockSite}
use Rattle.vl_opening.specs.declared.instance.Site.{Site}
use Rattle.vl_opening.specs.declared.instance.Entered.{Entered}
use Rattle.vl_opening.specs.Walking.{IsNumbered, Opens, Walks, scopes_of}
use Rattle.vl_opening.specs.Entering.{EntersBody, EntersUse, IsUse, scope_at}
use Rattle.vl_opening.proofs.Walking.{walks_on, walks_still, walks_quiet, failing_quiet}

-- ---- a block

-- a scope of the program is the one of a block
pub record IsBlockScope (site : BlockSite) (b : t.GenerateBlock) (ds : List Declared) (ss : List Scope) (c : code.Scope) : Type 0 where
  pub plain : plain_scope ss c ≡ record {
    origin = block;
    level = record {
      path = path_at ss (Some site.within) ++ plain_step site.step ∷ [];
      declared = all_plain ds;
      turn = option_map plain_turn site.turn;
    };
    outer = levels_at ss (Some site.within);
    items = body_items b;
  }

pub enters_block : (site : BlockSite) (b : t.GenerateBlock) (was now : Frames) (ds : List Declared) (old new : Walk) (c : code.Scope) (n : Option ℕ)
    → members.EntersBlock b was now ds → IsBlockScope site b ds (scopes_of old) c → Opens c old new n → EntersBody site b was now old new n
enters_block site b was now ds old new c n e is o =
    let ss = scopes_of old in
    let same : plain_scope ss c ≡ scope_at ss site (around was) b = is.plain ∙ (λ i. record {
      origin = block;
      level = record {
        path = path_at ss (Some site.within) ++ plain_step site.step ∷ [];
        declared = e.declared i;
        turn = option_map plain_turn site.turn;
      };
      outer = levels_at ss (Some site.within);
      items = body_items b;
    }) in
    record {
      walks = subst (λ s. Walks (opens s ∷ []) old new) same o.walks;
      number = subst (λ s. IsNumbered new s n) same o.number;
      sight = e.sight;
      outer = e.outer;
    }

-- ---- an instance

pub walks_begin : (p : Place) (old new : Walk) → new.scopes ≡ old.scopes → HearsBegin old.progress new.progress p → Walks (instance_begins p ∷ []) old new
walks_begin p old new same h = walks_quiet (instance_begins p ∷ []) old new refl same h

pub walks_expand : (tokens n : ℕ) (old new : Walk) → new.scopes ≡ old.scopes → tokens ≡ capped n → HearsExpand old.progress new.progress tokens
    → Walks (expands n ∷ []) old new
walks_expand tokens n old new same e h = walks_quiet (expands n ∷ []) old new refl same (h n e)

pub walks_fail : (f : Option Found) (fs : List order.Found) (old new : Walk) → new.scopes ≡ old.scopes → option_map found f ≡ least fs
    → HearsFaults old.progress new.progress f → Walks (failing fs) old new
walks_fail f fs old new same e h = walks_quiet (failing fs) old new (failing_quiet fs) same (h fs e)

-- what stands before a scope, and then the scope and what it needs
pub walks_entry : (p : Place) (n : ℕ) (rest : List Request) (a b c z : Walk) → Walks (instance_begins p ∷ []) a b → Walks (expands n ∷ []) b c
    → Walks rest c z → Walks (instance_begins p ∷ (expands n ∷ rest)) a z
walks_entry p n rest a b c z one two three = walks_on (instance_begins p ∷ []) (expands n ∷ rest) a b z one
    (walks_on (expands n ∷ []) rest b c z two three)

module _ (u : Use) (m : t.Module) (site : Site) (gs : List Given) (is : t.Items) (tokens : ℕ) (a b c : Walk)
    (of_use : IsUse (scopes_of a) site gs u m) (ei : is ≡ m.items) (one : Walks (instance_begins (view.place site.place) ∷ []) a b)
    (two : Walks (expands (items_tokens is) ∷ []) b c) where
  began : Walks (instance_begins u.place ∷ []) a b
  began = subst (λ p. Walks (instance_begins p ∷ []) a b) of_use.place one

  grown : Walks (expands (items_tokens m.items) ∷ []) b c
  grown = subst (λ js. Walks (expands (items_tokens js) ∷ []) b c) ei two

  -- too much was asked for
  pub entry_ended : c.progress.ended ≡ true → EntersUse u m a c None
  entry_ended e = record {
    walks = walks_entry u.place (items_tokens m.items) _ a b c c began grown (walks_still c _ e);
    entered = e;
  }

-- the scope of the program for a use
pub record IsModuleScope (site : Site) (ds : List Declared) (ss : List Scope) (c : code.Scope) : Type 0 where
  pub plain : plain_scope ss c ≡ record {
    origin = plain_origin ss site.within site.origin;
    level = record {
      path = path_at ss site.within ++ option_to_list (option_map plain_step site.step);
      declared = all_plain ds;
      turn = None;
    };
    outer = outer_of ss site.within site.origin;
    items = made_of site.origin;
  }

scope_is : (u : Use) (m : t.Module) (site : Site) (gs : List Given) (now : Frames) (ds : List Declared) (f : Option Found) (ss : List Scope)
    (c : code.Scope) → IsUse ss site gs u m → members.OpensModule gs m now ds f → IsModuleScope site ds ss c → plain_scope ss c ≡ module_scope limits u m
scope_is u m site gs now ds f ss c of_use o is = is.plain ∙ (λ i. record {
  origin = of_use.origin i;
  level = record { path = of_use.path i; declared = o.declared u of_use.given i; turn = None };
  outer = of_use.outer i;
  items = of_use.items i;
})

-- scopes that are the same are those of the same use
use_kept : (u : Use) (m : t.Module) (site : Site) (gs : List Given) (a c : Walk) → c.scopes ≡ a.scopes → IsUse (scopes_of a) site gs u m
    → IsUse (scopes_of c) site gs u m
use_kept u m site gs a c e of_use = subst (λ v. IsUse (plain_scopes v.items) site gs u m) (sym e) of_use

module _ (u : Use) (m : t.Module) (site : Site) (gs : List Given) (is : t.Items) (a b c o : Walk) (now : Frames) (ds : List Declared)
    (f : Option Found) (s : code.Scope)
    (of_use : IsUse (scopes_of a) site gs u m) (same : c.scopes ≡ a.scopes) (ei : is ≡ m.items)
    (one : Walks (instance_begins (view.place site.place) ∷ []) a b) (two : Walks (expands (items_tokens is) ∷ []) b c)
    (h : members.OpensModule gs m now ds f) (q : IsModuleScope site ds (scopes_of c) s) where
  abbrev scope_same : plain_scope (scopes_of c) s ≡ module_scope limits u m
  scope_same = scope_is u m site gs now ds f (scopes_of c) s (use_kept u m site gs a c same of_use) h q

  abbrev needs_in : List order.Found
  needs_in = header_needs u.given no_type nothing_known m.parameters ++ each_of (port_needs (at_entry u m).known) (ports_of m)

  began_here : Walks (instance_begins u.place ∷ []) a b
  began_here = subst (λ p. Walks (instance_begins p ∷ []) a b) of_use.place one

  grown_here : Walks (expands (items_tokens m.items) ∷ []) b c
  grown_here = subst (λ js. Walks (expands (items_tokens js) ∷ []) b c) ei two

  -- its scope is opened, and what is needed is told
  pub entry_made : (z : Walk) (n : ℕ) (e : Entered) → Opens s c o (Some n) → z.scopes ≡ o.scopes → HearsFaults o.progress z.progress f
      → e.scope ≡ n → e.frames ≡ now → EntersUse u m a z (Some e)
  entry_made z n e w ez hf en ef = record {
    walks = walks_entry u.place (items_tokens m.items) _ a b c z began_here grown_here
        (walks_on (opens (module_scope limits u m) ∷ []) (failing needs_in) c o z
        (subst (λ x. Walks (opens x ∷ []) c o) scope_same w.walks)
        (walks_fail f needs_in o z ez (h.fault u of_use.given ∙ ap (λ xs. least (header_needs xs no_type nothing_known m.parameters ++ each_of (port_needs (at_entry u m).known) (ports_of m))) (sym of_use.given)) hf));
    entered = (
      ap (slice_get (scopes_of z)) en ∙ ap (λ v. slice_get (plain_scopes v.items) n) ez ∙ w.number ∙ ap Some scope_same,
      ap around ef ∙ h.sight u of_use.given,
    );
  }

  -- the walk had ended
  pub entry_none : Opens s c o None → EntersUse u m a o None
  entry_none w = record {
    walks = walks_entry u.place (items_tokens m.items) _ a b c o began_here grown_here
        (walks_on (opens (module_scope limits u m) ∷ []) (failing needs_in) c o o
        (subst (λ x. Walks (opens x ∷ []) c o) scope_same w.walks) (walks_still o (failing needs_in) w.number));
    entered = w.number;
  }
