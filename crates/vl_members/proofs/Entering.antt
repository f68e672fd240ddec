-- What is in sight at the entry of a module and of a block, and what they declare.
use Rattle.std.proofs.Common.{◌≡◌, refl, sym, ap, ◌∙◌, Bool, true, false, ◌&&◌, ◌||◌, not, List, [], ◌++◌, append-nil, append_assoc, map}
use Rattle.std.specs.Prelude.{Option, None}
use Rattle.std.specs.Option.{option_map}
use Rattle.vl_tree.specs.Syntax as t
use Rattle.vl_value.specs.Order.{lesser, least}
use Rattle.vl_value.proofs.OrderLaws.{least_joined}
use Rattle.vl_found.specs.declared.Found.{Found}
use Rattle.vl_found.specs.View.{found}
use Rattle.vl_design.specs.Limits.{limits}
use Rattle.vl_design.specs.Lists.{each_of}
use Rattle.vl_design.specs.Constants.{nothing_known}
use Rattle.vl_design.specs.Parameters.{Given, no_type, header_needs, header_worth, after_header}
use Rattle.vl_design.specs.Declarations as d
use Rattle.vl_design.specs.Declarations.{port_needs, header_ports, parameter_by, have_name, object_names, genvar_names}
use Rattle.vl_design.specs.Generate.{Around, entered}
use Rattle.vl_design.specs.Scopes.{Use, at_entry, ports_of, declared, body_items, body_around, body_declared}
use Rattle.vl_frames.specs.declared.frames.Frames.{Frames}
use Rattle.vl_frames.specs.Marks.{IsNew, around}
use Rattle.vl_frames.specs.Changes.{Becomes, Enters, Leaves, genvar_noted}
use Rattle.vl_constants.specs.Needed.{constants_of}
use Rattle.vl_declares.specs.declared.declared.Declared.{Declared}
use Rattle.vl_declares.specs.Plain.{all_plain, Declares}
use Rattle.vl_declares.specs.Values.{DeclaresHeader}
use Rattle.vl_members.specs.Members.{DeclaresBy}
use Rattle.vl_members.specs.Opening.{EntersBlock, EntersModule, HasMembers, OpensModule}
use Rattle.vl_members.proofs.Turning.{left_again, same_around}

-- ---- the items of a scope, in a scope that is left again

pub has_members : (was inside behind now : Frames) (old new : List Declared) (f : Around → List d.Declared) (a : Around)
    → Enters was inside → DeclaresBy (f (around inside)) a inside behind old new → Leaves behind now
    → HasMembers (f (around was)) was now old new
has_members was inside behind now old new f a e h leaves = record {
  added = h.added ∙ ap (λ b. all_plain old ++ f b) e.sight;
  frames = left_again was behind now (h.outer ∙ e.outer) leaves;
}

-- ---- a block

around_body : (b : t.GenerateBlock) (a : Around) → entered (body_items b) a ≡ body_around b a
around_body (t.single i) a = refl
around_body (t.several p x is) a = refl

body_is : (b : t.GenerateBlock) (a : Around) → declared limits [] a (body_items b) ≡ body_declared limits a b
body_is (t.single i) a = append-nil _
body_is (t.several p x is) a = refl

pub enters_block : (b : t.GenerateBlock) (was inside hidden now : Frames) (is : t.Items) (old ds : List Declared) → is ≡ body_items b
    → Enters was inside → Becomes inside hidden (entered is (around inside)) → old ≡ []
    → HasMembers (declared limits [] (around hidden) is) hidden now old ds → EntersBlock b was now ds
enters_block b was inside hidden now is old ds ei e h none m =
    let here : around hidden ≡ body_around b (around was) =
    h.sight ∙ (λ j. entered (ei j) (e.sight j)) ∙ around_body b (around was) in
    record {
      sight = same_around hidden now m.frames ∙ here;
      outer = m.frames.others ∙ h.outer ∙ e.outer;
      declared = m.added ∙ ap (λ xs. all_plain xs ++ declared limits [] (around hidden) is) none
          ∙ (λ j. declared limits [] (here j) (ei j)) ∙ body_is b (body_around b (around was));
    }

-- ---- a module

or_nothing : (b o : Bool) → (b || false) ≡ (b || (not o && false))
or_nothing b true = refl
or_nothing b false = refl

module _ (gs : List Given) (m : t.Module) (start noted now : Frames) (is : t.Items) (hs : List t.HeaderParameter) (ps : List t.Port)
    (old mid new : List Declared) (f g found_all : Option Found)
    (ei : is ≡ m.items) (eh : hs ≡ m.parameters) (ep : ps ≡ ports_of m)
    (n : IsNew start) (b : Becomes start noted (genvar_noted (have_name genvar_names is) (around start)))
    (h : DeclaresHeader gs no_type hs noted now old mid f) where
  constants : constants_of noted ≡ nothing_known
  constants = ap (λ (a : Around). a.known) b.sight ∙ ap (λ (a : Around). a.known) n.sight

  known_is : (u : Use) → u.given ≡ gs → constants_of now ≡ (at_entry u m).known
  known_is u e = h.known ∙ (λ j. after_header (sym e j) no_type (constants j) (eh j))

  genvars_are : (u : Use) → (around now).is_genvar ≡ (at_entry u m).is_genvar
  genvars_are u = h.genvars ∙ ap (λ (a : Around). a.is_genvar) b.sight
      ∙ (λ j x. have_name genvar_names (ei j) x || (n.sight j).is_genvar x)
      ∙ (λ j x. or_nothing (have_name genvar_names m.items x) (have_name object_names m.items x) j)

  pub enters_module : Declares mid (header_ports (constants_of now) None ps) (each_of (port_needs (constants_of now)) ps) new g
      → option_map found found_all ≡ lesser (option_map found f) (option_map found g)
      → EntersModule gs m now old new found_all
  enters_module p l = record {
    sight = λ u e j. record { known = known_is u e j; is_genvar = genvars_are u j };
    outer = h.outer ∙ b.outer ∙ n.outer;
    added = λ u e. p.declared
        ∙ (λ j. (h.added ∙ (λ k. all_plain old ++ map parameter_by (header_worth gs no_type (constants k) (eh k)))) j
        ++ header_ports (known_is u e j) None (ep j))
        ∙ append_assoc (all_plain old) (map parameter_by (header_worth gs no_type nothing_known m.parameters)) (header_ports (at_entry u m).known None (ports_of m));
    fault = λ u e. l
        ∙ (λ j. lesser ((h.fault ∙ (λ k. least (header_needs gs no_type (constants k) (eh k)))) j)
        ((p.fault ∙ (λ k. least (each_of (port_needs (known_is u e k)) (ep k)))) j))
        ∙ sym (least_joined (header_needs gs no_type nothing_known m.parameters) (each_of (port_needs (at_entry u m).known) (ports_of m)));
  }

pub opens_module : (gs : List Given) (m : t.Module) (in_it now : Frames) (is : t.Items) (old mid new : List Declared) (f : Option Found)
    → is ≡ m.items → old ≡ [] → EntersModule gs m in_it old mid f → HasMembers (declared limits gs (around in_it) is) in_it now mid new
    → OpensModule gs m now new f
opens_module gs m in_it now is old mid new f ei none h i = record {
  sight = λ u e. same_around in_it now i.frames ∙ h.sight u e;
  outer = i.frames.others ∙ h.outer;
  declared = λ u e. i.added
      ∙ (λ j. (h.added u e ∙ ap (λ xs. all_plain xs ++ (map parameter_by (header_worth gs no_type nothing_known m.parameters)
      ++ header_ports (at_entry u m).known None (ports_of m))) none) j ++ declared limits (sym e j) (h.sight u e j) (ei j))
      ∙ append_assoc (map parameter_by (header_worth gs no_type nothing_known m.parameters)) (header_ports (at_entry u m).known None (ports_of m))
      (declared limits u.given (at_entry u m) m.items)
      ∙ (λ j. map parameter_by (header_worth (sym e j) no_type nothing_known m.parameters)
      ++ (header_ports (at_entry u m).known None (ports_of m) ++ declared limits u.given (at_entry u m) m.items));
  fault = h.fault;
}
