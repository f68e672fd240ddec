-- What is declared of each sort of item.
use Rattle.std.proofs.Common.{◌≡◌, Bool, List, [], ◌++◌, map, refl, sym, ap, subst, ◌∙◌}
use Rattle.std.specs.Prelude.{Option, ◌&&◌, not, if◌then◌else◌}
use Rattle.std.specs.Option.{option_map}
use Rattle.dt_core.specs.declared.place.Place.{Place}
use Rattle.vl_tree.specs.declared.expression.Range.{Range}
use Rattle.vl_tree.specs.declared.item.Net.{Net}
use Rattle.vl_tree.specs.declared.item.Valued.{Valued}
use Rattle.vl_tree.specs.declared.item.Item.{Item}
use Rattle.vl_tree.specs.declared.item.Item.TheVariants as x
use Rattle.vl_tree.specs.Syntax as t
use Rattle.vl_tree.specs.SyntaxView as view
use Rattle.vl_value.specs.Order.{least}
use Rattle.vl_found.specs.declared.Found.{Found}
use Rattle.vl_design.specs.Spans.{optional_span, range_needs}
use Rattle.vl_design.specs.Parameters.{Given, parameter_type, values_worth, value_needs, after_values}
use Rattle.vl_design.specs.Declarations as d
use Rattle.vl_frames.specs.declared.frames.Frames.{Frames}
use Rattle.vl_frames.specs.Marks.{around}
use Rattle.vl_constants.specs.Needed.{constants_of}
use Rattle.vl_views.proofs.PlainItems.{parameter_is}
use Rattle.vl_declares.specs.declared.declared.Declared.{Declared}
use Rattle.vl_declares.specs.Items.{DeclaresItem, DeclaresParameters, value_has}
use Rattle.vl_declares.specs.Plain.{all_plain, Declares, nets}
use Rattle.vl_declares.proofs.PlainItems.{nets_is}

module _ (gs : List Given) (i : Item) (was : Frames) (old new : List Declared) where
  pub by_nets : (f : Option Found) (p : Place) (s : Bool) (r : Option Range) (ns : List Net) (b : Option t.Range) (ms : List Net)
      → i ≡ x.Nets p s r ns → b ≡ option_map view.range r → ms ≡ ns
      → Declares old (nets s (optional_span (constants_of was) b) (map view.net ms)) (range_needs (constants_of was) b) new f
      → DeclaresItem gs (view.item i) was was old new f
  by_nets f p s r ns b ms e eb em h =
      subst (λ y. DeclaresItem gs y was was old new f) (sym (nets_is i p s r ns e))
      (record {
        added = h.declared ∙ (λ j. all_plain old ++ nets s (optional_span (constants_of was) (eb j)) (map view.net (em j)));
        fault = h.fault ∙ ap (λ q. least (range_needs (constants_of was) q)) eb;
        sight = λ q. refl;
        outer = refl;
      })

  -- the values that are given, none to a local parameter
  abbrev given_unless : Bool → List Given
  given_unless is_local = if is_local then [] else gs

  pub by_parameter : (now : Frames) (f : Option Found) (p : Place) (is_local s : Bool) (r : Option Range) (vs : List Valued)
      (b : Option t.Range) (us : List Valued) (hs : List Given)
      → i ≡ x.Parameter p is_local s r vs → b ≡ option_map view.range r → us ≡ vs → hs ≡ given_unless is_local
      → DeclaresParameters hs s b (map view.valued us) was now old new f
      → DeclaresItem gs (view.item i) was now old new f
  by_parameter now f p is_local s r vs b us hs e eb eu eh h =
      let k = constants_of was in
      subst (λ y. DeclaresItem gs y was now old new f) (sym (parameter_is i p is_local s r vs e))
      (record {
        added = h.added
            ∙ (λ j. all_plain old ++ map d.parameter_by (values_worth (eh j) (parameter_type k s (eb j)) k (map view.valued (eu j))));
        fault = h.fault
            ∙ (λ j. least (range_needs k (eb j) ++ value_needs (eh j) (parameter_type k s (eb j)) k (map view.valued (eu j))));
        sight = λ q j. record {
          known = (h.known ∙ (λ l. after_values (eh l) (parameter_type k s (eb l)) k (map view.valued (eu l)))) j;
          is_genvar = (h.genvars ∙ (λ l y. not (value_has (map view.valued (eu l)) y) && (around was).is_genvar y)) j;
        };
        outer = h.outer;
      })
