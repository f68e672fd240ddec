-- One port of a header.
use Rattle.std.proofs.Common.{◌≡◌, List, [], ◌∷◌, ◌++◌, refl, sym, ap, subst, ◌∙◌}
use Rattle.std.specs.Prelude.{Option, None, Some}
use Rattle.std.specs.Option.{option_map}
use Rattle.vl_tree.specs.Syntax as t
use Rattle.vl_tree.specs.SyntaxView as view
use Rattle.vl_value.specs.Order.{least}
use Rattle.vl_found.specs.declared.Found.{Found}
use Rattle.vl_found.specs.View.{found}
use Rattle.vl_design.specs.Constants.{Known}
use Rattle.vl_design.specs.Spans.{Span, optional_span, range_needs}
use Rattle.vl_span.specs.Plain.{plain_span}
use Rattle.vl_declares.specs.declared.declared.Declared.{Declared}
use Rattle.vl_declares.specs.declared.header_ports.Words.{Words}
use Rattle.vl_declares.specs.Plain.{all_plain, port_of}
use Rattle.vl_declares.specs.HeaderPorts.{words_of, Holds, named_here, port_here, DeclaresPort}

module _ (k : Known) (was : Option Words) (p : t.Port) (x : t.Name) (old new : List Declared) where
  pub port_declared : (w : Words) (f : Option Found) → p ≡ t.declared_port (view.directed w.directed.now) x
      → plain_span w.span ≡ optional_span k (view.directed w.directed.now).range
      → all_plain new ≡ all_plain old ++ port_of (view.directed w.directed.now) (plain_span w.span) x ∷ []
      → option_map found f ≡ least (range_needs k (view.directed w.directed.now).range)
      → DeclaresPort k was p old new (Some w) f
  port_declared w f e h a n =
      subst (λ q. DeclaresPort k was q old new (Some w) f) (sym e)
      (record {
        added = a ∙ ap (λ (sp : Span). all_plain old ++ port_of (view.directed w.directed.now) sp x ∷ []) h;
        fault = n;
        words = refl;
        holds = h;
      })

  named_is : (w : Option Words) → Holds k w → named_here w x ≡ port_here k (words_of w) (t.named_port x)
  named_is None h = refl
  named_is (Some w) h = ap (λ (sp : Span). port_of (view.directed w.directed.now) sp x ∷ []) h

  pub port_named : p ≡ t.named_port x → Holds k was → all_plain new ≡ all_plain old ++ named_here was x
      → DeclaresPort k was p old new was None
  port_named e h a =
      subst (λ q. DeclaresPort k was q old new was None) (sym e)
      (record { added = a ∙ ap (λ ds. all_plain old ++ ds) (named_is was h); fault = refl; words = refl; holds = h })
