use Rattle.std.proofs.Common.{◌||◌, map, sym, ap, ◌∙◌}
use Rattle.std.specs.Prelude.{bytes_eq}
use Rattle.vl_tree.specs.SyntaxView as view
use Rattle.vl_design.specs.Lists.{each_of}
use Rattle.vl_design.specs.Declarations.{input_name, local_names}
use Rattle.vl_frames.specs.Marks.{around}
use Rattle.vl_frames.specs.Changes.{hidden}
use Rattle.vl_frames.specs.Named.{input_named, local_named}
use Rattle.vl_frames.proofs.Noted.{hidden_both, any_joined, or_on}
use Rattle.vl_frames.proofs.notes.hide_function.Goals as goal

pub returns : goal.returns
returns c =
    let f = c.args.function.now in
    let a = around c.args.frames.now in
    let own = bytes_eq f.name.text in
    let ins = input_named f.ports in
    let all = local_named f.declarations in
    let last = ap (λ ds. hidden (local_named ds) (around c.hide_inputs.new.frames)) c.as_slice-2.ensures in
    let inputs = ap (λ ps. hidden (input_named ps) (around c.hide.new.self)) c.as_slice.ensures in
    record {
      sight = c.in_ok-hide_declarations.ensures.sight ∙ last
          ∙ ap (hidden all) (c.in_ok-hide_inputs.ensures.sight ∙ inputs ∙ ap (hidden ins) c.in_ok-hide.ensures.sight ∙ hidden_both own ins a)
          ∙ hidden_both (λ x. own x || ins x) all a
          ∙ ap (λ g. hidden g a) (λ i x. (or_on (own x) (ins x) (all x) ∙ ap (λ b. own x || b)
          (sym (any_joined x (map input_name (map view.function_port f.ports)) (each_of local_names (map view.function_declaration f.declarations))))) i);
      outer = c.in_ok-hide_declarations.ensures.outer ∙ c.in_ok-hide_inputs.ensures.outer ∙ c.in_ok-hide.ensures.outer;
    }
