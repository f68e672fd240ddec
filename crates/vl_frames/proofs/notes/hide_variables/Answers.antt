use Rattle.std.proofs.Common.{◌≡◌, ◌+◌, ◌∷◌, ◌||◌, drop, sym, ap, ◌∙◌}
use Rattle.std.specs.Prelude.{bytes_eq}
use Rattle.std.proofs.lemmas.List.{drop_more, drop_all}
use Rattle.vl_frames.specs.Named.{variable_named}
use Rattle.vl_frames.proofs.Noted.{hidden_on, hidden_end}
use Rattle.vl_frames.proofs.notes.hide_variables.Goals as goal

pub loop-variable-preserved : goal.loop-variable-preserved
loop-variable-preserved c =
    let xs = c.args.variables.now in let k = c.loop-variable.variable-index in
    let e : drop k xs ≡ c.variable-item.result ∷ drop (k + 1) xs = drop_more xs k c.variable-item.result c.loop-variable-test.true ∙ ap (λ y. y ∷ drop (k + 1) xs) (sym c.variable-item.is) in
    record {
      sight = hidden_on _ _ (bytes_eq c.variable_name.result.now.text) (variable_named (drop (k + 1) xs)) (variable_named (drop k xs)) _ (ap variable_named e ∙ (λ i x. bytes_eq (sym c.variable_name.ensures i).text x || variable_named (drop (k + 1) xs) x)) c.in_ok-hide.ensures c.loop-variable.invariant.sight;
      outer = c.in_ok-hide.ensures.outer ∙ c.loop-variable.invariant.outer;
    }

pub returns : goal.returns
returns c =
    let xs = c.args.variables.now in let k = c.loop-variable.variable-index in
    record {
      sight = hidden_end c.loop-variable.frames (variable_named (drop k xs)) _ (ap variable_named (drop_all k xs c.loop-variable-test.false)) c.loop-variable.invariant.sight;
      outer = c.loop-variable.invariant.outer;
    }
