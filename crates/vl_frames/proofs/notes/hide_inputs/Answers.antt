use Rattle.std.proofs.Common.{◌≡◌, ◌+◌, ◌∷◌, ◌||◌, drop, sym, ap, ◌∙◌}
use Rattle.std.specs.Prelude.{bytes_eq}
use Rattle.std.proofs.lemmas.List.{drop_more, drop_all}
use Rattle.vl_frames.specs.Named.{input_named}
use Rattle.vl_frames.proofs.Noted.{hidden_on, hidden_end}
use Rattle.vl_frames.proofs.notes.hide_inputs.Goals as goal

pub loop-port-preserved : goal.loop-port-preserved
loop-port-preserved c =
    let xs = c.args.ports.now in let k = c.loop-port.port-index in
    let e : drop k xs ≡ c.port-item.result ∷ drop (k + 1) xs = drop_more xs k c.port-item.result c.loop-port-test.true ∙ ap (λ y. y ∷ drop (k + 1) xs) (sym c.port-item.is) in
    record {
      sight = hidden_on _ _ (bytes_eq c.input_name.result.now.text) (input_named (drop (k + 1) xs)) (input_named (drop k xs)) _ (ap input_named e ∙ (λ i x. bytes_eq (sym c.input_name.ensures i).text x || input_named (drop (k + 1) xs) x)) c.in_ok-hide.ensures c.loop-port.invariant.sight;
      outer = c.in_ok-hide.ensures.outer ∙ c.loop-port.invariant.outer;
    }

pub returns : goal.returns
returns c =
    let xs = c.args.ports.now in let k = c.loop-port.port-index in
    record {
      sight = hidden_end c.loop-port.frames (input_named (drop k xs)) _ (ap input_named (drop_all k xs c.loop-port-test.false)) c.loop-port.invariant.sight;
      outer = c.loop-port.invariant.outer;
    }
