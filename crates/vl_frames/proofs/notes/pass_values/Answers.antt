use Rattle.std.proofs.Common.{◌≡◌, ◌+◌, ◌∷◌, drop, sym, ap, ◌∙◌}
use Rattle.std.specs.Prelude.{bytes_eq}
use Rattle.std.proofs.lemmas.List.{drop_more, drop_all}
use Rattle.vl_frames.specs.Named.{value_named}
use Rattle.vl_frames.proofs.Noted.{passed_on, passed_end}
use Rattle.vl_frames.proofs.notes.pass_values.Goals as goal

pub loop-value-preserved : goal.loop-value-preserved
loop-value-preserved c =
    let xs = c.args.values.now in let k = c.loop-value.value-index in
    let e : drop k xs ≡ c.value-item.result ∷ drop (k + 1) xs = drop_more xs k c.value-item.result c.loop-value-test.true ∙ ap (λ y. y ∷ drop (k + 1) xs) (sym c.value-item.is) in
    record {
      sight = passed_on _ _ (bytes_eq c.value-item.result.name.text) (value_named (drop (k + 1) xs)) (value_named (drop k xs)) _ (ap value_named e) c.in_ok-pass.ensures c.loop-value.invariant.sight;
      outer = c.in_ok-pass.ensures.outer ∙ c.loop-value.invariant.outer;
    }

pub returns : goal.returns
returns c =
    let xs = c.args.values.now in let k = c.loop-value.value-index in
    record {
      sight = passed_end c.loop-value.frames (value_named (drop k xs)) _ (ap value_named (drop_all k xs c.loop-value-test.false)) c.loop-value.invariant.sight;
      outer = c.loop-value.invariant.outer;
    }
