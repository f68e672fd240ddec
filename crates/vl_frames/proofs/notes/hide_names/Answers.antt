use Rattle.std.proofs.Common.{◌≡◌, ◌+◌, ◌∷◌, drop, sym, ap, ◌∙◌}
use Rattle.std.specs.Prelude.{bytes_eq}
use Rattle.std.proofs.lemmas.List.{drop_more, drop_all}
use Rattle.vl_frames.specs.Named.{named}
use Rattle.vl_frames.proofs.Noted.{hidden_on, hidden_end}
use Rattle.vl_frames.proofs.notes.hide_names.Goals as goal

pub loop-name-preserved : goal.loop-name-preserved
loop-name-preserved c =
    let xs = c.args.names.now in let k = c.loop-name.name-index in
    let e : drop k xs ≡ c.name-item.result ∷ drop (k + 1) xs = drop_more xs k c.name-item.result c.loop-name-test.true ∙ ap (λ y. y ∷ drop (k + 1) xs) (sym c.name-item.is) in
    record {
      sight = hidden_on _ _ (bytes_eq c.name-item.result.text) (named (drop (k + 1) xs)) (named (drop k xs)) _ (ap named e) c.in_ok-hide.ensures c.loop-name.invariant.sight;
      outer = c.in_ok-hide.ensures.outer ∙ c.loop-name.invariant.outer;
    }

pub returns : goal.returns
returns c =
    let xs = c.args.names.now in let k = c.loop-name.name-index in
    record {
      sight = hidden_end c.loop-name.frames (named (drop k xs)) _ (ap named (drop_all k xs c.loop-name-test.false)) c.loop-name.invariant.sight;
      outer = c.loop-name.invariant.outer;
    }
