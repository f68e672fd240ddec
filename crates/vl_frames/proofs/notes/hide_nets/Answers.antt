use Rattle.std.proofs.Common.{◌≡◌, ◌+◌, ◌∷◌, drop, sym, ap, ◌∙◌}
use Rattle.std.specs.Prelude.{bytes_eq}
use Rattle.std.proofs.lemmas.List.{drop_more, drop_all}
use Rattle.vl_frames.specs.Named.{net_named}
use Rattle.vl_frames.proofs.Noted.{hidden_on, hidden_end}
use Rattle.vl_frames.proofs.notes.hide_nets.Goals as goal

pub loop-net-preserved : goal.loop-net-preserved
loop-net-preserved c =
    let xs = c.args.nets.now in let k = c.loop-net.net-index in
    let e : drop k xs ≡ c.net-item.result ∷ drop (k + 1) xs = drop_more xs k c.net-item.result c.loop-net-test.true ∙ ap (λ y. y ∷ drop (k + 1) xs) (sym c.net-item.is) in
    record {
      sight = hidden_on _ _ (bytes_eq c.net-item.result.name.text) (net_named (drop (k + 1) xs)) (net_named (drop k xs)) _ (ap net_named e) c.in_ok-hide.ensures c.loop-net.invariant.sight;
      outer = c.in_ok-hide.ensures.outer ∙ c.loop-net.invariant.outer;
    }

pub returns : goal.returns
returns c =
    let xs = c.args.nets.now in let k = c.loop-net.net-index in
    record {
      sight = hidden_end c.loop-net.frames (net_named (drop k xs)) _ (ap net_named (drop_all k xs c.loop-net-test.false)) c.loop-net.invariant.sight;
      outer = c.loop-net.invariant.outer;
    }
