use Rattle.std.proofs.Common.{length, drop, sym, ap, ◌∙◌}
use Rattle.state_changes.specs.Log.{Log}
use Rattle.state_changes.proofs.Groups.{length_grouped}
use Rattle.state_changes.proofs.journal.Journal.cycles.Goals as goal

pub returns : goal.returns
returns g c =
    let a = c.self.inside in
    c.len.ensures.len ∙ sym (length_grouped a.counts.items (drop a.fresh a.items.items))
    ∙ ap (λ (l : Log g.row.T.Denot). length l.cycles) c.self.view_is
