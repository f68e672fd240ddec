use Rattle.std.proofs.Common.{◌<◌, length, sym, subst}
use Rattle.std.specs.List.{All}
use Rattle.netlist.specs.Run.{Fired}
use Rattle.dessert.specs.Calls.Told.{no_stop}
use Rattle.dessert.proofs.ToldLaws.{scopes_there}
use Rattle.dessert.proofs.answers.stop_line.Goals as goal

pub path_text-requires : goal.path_text-requires
path_text-requires c =
    let there = subst (All (λ s. s.scope < length c.args.flat.now.scopes)) (sym c.requires.stops) (scopes_there c.args.flat.now c.requires.fits) in
    there c.fired.inside.stop no_stop (subst (λ (x : Fired). x.stop < length c.args.stops.now) (sym c.fired.view_is) c.requires.there)
