use Rattle.std.proofs.Common.{ap, sym, ◌∙◌}
use Rattle.std.specs.Option.{option_map, option_copied}
use Rattle.vl_tree.specs.View.{port}
use Rattle.vl_meaning.specs.Objects.{port_place, port_named}
use Rattle.vl_scope.proofs.Places.{port_at, no_port}
use Rattle.vl_scope.proofs.scope.Scope.port_of.Goals as goal

pub returns-in_err-number : goal.returns-in_err-number
returns-in_err-number c = ap (λ r. option_map port (option_copied r)) c.from_residual.ensures ∙ no_port c.args.self.now c.args.name.now c.in_err-number.ensures.number

pub bounds-self-inside-number : goal.bounds-self-inside-number
bounds-self-inside-number c =
    (port_at c.self.inside.ports.now c.args.name.now c.in_ok-number.number (c.in_ok-number.ensures.number ∙ ap (λ ps. port_place ps c.args.name.now) (sym c.self.view_is))).below

pub returns : goal.returns
returns c =
    (port_at c.self.inside.ports.now c.args.name.now c.in_ok-number.number (c.in_ok-number.ensures.number ∙ ap (λ ps. port_place ps c.args.name.now) (sym c.self.view_is))).here c.index-self-number.result
    ∙ ap (λ ps. port_named ps c.args.name.now) c.self.view_is
