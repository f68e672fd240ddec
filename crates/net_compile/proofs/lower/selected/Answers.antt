use Rattle.std.proofs.Common.{ap, sym, ◌∙◌, subst, arith}
use Rattle.step_program.specs.Fits.{IsWidth}
use Rattle.step_program.specs.Values.{is_narrow_width}
use Rattle.net_compile.specs.Pieces.{front_of}
use Rattle.net_compile.proofs.Calculations.{selected_stands}
use Rattle.net_compile.proofs.Nodes.{node_wide}
use Rattle.net_compile.proofs.lower.selected.Goals as goal

pub cut-requires-clause-there : goal.cut-requires-clause-there
cut-requires-clause-there c =
    let is = c.in-Some-operand.ensures in
    let there = c.requires.nodes c.args.of c.in-Some-operand.operand.slot is.0 in
    record { placed = there.there.placed; kind = there.there.kind ∙ ap is_narrow_width (sym is.1) }

pub cut-requires-clause-of : goal.cut-requires-clause-of
cut-requires-clause-of c =
    let is = c.in-Some-operand.ensures in
    subst (λ v. IsWidth v) (sym is.1) (c.requires.nodes c.args.of c.in-Some-operand.operand.slot is.0).wide

pub cut-requires-clause-range : goal.cut-requires-clause-range
cut-requires-clause-range c = ((node_wide c.args.flat.now c.args.node c.requires.node).0, omega arith)

pub returns-then-from-clause-slot : goal.returns-then-from-clause-slot
returns-then-from-clause-slot c =
    selected_stands c.args.flat.now (front_of c.args.layout.now.given) c.args.builder.now c.cut.new.builder c.args.slots.now
    c.args.node c.args.of c.args.place c.in-Some.from c.in-Some-operand.operand c.in_ok-cut.field-0 c.requires.begins
    c.requires.nodes c.in-Some-operand.ensures c.in-Some.ensures c.requires.select
    (node_wide c.args.flat.now c.args.node c.requires.node) c.in_ok-cut.ensures.cut
