use Rattle.step_program.specs.Draft.{narrow_count, wide_count}
use Rattle.net_compile.specs.Pieces.{front_of}
use Rattle.net_compile.proofs.Standing.{begins_on, grows_on, step_grows, calculation_stands}
use Rattle.net_compile.proofs.Nodes.{node_wide}
use Rattle.net_compile.proofs.lower.calculated.Goals as goal

pub with_ones-requires : goal.with_ones-requires
with_ones-requires c =
    (c.in-Some.ensures (front_of c.args.layout.now.given) c.args.builder.now c.requires.nodes).fits

pub step_of-requires : goal.step_of-requires
step_of-requires c = node_wide c.args.flat.now c.args.node c.requires.node

pub push-requires : goal.push-requires
push-requires c =
    let front = front_of c.args.layout.now.given in
    c.step_of.ensures.fits (narrow_count c.with_ones.new.builder) (wide_count c.with_ones.new.builder)
    (c.in_ok-calculation-in-Some.ensures.same c.args.flat.now front c.args.node.operation c.requires.begins
    (c.in-Some.ensures front c.args.builder.now c.requires.nodes)).fits

pub returns-in_ok-push-in-Some : goal.returns-in_ok-push-in-Some
returns-in_ok-push-in-Some c =
    let front = front_of c.args.layout.now.given in
    let grown = c.in_ok-calculation-in-Some.ensures.grows in
    record {
      grows = grows_on c.args.builder.now c.with_ones.new.builder c.push.new.self grown
          (step_grows c.with_ones.new.builder c.push.new.self c.step_of.result c.in_ok-push-in-Some.field-0
          c.in_ok-push-in-Some.ensures);
      slot = calculation_stands c.args.flat.now front c.with_ones.new.builder c.push.new.self
          c.args.node.width c.args.node.operation c.in_ok-calculation-in-Some.calculation c.step_of.result c.in_ok-push-in-Some.field-0
          c.fits_law.ensures (begins_on front c.args.builder.now c.with_ones.new.builder c.requires.begins grown)
          (node_wide c.args.flat.now c.args.node c.requires.node)
          (c.in_ok-calculation-in-Some.ensures.same c.args.flat.now front c.args.node.operation c.requires.begins
          (c.in-Some.ensures front c.args.builder.now c.requires.nodes)) c.step_of.ensures
          c.in_ok-push-in-Some.ensures;
    }
