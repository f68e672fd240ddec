use Rattle.std.proofs.Common.{◌∙◌, ap, Some, None}
use Rattle.vl_tree.specs.SyntaxView as view
use Rattle.vl_width.specs.Terms.{meant}
use Rattle.vl_width.proofs.Early.{settled_parameter}
use Rattle.vl_width.proofs.constants.settled_constant.Goals as goal

pub returns-in-Some : goal.returns-in-Some
returns-in-Some g c =
    let s = g.N.Names.sight c.args.names.now in let e = view.expr c.args.e.now in
    let h = rw c.in-Some.is at c.in_ok-known.ensures in
    ap Some c.constant.ensures ∙ settled_parameter s e (Some (meant c.in-Some.known)) h

pub returns-in-None : goal.returns-in-None
returns-in-None g c =
    let s = g.N.Names.sight c.args.names.now in let e = view.expr c.args.e.now in
    let h = rw c.in-None.is at c.in_ok-known.ensures in
    settled_parameter s e None h
