use Rattle.std.proofs.Common.{◌∙◌, ap, sym, map}
use Rattle.std.specs.Option.{option_map}
use Rattle.vl_sized.specs.Sensed as sensed
use Rattle.vl_sized.specs.Nodes.{whole_of}
use Rattle.vl_sized.specs.Plain.{sense_of}
use Rattle.vl_sized.proofs.combine.copies.Goals as goal

pub returns-in-None : goal.returns-in-None
returns-in-None c = λ ns.
    c.nothing.ensures ns ∙ sym (ap (λ n. sensed.copied_sense (option_map whole_of n) (map (sense_of ns) c.args.parts)) c.in-None.is)
