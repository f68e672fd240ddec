use Rattle.std.proofs.Common.{drop}
use Rattle.vl_declares.specs.Plain.{all_plain}
use Rattle.vl_repeats.specs.Flags.{picked}
use Rattle.vl_objects.specs.Partners.{AreOf}
use Rattle.vl_objects.proofs.partner.partners_of.Given as goal

-- of those from here on
abbrev pub invariant-loop-k : goal.invariant-loop-k
invariant-loop-k l = AreOf l.partners (picked (drop l.k l.counted) (all_plain (drop l.k l.declared)))
