use Rattle.std.proofs.Common.{[], length, map, ap, ◌∙◌}
use Rattle.vl_declares.specs.Plain.{all_plain}
use Rattle.vl_objects.proofs.Finding.{flags_length, plain_length}
use Rattle.vl_objects.specs.Plain.{plain_object}
use Rattle.vl_sight.proofs.Naming.{are_names}
use Rattle.vl_sight.proofs.names.Names.new.Goals as goal

pub declaration_numbers-requires : goal.declaration_numbers-requires
declaration_numbers-requires c =
    ap length (c.as_slice-counted.ensures.value ∙ c.in_ok-repeats.ensures.flags)
    ∙ flags_length [] (all_plain c.as_slice-all.result.now) ∙ plain_length c.as_slice-all.result.now

pub declaration_numbers-requires-2 : goal.declaration_numbers-requires-2
declaration_numbers-requires-2 c =
    ap length (c.as_slice-counted.ensures.value ∙ c.in_ok-repeats.ensures.flags)
    ∙ flags_length [] (all_plain c.as_slice-all.result.now) ∙ plain_length c.as_slice-all.result.now

pub returns : goal.returns
returns c =
    are_names c.args.scope.now _ c.as_slice-all.result.now c.as_slice-counted.result.now _ c.as_slice-all.ensures.value
    (c.as_slice-counted.ensures.value ∙ c.in_ok-repeats.ensures.flags)
    c.in_ok-declared.ensures c.in_ok-functions.ensures c.in_ok-objects.ensures
    (ap (map plain_object) c.as_slice.ensures.value) c.in_ok-numbers.ensures
