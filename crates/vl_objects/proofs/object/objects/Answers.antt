use Rattle.std.proofs.Common.{[], length, ap, ◌∙◌}
use Rattle.vl_design.specs.Objects.{objects_of}
use Rattle.vl_declares.specs.Plain.{all_plain}
use Rattle.vl_repeats.specs.Flags.{picked}
use Rattle.vl_repeats.proofs.Repeating.{picked_behind}
use Rattle.vl_objects.proofs.Finding.{flags_length, plain_length}
use Rattle.vl_objects.proofs.object.objects.Goals as goal

pub objects_of-requires : goal.objects_of-requires
objects_of-requires c =
    ap length (c.as_slice.ensures.value ∙ c.in_ok-repeats.ensures.flags)
    ∙ flags_length [] (all_plain c.args.declared.now) ∙ plain_length c.args.declared.now

pub returns : goal.returns
returns c =
    let ds = all_plain c.args.declared.now in
    let flags = c.as_slice.ensures.value ∙ c.in_ok-repeats.ensures.flags in
    c.in_ok-objects.ensures
    ∙ (λ i. objects_of (picked (flags i) ds) (picked (flags i) ds))
    ∙ (λ i. objects_of (picked_behind [] ds i) (picked_behind [] ds i))
