use Rattle.std.proofs.Common.{[], length, ap, subst, ◌∙◌}
use Rattle.std.specs.Prelude.{OnOk}
use Rattle.vl_declares.specs.Plain.{all_plain}
use Rattle.vl_repeats.specs.Flags.{picked}
use Rattle.vl_repeats.proofs.Repeating.{picked_behind}
use Rattle.vl_objects.proofs.Finding.{flags_length, plain_length}
use Rattle.vl_memories.specs.Numbered.{AddsCallables}
use Rattle.vl_memories.proofs.callables.push_all.Goals as goal

pub push_counted-requires : goal.push_counted-requires
push_counted-requires c =
    ap length (c.as_slice.ensures.value ∙ c.in_ok-repeats.ensures.flags)
    ∙ flags_length [] (all_plain c.args.declared.now) ∙ plain_length c.args.declared.now

pub returns : goal.returns
returns c =
    let ds = all_plain c.args.declared.now in
    let flags = c.as_slice.ensures.value ∙ c.in_ok-repeats.ensures.flags in
    subst (λ xs. OnOk c.push_counted.result (AddsCallables c.args.scope xs c.args.callables.now.items c.push_counted.new.callables.items))
    (ap (λ bs. picked bs ds) flags ∙ picked_behind [] ds) c.push_counted.ensures
