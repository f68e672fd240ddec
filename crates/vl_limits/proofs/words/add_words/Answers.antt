use Rattle.std.proofs.Common.{[], length, ap, subst, ◌∙◌}
use Rattle.vl_design.specs.Lists.{each_of}
use Rattle.vl_design.specs.ObjectFaults.{memory_words}
use Rattle.vl_declares.specs.Plain.{all_plain}
use Rattle.vl_repeats.specs.Flags.{picked}
use Rattle.vl_repeats.proofs.Repeating.{picked_behind}
use Rattle.vl_limits.specs.Counting.{Adds}
use Rattle.vl_limits.proofs.Counted.{flags_length, plain_length}
use Rattle.vl_limits.proofs.words.add_words.Goals as goal

pub add_counted-requires : goal.add_counted-requires
add_counted-requires c =
    ap length (c.as_slice.ensures.value ∙ c.in_ok-repeats.ensures.flags)
    ∙ flags_length [] (all_plain c.args.declared.now) ∙ plain_length c.args.declared.now

pub returns : goal.returns
returns c =
    let ds = all_plain c.args.declared.now in
    let flags = c.as_slice.ensures.value ∙ c.in_ok-repeats.ensures.flags in
    subst (λ xs. Adds xs c.args.limit.now c.add_counted.new.limit)
    (ap (λ bs. each_of memory_words (picked bs ds)) flags ∙ ap (each_of memory_words) (picked_behind [] ds))
    c.add_counted.ensures
