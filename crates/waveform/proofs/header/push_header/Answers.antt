use Rattle.std.proofs.Common.{◌∙◌, ap, codes, ◌++◌, List, ℕ, refl}
use Rattle.design_names.specs.declared.outline.Entry.{Entry}
use Rattle.waveform.specs.Heading.{entries_text}
use Rattle.waveform.proofs.Pushes.{on_ok, three_pushed}
use Rattle.waveform.proofs.HeadingLaws.{outline_text}
use Rattle.waveform.proofs.header.push_header.Goals as goal

pub returns : goal.returns
returns c =
    let same = ap (entries_text c.args.flat.now 0) c.requires.outline ∙ outline_text c.args.flat.now in
    on_ok c.push-2.result (λ e. three_pushed _ _ _ _ _ _ _ _ c.in_ok-push.ensures
    (c.in_ok-push_entries.ensures ∙ ap (λ (xs : List ℕ). c.push.new.text.items ++ xs) same) e refl) c.push-2.ensures
