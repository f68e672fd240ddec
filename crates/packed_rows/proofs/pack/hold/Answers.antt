use Rattle.std.proofs.Common.{◌+◌, ◌^◌, ◌<◌, ℕ, sym, subst, ◌∙◌}
use Rattle.packed_rows.proofs.PackLaws.{all_in_word, joined_fits}
use Rattle.packed_rows.proofs.pack.hold.Goals as goal

pub returns-clause-held : goal.returns-clause-held
returns-clause-held c =
    let h = c.args.held in
    let same = c.low_part.ensures ∙ all_in_word h.bits c.args.value h.count c.args.width c.requires.room c.requires.held.1 c.requires.fits in
    let less = joined_fits h.bits c.args.value h.count c.args.width c.requires.held.1 c.requires.fits in
    (c.requires.room, subst (λ (n : ℕ). n < 2 ^ (h.count + c.args.width)) (sym same) less)

pub returns-clause-bits : goal.returns-clause-bits
returns-clause-bits c =
    let h = c.args.held in
    c.low_part.ensures ∙ all_in_word h.bits c.args.value h.count c.args.width c.requires.room c.requires.held.1 c.requires.fits
