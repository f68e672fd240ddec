use Rattle.std.proofs.Common.{◌∙◌, ap, sym, refl, map, Some, None, ◌∷◌}
use Rattle.vl_width.specs.Objects.{plain_shape}
use Rattle.vl_sized.specs.declared.picks.Pick.TheVariants as pick
use Rattle.vl_sized.specs.Plain.{plain_pick}
use Rattle.vl_sized.specs.Sensed.{named_word}
use Rattle.vl_sized.proofs.Copies.{by_first}
use Rattle.vl_sized.proofs.select.word.Goals as goal

pub returns-then-is_empty : goal.returns-then-is_empty
returns-then-is_empty c = λ ns.
    c.nothing.ensures ns
    ∙ ap (λ ks. named_word (ns.memories c.args.number) (plain_shape c.args.shape) c.args.first c.args.last (map (plain_pick ns) ks))
    (sym (c.is_empty.ensures.0 c.if-is_empty.true))

pub returns-in-Bit-None : goal.returns-in-Bit-None
returns-in-Bit-None c = λ ns.
    c.nothing-in-Bit-None.ensures ns
    ∙ by_first ns (ns.memories c.args.number) (plain_shape c.args.shape) c.args.first c.args.last c.args.list (pick.Bit None)
    (c.remove.ensures.item ∙ ap Some (c.in-Bit-None.is ∙ ap pick.Bit c.in-Bit-None.field-0-is)) (λ r. refl)

pub returns-in-Span : goal.returns-in-Span
returns-in-Span c = λ ns.
    c.nothing-in-Span.ensures ns
    ∙ by_first ns (ns.memories c.args.number) (plain_shape c.args.shape) c.args.first c.args.last c.args.list c.remove.result
    c.remove.ensures.item (λ r. ap (λ k. named_word (ns.memories c.args.number) (plain_shape c.args.shape) c.args.first c.args.last (plain_pick ns k ∷ r)) c.in-Span.is)

pub returns-in-Upward : goal.returns-in-Upward
returns-in-Upward c = λ ns.
    c.nothing-in-Upward.ensures ns
    ∙ by_first ns (ns.memories c.args.number) (plain_shape c.args.shape) c.args.first c.args.last c.args.list c.remove.result
    c.remove.ensures.item (λ r. ap (λ k. named_word (ns.memories c.args.number) (plain_shape c.args.shape) c.args.first c.args.last (plain_pick ns k ∷ r)) c.in-Upward.is)

pub returns-in-Downward : goal.returns-in-Downward
returns-in-Downward c = λ ns.
    c.nothing-in-Downward.ensures ns
    ∙ by_first ns (ns.memories c.args.number) (plain_shape c.args.shape) c.args.first c.args.last c.args.list c.remove.result
    c.remove.ensures.item (λ r. ap (λ k. named_word (ns.memories c.args.number) (plain_shape c.args.shape) c.args.first c.args.last (plain_pick ns k ∷ r)) c.in-Downward.is)
