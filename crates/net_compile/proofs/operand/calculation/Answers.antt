use Rattle.net_compile.proofs.Calculations.{reads, counts, by_operation, constant_mirrors, word_mirrors, unary_mirrors, binary_mirrors, extend_mirrors, cut_mirrors, select_mirrors, insert_mirrors, concat_mirrors, choose_mirrors}
use Rattle.std.proofs.Common.{ap, ◌∙◌}
use Rattle.net_compile.specs.Lowered.{least_of}
use Rattle.net_compile.proofs.operand.calculation.Goals as goal

pub returns-in-Constant : goal.returns-in-Constant
returns-in-Constant c =
    by_operation _ _ c.args.node _ _ c.in-Constant.is c.requires
    (λ k h front d nodes. constant_mirrors c.args.flat.now front d k c.args.node.width _ h)

pub returns-in_ok-number-in-Word : goal.returns-in_ok-number-in-Word
returns-in_ok-number-in-Word c =
    by_operation _ _ c.args.node _ _ c.in-Word.is c.requires
    (λ k h front d nodes. word_mirrors c.args.flat.now front d k c.args.node.width c.in-Word.memory c.least_index.result c.in-Word.index _
    (c.least_index.ensures ∙ ap (λ ms. least_of ms c.in-Word.memory) c.memories.ensures.memories) h
    (counts c.args.flat.now front d c.args.slots.now c.in-Word.index _ nodes c.in_ok-number-in-Word.ensures))

pub returns-in_ok-operand-in-Unary : goal.returns-in_ok-operand-in-Unary
returns-in_ok-operand-in-Unary c =
    by_operation _ _ c.args.node _ _ c.in-Unary.is c.requires
    (λ k h front d nodes. unary_mirrors c.args.flat.now front d k c.args.node.width c.in-Unary.operator c.in-Unary.of _ h
    (reads c.args.flat.now front d c.args.slots.now c.in-Unary.of _ nodes c.in_ok-operand-in-Unary.ensures))

pub returns-in_ok-operand-in-Binary-2 : goal.returns-in_ok-operand-in-Binary-2
returns-in_ok-operand-in-Binary-2 c =
    by_operation _ _ c.args.node _ _ c.in-Binary.is c.requires
    (λ k h front d nodes. binary_mirrors c.args.flat.now front d k c.args.node.width c.in-Binary.operator c.in-Binary.signed c.in-Binary.left c.in-Binary.right _ _ h
    (reads c.args.flat.now front d c.args.slots.now c.in-Binary.left _ nodes c.in_ok-operand-in-Binary.ensures)
    (reads c.args.flat.now front d c.args.slots.now c.in-Binary.right _ nodes c.in_ok-operand-in-Binary-2.ensures))

pub returns-in_ok-operand-in-Extend : goal.returns-in_ok-operand-in-Extend
returns-in_ok-operand-in-Extend c =
    by_operation _ _ c.args.node _ _ c.in-Extend.is c.requires
    (λ k h front d nodes. extend_mirrors c.args.flat.now front d k c.args.node.width c.in-Extend.signed c.in-Extend.of _ h
    (reads c.args.flat.now front d c.args.slots.now c.in-Extend.of _ nodes c.in_ok-operand-in-Extend.ensures))

pub returns-in_ok-operand-in-Cut : goal.returns-in_ok-operand-in-Cut
returns-in_ok-operand-in-Cut c =
    by_operation _ _ c.args.node _ _ c.in-Cut.is c.requires
    (λ k h front d nodes. cut_mirrors c.args.flat.now front d k c.args.node.width c.in-Cut.of _ h
    (reads c.args.flat.now front d c.args.slots.now c.in-Cut.of _ nodes c.in_ok-operand-in-Cut.ensures))

pub returns-in_ok-number-in-Select : goal.returns-in_ok-number-in-Select
returns-in_ok-number-in-Select c =
    by_operation _ _ c.args.node _ _ c.in-Select.is c.requires
    (λ k h front d nodes. select_mirrors c.args.flat.now front d c.args.node.width c.in-Select.of c.in-Select.place _ _
    (reads c.args.flat.now front d c.args.slots.now c.in-Select.of _ nodes c.in_ok-operand-in-Select.ensures)
    (counts c.args.flat.now front d c.args.slots.now c.in-Select.place _ nodes c.in_ok-number-in-Select.ensures))

pub returns-in_ok-operand-in-Insert-2 : goal.returns-in_ok-operand-in-Insert-2
returns-in_ok-operand-in-Insert-2 c =
    by_operation _ _ c.args.node _ _ c.in-Insert.is c.requires
    (λ k h front d nodes. insert_mirrors c.args.flat.now front d k c.args.node.width c.in-Insert.of c.in-Insert.place c.in-Insert.part _ _ _ h
    (reads c.args.flat.now front d c.args.slots.now c.in-Insert.of _ nodes c.in_ok-operand-in-Insert.ensures)
    (counts c.args.flat.now front d c.args.slots.now c.in-Insert.place _ nodes c.in_ok-number-in-Insert.ensures)
    (reads c.args.flat.now front d c.args.slots.now c.in-Insert.part _ nodes c.in_ok-operand-in-Insert-2.ensures))

pub returns-in_ok-operand-in-Concat-2 : goal.returns-in_ok-operand-in-Concat-2
returns-in_ok-operand-in-Concat-2 c =
    by_operation _ _ c.args.node _ _ c.in-Concat.is c.requires
    (λ k h front d nodes. concat_mirrors c.args.flat.now front d k c.args.node.width c.in-Concat.left c.in-Concat.right _ _ h
    (reads c.args.flat.now front d c.args.slots.now c.in-Concat.left _ nodes c.in_ok-operand-in-Concat.ensures)
    (reads c.args.flat.now front d c.args.slots.now c.in-Concat.right _ nodes c.in_ok-operand-in-Concat-2.ensures))

pub returns-in_ok-operand-in-Choose-3 : goal.returns-in_ok-operand-in-Choose-3
returns-in_ok-operand-in-Choose-3 c =
    by_operation _ _ c.args.node _ _ c.in-Choose.is c.requires
    (λ k h front d nodes. choose_mirrors c.args.flat.now front d k c.args.node.width c.in-Choose.condition c.in-Choose.yes c.in-Choose.no _ _ _ h
    (reads c.args.flat.now front d c.args.slots.now c.in-Choose.condition _ nodes c.in_ok-operand-in-Choose.ensures)
    (reads c.args.flat.now front d c.args.slots.now c.in-Choose.yes _ nodes c.in_ok-operand-in-Choose-2.ensures)
    (reads c.args.flat.now front d c.args.slots.now c.in-Choose.no _ nodes c.in_ok-operand-in-Choose-3.ensures))
