use Rattle.std.proofs.Common.{ℕ, ◌-◌, take, ap, ◌∙◌, arith}
use Rattle.std.specs.Prelude.{Option}
use Rattle.std.specs.Option.{unwrap_or}
use Rattle.circular_buffer.specs.Buffer.{buffer}
use Rattle.state_changes.proofs.JournalLaws.{Forgotten, is_within, closed, closed_cycles}
use Rattle.state_changes.proofs.journal.Journal.close.Goals as goal

pub overflow_sub-len : goal.overflow_sub-len
overflow_sub-len g c =
    let a = c.self.inside in
    let gone : Forgotten a c.unwrap_or-oldest.result = c.unwrap_or-oldest.ensures ∙ ap (λ (o : Option ℕ). unwrap_or o 0) c.push_front.ensures.value in
    omega (arith, is_within a c.self.invariant c.unwrap_or-oldest.result gone, c.len.ensures.len)

pub invariant_of-self : goal.invariant_of-self
invariant_of-self g c =
    let a = c.self.inside in
    let n = c.unwrap_or-oldest.result in
    let gone : Forgotten a n = c.unwrap_or-oldest.ensures ∙ ap (λ (o : Option ℕ). unwrap_or o 0) c.push_front.ensures.value in
    let items = c.truncate_back.ensures ∙ ap (λ (k : ℕ). buffer (take (k - n) a.items.items) a.items.capacity) c.len.ensures.len in
    closed a c.self.invariant n gone c.truncate_back.new.self c.push_front.new.self items c.push_front.ensures.items

pub returns-clause-cycles : goal.returns-clause-cycles
returns-clause-cycles g c =
    let a = c.self.inside in
    let n = c.unwrap_or-oldest.result in
    let gone : Forgotten a n = c.unwrap_or-oldest.ensures ∙ ap (λ (o : Option ℕ). unwrap_or o 0) c.push_front.ensures.value in
    let items = c.truncate_back.ensures ∙ ap (λ (k : ℕ). buffer (take (k - n) a.items.items) a.items.capacity) c.len.ensures.len in
    closed_cycles a c.self.invariant n gone c.truncate_back.new.self c.push_front.new.self items c.push_front.ensures.items c.args.self.now c.self.view_is
