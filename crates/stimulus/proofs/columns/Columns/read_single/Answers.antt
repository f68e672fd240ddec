use Rattle.std.proofs.Common.{◌∙◌, ◌-◌, ◌*◌, List, ℕ, length, map, get_or, refl, sym, ap, arith}
use Rattle.std.proofs.lemmas.List.{with_items_is}
use Rattle.stimulus.specs.Calls.Single.{digit_limit, row_of_values}
use Rattle.stimulus.specs.Reader.{Layout}
use Rattle.stimulus.proofs.SingleLaws.{reads_single}
use Rattle.stimulus.proofs.columns.Columns.read_single.Goals as goal

pub returns-clause-reads : goal.returns-clause-reads
returns-clause-reads c =
    let i = c.self.inside in
    let read = c.if-not-read_single.ensures in
    let values = c.read_single.new.values in
    let here = with_items_is i.values values (omega arith) in
    let there = with_items_is i.row c.gather.new.row (omega arith) in
    let place = λ (ns ps : List ℕ). map (λ p. get_or ns p 0) ps in
    reads_single c.args.self.now _ c.args.bytes.now values c.deref.result.now (2 * c.len.result - 1)
    (omega (arith, c.len.ensures, i.limits.ok.0, ap length c.deref.ensures.value))
    (c.deref.ensures.value ∙ c.self.invariant.limits ∙ ap (λ (l : Layout). map digit_limit l.widths) c.self.view_is)
    (read.some refl) (read.reads refl)
    ((λ j. row_of_values i.in_order (sym c.deref-2.ensures.value j) (there j)) ∙ c.gather.ensures.row
    ∙ (λ j. place (c.deref-2.ensures.value j) (c.deref-3.ensures.value j))
    ∙ (λ j. place (here j) (ap (λ (l : Layout). l.places) c.self.view_is j)))
