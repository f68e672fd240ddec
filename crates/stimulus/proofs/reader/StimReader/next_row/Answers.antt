use Rattle.std.proofs.Common.{◌++◌, ◌∷◌, [], List, ℕ, refl, sym, subst, append-nil}
use Rattle.std.proofs.KnownBytes.{Consumes-nil}
use Rattle.stimulus.specs.Reads.{Reads}
use Rattle.stimulus.proofs.reader.StimReader.next_row.Goals as goal

pub returns-then-take_single-clause-answer : goal.returns-then-take_single-clause-answer
returns-then-take_single-clause-answer g c taken given h =
    let reader = c.take_single.new.self in
    let took = c.if-take_single.ensures in (
      [],
      Consumes-nil (g.S.Source.left c.args.source.now),
      (
        subst (λ (all : List ℕ). Reads reader all (given ++ reader.layout.row ∷ [])) (sym (append-nil taken)) (took.taken refl taken given h),
        took.later refl,
        refl,
      ),
    )

pub returns-clause-answer : goal.returns-clause-answer
returns-clause-answer g c taken given h = c.take_row.ensures.answer taken given (c.if-take_single.ensures.left refl taken given h)
