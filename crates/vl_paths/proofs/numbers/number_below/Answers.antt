use Rattle.std.proofs.Common.{[], ◌∷◌, sym, subst}
use Rattle.std.specs.Prelude.{IfOk}
use Rattle.vl_scopes.specs.Plain.{plain_step}
use Rattle.vl_value.specs.Paths.{Step}
use Rattle.vl_paths.specs.Keys.{plain_last, GoesOn}
use Rattle.vl_paths.proofs.Table.{inserted}
use Rattle.vl_paths.proofs.numbers.number_below.Goals as goal
use Rattle.vl_paths.proofs.numbers.number_below.Goals.{in-Ok, in-Err}

pub returns : goal.returns
returns c =
    let old = c.args.keys.now.keys in let new = c.insert_full.new.self.keys in let b = c.args.before in
    elim c.match-insert_full.branch [
      | in-Ok w ↦
          let r = w.in-Ok.number in let k = w.in-Ok.ensures.stored in
          let goes : GoesOn b (plain_last c.in_ok-last.last ∷ []) r old new =
          (λ ps t within. inserted old new ps b c.in_ok-last.last r k.0 t within w.in-Ok.ensures.keys w.in-Ok.ensures.within k.1 k.2) in
          subst (λ x. IfOk x (λ r. GoesOn b (plain_step c.args.step ∷ []) r old new)) (sym w.result-is)
          (subst (λ (s : Step). GoesOn b (s ∷ []) r old new) c.in_ok-last.ensures goes)
      | in-Err w ↦ subst (λ x. IfOk x (λ r. GoesOn b (plain_step c.args.step ∷ []) r old new)) (sym w.result-is) tt
    ]
