use Rattle.std.proofs.Common.{◌≡◌, ℕ, true, get_or, is_some, refl, sym, ap, subst, ◌∙◌}
use Rattle.std.specs.Prelude.{Option, Some, None}
use Rattle.std.specs.List.{list_any}
use Rattle.std.proofs.lemmas.List.Quantifiers.{position-Some}
use Rattle.vl_paths.specs.declared.key.Key.TheVariants.{Top, Below}
use Rattle.vl_paths.specs.declared.key.LastStep.TheVariants as l
use Rattle.vl_paths.specs.Numbers.{number_of, IsInside}
use Rattle.vl_paths.proofs.Deciding.{same_key}
use Rattle.vl_paths.proofs.Pushed.{inside_there, inside_none}
use Rattle.vl_paths.proofs.numbers.PathNumbers.inside.Goals as goal

pub returns : goal.returns
returns c = by_result c.get_index_of.result refl
  where
    -- the key that is looked up
    is : Below c.number.result (l.Named c.in_ok-copied.field-0) ≡ Below (number_of c.args.self.now c.args.scope) (l.Named c.args.function.now)
    is = λ i. Below (c.number.ensures i) (l.Named (c.in_ok-copied.ensures i))

    by_result : (o : Option ℕ) → c.get_index_of.result ≡ o → IsInside c.args.self.now c.args.scope c.args.function.now c.get_index_of.result
    by_result None e = subst (IsInside c.args.self.now c.args.scope c.args.function.now) (sym e)
        (inside_none c.args.self.now c.args.scope c.args.function.now
        (ap (λ k. list_any (same_key k) c.args.self.now.keys.keys) (sym is) ∙ sym c.get_index_of.ensures.found ∙ ap is_some e))
    by_result (Some i) e =
        let h = position-Some (same_key (Below c.number.result (l.Named c.in_ok-copied.field-0))) c.args.self.now.keys.keys i Top
        (sym c.get_index_of.ensures.index ∙ e) in
        subst (IsInside c.args.self.now c.args.scope c.args.function.now) (sym e)
        (inside_there c.args.self.now c.args.scope c.args.function.now i h.0 (subst (λ k. same_key k (get_or c.args.self.now.keys.keys i Top) ≡ true) is h.1))
