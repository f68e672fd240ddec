use Rattle.std.proofs.Common.{[], ◌∷◌, length, sym, ap, subst}
use Rattle.vl_paths.specs.Keys.{AreKeysOf}
use Rattle.vl_paths.proofs.Table.{top_alone}
use Rattle.vl_paths.proofs.numbers.PathNumbers.of_none.Goals as goal

pub returns : goal.returns
returns c = record {
  paths = [] ∷ [];
  table = subst (λ ks. AreKeysOf ks ([] ∷ [])) (sym c.in_ok-top_alone.ensures) top_alone;
  count = ap length c.new.ensures.items;
  each = λ k s at. absurd cc;
}
