-- A worked example of a run: a design of two nodes, whose register turns to 1 with a message, and then stays.
use Rattle.std.specs.Prelude.{◌≡◌, refl, [], ◌∷◌, Some, codes}
use Rattle.std.specs.Fmt.{digits}
use Rattle.flat_ir.specs.declared.design.Node.TheVariants as n
use Rattle.flat_ir.specs.declared.design.Deed.TheVariants as d
use Rattle.flat_ir.specs.FlatRun.{Flat, flat_values, flat_start, flat_next, flat_fired}

-- node 0 is the register, and node 1 says whether it is 0. Where it is, the register is written twice, a text is said, and an
-- assertion on line 7 fires
abbrev example : Flat
example = record {
  name = codes "t";
  signals = [];
  inputs = 0;
  registers = 1 ∷ [];
  nodes = n.Register 0 ∷ n.Not 0 ∷ [];
  actions = record { condition = 1; deed = d.Write 0 0 }
      ∷ record { condition = 1; deed = d.Write 0 1 }
      ∷ record { condition = 1; deed = d.Say (codes "r was %0d") (Some 0) }
      ∷ record { condition = 1; deed = d.Stop 7 }
      ∷ [];
}

starts_at_zero : flat_start example ≡ 0 ∷ []
starts_at_zero = refl

values_at_zero : flat_values example [] (0 ∷ []) ≡ 0 ∷ 1 ∷ []
values_at_zero = refl

values_at_one : flat_values example [] (1 ∷ []) ≡ 1 ∷ 0 ∷ []
values_at_one = refl

-- the last write wins
next_of_zero : flat_next example [] (0 ∷ []) ≡ 1 ∷ []
next_of_zero = refl

-- nothing is done where the condition is 0
next_of_one : flat_next example [] (1 ∷ []) ≡ 1 ∷ []
next_of_one = refl

fired_at_zero : flat_fired example [] (0 ∷ []) ≡ record { line = 7; message = codes "r was 0\n" } ∷ []
unfolding digits
fired_at_zero = refl

fired_at_one : flat_fired example [] (1 ∷ []) ≡ []
fired_at_one = refl
