-- Worked examples: the first of two parts by rank, then by number; ranks one read further; the part that is read first.
use Rattle.std.proofs.Common.{◌≡◌, refl, ℕ, List, [], ◌∷◌}
use Rattle.std.specs.Prelude.{Option, Some, None}
use Rattle.comb_order.specs.First.{first_of, first_among}
use Rattle.comb_order.specs.Distance.{one_read_more}
use Rattle.comb_order.specs.Round.{next_of}
use Rattle.comb_order.specs.declared.distance.TheConstants.{NEVER}

-- parts 0, 1 and 2 have the ranks 5, 3 and 3
abbrev ranks : List ℕ
ranks = 5 ∷ 3 ∷ 3 ∷ []

lower_rank : first_of ranks (Some 0) (Some 2) ≡ Some 2
lower_rank = refl

lower_number : first_of ranks (Some 2) (Some 1) ≡ Some 1
lower_number = refl

one_alone : first_of ranks None (Some 0) ≡ Some 0
one_alone = refl

-- of nodes 0, 1 and 2, which read part 0, no part and part 2 first
abbrev firsts : List (Option ℕ)
firsts = Some 0 ∷ None ∷ Some 2 ∷ []

of_two_nodes : first_among ranks firsts None (0 ∷ 2 ∷ []) ≡ Some 2
of_two_nodes = refl

of_no_part : first_among ranks firsts None (1 ∷ []) ≡ None
of_no_part = refl

one_further : one_read_more ranks (Some 1) ≡ 4
one_further = refl

never_further : one_read_more (NEVER ∷ []) (Some 0) ≡ NEVER
never_further = refl

from_nowhere : one_read_more ranks None ≡ NEVER
from_nowhere = refl

goes_on : next_of firsts 2 ≡ 2
goes_on = refl

stays : next_of firsts 1 ≡ 1
stays = refl
