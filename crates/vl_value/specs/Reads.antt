-- What an expression reads, bit by bit. This project's own: it decides loops between driven parts, and what a partition
-- copies.
use Rattle.std.specs.Prelude.{ℕ, zero, suc, Bool, true, ◌&&◌, List, [], ◌∷◌, ◌++◌, map, filter, ℤ, pos, ◌+ℤ◌, int_lt, int_le, Option, Some}
use Rattle.vl_tree.specs.Syntax.{Expr, number, read, call, system, group, concat, repeat, unary, chain, choose}
use Rattle.vl_tree.specs.Syntax.{Exprs, no_expr, more_expr, Links, no_link, more_link, Choices, no_choice, more_choice}
use Rattle.vl_tree.specs.Syntax.{Selects, no_select, more_select, Select, index, part, upward, downward}
use Rattle.vl_value.specs.Paths.{Path}
use Rattle.vl_value.specs.Things.{Shape, width_of, place_of, Thing, signal, memory, routine}
use Rattle.vl_value.specs.Meaning.{at_rest, Picked, picked}
use Rattle.vl_value.specs.Constant.{Sight, is_fixed}

-- the bit of a net or a variable at a place, or a memory
pub data Reading : Type 0 where
  bit : Path → ℕ → Reading
  words : Path → Reading

-- the numbers below n
abbrev pub up_to : ℕ → List ℕ
up_to zero = []
up_to (suc n) = up_to n ++ n ∷ []

abbrev pub is_within : ℤ → ℕ → ℕ → Bool
is_within low count k = int_le low (pos k) && int_lt (pos k) (low +ℤ pos count)

-- the places that selects cover in a vector: all where there is no select, or where one isn't fixed
abbrev pub places : Shape → Bool → List Picked → List ℕ
places sh true (k ∷ more) = filter (is_within (place_of sh k.from k.count) k.count) (up_to (width_of sh))
places sh _ _ = up_to (width_of sh)

-- a constant and what isn't in sight read nothing; a memory's word reads its memory
abbrev pub named_reads : Option Thing → Bool → List Picked → List Reading
named_reads (Some (signal p sh)) f ks = map (bit p) (places sh f ks)
named_reads (Some (memory p sh first last)) f ks = words p ∷ []
named_reads (Some (routine true p sh shs)) f ks = map (bit p) (places sh f ks)
named_reads _ f ks = []

abbrev mutual
  pub reads : Sight → Expr → List Reading
  reads s (number p l) = []
  reads s (read x ks) = named_reads (s x.text) (is_fixed s ks) (picked (at_rest s) ks) ++ select_reads s ks
  reads s (call f es) = all_reads s es
  reads s (system p f e) = reads s e
  reads s (group p e) = reads s e
  reads s (concat p es) = all_reads s es
  reads s (repeat p n es) = all_reads s es
  reads s (unary p f e) = reads s e
  reads s (chain e ls) = reads s e ++ link_reads s ls
  reads s (choose hs e) = choice_reads s hs ++ reads s e

  pub all_reads : Sight → Exprs → List Reading
  all_reads s no_expr = []
  all_reads s (more_expr e es) = reads s e ++ all_reads s es

  pub link_reads : Sight → Links → List Reading
  link_reads s no_link = []
  link_reads s (more_link f p e ls) = reads s e ++ link_reads s ls

  pub choice_reads : Sight → Choices → List Reading
  choice_reads s no_choice = []
  choice_reads s (more_choice e p a hs) = reads s e ++ (reads s a ++ choice_reads s hs)

  -- what the indices read; constant bounds and widths read nothing
  pub select_reads : Sight → Selects → List Reading
  select_reads s no_select = []
  select_reads s (more_select p k ks) = index_reads s k ++ select_reads s ks

  pub index_reads : Sight → Select → List Reading
  index_reads s (index e) = reads s e
  index_reads s (part a b) = []
  index_reads s (upward b w) = reads s b
  index_reads s (downward b w) = reads s b
