-- What an item begins with, and what it can't begin with.
use Rattle.std.proofs.Common.{◌≡◌, List, [], ◌∷◌, length, refl, sym, ◌∙◌, ap, subst, ℕ}
use Rattle.std.specs.Prelude.{Bool, true, false, Some, None}
use Rattle.vl_tree.specs.declared.token.Key.TheVariants as w
use Rattle.vl_tree.specs.declared.token.Mark.TheVariants as m
use Rattle.vl_tree.specs.Token.{Kind}
use Rattle.vl_tree.specs.Token as k
use Rattle.vl_tree.specs.Syntax.{Place, Direction, input, output, empty}
use Rattle.vl_tree.specs.Syntax.{Item, parameter, directed, nets, registers, integer, genvar, continuous, always}
use Rattle.vl_tree.specs.Syntax.{initial, function, instances, region, generate_loop, generate_if}
use Rattle.vl_tree.specs.Placed.{Placed, at, kind_of}
use Rattle.vl_tree.specs.Statements.{NoElse}
use Rattle.vl_tree.specs.Modules.{direction_word, parameter_word}
use Rattle.vl_tree.specs.Depth.{item_depths}
use Rattle.vl_read.specs.Reading.{Stuck, Any}
use Rattle.vl_read.proofs.Pieces.{Productive, stuck_here}
use Rattle.vl_read.proofs.TokenRules.{somewhere}
use Rattle.vl_read.proofs.Leads.{Leads, leads_as, leads_where}
use Rattle.vl_declared.specs.Readers.{declared_at}
use Rattle.vl_item.specs.declared.start.Start.{Start}
use Rattle.vl_item.specs.declared.start.Start.TheVariants as start
use Rattle.vl_item.specs.Starts.{begins, sort}
use Rattle.vl_item.specs.Readers.{plain_item_at, sorted_at}

-- ---- the first token

parameter_begins : (l : Bool) → begins (k.key (parameter_word l)) ≡ Some start.Declaration
parameter_begins false = refl
parameter_begins true = refl

direction_begins : (d : Direction) → begins (k.key (direction_word d)) ≡ Some start.Declaration
direction_begins input = refl
direction_begins output = refl

-- the first token tells the sort
head_of : (u : Item) (a : Kind) (p : Place) (us z : List Placed) → plain_item_at u (at a p ∷ us) z → begins a ≡ sort u
head_of (parameter q l s r vs) a p us z (mid, h, c) =
    let e : a ≡ k.key (parameter_word l) = cc in
    ap begins e ∙ parameter_begins l
head_of (directed d ns) a p us z (mid, (m1, h, t), c) =
    let e : a ≡ k.key (direction_word d.direction) = cc in
    ap begins e ∙ direction_begins d.direction
head_of (nets q s r ns) a p us z (mid, h, c) = let e : a ≡ k.key w.Wire = cc in ap begins e
head_of (registers q s r vs) a p us z (mid, h, c) = let e : a ≡ k.key w.Reg = cc in ap begins e
head_of (integer q vs) a p us z (mid, h, c) = let e : a ≡ k.key w.Integer = cc in ap begins e
head_of (genvar q ns) a p us z (mid, h, c) = let e : a ≡ k.key w.Genvar = cc in ap begins e
head_of (continuous q ds) a p us z (mid, h, c) = let e : a ≡ k.key w.Assign = cc in ap begins e
head_of (always q e b) a p us z (mid, h, c) = let i : a ≡ k.key w.Always = cc in ap begins i
head_of (initial q b) a p us z (mid, h, c) = let e : a ≡ k.key w.Initial = cc in ap begins e
head_of (function f) a p us z (mid, h, c) = let e : a ≡ k.key w.Function = cc in ap begins e
head_of (instances n b is) a p us z (mid, h, c) = let e : a ≡ k.name n.text = cc in ap begins e
head_of (region q is) a p us z c = absurd c
head_of (generate_loop q l b) a p us z c = absurd c
head_of (generate_if bs o) a p us z c = absurd c

item_end : (u : Item) (z : List Placed) → plain_item_at u [] z → ⊥
item_end (parameter q l s r vs) z (mid, h, c) = absurd cc
item_end (directed d ns) z (mid, (m1, h, t), c) = absurd cc
item_end (nets q s r ns) z (mid, h, c) = absurd cc
item_end (registers q s r vs) z (mid, h, c) = absurd cc
item_end (integer q vs) z (mid, h, c) = absurd cc
item_end (genvar q ns) z (mid, h, c) = absurd cc
item_end (continuous q ds) z (mid, h, c) = absurd cc
item_end (always q e b) z (mid, h, c) = absurd cc
item_end (initial q b) z (mid, h, c) = absurd cc
item_end (function f) z (mid, h, c) = absurd cc
item_end (instances n b is) z (mid, h, c) = absurd cc
item_end (region q is) z c = absurd c
item_end (generate_loop q l b) z c = absurd c
item_end (generate_if bs o) z c = absurd c

-- items of no sort are not plain
not_plain : (u : Item) (us z : List Placed) → sort u ≡ None → plain_item_at u us z → ⊥
not_plain (region q is) us z e c = absurd c
not_plain (generate_loop q l b) us z e c = absurd c
not_plain (generate_if bs o) us z e c = absurd c
not_plain u us z e c = absurd cc

-- ---- where no item begins

pub some_item : Productive plain_item_at NoElse
some_item z f =
    let body : List Placed = at (k.mark m.Semicolon) somewhere ∷ z in
    (initial somewhere (empty somewhere), at (k.key w.Initial) somewhere ∷ body, (body, refl, refl))

module _ (d : ℕ) where
  pub plain_end : (ts : List Placed) → ts ≡ [] → Stuck plain_item_at (item_depths d) NoElse Any ts (length ts)
  plain_end ts h =
      stuck_here plain_item_at (item_depths d) NoElse Any ts some_item (λ a rest e t y z c g. absurd cc) (λ t z c g. item_end t z c)

  pub plain_stuck : (a : Kind) (p : Place) (ts rest : List Placed) → ts ≡ at a p ∷ rest → begins a ≡ None
      → Stuck plain_item_at (item_depths d) NoElse Any ts (length ts)
  plain_stuck a p ts rest h n =
      stuck_here plain_item_at (item_depths d) NoElse Any ts some_item
      (λ b more e t y z c g.
      let i : at a p ≡ b = cc in
      let j : plain_item_at t (at a p ∷ y) z = subst (λ v. plain_item_at t (v ∷ y) z) (sym i) c in
      not_plain t (at a p ∷ y) z (sym (head_of t a p y z j) ∙ n) j)
      (λ t z c g. item_end t z c)

-- ---- where an item of a sort begins

-- no token comes next but one with which an item of this sort begins
abbrev Opens : Start → List Placed → Type 0
Opens s [] = Unit {0}
Opens s (a ∷ rest) = begins (kind_of a) ≡ Some s

opens_next : (s : Start) (a : Kind) (p : Place) (ts us : List Placed) → ts ≡ at a p ∷ us → begins a ≡ Some s
    → (b : Placed) (more : List Placed) → ts ≡ b ∷ more → (y : List Placed) → Opens s (b ∷ y)
opens_next s a p ts us h i b more e y = let q : at a p ≡ b = cc in subst (λ v. begins (kind_of v) ≡ Some s) q i

sort_is : (s : Start) (u : Item) (us z : List Placed) → Opens s us → plain_item_at u us z → Any z
    → (x : Item) × sorted_at s x us z × (u ≡ x)
sort_is s u [] z n c g = absurd (item_end u z c)
sort_is s u (at a p ∷ us) z n c g = (u, (sym (head_of u a p us z c) ∙ n, c), refl)

pub sort_part : (d : ℕ) (s : Start) (a : Kind) (p : Place) (ts us : List Placed) → ts ≡ at a p ∷ us → begins a ≡ Some s
    → Leads (sorted_at s) (item_depths d) NoElse Any ts plain_item_at (item_depths d) NoElse Any ts (λ x. x)
sort_part d s a p ts us h i =
    leads_where (Opens s) ts tt (opens_next s a p ts us h i) (sorted_at s) (item_depths d) plain_item_at (item_depths d) NoElse Any (λ x. x)
    (λ x. refl) (λ x us z c. c.1) (sort_is s)

-- ---- declarations

declared_into : (x : Item) (us z : List Placed) → declared_at x us z → sorted_at start.Declaration x us z
declared_into (always q e b) us z c = absurd c
declared_into (initial q b) us z c = absurd c
declared_into (function f) us z c = absurd c
declared_into (instances n b is) us z c = absurd c
declared_into (region q is) us z c = absurd c
declared_into (generate_loop q l b) us z c = absurd c
declared_into (generate_if bs o) us z c = absurd c
declared_into x us z c = (refl, c)

declared_out : (u : Item) (us z : List Placed) → sorted_at start.Declaration u us z → Any z → (x : Item) × declared_at x us z × (u ≡ x)
declared_out (always q e b) us z (i, c) g = absurd cc
declared_out (initial q b) us z (i, c) g = absurd cc
declared_out (function f) us z (i, c) g = absurd cc
declared_out (instances n b is) us z (i, c) g = absurd cc
declared_out (region q is) us z (i, c) g = absurd cc
declared_out (generate_loop q l b) us z (i, c) g = absurd cc
declared_out (generate_if bs o) us z (i, c) g = absurd cc
declared_out u us z (i, c) g = (u, c, refl)

pub declared_part : (d : ℕ) (ts : List Placed)
    → Leads declared_at (item_depths d) NoElse Any ts (sorted_at start.Declaration) (item_depths d) NoElse Any ts (λ x. x)
declared_part d ts =
    leads_as declared_at (item_depths d) (sorted_at start.Declaration) (item_depths d) NoElse Any (λ x. x) (λ x. refl)
    declared_into declared_out ts
