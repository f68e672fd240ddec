-- The rules of items that declare names, and of continuous assignments.
use Rattle.std.proofs.Common.{◌≡◌, ℕ, List, [], ◌∷◌, length, refl, sym, ◌∙◌, ap, subst}
use Rattle.std.specs.Prelude.{Bool, true, false, Option}
use Rattle.vl_tree.specs.declared.token.Key.{Key}
use Rattle.vl_tree.specs.declared.token.Key.TheVariants as w
use Rattle.vl_tree.specs.declared.token.Mark.TheVariants as m
use Rattle.vl_tree.specs.Token.{Kind}
use Rattle.vl_tree.specs.Token as k
use Rattle.vl_tree.specs.Syntax.{Place, Name, Range, Direction, input, output, Directed}
use Rattle.vl_tree.specs.Syntax.{Valued, Net, Variable, variable, valued, memory, Driven}
use Rattle.vl_tree.specs.Syntax.{Item, parameter, directed, nets, registers, integer, genvar, continuous, always}
use Rattle.vl_tree.specs.Syntax.{initial, function, instances, region, generate_loop, generate_if}
use Rattle.vl_tree.specs.Placed.{Placed, at, kind_of}
use Rattle.vl_tree.specs.Piece.{name_at}
use Rattle.vl_tree.specs.Statements.{NoElse}
use Rattle.vl_tree.specs.Modules.{parameter_word, direction_word, valued_at, net_at, variable_at, driven_at}
use Rattle.vl_tree.specs.Depth.{name_depth, valued_depths, net_depths, variable_depths, driven_depths, item_depths}
use Rattle.vl_read.specs.declared.fault.Fault.{Fault}
use Rattle.vl_read.specs.Reading.{Stuck, Refuses, Any}
use Rattle.vl_read.specs.Commas.{IsListed, EndsCommas}
use Rattle.vl_read.proofs.Pieces.{stuck_here}
use Rattle.vl_read.proofs.Leads.{leads_on, leads_where}
use Rattle.vl_read.proofs.TokenRules.{somewhere}
use Rattle.vl_expr.specs.Ends.{EndsExpr}
use Rattle.vl_simple.proofs.PartRules.{semicolon_ends}
use Rattle.vl_declaration.specs.Readers.{NoShape, NoValue}
use Rattle.vl_declaration.specs.Laws.{some_name, name_laws, net_laws, variable_laws, valued_laws, driven_laws}
use Rattle.vl_declaration.proofs.Parts.{Part, Joins, both, Turns, Takes, Fails, first, next, lesser}
use Rattle.vl_declaration.proofs.Parts.{passed, found, listed, agree, free, ends_at}
use Rattle.vl_header.specs.Readers.{NoDirected}
use Rattle.vl_header.proofs.HeaderRules.{shaped, direction_part}
use Rattle.vl_declared.specs.Readers.{declared_at, Begins, BeginsDirected, NoWord}

-- ---- what comes first

-- no token comes next but one of this kind
abbrev pub Heads : Kind → List Placed → Type 0
Heads b [] = Unit {0}
Heads b (a ∷ rest) = kind_of a ≡ b

heads_next : (b : Kind) (ts : List Placed) → Begins b ts → (a : Placed) (after : List Placed) → ts ≡ a ∷ after → (y : List Placed)
    → Heads b (a ∷ y)
heads_next b ts (p, rest, h) a after e y = let q : at b p ≡ a = (let l = sym h ∙ e in cc) in sym (ap kind_of q)

-- what an item declares, by its first word
pub data Sort : Type 0 where
  of_parameters : Sort
  of_ports : Sort
  of_nets : Sort
  of_registers : Sort
  of_integers : Sort
  of_genvars : Sort
  of_drives : Sort
  of_none : Sort

abbrev pub word_sort : Key → Sort
word_sort w.Parameter = of_parameters
word_sort w.Localparam = of_parameters
word_sort w.Input = of_ports
word_sort w.Output = of_ports
word_sort w.Wire = of_nets
word_sort w.Reg = of_registers
word_sort w.Integer = of_integers
word_sort w.Genvar = of_genvars
word_sort w.Assign = of_drives
word_sort b = of_none

abbrev pub item_sort : Item → Sort
item_sort (parameter p l s r vs) = of_parameters
item_sort (directed d ns) = of_ports
item_sort (nets p s r ns) = of_nets
item_sort (registers p s r vs) = of_registers
item_sort (integer p vs) = of_integers
item_sort (genvar p ns) = of_genvars
item_sort (continuous p ds) = of_drives
item_sort (always p e b) = of_none
item_sort (initial p b) = of_none
item_sort (function f) = of_none
item_sort (instances n b is) = of_none
item_sort (region p is) = of_none
item_sort (generate_loop p l b) = of_none
item_sort (generate_if bs o) = of_none

parameter_sort : (l : Bool) → word_sort (parameter_word l) ≡ of_parameters
parameter_sort false = refl
parameter_sort true = refl

direction_sort : (v : Direction) → word_sort (direction_word v) ≡ of_ports
direction_sort input = refl
direction_sort output = refl

-- a word that is none of them
pub other_word : (b : Key) → (b ≡ w.Assign → ⊥) → (b ≡ w.Genvar → ⊥) → (b ≡ w.Input → ⊥) → (b ≡ w.Integer → ⊥) → (b ≡ w.Localparam → ⊥)
    → (b ≡ w.Output → ⊥) → (b ≡ w.Parameter → ⊥) → (b ≡ w.Reg → ⊥) → (b ≡ w.Wire → ⊥) → word_sort b ≡ of_none
other_word w.Assign n1 n2 n3 n4 n5 n6 n7 n8 n9 = absurd (n1 refl)
other_word w.Genvar n1 n2 n3 n4 n5 n6 n7 n8 n9 = absurd (n2 refl)
other_word w.Input n1 n2 n3 n4 n5 n6 n7 n8 n9 = absurd (n3 refl)
other_word w.Integer n1 n2 n3 n4 n5 n6 n7 n8 n9 = absurd (n4 refl)
other_word w.Localparam n1 n2 n3 n4 n5 n6 n7 n8 n9 = absurd (n5 refl)
other_word w.Output n1 n2 n3 n4 n5 n6 n7 n8 n9 = absurd (n6 refl)
other_word w.Parameter n1 n2 n3 n4 n5 n6 n7 n8 n9 = absurd (n7 refl)
other_word w.Reg n1 n2 n3 n4 n5 n6 n7 n8 n9 = absurd (n8 refl)
other_word w.Wire n1 n2 n3 n4 n5 n6 n7 n8 n9 = absurd (n9 refl)
other_word b n1 n2 n3 n4 n5 n6 n7 n8 n9 = refl

same_parameter : (a b : Bool) → parameter_word a ≡ parameter_word b → a ≡ b
same_parameter false false h = refl
same_parameter false true h = absurd cc
same_parameter true false h = absurd cc
same_parameter true true h = refl

same_word : (a b : Key) (p : Place) (us mid : List Placed) → us ≡ at (k.key a) p ∷ mid → Heads (k.key b) us → a ≡ b
same_word a b p us mid h f = let i : k.key a ≡ k.key b = subst (Heads (k.key b)) h f in cc

-- an item is of the sort of its first word
sort_is : (u : Item) (b : Key) (us z : List Placed) → Heads (k.key b) us → declared_at u us z → item_sort u ≡ word_sort b
sort_is (parameter p l s r vs) b us z f (mid, h, c) = sym (parameter_sort l) ∙ ap word_sort (same_word (parameter_word l) b p us mid h f)
sort_is (directed d ns) b us z f (mid, (m1, h, c), e) =
    sym (direction_sort d.direction) ∙ ap word_sort (same_word (direction_word d.direction) b d.place us m1 h f)
sort_is (nets p s r ns) b us z f (mid, h, c) = ap word_sort (same_word w.Wire b p us mid h f)
sort_is (registers p s r vs) b us z f (mid, h, c) = ap word_sort (same_word w.Reg b p us mid h f)
sort_is (integer p vs) b us z f (mid, h, c) = ap word_sort (same_word w.Integer b p us mid h f)
sort_is (genvar p ns) b us z f (mid, h, c) = ap word_sort (same_word w.Genvar b p us mid h f)
sort_is (continuous p ds) b us z f (mid, h, c) = ap word_sort (same_word w.Assign b p us mid h f)
sort_is (always p e s) b us z f c = absurd c
sort_is (initial p s) b us z f c = absurd c
sort_is (function x) b us z f c = absurd c
sort_is (instances n x is) b us z f c = absurd c
sort_is (region p is) b us z f c = absurd c
sort_is (generate_loop p l x) b us z f c = absurd c
sort_is (generate_if bs o) b us z f c = absurd c

-- ---- lists with commas, and the `;` after them

abbrev semicolon : Place → List Placed → List Placed
semicolon p z = at (k.mark m.Semicolon) p ∷ z

-- a rule whose trees stand in a list before `;`
pub record Named (N : Type 0) : Type 1 where
  pub at : N → List Placed → List Placed → Type 0
  pub depths : ℕ → N → List ℕ
  pub may : List Placed → Type 0
  pub laws : IsListed at may
  pub ends : (p : Place) (z : List Placed) → may (semicolon p z)

module _ {N : Type 0} (r : Named N) (d : ℕ) where
  abbrev pub row : Part (List N)
  row = listed r.at r.depths r.may r.laws d

  abbrev pub last : Part (Unit {0})
  last = passed d (k.mark m.Semicolon)

  row_ends : (p : Place) (z : List Placed) → EndsCommas r.may (at (k.mark m.Semicolon) p ∷ z)
  row_ends p z = (λ h. absurd cc, r.ends p z)

  pub row_join : Joins row last
  row_join u a z c = ends_at (EndsCommas r.may) (k.mark m.Semicolon) row_ends a z c

  abbrev pub closed : Part (List N × Unit {0})
  closed = both row last row_join

-- its trees begin with a name
abbrev pub NameFirst : {N : Type 0} → Named N → Type 0
NameFirst {N} r = (x : N) (a z : List Placed) → r.at x a z → (n : Name) × (y : List Placed) × (a ≡ at (k.name n.text) n.place ∷ y)

module _ {N : Type 0} (r : Named N) (starts : NameFirst r) (d : ℕ) where
  row_name : (u : List N × Unit {0}) (a z : List Placed) → (closed r d).at u a z
      → (n : Name) × (y : List Placed) × (a ≡ at (k.name n.text) n.place ∷ y)
  row_name ([], t) a z (mid, c, q) = absurd c
  row_name (x ∷ more, t) a z (mid, (m1, c, e), q) = starts x a m1 c

  shape_name : (n : Name) (y : List Placed) → NoShape (at (k.name n.text) n.place ∷ y)
  shape_name n y = (λ h. absurd cc, λ h. absurd cc)

  pub shape_join : Joins (shaped d NoShape) (closed r d)
  shape_join u a z c =
      let s = row_name u a z c in
      agree (subst NoShape (sym s.2) (shape_name s.0 s.1)) (subst NoShape (sym s.2) (shape_name s.0 s.1))

  abbrev pub typed : Part ((Bool × Option Range) × (List N × Unit {0}))
  typed = both (shaped d NoShape) (closed r d) shape_join

  directed_name : (n : Name) (y : List Placed) → NoDirected (at (k.name n.text) n.place ∷ y)
  directed_name n y = ((λ h. absurd cc, λ h. absurd cc), (λ h. absurd cc, λ h. absurd cc))

  pub port_join : Joins (direction_part d) (closed r d)
  port_join u a z c =
      let s = row_name u a z c in
      agree (subst NoDirected (sym s.2) (directed_name s.0 s.1)) (subst NoDirected (sym s.2) (directed_name s.0 s.1))

-- the word before a part
pub word_join : {K : Type 0} (q : Part K) (d : ℕ) (b : Key) → Joins (found d (k.key b)) q
word_join q d b u a z c = free

abbrev pub worded : {K : Type 0} → Part K → ℕ → Key → Part (Place × K)
worded q d b = both (found d (k.key b)) q (word_join q d b)

-- ---- one part after another

module _ {K : Type 0} (q : Part K) (d : ℕ) (b : Key)
    {H : Type 0} {ts : List Placed} {E : H → List Placed → List Placed → Type 0} {L : H → List ℕ}
    {F G : List Placed → Type 0} {vs : List Placed} {make : Place × K → H}
    (l : Turns (both (found d (k.key b)) q (word_join q d b)) ts E L F G vs make) where
  pub word_fails : (e : Fault) → Fails (found d (k.key b)) ts e → Refuses E L F G vs e
  word_fails e c = first (found d (k.key b)) q (word_join q d b) l e c

  pub word_next : (x : Place) (m : List Placed) → Takes (found d (k.key b)) x ts m → Turns q m E L F G vs (λ u. make (x, u))
  word_next x m t = next (found d (k.key b)) q (word_join q d b) l x m t

module _ {N : Type 0} (r : Named N) (d : ℕ)
    {H : Type 0} {ts : List Placed} {E : H → List Placed → List Placed → Type 0} {L : H → List ℕ}
    {F G : List Placed → Type 0} {vs : List Placed} {make : List N × Unit {0} → H}
    (l : Turns (both (row r d) (last r d) (row_join r d)) ts E L F G vs make) where
  pub list_fails : (e : Fault) → Fails (row r d) ts e → Refuses E L F G vs e
  list_fails e c = first (row r d) (last r d) (row_join r d) l e c

  pub list_next : (x : List N) (m : List Placed) → Takes (row r d) x ts m → Turns (last r d) m E L F G vs (λ u. make (x, u))
  list_next x m t = next (row r d) (last r d) (row_join r d) l x m t

module _ {N : Type 0} (r : Named N) (starts : NameFirst r) (d : ℕ)
    {H : Type 0} {ts : List Placed} {E : H → List Placed → List Placed → Type 0} {L : H → List ℕ}
    {F G : List Placed → Type 0} {vs : List Placed} {make : (Bool × Option Range) × (List N × Unit {0}) → H}
    (l : Turns (both (shaped d NoShape) (closed r d) (shape_join r starts d)) ts E L F G vs make) where
  pub shape_fails : (e : Fault) → Fails (shaped d NoShape) ts e → Refuses E L F G vs e
  shape_fails e c = first (shaped d NoShape) (closed r d) (shape_join r starts d) l e c

  pub shape_next : (x : Bool × Option Range) (m : List Placed) → Takes (shaped d NoShape) x ts m
      → Turns (closed r d) m E L F G vs (λ u. make (x, u))
  shape_next x m t = next (shaped d NoShape) (closed r d) (shape_join r starts d) l x m t

module _ {N : Type 0} (r : Named N) (starts : NameFirst r) (d : ℕ)
    {H : Type 0} {ts : List Placed} {E : H → List Placed → List Placed → Type 0} {L : H → List ℕ}
    {F G : List Placed → Type 0} {vs : List Placed} {make : Directed × (List N × Unit {0}) → H}
    (l : Turns (both (direction_part d) (closed r d) (port_join r starts d)) ts E L F G vs make) where
  pub direction_fails : (e : Fault) → Fails (direction_part d) ts e → Refuses E L F G vs e
  direction_fails e c = first (direction_part d) (closed r d) (port_join r starts d) l e c

  pub direction_next : (x : Directed) (m : List Placed) → Takes (direction_part d) x ts m
      → Turns (closed r d) m E L F G vs (λ u. make (x, u))
  direction_next x m t = next (direction_part d) (closed r d) (port_join r starts d) l x m t

-- ---- the rules of the lists

pub semicolon_value : (p : Place) (z : List Placed) → NoValue (at (k.mark m.Semicolon) p ∷ z)
semicolon_value p z = (λ h. absurd cc, semicolon_ends p z)

abbrev pub names_rule : Named Name
names_rule = record { at = name_at; depths = name_depth; may = Any; laws = name_laws; ends = λ p z. tt }

abbrev pub valued_rule : Named Valued
valued_rule = record { at = valued_at; depths = valued_depths; may = EndsExpr; laws = valued_laws; ends = semicolon_ends }

abbrev pub nets_rule : Named Net
nets_rule = record { at = net_at; depths = net_depths; may = NoValue; laws = net_laws; ends = semicolon_value }

abbrev pub variables_rule : Named Variable
variables_rule = record { at = variable_at; depths = variable_depths; may = NoValue; laws = variable_laws; ends = semicolon_value }

abbrev pub drives_rule : Named Driven
drives_rule = record { at = driven_at; depths = driven_depths; may = EndsExpr; laws = driven_laws; ends = semicolon_ends }

pub names_first : NameFirst names_rule
names_first n a z h = (n, z, h)

pub valued_first : NameFirst valued_rule
valued_first v a z (mid, h, c) = (v.name, mid, h)

pub nets_first : NameFirst nets_rule
nets_first n a z (mid, h, c) = (n.name, mid, h)

pub variables_first : NameFirst variables_rule
variables_first (variable n) a z h = (n, z, h)
variables_first (valued n e) a z (mid, h, c) = (n, mid, h)
variables_first (memory n r) a z (mid, h, c) = (n, mid, h)

-- ---- the items

-- an item that begins with a word, from its parts
module _ (d : ℕ) (b : Key) where
  abbrev Parts : {K : Type 0} → Part K → (K → Item) → Type 0
  Parts q make = (u : Item) (us z : List Placed) → Heads (k.key b) us → declared_at u us z → Any z → (x : _) × q.at x us z × (u ≡ make x)

  item_part : {K : Type 0} (q : Part K) (make : K → Item)
      → ((z : List Placed) → NoElse z → q.may z) → ((z : List Placed) → Any z → q.seen z)
      → ((x : K) → item_depths d (make x) ≡ q.depths x) → ((x : K) (us z : List Placed) → q.at x us z → declared_at (make x) us z)
      → Parts q make → (ts : List Placed) → Begins (k.key b) ts → Turns q ts declared_at (item_depths d) NoElse Any ts make
  item_part q make may seen depths into out ts h =
      leads_on (lesser q NoElse Any may seen ts)
      (leads_where (Heads (k.key b)) ts tt (heads_next (k.key b) ts h) q.at q.depths declared_at (item_depths d)
      NoElse Any make depths into out)

module _ (d : ℕ) where
  abbrev pub nets_parts : Part (Place × ((Bool × Option Range) × (List Net × Unit {0})))
  nets_parts = worded (typed nets_rule nets_first d) d w.Wire

  abbrev pub nets_of : Place × ((Bool × Option Range) × (List Net × Unit {0})) → Item
  nets_of x = nets x.0 x.1.0.0 x.1.0.1 x.1.1.0

  nets_out : Parts d w.Wire nets_parts nets_of
  nets_out (nets p s r ns) us z f c g = ((p, ((s, r), (ns, tt))), c, refl)
  nets_out u us z f c g = let i : item_sort u ≡ of_nets = sort_is u w.Wire us z f c in absurd cc

  pub nets_whole : (ts : List Placed) → Begins (k.key w.Wire) ts
      → Turns nets_parts ts declared_at (item_depths d) NoElse Any ts nets_of
  nets_whole ts h =
      item_part d w.Wire nets_parts nets_of (λ z f. tt) (λ z g. tt) (λ x. refl) (λ x us z c. c) nets_out ts h

  abbrev pub registers_parts : Part (Place × ((Bool × Option Range) × (List Variable × Unit {0})))
  registers_parts = worded (typed variables_rule variables_first d) d w.Reg

  abbrev pub registers_of : Place × ((Bool × Option Range) × (List Variable × Unit {0})) → Item
  registers_of x = registers x.0 x.1.0.0 x.1.0.1 x.1.1.0

  registers_out : Parts d w.Reg registers_parts registers_of
  registers_out (registers p s r vs) us z f c g = ((p, ((s, r), (vs, tt))), c, refl)
  registers_out u us z f c g = let i : item_sort u ≡ of_registers = sort_is u w.Reg us z f c in absurd cc

  pub registers_whole : (ts : List Placed) → Begins (k.key w.Reg) ts
      → Turns registers_parts ts declared_at (item_depths d) NoElse Any ts registers_of
  registers_whole ts h =
      item_part d w.Reg registers_parts registers_of (λ z f. tt) (λ z g. tt) (λ x. refl) (λ x us z c. c) registers_out ts h

  abbrev pub integers_parts : Part (Place × (List Variable × Unit {0}))
  integers_parts = worded (closed variables_rule d) d w.Integer

  abbrev pub integers_of : Place × (List Variable × Unit {0}) → Item
  integers_of x = integer x.0 x.1.0

  integers_out : Parts d w.Integer integers_parts integers_of
  integers_out (integer p vs) us z f c g = ((p, (vs, tt)), c, refl)
  integers_out u us z f c g = let i : item_sort u ≡ of_integers = sort_is u w.Integer us z f c in absurd cc

  pub integers_whole : (ts : List Placed) → Begins (k.key w.Integer) ts
      → Turns integers_parts ts declared_at (item_depths d) NoElse Any ts integers_of
  integers_whole ts h =
      item_part d w.Integer integers_parts integers_of (λ z f. tt) (λ z g. tt) (λ x. refl) (λ x us z c. c) integers_out ts h

  abbrev pub genvars_parts : Part (Place × (List Name × Unit {0}))
  genvars_parts = worded (closed names_rule d) d w.Genvar

  abbrev pub genvars_of : Place × (List Name × Unit {0}) → Item
  genvars_of x = genvar x.0 x.1.0

  genvars_out : Parts d w.Genvar genvars_parts genvars_of
  genvars_out (genvar p ns) us z f c g = ((p, (ns, tt)), c, refl)
  genvars_out u us z f c g = let i : item_sort u ≡ of_genvars = sort_is u w.Genvar us z f c in absurd cc

  pub genvars_whole : (ts : List Placed) → Begins (k.key w.Genvar) ts
      → Turns genvars_parts ts declared_at (item_depths d) NoElse Any ts genvars_of
  genvars_whole ts h =
      item_part d w.Genvar genvars_parts genvars_of (λ z f. tt) (λ z g. tt) (λ x. refl) (λ x us z c. c) genvars_out ts h

  abbrev pub drives_parts : Part (Place × (List Driven × Unit {0}))
  drives_parts = worded (closed drives_rule d) d w.Assign

  abbrev pub drives_of : Place × (List Driven × Unit {0}) → Item
  drives_of x = continuous x.0 x.1.0

  drives_out : Parts d w.Assign drives_parts drives_of
  drives_out (continuous p ds) us z f c g = ((p, (ds, tt)), c, refl)
  drives_out u us z f c g = let i : item_sort u ≡ of_drives = sort_is u w.Assign us z f c in absurd cc

  pub drives_whole : (ts : List Placed) → Begins (k.key w.Assign) ts
      → Turns drives_parts ts declared_at (item_depths d) NoElse Any ts drives_of
  drives_whole ts h =
      item_part d w.Assign drives_parts drives_of (λ z f. tt) (λ z g. tt) (λ x. refl) (λ x us z c. c) drives_out ts h

  abbrev pub parameters_parts : Bool → Part (Place × ((Bool × Option Range) × (List Valued × Unit {0})))
  parameters_parts l = worded (typed valued_rule valued_first d) d (parameter_word l)

  abbrev pub parameters_of : Bool → Place × ((Bool × Option Range) × (List Valued × Unit {0})) → Item
  parameters_of l x = parameter x.0 l x.1.0.0 x.1.0.1 x.1.1.0

  parameters_out : (l : Bool) → Parts d (parameter_word l) (parameters_parts l) (parameters_of l)
  parameters_out l (parameter p v s r vs) us z f (mid, h, c) g =
      let i = same_parameter v l (same_word (parameter_word v) (parameter_word l) p us mid h f) in
      let x : Place × ((Bool × Option Range) × (List Valued × Unit {0})) = (p, ((s, r), (vs, tt))) in
      (x, subst (λ b. (parameters_parts b).at x us z) i (mid, h, c), ap (λ b. parameters_of b x) i)
  parameters_out l u us z f c g =
      let i : item_sort u ≡ of_parameters = sort_is u (parameter_word l) us z f c ∙ parameter_sort l in
      absurd cc

  pub parameters_whole : (l : Bool) (ts : List Placed) → Begins (k.key (parameter_word l)) ts
      → Turns (parameters_parts l) ts declared_at (item_depths d) NoElse Any ts (parameters_of l)
  parameters_whole l ts h =
      item_part d (parameter_word l) (parameters_parts l) (parameters_of l) (λ z f. tt) (λ z g. tt) (λ x. refl)
      (λ x us z c. c) (parameters_out l) ts h

  abbrev pub ports_parts : Part (Directed × (List Name × Unit {0}))
  ports_parts = both (direction_part d) (closed names_rule d) (port_join names_rule names_first d)

  abbrev pub ports_of : Directed × (List Name × Unit {0}) → Item
  ports_of x = directed x.0 x.1.0

  ports_out : (v : Direction) → Parts d (direction_word v) ports_parts ports_of
  ports_out v (directed x ns) us z f c g = ((x, (ns, tt)), c, refl)
  ports_out v u us z f c g =
      let i : item_sort u ≡ of_ports = sort_is u (direction_word v) us z f c ∙ direction_sort v in
      absurd cc

  pub ports_whole : (ts : List Placed) → BeginsDirected ts → Turns ports_parts ts declared_at (item_depths d) NoElse Any ts ports_of
  ports_whole ts (v, h) =
      item_part d (direction_word v) ports_parts ports_of (λ z f. tt) (λ z g. tt) (λ x. refl) (λ x us z c. c) (ports_out v) ts h

  -- ---- where none of them begins

  some_item : (z : List Placed) → NoElse z → (u : Item) × (y : List Placed) × declared_at u y z
  some_item z f =
      let last : List Placed = at (k.mark m.Semicolon) somewhere ∷ z in
      let name : List Placed = at (k.name []) somewhere ∷ last in (
        genvar somewhere (some_name ∷ []),
        at (k.key w.Genvar) somewhere ∷ name,
        (name, refl, (last, (last, refl, refl), (somewhere, refl))),
      )

  no_word : (u : Item) (us z : List Placed) → NoWord us → declared_at u us z → ⊥
  no_word (parameter p l s r vs) us z n (mid, h, c) = (subst NoWord h n) (parameter_word l) refl
  no_word (directed x ns) us z n (mid, (m1, h, c), e) = (subst NoWord h n) (direction_word x.direction) refl
  no_word (nets p s r ns) us z n (mid, h, c) = (subst NoWord h n) w.Wire refl
  no_word (registers p s r vs) us z n (mid, h, c) = (subst NoWord h n) w.Reg refl
  no_word (integer p vs) us z n (mid, h, c) = (subst NoWord h n) w.Integer refl
  no_word (genvar p ns) us z n (mid, h, c) = (subst NoWord h n) w.Genvar refl
  no_word (continuous p ds) us z n (mid, h, c) = (subst NoWord h n) w.Assign refl
  no_word (always p e s) us z n c = absurd c
  no_word (initial p s) us z n c = absurd c
  no_word (function x) us z n c = absurd c
  no_word (instances a x is) us z n c = absurd c
  no_word (region p is) us z n c = absurd c
  no_word (generate_loop p l x) us z n c = absurd c
  no_word (generate_if bs o) us z n c = absurd c

  pub declared_stuck : (ts : List Placed) → NoWord ts → Stuck declared_at (item_depths d) NoElse Any ts (length ts)
  declared_stuck ts n =
      stuck_here declared_at (item_depths d) NoElse Any ts some_item
      (λ a after e u y z c g. no_word u (a ∷ y) z (subst NoWord e n) c) (λ u z c g. no_word u [] z tt c)

  no_sort : (u : Item) (us z : List Placed) → item_sort u ≡ of_none → declared_at u us z → ⊥
  no_sort (always p e s) us z i c = c
  no_sort (initial p s) us z i c = c
  no_sort (function x) us z i c = c
  no_sort (instances a x is) us z i c = c
  no_sort (region p is) us z i c = c
  no_sort (generate_loop p l x) us z i c = c
  no_sort (generate_if bs o) us z i c = c
  no_sort u us z i c = absurd cc

  -- another word comes first
  pub word_stuck : (b : Key) → word_sort b ≡ of_none → (ts : List Placed) → Begins (k.key b) ts
      → Stuck declared_at (item_depths d) NoElse Any ts (length ts)
  word_stuck b i ts h =
      stuck_here declared_at (item_depths d) NoElse Any ts some_item
      (λ a after e u y z c g. no_sort u (a ∷ y) z (sort_is u b (a ∷ y) z (heads_next (k.key b) ts h a after e y) c ∙ i) c)
      (λ u z c g. no_sort u [] z (sort_is u b [] z tt c ∙ i) c)
