-- A constant means the same in each moment, and reads nothing where it has no fault.
use Rattle.std.proofs.Common.{◌≡◌, refl, sym, ap, ◌∙◌, Bool, true, false, List, [], ◌∷◌, ◌++◌, Some, None, unsigned_abs}
use Rattle.std.specs.Prelude.{Option, ◌&&◌}
use Rattle.vl_tree.specs.Syntax.{Place, to_signed, to_unsigned, clog2}
use Rattle.vl_tree.specs.Syntax.{Expr, number, read, call, system, group, concat, repeat, unary, chain, choose}
use Rattle.vl_tree.specs.Syntax.{Exprs, no_expr, more_expr, Links, no_link, more_link, Choices, no_choice, more_choice}
use Rattle.vl_tree.specs.Syntax.{Selects, no_select, more_select}
use Rattle.vl_value.specs.Things.{Thing, signal, memory, constant, routine}
use Rattle.vl_value.specs.Meaning as m
use Rattle.vl_value.specs.Meaning.{Meaning, Picked}
use Rattle.vl_value.specs.Constant as c
use Rattle.vl_value.specs.Constant.{Sight, is_constant, is_constant_name}
use Rattle.vl_value.specs.Order.{Found}
use Rattle.vl_value.specs.Faults as f
use Rattle.vl_value.specs.Faults.{faults, constant_meaning}
use Rattle.vl_value.specs.Reads as r
use Rattle.vl_sized.specs.Moments.{Moment, in_sight}

pub and_left : (a b : Bool) → (a && b) ≡ true → a ≡ true
and_left true b h = refl
and_left false b h = absurd cc

pub and_right : (a b : Bool) → (a && b) ≡ true → b ≡ true
and_right true b h = h
and_right false b h = absurd cc

pub none_left : (a b : List Found) → a ++ b ≡ [] → a ≡ []
none_left [] b h = refl
none_left (x ∷ a) b h = absurd cc

pub none_right : (a b : List Found) → a ++ b ≡ [] → b ≡ []
none_right [] b h = h
none_right (x ∷ a) b h = absurd cc

-- ---- meanings

named_same : (s : Sight) (t : Moment) (o : Option Thing) (ks js : List Picked) → is_constant_name o ≡ true
    → m.named (in_sight s t) o ks ≡ m.named (m.at_rest s) o js
named_same s t None ks js h = absurd cc
named_same s t (Some (signal p sh)) ks js h = absurd cc
named_same s t (Some (memory p sh first last)) ks js h = absurd cc
named_same s t (Some (constant w g n)) ks js h = refl
named_same s t (Some (routine inside p sh shs)) ks js h = absurd cc

mutual
  pub same : (s : Sight) (t : Moment) (e : Expr) → is_constant s e ≡ true → m.meaning (in_sight s t) e ≡ constant_meaning s e
  same s t (number p l) h = refl
  same s t (read x ks) h = named_same s t (s x.text) _ _ (and_left (is_constant_name (s x.text)) (c.selects_constant s ks) h)
  same s t (call g es) h = absurd cc
  same s t (system p clog2 e) h = ap (m.system_of clog2) (same s t e h)
  same s t (system p to_signed e) h = absurd cc
  same s t (system p to_unsigned e) h = absurd cc
  same s t (group p e) h = same s t e h
  same s t (concat p es) h = ap m.braces (all_same s t es h)
  same s t (repeat p n es) h =
      let a : m.meaning (in_sight s t) n ≡ constant_meaning s n = same s t n (and_left (is_constant s n) (c.all_constant s es) h) in
      let b : m.meanings (in_sight s t) es ≡ m.meanings (m.at_rest s) es = all_same s t es (and_right (is_constant s n) (c.all_constant s es) h) in
      λ i. m.copies (unsigned_abs (m.whole (a i))) (m.braces (b i))
  same s t (unary p g e) h = ap (m.unary_of g) (same s t e h)
  same s t (chain e ls) h =
      ap (m.chained (in_sight s t) ls) (same s t e (and_left (is_constant s e) (c.links_constant s ls) h))
      ∙ links_same s t ls (constant_meaning s e) (and_right (is_constant s e) (c.links_constant s ls) h)
  same s t (choose hs e) h =
      ap (m.chosen (in_sight s t) hs) (same s t e (and_right (c.choices_constant s hs) (is_constant s e) h))
      ∙ choices_same s t hs (constant_meaning s e) (and_left (c.choices_constant s hs) (is_constant s e) h)

  all_same : (s : Sight) (t : Moment) (es : Exprs) → c.all_constant s es ≡ true
      → m.meanings (in_sight s t) es ≡ m.meanings (m.at_rest s) es
  all_same s t no_expr h = refl
  all_same s t (more_expr e es) h =
      let a : m.meaning (in_sight s t) e ≡ constant_meaning s e = same s t e (and_left (is_constant s e) (c.all_constant s es) h) in
      let b : m.meanings (in_sight s t) es ≡ m.meanings (m.at_rest s) es = all_same s t es (and_right (is_constant s e) (c.all_constant s es) h) in
      λ i. a i ∷ b i

  links_same : (s : Sight) (t : Moment) (ls : Links) (a : Meaning) → c.links_constant s ls ≡ true
      → m.chained (in_sight s t) ls a ≡ m.chained (m.at_rest s) ls a
  links_same s t no_link a h = refl
  links_same s t (more_link g p e ls) a h =
      ap (λ b. m.chained (in_sight s t) ls (m.binary_of g a b)) (same s t e (and_left (is_constant s e) (c.links_constant s ls) h))
      ∙ links_same s t ls (m.binary_of g a (constant_meaning s e)) (and_right (is_constant s e) (c.links_constant s ls) h)

  choices_same : (s : Sight) (t : Moment) (hs : Choices) (a : Meaning) → c.choices_constant s hs ≡ true
      → m.chosen (in_sight s t) hs a ≡ m.chosen (m.at_rest s) hs a
  choices_same s t no_choice a h = refl
  choices_same s t (more_choice e p v hs) a h =
      let both : (is_constant s e && is_constant s v) ≡ true = and_left (is_constant s e && is_constant s v) (c.choices_constant s hs) h in
      let x : m.meaning (in_sight s t) e ≡ constant_meaning s e = same s t e (and_left (is_constant s e) (is_constant s v) both) in
      let y : m.meaning (in_sight s t) v ≡ constant_meaning s v = same s t v (and_right (is_constant s e) (is_constant s v) both) in
      let z : m.chosen (in_sight s t) hs a ≡ m.chosen (m.at_rest s) hs a =
      choices_same s t hs a (and_right (is_constant s e && is_constant s v) (c.choices_constant s hs) h) in
      λ i. m.choice (x i) (y i) (z i)

-- ---- reads

join_none : (a b : List r.Reading) → a ≡ [] → b ≡ [] → a ++ b ≡ []
join_none a b h k = λ i. h i ++ k i

mutual
  pub reads_none : (s : Sight) (e : Expr) → is_constant s e ≡ true → faults s e ≡ [] → r.reads s e ≡ []
  reads_none s (number p l) h k = refl
  reads_none s (read x ks) h k = name_reads_none s (s x.text) x.place ks (and_left (is_constant_name (s x.text)) (c.selects_constant s ks) h)
      (none_right (f.select_faults s ks) _ k)
  reads_none s (call g es) h k = absurd cc
  reads_none s (system p clog2 e) h k = reads_none s e h k
  reads_none s (system p to_signed e) h k = absurd cc
  reads_none s (system p to_unsigned e) h k = absurd cc
  reads_none s (group p e) h k = reads_none s e h k
  reads_none s (concat p es) h k = all_reads_none s es h (none_left (f.all_faults s es) _ k)
  reads_none s (repeat p n es) h k = all_reads_none s es (and_right (is_constant s n) (c.all_constant s es) h)
      (none_left (f.all_faults s es) _ (none_right (f.needed (is_constant s n) (f.start n) (faults s n)) _ k))
  reads_none s (unary p g e) h k = reads_none s e h k
  reads_none s (chain e ls) h k = join_none (r.reads s e) (r.link_reads s ls)
      (reads_none s e (and_left (is_constant s e) (c.links_constant s ls) h) (none_left (faults s e) (f.link_faults s ls) k))
      (link_reads_none s ls (and_right (is_constant s e) (c.links_constant s ls) h) (none_right (faults s e) (f.link_faults s ls) k))
  reads_none s (choose hs e) h k = join_none (r.choice_reads s hs) (r.reads s e)
      (choice_reads_none s hs (and_left (c.choices_constant s hs) (is_constant s e) h) (none_left (f.choice_faults s hs) (faults s e) k))
      (reads_none s e (and_right (c.choices_constant s hs) (is_constant s e) h) (none_right (f.choice_faults s hs) (faults s e) k))

  all_reads_none : (s : Sight) (es : Exprs) → c.all_constant s es ≡ true → f.all_faults s es ≡ [] → r.all_reads s es ≡ []
  all_reads_none s no_expr h k = refl
  all_reads_none s (more_expr e es) h k = join_none (r.reads s e) (r.all_reads s es)
      (reads_none s e (and_left (is_constant s e) (c.all_constant s es) h) (none_left (faults s e) (f.all_faults s es) k))
      (all_reads_none s es (and_right (is_constant s e) (c.all_constant s es) h) (none_right (faults s e) (f.all_faults s es) k))

  link_reads_none : (s : Sight) (ls : Links) → c.links_constant s ls ≡ true → f.link_faults s ls ≡ [] → r.link_reads s ls ≡ []
  link_reads_none s no_link h k = refl
  link_reads_none s (more_link g p e ls) h k = join_none (r.reads s e) (r.link_reads s ls)
      (reads_none s e (and_left (is_constant s e) (c.links_constant s ls) h) (none_left (faults s e) (f.link_faults s ls) k))
      (link_reads_none s ls (and_right (is_constant s e) (c.links_constant s ls) h) (none_right (faults s e) (f.link_faults s ls) k))

  choice_reads_none : (s : Sight) (hs : Choices) → c.choices_constant s hs ≡ true → f.choice_faults s hs ≡ [] → r.choice_reads s hs ≡ []
  choice_reads_none s no_choice h k = refl
  choice_reads_none s (more_choice e p v hs) h k =
      let both : (is_constant s e && is_constant s v) ≡ true = and_left (is_constant s e && is_constant s v) (c.choices_constant s hs) h in
      let rest : f.faults s v ++ f.choice_faults s hs ≡ [] = none_right (faults s e) (f.faults s v ++ f.choice_faults s hs) k in
      join_none (r.reads s e) (r.reads s v ++ r.choice_reads s hs)
      (reads_none s e (and_left (is_constant s e) (is_constant s v) both) (none_left (faults s e) (f.faults s v ++ f.choice_faults s hs) k))
      (join_none (r.reads s v) (r.choice_reads s hs)
      (reads_none s v (and_right (is_constant s e) (is_constant s v) both) (none_left (f.faults s v) (f.choice_faults s hs) rest))
      (choice_reads_none s hs (and_right (is_constant s e && is_constant s v) (c.choices_constant s hs) h)
      (none_right (f.faults s v) (f.choice_faults s hs) rest)))

  name_reads_none : (s : Sight) (o : Option Thing) (p : Place) (ks : Selects) → is_constant_name o ≡ true
      → f.of_name o p (f.select_faults s ks) (f.chosen s ks) ≡ []
      → r.named_reads o (c.is_fixed s ks) (m.picked (m.at_rest s) ks) ++ r.select_reads s ks ≡ []
  name_reads_none s None p ks h k = absurd cc
  name_reads_none s (Some (signal q sh)) p ks h k = absurd cc
  name_reads_none s (Some (memory q sh first last)) p ks h k = absurd cc
  name_reads_none s (Some (constant w g n)) p no_select h k = refl
  name_reads_none s (Some (constant w g n)) p (more_select q j ks) h k = absurd cc
  name_reads_none s (Some (routine inside q sh shs)) p ks h k = absurd cc

-- ---- both

pub both_hold : (x y z w : Bool) → x ≡ true → x ≡ z → y ≡ w → y ≡ (z && w)
both_hold x y z w h e f = f ∙ ap (λ b. b && w) (sym h ∙ e)

pub first_fails : (x z w : Bool) → x ≡ false → x ≡ z → false ≡ (z && w)
first_fails x z w h e = ap (λ b. b && w) (sym h ∙ e)
