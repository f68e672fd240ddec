-- What is told operand by operand is the sense of an expression, or the least of its faults.
use Rattle.std.proofs.Common.{◌≡◌, refl, sym, ap, ◌∙◌, ℕ, ◌*◌, Bool, true, false, List, [], ◌∷◌, ◌++◌, Some, None, length, append-nil, append_assoc, unsigned_abs, if◌then◌else◌}
use Rattle.std.specs.Prelude.{Option, ℤ, pos, int_lt}
use Rattle.vl_tree.specs.Syntax.{Place, Expr, number, read, call, system, group, concat, repeat, unary, chain, choose}
use Rattle.vl_tree.specs.Syntax.{Exprs, no_expr, more_expr, Links, no_link, more_link, Choices, no_choice, more_choice}
use Rattle.vl_tree.specs.Syntax.{Selects, no_select, more_select, Select, index, part, upward, downward}
use Rattle.vl_tree.specs.declared.fault.FaultKind.TheVariants.{TooWide, ZeroReplication}
use Rattle.vl_value.specs.Things.{Thing, signal, memory, constant, routine}
use Rattle.vl_value.specs.Meaning as m
use Rattle.vl_value.specs.Meaning.{Meaning}
use Rattle.vl_value.specs.Constant.{Sight, is_constant}
use Rattle.vl_value.specs.Order.{Found, at, lesser, least}
use Rattle.vl_value.specs.Faults as f
use Rattle.vl_value.specs.Faults.{faults, settled, constant_meaning}
use Rattle.vl_value.specs.Reads as r
use Rattle.vl_value.proofs.OrderLaws.{least_joined, least_none, lesser_joined}
use Rattle.vl_width.specs.Known.{is_width}
use Rattle.vl_sized.specs.Moments.{Moment, in_sight, still, Sense, sense, constant_sense, on_one, on_two, on_all, all_mean, all_read}
use Rattle.vl_sized.specs.Told.{told, mapped, joint, fault_in}
use Rattle.vl_sized.specs.Sensed as s
use Rattle.vl_sized.specs.Sensed.{sensed, Picks, whole_settled}
use Rattle.vl_sized.proofs.Constants.{none_left, none_right}
use Rattle.vl_sized.proofs.Least.{lesser_left, told_mapped, told_joint, told_fault, told_if, least_some, wide_least, copied_least, name_least, call_least, needed_least, chosen_list}
use Rattle.vl_sized.proofs.Covered.{IsGone, SelectGone, SelectsGone, name_gone, name_sense, needed_settled, needed_same}

-- ---- lists of senses

abbrev senses : Sight → Exprs → List Sense
senses g no_expr = []
senses g (more_expr e es) = sense g e ∷ senses g es

senses_mean : (g : Sight) (es : Exprs) (t : Moment) → all_mean (senses g es) t ≡ m.meanings (in_sight g t) es
senses_mean g no_expr t = refl
senses_mean g (more_expr e es) t = ap (λ (l : List Meaning). m.meaning (in_sight g t) e ∷ l) (senses_mean g es t)

senses_read : (g : Sight) (es : Exprs) → all_read (senses g es) ≡ r.all_reads g es
senses_read g no_expr = refl
senses_read g (more_expr e es) = ap (λ (l : List r.Reading). r.reads g e ++ l) (senses_read g es)

-- ---- braces

braces_told : (g : Sight) (p : Place) (es : Exprs) (fs : List Found)
    → s.braces_sensed p (told (least fs) (senses g es))
    ≡ told (least (fs ++ f.wide p fs (m.widths (m.meanings (m.at_rest g) es)))) (on_all m.braces (senses g es))
braces_told g p es [] =
    ap (λ o. told o (on_all m.braces (senses g es)))
    (ap (λ (l : List Meaning). s.if_wide p None (m.widths l)) (senses_mean g es still) ∙ sym (wide_least p [] (m.widths (m.meanings (m.at_rest g) es))))
braces_told g p es (x ∷ fs) =
    let h = least_some x fs in
    (λ i. s.braces_sensed p (told (h.1 i) (senses g es)))
    ∙ (λ i. told ((sym h.1 ∙ ap least (sym (append-nil (x ∷ fs)))) i) (on_all m.braces (senses g es)))

-- ---- copies

copied_if : (z : ℤ) (xs : List Sense) (p : Place) → f.copied p [] (Some z) (m.widths (all_mean xs still)) ≡ []
    → s.copied_sense (Some z) xs ≡ on_all (λ ms. m.copies (unsigned_abs z) (m.braces ms)) xs
copied_if z xs p h = copied_by (int_lt z (pos 1)) (is_width (unsigned_abs z * m.widths (all_mean xs still))) (at p ZeroReplication) (at p TooWide) _ _ h
  where
    copied_by : (x y : Bool) (g k : Found) (a b : Sense) → (if x then g ∷ [] else (if y then [] else k ∷ [])) ≡ []
        → (if x then b else (if y then a else b)) ≡ a
    copied_by true y g k a b h = absurd cc
    copied_by false true g k a b h = refl
    copied_by false false g k a b h = absurd cc

copies_own_least : (g : Sight) (p : Place) (n : Option ℤ) (es : Exprs) (fs : List Found)
    → lesser (least fs) (s.copies_own p n (told (least fs) (senses g es)))
    ≡ least (fs ++ f.copied p fs n (m.widths (m.meanings (m.at_rest g) es)))
copies_own_least g p n es [] =
    ap (λ (l : List Meaning). s.if_copied p None n (m.widths l)) (senses_mean g es still) ∙ sym (copied_least p [] n (m.widths (m.meanings (m.at_rest g) es)))
copies_own_least g p n es (x ∷ fs) =
    let h = least_some x fs in let w = m.widths (m.meanings (m.at_rest g) es) in
    (λ i. lesser (h.1 i) (s.copies_own p n (told (h.1 i) (senses g es))))
    ∙ ap (lesser (Some h.0)) (faulty_copies p n h.0 w)
    ∙ (λ i. lesser (sym h.1 i) (s.if_copied p (sym h.1 i) n w))
    ∙ (λ i. lesser (least (x ∷ fs)) (sym (copied_least p (x ∷ fs) n w) i))
    ∙ sym (least_joined (x ∷ fs) (f.copied p (x ∷ fs) n w))
  where
    faulty_copies : (p : Place) (n : Option ℤ) (k : Found) (w : ℕ) → s.if_copied p (Some k) n 0 ≡ s.if_copied p (Some k) n w
    faulty_copies p None k w = refl
    faulty_copies p (Some z) k w = refl

copies_sense : (g : Sight) (p : Place) (n : Expr) (es : Exprs) → f.needed (is_constant g n) (f.start n) (faults g n) ≡ []
    → f.copied p [] (whole_settled g n) (m.widths (m.meanings (m.at_rest g) es)) ≡ []
    → s.copied_sense (whole_settled g n) (senses g es) ≡ sense g (repeat p n es)
copies_sense g p n es h k =
    let z = m.whole (constant_meaning g n) in
    let settled : whole_settled g n ≡ Some z = needed_settled g n h in
    let w : m.widths (all_mean (senses g es) still) ≡ m.widths (m.meanings (m.at_rest g) es) = ap m.widths (senses_mean g es still) in
    ap (λ o. s.copied_sense o (senses g es)) settled
    ∙ copied_if z (senses g es) p ((λ i. f.copied p [] (sym settled i) (w i)) ∙ k)
    ∙ (λ i. record {
      means = λ t. m.copies (unsigned_abs (m.whole (sym (needed_same g t n h) i))) (m.braces (senses_mean g es t i));
      read = senses_read g es i;
    })

copies_told : (g : Sight) (p : Place) (n : Expr) (es : Exprs) (fs : List Found)
    → s.copies_sensed p (whole_settled g n) (least (f.needed (is_constant g n) (f.start n) (faults g n))) (told (least fs) (senses g es))
    ≡ told (least (f.needed (is_constant g n) (f.start n) (faults g n)
    ++ (fs ++ f.copied p fs (whole_settled g n) (m.widths (m.meanings (m.at_rest g) es))))) (sense g (repeat p n es))
copies_told g p n es [] =
    let ns = f.needed (is_constant g n) (f.start n) (faults g n) in
    let cs = f.copied p [] (whole_settled g n) (m.widths (m.meanings (m.at_rest g) es)) in
    ap (λ q. told (lesser (least ns) q) (s.copied_sense (whole_settled g n) (senses g es))) (copies_own_least g p (whole_settled g n) es [])
    ∙ ap (λ q. told q (s.copied_sense (whole_settled g n) (senses g es))) (sym (least_joined ns cs))
    ∙ told_if (least (ns ++ cs)) (s.copied_sense (whole_settled g n) (senses g es)) (sense g (repeat p n es))
    (λ k. let e : ns ++ cs ≡ [] = least_none (ns ++ cs) k in copies_sense g p n es (none_left ns cs e) (none_right ns cs e))
copies_told g p n es (x ∷ fs) =
    let ns = f.needed (is_constant g n) (f.start n) (faults g n) in
    let cs = f.copied p (x ∷ fs) (whole_settled g n) (m.widths (m.meanings (m.at_rest g) es)) in
    let h = least_some x fs in
    let nothing = constant_sense (m.unsigned 1 0) in
    (λ i. s.copies_sensed p (whole_settled g n) (least ns) (told (h.1 i) (senses g es)))
    ∙ (λ i. told (lesser (least ns) (lesser (sym h.1 i) (s.copies_own p (whole_settled g n) (told (sym h.1 i) (senses g es))))) nothing)
    ∙ ap (λ q. told (lesser (least ns) q) nothing) (copies_own_least g p (whole_settled g n) es (x ∷ fs))
    ∙ ap (λ q. told q nothing) (sym (least_joined ns ((x ∷ fs) ++ cs)))
    ∙ told_if (least (ns ++ ((x ∷ fs) ++ cs))) nothing (sense g (repeat p n es))
    (λ k. absurd (never x (fs ++ cs) (none_right ns ((x ∷ fs) ++ cs) (least_none (ns ++ ((x ∷ fs) ++ cs)) k))))
  where
    never : (y : Found) (ys : List Found) → y ∷ ys ≡ [] → ⊥
    never y ys e = absurd cc

-- ---- choices

abbrev branches : Sight → Choices → List (Sense × Sense)
branches g no_choice = []
branches g (more_choice e p a hs) = (sense g e, sense g a) ∷ branches g hs

among_branches : (g : Sight) (hs : Choices) (b : Sense)
    → s.chosen_among (branches g hs) b
    ≡ record { means = λ t. m.chosen (in_sight g t) hs (b.means t); read = r.choice_reads g hs ++ b.read }
among_branches g no_choice b = refl
among_branches g (more_choice e p a hs) b =
    let rest = among_branches g hs b in
    (λ i. record {
      means = λ t. m.choice (m.meaning (in_sight g t) e) (m.meaning (in_sight g t) a) ((rest i).means t);
      read = r.reads g e ++ (r.reads g a ++ (rest i).read);
    })
    ∙ (λ i. record {
      means = λ t. m.chosen (in_sight g t) (more_choice e p a hs) (b.means t);
      read = (ap (λ (l : List r.Reading). r.reads g e ++ l) (sym (append_assoc (r.reads g a) (r.choice_reads g hs) b.read))
          ∙ sym (append_assoc (r.reads g e) (r.reads g a ++ r.choice_reads g hs) b.read)) i;
    })

-- ---- operators

abbrev chain_sense : Sight → Links → Sense → Sense
chain_sense g no_link a = a
chain_sense g (more_link x p e ls) a = chain_sense g ls (on_two (m.binary_of x) a (sense g e))

chain_is : (g : Sight) (ls : Links) (a : Sense)
    → chain_sense g ls a ≡ record { means = λ t. m.chained (in_sight g t) ls (a.means t); read = a.read ++ r.link_reads g ls }
chain_is g no_link a = λ i. record { means = a.means; read = sym (append-nil a.read) i }
chain_is g (more_link x p e ls) a =
    chain_is g ls (on_two (m.binary_of x) a (sense g e))
    ∙ (λ i. record {
      means = λ t. m.chained (in_sight g t) ls (m.binary_of x (a.means t) (m.meaning (in_sight g t) e));
      read = append_assoc a.read (r.reads g e) (r.link_reads g ls) i;
    })

-- ---- names

read_told : (g : Sight) (o : Option Thing) (p : Place) (ks : Selects) → SelectsGone g ks
    → (s.all_picked g ks).fault ≡ least (f.select_faults g ks)
    → s.read_sensed o p (s.all_picked g ks)
    ≡ told (least (f.select_faults g ks ++ f.of_name o p (f.select_faults g ks) (f.chosen g ks))) (name_sense g o ks)
read_told g o p ks l h =
    let fs = f.select_faults g ks in let xs = (s.all_picked g ks).list in
    let own : s.of_name o p (least fs) xs ≡ least (f.of_name o p fs (f.chosen g ks)) =
    sym (name_least o p fs xs) ∙ ap (λ l. least (f.of_name o p fs l)) (sym (chosen_list g ks)) in
    (λ i. told (lesser (h i) (s.of_name o p (h i) xs)) (s.named o xs))
    ∙ ap (λ q. told (lesser (least fs) q) (s.named o xs)) own
    ∙ ap (λ q. told q (s.named o xs)) (sym (least_joined fs (f.of_name o p fs (f.chosen g ks))))
    ∙ told_if (least (fs ++ f.of_name o p fs (f.chosen g ks))) (s.named o xs) (name_sense g o ks)
    (λ n. name_gone g o p ks l (least_none (fs ++ f.of_name o p fs (f.chosen g ks)) n))

-- ---- calls

call_sense : (g : Sight) (o : Option Thing) (p : Place) (n : ℕ) (es : Exprs) → f.of_call o p n ≡ []
    → s.called o (senses g es) ≡ record { means = λ t. m.called (in_sight g t) o (m.meanings (in_sight g t) es); read = r.all_reads g es }
call_sense g None p n es h = absurd cc
call_sense g (Some (signal q sh)) p n es h = absurd cc
call_sense g (Some (memory q sh first last)) p n es h = absurd cc
call_sense g (Some (constant w x k)) p n es h = absurd cc
call_sense g (Some (routine inside q sh shs)) p n es h = λ i. record {
  means = λ t. m.called (in_sight g t) (Some (routine inside q sh shs)) (senses_mean g es t i);
  read = senses_read g es i;
}

call_told : (g : Sight) (o : Option Thing) (p : Place) (n : ℕ) (es : Exprs) (fs : List Found)
    → s.call_sensed o p n (told (least fs) (senses g es))
    ≡ told (least (fs ++ f.of_call o p n)) (record { means = λ t. m.called (in_sight g t) o (m.meanings (in_sight g t) es); read = r.all_reads g es })
call_told g o p n es [] =
    ap (λ q. told q (s.called o (senses g es))) (sym (call_least o p n))
    ∙ told_if (least (f.of_call o p n)) (s.called o (senses g es)) _ (λ k. call_sense g o p n es (least_none (f.of_call o p n) k))
call_told g o p n es (x ∷ fs) =
    let h = least_some x fs in
    (λ i. s.call_sensed o p n (told (h.1 i) (senses g es)))
    ∙ (λ i. told (lesser (sym h.1 i) (sym (call_least o p n) i)) (constant_sense (m.unsigned 1 0)))
    ∙ ap (λ q. told q (constant_sense (m.unsigned 1 0))) (sym (least_joined (x ∷ fs) (f.of_call o p n)))
    ∙ told_if (least ((x ∷ fs) ++ f.of_call o p n)) (constant_sense (m.unsigned 1 0)) _ (λ k. absurd (never x (fs ++ f.of_call o p n) k))
  where
    never : (y : Found) (ys : List Found) → least (y ∷ ys) ≡ None → ⊥
    never y ys k = let e : y ∷ ys ≡ [] = least_none (y ∷ ys) k in absurd cc

-- ---- expressions

fault_from : (g : Sight) (e : Expr) → IsGone g e → fault_in (sensed g e) ≡ least (faults g e)
fault_from g e h = ap fault_in h ∙ told_fault (least (faults g e)) (sense g e)

needed_from : (g : Sight) (e : Expr) → IsGone g e
    → s.needed (is_constant g e) (f.start e) (fault_in (sensed g e)) ≡ least (f.needed (is_constant g e) (f.start e) (faults g e))
needed_from g e h =
    ap (s.needed (is_constant g e) (f.start e)) (fault_from g e h) ∙ sym (needed_least (is_constant g e) (f.start e) (faults g e))

mutual
  pub gone : (g : Sight) (e : Expr) → IsGone g e
  gone g (number p l) = refl
  gone g (read x ks) = read_told g (g x.text) x.place ks (selects_gone g ks) (selects_least g ks)
  gone g (call x es) =
      ap (s.call_sensed (g x.text) x.place (length (m.meanings (m.at_rest g) es))) (all_gone g es)
      ∙ call_told g (g x.text) x.place (length (m.meanings (m.at_rest g) es)) es (f.all_faults g es)
  gone g (system p x e) =
      ap (mapped (on_one (m.system_of x))) (gone g e) ∙ told_mapped (on_one (m.system_of x)) (least (faults g e)) (sense g e)
  gone g (group p e) = gone g e
  gone g (concat p es) =
      ap (s.braces_sensed p) (all_gone g es) ∙ braces_told g p es (f.all_faults g es)
      ∙ ap (told (least (faults g (concat p es)))) (λ i. record { means = λ t. m.braces (senses_mean g es t i); read = senses_read g es i })
  gone g (repeat p n es) =
      (λ i. s.copies_sensed p (whole_settled g n) (needed_from g n (gone g n) i) (all_gone g es i)) ∙ copies_told g p n es (f.all_faults g es)
  gone g (unary p x e) =
      ap (mapped (on_one (m.unary_of x))) (gone g e) ∙ told_mapped (on_one (m.unary_of x)) (least (faults g e)) (sense g e)
  gone g (chain e ls) =
      ap (s.linked g ls) (gone g e) ∙ links_gone g ls (least (faults g e)) (sense g e)
      ∙ (λ i. told (sym (least_joined (faults g e) (f.link_faults g ls)) i) (chain_is g ls (sense g e) i))
  gone g (choose hs e) =
      (λ i. joint s.chosen_among (choices_gone g hs i) (gone g e i))
      ∙ told_joint s.chosen_among (least (f.choice_faults g hs)) (least (faults g e)) (branches g hs) (sense g e)
      ∙ (λ i. told (sym (least_joined (f.choice_faults g hs) (faults g e)) i) (among_branches g hs (sense g e) i))

  all_gone : (g : Sight) (es : Exprs) → s.all_sensed g es ≡ told (least (f.all_faults g es)) (senses g es)
  all_gone g no_expr = refl
  all_gone g (more_expr e es) =
      (λ i. joint ◌∷◌ (gone g e i) (all_gone g es i))
      ∙ told_joint ◌∷◌ (least (faults g e)) (least (f.all_faults g es)) (sense g e) (senses g es)
      ∙ ap (λ q. told q (sense g e ∷ senses g es)) (sym (least_joined (faults g e) (f.all_faults g es)))

  links_gone : (g : Sight) (ls : Links) (o : Option Found) (a : Sense)
      → s.linked g ls (told o a) ≡ told (lesser o (least (f.link_faults g ls))) (chain_sense g ls a)
  links_gone g no_link o a = ap (λ q. told q a) (sym (lesser_left o))
  links_gone g (more_link x p e ls) o a =
      ap (λ b. s.linked g ls (joint (on_two (m.binary_of x)) (told o a) b)) (gone g e)
      ∙ ap (s.linked g ls) (told_joint (on_two (m.binary_of x)) o (least (faults g e)) a (sense g e))
      ∙ links_gone g ls (lesser o (least (faults g e))) (on_two (m.binary_of x) a (sense g e))
      ∙ ap (λ q. told q (chain_sense g ls (on_two (m.binary_of x) a (sense g e))))
      (lesser_joined o (least (faults g e)) (least (f.link_faults g ls)) ∙ ap (lesser o) (sym (least_joined (faults g e) (f.link_faults g ls))))

  choices_gone : (g : Sight) (hs : Choices) → s.all_choices g hs ≡ told (least (f.choice_faults g hs)) (branches g hs)
  choices_gone g no_choice = refl
  choices_gone g (more_choice e p a hs) =
      let fe = faults g e in let fa = faults g a in let fh = f.choice_faults g hs in
      (λ i. joint ◌∷◌ (joint s.paired (gone g e i) (gone g a i)) (choices_gone g hs i))
      ∙ ap (λ b. joint ◌∷◌ b (told (least fh) (branches g hs))) (told_joint s.paired (least fe) (least fa) (sense g e) (sense g a))
      ∙ told_joint ◌∷◌ (lesser (least fe) (least fa)) (least fh) (sense g e, sense g a) (branches g hs)
      ∙ ap (λ q. told q ((sense g e, sense g a) ∷ branches g hs))
      (lesser_joined (least fe) (least fa) (least fh) ∙ ap (lesser (least fe)) (sym (least_joined fa fh)) ∙ sym (least_joined fe (fa ++ fh)))

  selects_gone : (g : Sight) (ks : Selects) → SelectsGone g ks
  selects_gone g no_select = tt
  selects_gone g (more_select p k ks) = (select_gone g k, selects_gone g ks)

  select_gone : (g : Sight) (k : Select) → SelectGone g k
  select_gone g (index e) = gone g e
  select_gone g (part a b) = tt
  select_gone g (upward b w) = gone g b
  select_gone g (downward b w) = gone g b

  selects_least : (g : Sight) (ks : Selects) → (s.all_picked g ks).fault ≡ least (f.select_faults g ks)
  selects_least g no_select = refl
  selects_least g (more_select p k ks) =
      (λ i. lesser (select_least g k i) (selects_least g ks i)) ∙ sym (least_joined (f.index_faults g k) (f.select_faults g ks))

  select_least : (g : Sight) (k : Select) → s.picked_fault g k ≡ least (f.index_faults g k)
  select_least g (index e) = fault_from g e (gone g e)
  select_least g (part a b) = (λ i. lesser (needed_from g a (gone g a) i) (needed_from g b (gone g b) i))
      ∙ sym (least_joined (f.needed (is_constant g a) (f.start a) (faults g a)) (f.needed (is_constant g b) (f.start b) (faults g b)))
  select_least g (upward b w) = (λ i. lesser (fault_from g b (gone g b) i) (needed_from g w (gone g w) i))
      ∙ sym (least_joined (faults g b) (f.needed (is_constant g w) (f.start w) (faults g w)))
  select_least g (downward b w) = (λ i. lesser (fault_from g b (gone g b) i) (needed_from g w (gone g w) i))
      ∙ sym (least_joined (faults g b) (f.needed (is_constant g w) (f.start w) (faults g w)))
