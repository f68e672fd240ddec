-- Values of nodes: they are kept when nodes are added, and what a node that is added is worth.
use Rattle.std.proofs.Common.{◌≡◌, ℕ, zero, suc, ◌+◌, ◌<◌, ◌≤◌, ◌^◌, ◌%◌, Bool, true, false, ◌&&◌, List, [], ◌∷◌, ◌++◌, length, get_or, refl, sym, ap, subst, ◌∙◌, inl, inr, arith, append-nil, append_assoc, length-append, ◌⊎◌, pos, negsuc, ℤ}
use Rattle.std.specs.Prelude.{Some, slice_get}
use Rattle.std.proofs.Math.Nat.{mod-lt, mod-eq_of_lt, pow-le-pow_right}
use Rattle.std.proofs.lemmas.Nat.{pow_pos}
use Rattle.std.proofs.lemmas.List.{get_or_append_left, get_or_at}
use Rattle.bit_ops.specs.Operators.{residue, integer, bit}
use Rattle.flat_ir.specs.declared.design.Node.{Node}
use Rattle.flat_ir.specs.FlatRun.{NodeFits, value, values_from}
use Rattle.flat_ir.specs.Names.{Fit}
use Rattle.vl_tree.specs.declared.expr.Unary.{Unary}
use Rattle.vl_tree.specs.declared.expr.Unary.TheVariants as one
use Rattle.vl_tree.specs.declared.expr.Binary.{Binary}
use Rattle.vl_tree.specs.declared.expr.Binary.TheVariants as two
use Rattle.vl_tree.specs.Tree.{Module, Primary, name, number, Expr, primary, unary, binary}
use Rattle.vl_meaning.specs.Objects.{data_inputs, registers, width_of}
use Rattle.vl_meaning.specs.Expression.{Context, Meaning, primary_meaning, unary_meaning, binary_meaning, meaning, of_number, test}
use Rattle.vl_meaning.specs.StandsFor.{input_widths, register_widths}
use Rattle.vl_proc.specs.Lowers.{node_value, Grown, Makes}

-- ---- values

pub values_append : (row state done : List ℕ) (xs ys : List Node) → values_from row state done (xs ++ ys) ≡ values_from row state (values_from row state done xs) ys
values_append row state done [] ys = refl
values_append row state done (x ∷ xs) ys = values_append row state (done ++ value row state done x ∷ []) xs ys

pub values_length : (row state done : List ℕ) (xs : List Node) → length (values_from row state done xs) ≡ length done + length xs
values_length row state done [] = omega arith
values_length row state done (x ∷ xs) =
    omega (arith, values_length row state (done ++ value row state done x ∷ []) xs, length-append done (value row state done x ∷ []))

-- values stand in front of those of later nodes
pub values_more : (row state done : List ℕ) (xs : List Node) → (more : List ℕ) × (values_from row state done xs ≡ done ++ more)
values_more row state done [] = ([], sym (append-nil done))
values_more row state done (x ∷ xs) =
    let v : ℕ = value row state done x in
    let w = values_more row state (done ++ v ∷ []) xs in
    (v ∷ w.0, w.1 ∙ append_assoc done (v ∷ []) w.0)

-- a list of nodes and a longer one: the values of the longer stand after those of the first
pub values_grow : (m : Module) (old new : List Node) → Grown m old new → (row state : List ℕ) → (more : List ℕ) × (values_from row state [] new ≡ values_from row state [] old ++ more)
values_grow m old new g row state =
    let w = values_more row state (values_from row state [] old) g.more in
    (w.0, ap (λ (ns : List Node). values_from row state [] ns) g.whole ∙ values_append row state [] old g.more ∙ w.1)

pub old_value : (m : Module) (old new : List Node) → Grown m old new → (row state : List ℕ) (k : ℕ) → k < length old → node_value row state new k ≡ node_value row state old k
old_value m old new g row state k h =
    let w = values_grow m old new g row state in
    let l : k < length (values_from row state [] old) = omega (arith, values_length row state [] old) in
    ap (λ (vs : List ℕ). get_or vs k 0) w.1 ∙ get_or_append_left (values_from row state [] old) w.0 0 k l

-- ---- nodes that were added

pub grown_none : (m : Module) (old : List Node) → Grown m old old
grown_none m old = record { more = []; whole = sym (append-nil old); fit = λ h. h }

pub grown_then : (m : Module) (old mid new : List Node) → Grown m old mid → Grown m mid new → Grown m old new
grown_then m old mid new g h = record {
  more = g.more ++ h.more;
  whole = h.whole ∙ ap (λ (ns : List Node). ns ++ h.more) g.whole ∙ append_assoc old g.more h.more;
  fit = λ f. h.fit (g.fit f);
}

pub grown_length : (m : Module) (old new : List Node) → Grown m old new → length old ≤ length new
grown_length m old new g = omega (arith, ap length g.whole, length-append old g.more)

-- an element of a list with one more
one_more : {X : Type 0} (xs : List X) (y z : X) (k : ℕ) → slice_get (xs ++ y ∷ []) k ≡ Some z → (slice_get xs k ≡ Some z) ⊎ ((k ≡ length xs) × (y ≡ z))
one_more [] y z zero h = inr (refl, cc)
one_more [] y z (suc k) h = absurd cc
one_more (x ∷ xs) y z zero h = inl h
one_more (x ∷ xs) y z (suc k) h = elim (one_more xs y z k h) [ inl e ↦ inl e | inr e ↦ inr (ap suc e.0, e.1) ]

-- one node more, which reads nodes that are there
pub added : (m : Module) (old mid new : List Node) (x : Node) (k : ℕ) (v : List ℕ → List ℕ → ℕ) → Grown m old mid → k ≡ length mid → new ≡ mid ++ x ∷ []
    → NodeFits (length (data_inputs m)) (length (registers m)) (length mid) x
    → ((row state : List ℕ) → Fit (input_widths m) row → Fit (register_widths m) state → value row state (values_from row state [] mid) x ≡ v row state) → Makes m old new k v
added m old mid new x k v g e w f h = record {
  grown = grown_then m old mid new g (record {
    more = x ∷ [];
    whole = w;
    fit = λ old_fit i z s. elim (one_more mid x z i (ap (λ (ns : List Node). slice_get ns i) (sym w) ∙ s)) [
      | inl a ↦ old_fit i z a
      | inr a ↦ subst (λ (n : ℕ). NodeFits (length (data_inputs m)) (length (registers m)) n z) (sym a.0) (subst (NodeFits (length (data_inputs m)) (length (registers m)) (length mid)) a.1 f)
    ];
  });
  here = omega (arith, e, ap length w, length-append mid (x ∷ []));
  is = λ row state a b.
      let vs : List ℕ = values_from row state [] mid in
      let n : length vs ≡ k = values_length row state [] mid ∙ (let z : 0 + length mid ≡ k = omega (arith, e) in z) in
      ap (λ (ns : List Node). get_or (values_from row state [] ns) k 0) w ∙ ap (λ (us : List ℕ). get_or us k 0) (values_append row state [] mid (x ∷ []))
      ∙ get_or_at vs (value row state vs x) [] 0 k n ∙ h row state a b;
}

-- nodes were added after
pub made_before : (m : Module) (old mid new : List Node) (k : ℕ) (v : List ℕ → List ℕ → ℕ) → Makes m old mid k v → Grown m mid new → Makes m old new k v
made_before m old mid new k v a g = record {
  grown = grown_then m old mid new a.grown g;
  here = omega (arith, a.here, grown_length m mid new g);
  is = λ row state f h. old_value m mid new g row state k a.here ∙ a.is row state f h;
}

-- the same value by another name
pub made_as : (m : Module) (old new : List Node) (k : ℕ) (v w : List ℕ → List ℕ → ℕ)
    → ((row state : List ℕ) → Fit (input_widths m) row → Fit (register_widths m) state → v row state ≡ w row state) → Makes m old new k v → Makes m old new k w
made_as m old new k v w e a = record { grown = a.grown; here = a.here; is = λ row state f h. a.is row state f h ∙ e row state f h }

-- ---- numbers

-- a number modulo 2 ^ w is below it
residue_below : (w : ℕ) (z : ℤ) → residue w z < 2 ^ w
residue_below w (pos n) = mod-lt n (pow_pos w)
residue_below w (negsuc n) = omega (arith, pow_pos w)

pub primary_below : (c : Context) (a : Primary) (w : ℕ) (s : Bool) → (primary_meaning c a).at w s < 2 ^ w
primary_below c (name x) w s = mod-lt _ (pow_pos w)
primary_below c (number l) w s = residue_below w (integer (l.signed && s) l.width l.value)

pub meaning_below : (c : Context) (e : Expr) (w : ℕ) (s : Bool) → (meaning c e).at w s < 2 ^ w
meaning_below c (primary a) w s = primary_below c a w s
meaning_below c (unary one.LogicNot a) w s = mod-lt _ (pow_pos w)
meaning_below c (binary a two.Add b) w s = mod-lt _ (pow_pos w)
meaning_below c (binary a two.Equal b) w s = mod-lt _ (pow_pos w)

-- a number of fewer bits is kept at a larger width
pub kept : (v w n : ℕ) → v ≤ w → n < 2 ^ v → n % 2 ^ w ≡ n
kept v w n l h = let p : 2 ^ v ≤ 2 ^ w = pow-le-pow_right (omega arith) l in mod-eq_of_lt (omega (arith, p))

bit_below : (b : Bool) → bit b < 2 ^ 1
bit_below true = omega arith
bit_below false = omega arith

-- a test is one bit at each width
pub test_at : (b : Bool) (w : ℕ) (s : Bool) → 1 ≤ w → (test b).at w s ≡ bit b
test_at b w s l = kept 1 w (bit b) l (bit_below b)

-- ---- widths and signs don't depend on values

pub primary_width_same : (c d : Context) (a : Primary) → c.ports ≡ d.ports → (primary_meaning c a).width ≡ (primary_meaning d a).width
primary_width_same c d (name x) e = ap (λ ps. (of_number (width_of ps x) false 0).width) e
primary_width_same c d (number l) e = refl

unary_width_same : (op : Unary) (x y : Meaning) → x.width ≡ y.width → (unary_meaning op x).width ≡ (unary_meaning op y).width
unary_width_same one.LogicNot x y e = refl

binary_width_same : (op : Binary) (x y u v : Meaning) → x.width ≡ u.width → y.width ≡ v.width → (binary_meaning op x y).width ≡ (binary_meaning op u v).width
binary_width_same two.Add x y u v e f = cc
binary_width_same two.Equal x y u v e f = refl

pub width_same : (c d : Context) (e : Expr) → c.ports ≡ d.ports → (meaning c e).width ≡ (meaning d e).width
width_same c d (primary a) e = primary_width_same c d a e
width_same c d (unary op a) e = unary_width_same op (primary_meaning c a) (primary_meaning d a) (primary_width_same c d a e)
width_same c d (binary a op b) e =
    binary_width_same op (primary_meaning c a) (primary_meaning c b) (primary_meaning d a) (primary_meaning d b) (primary_width_same c d a e) (primary_width_same c d b e)

pub primary_sign_same : (c d : Context) (a : Primary) → (primary_meaning c a).signed ≡ (primary_meaning d a).signed
primary_sign_same c d (name x) = refl
primary_sign_same c d (number l) = refl

unary_sign_same : (op : Unary) (x y : Meaning) → x.signed ≡ y.signed → (unary_meaning op x).signed ≡ (unary_meaning op y).signed
unary_sign_same one.LogicNot x y e = refl

binary_sign_same : (op : Binary) (x y u v : Meaning) → x.signed ≡ u.signed → y.signed ≡ v.signed → (binary_meaning op x y).signed ≡ (binary_meaning op u v).signed
binary_sign_same two.Add x y u v e f = cc
binary_sign_same two.Equal x y u v e f = refl

pub sign_same : (c d : Context) (e : Expr) → (meaning c e).signed ≡ (meaning d e).signed
sign_same c d (primary a) = primary_sign_same c d a
sign_same c d (unary op a) = unary_sign_same op (primary_meaning c a) (primary_meaning d a) (primary_sign_same c d a)
sign_same c d (binary a op b) = binary_sign_same op (primary_meaning c a) (primary_meaning c b) (primary_meaning d a) (primary_meaning d b) (primary_sign_same c d a) (primary_sign_same c d b)
