-- Nodes that are added at the end, and what they are worth and read in each design that goes on from there.
use Rattle.std.proofs.Common.{◌≡◌, ℕ, zero, suc, ◌≤◌, ◌<◌, ◌^◌, ◌||◌, Bool, true, false, List, [], ◌∷◌, ◌++◌, length, take, refl, sym, ap, ◌∙◌, subst, arith, append-nil, append_assoc, inl, inr}
use Rattle.std.specs.Prelude.{Result, Ok, Err, IfOk, OnOk, Some, slice_get, slice_index_or, IsSomeAnd}
use Rattle.std.specs.Option.{option_map, unwrap_or}
use Rattle.std.proofs.Math.Seq.{get_or-append_seam, take-append_seam}
use Rattle.std.proofs.lemmas.Bool.{cases_lt}
use Rattle.std.proofs.lemmas.List.{get_or_append_left, length_push, take-append-le}
use Rattle.netlist.specs.Design.{Flat}
use Rattle.netlist.specs.Plain.{PlainMemory}
use Rattle.netlist.specs.Fits.{HasNode, IsWidth, FitsAbove, NodeFits}
use Rattle.netlist.specs.Graph.{node_reads, nodes_read}
use Rattle.netlist.specs.Values.{Values, node_value, node_values, width_at}
use Rattle.netlist.specs.declared.design.Signal.{Signal}
use Rattle.netlist.specs.declared.design.Range.{Range}
use Rattle.netlist.specs.declared.node.Node.{Node}
use Rattle.netlist.proofs.ValuesLaw.{values_law}
use Rattle.netlist.proofs.ReadsLaw.{reads_law}
use Rattle.vl_nodes.specs.declared.made.Made.{Made}
use Rattle.vl_nodes.specs.Sense.{Sense, Ground}
use Rattle.vl_nodes.specs.Nodes.{ValuesFit, AreOn, GoesOn, Is, AllFit, Grows}
use Rattle.vl_nodes.specs.Calls.{MakesAt}

-- ---- what stands stays

pub kept_at : {X : Type 0} (xs more : List X) (k : ℕ) (x : X) → slice_get xs k ≡ Some x → slice_get (xs ++ more) k ≡ Some x
kept_at [] more k x at = absurd cc
kept_at (y ∷ ys) more zero x at = at
kept_at (y ∷ ys) more (suc k) x at = kept_at ys more k x at

pub last_at : {X : Type 0} (xs : List X) (x : X) → slice_get (xs ++ x ∷ []) (length xs) ≡ Some x
last_at [] x = refl
last_at (y ∷ ys) x = last_at ys x

pub begins_less : (g : Ground) (nodes more : List Node) (f : Flat) → GoesOn g (nodes ++ more) f → GoesOn g nodes f
begins_less g nodes more f s = record {
  fits = s.fits;
  ground = s.ground;
  begins = λ k x at. s.begins k x (kept_at nodes more k x at);
}

pub goes_on : (g : Ground) (from to : List Node) (f : Flat) → Grows g from to → GoesOn g to f → GoesOn g from f
goes_on g from to f h s = begins_less g from h.more f (subst (λ ns. GoesOn g ns f) h.whole s)

pub is_kept : (g : Ground) (from to : List Node) (m : Made) (x : Sense) → Grows g from to → Is g from m x → Is g to m x
is_kept g from to m x h i = record {
  here = i.here;
  stands = subst (λ ns. slice_get ns m.node ≡ Some i.here) (sym h.whole) (kept_at from h.more m.node i.here i.stands);
  wide = i.wide;
  is_width = i.is_width;
  fits = i.fits;
  value = λ f v s fit. i.value f v (goes_on g from to f h s) fit;
  reads = λ f q s some. i.reads f q (goes_on g from to f h s) some;
}

-- the same node is worth what has the same value and reads the same
pub is_as : (g : Ground) (nodes : List Node) (m : Made) (x y : Sense) → Is g nodes m x
    → ((v : Values) → ValuesFit g v → x.value v ≡ y.value v) → ((q : Range) → 1 ≤ q.width → x.reads q ≡ y.reads q) → Is g nodes m y
is_as g nodes m x y i same reads = record {
  here = i.here;
  stands = i.stands;
  wide = i.wide;
  is_width = i.is_width;
  fits = λ v fit. subst (λ n. n < 2 ^ m.width) (same v fit) (i.fits v fit);
  value = λ f v s fit. i.value f v s fit ∙ same v fit;
  reads = λ f q s some. i.reads f q s some ∙ reads q some;
}

-- ---- growing

pub grows_none : (g : Ground) (nodes : List Node) → Grows g nodes nodes
grows_none g nodes = record { more = []; whole = sym (append-nil nodes); fit = λ x. x }

pub grows_on : (g : Ground) (a b c : List Node) → Grows g a b → Grows g b c → Grows g a c
grows_on g a b c h k = record {
  more = h.more ++ k.more;
  whole = k.whole ∙ ap (λ ns. ns ++ k.more) h.whole ∙ append_assoc a h.more k.more;
  fit = λ x. k.fit (h.fit x);
}

-- a node fits these, beside all signals and memories of the ground
abbrev pub Fits : Ground → List Node → Node → Type 0
Fits g nodes x = (ss : List Signal) (ms : List PlainMemory) → AreOn g ss ms → FitsAbove ss ms nodes x

one_fits : (g : Ground) (nodes : List Node) (x : Node) → Fits g nodes x → AllFit g nodes → AllFit g (nodes ++ x ∷ [])
one_fits g nodes x new old ss ms on k d l = elim (cases_lt k (length nodes)) [
  | inl low ↦
      let same = get_or_append_left nodes (x ∷ []) d k low in
      let front = take-append-le k nodes (x ∷ []) (omega (arith, low)) in
      subst (λ ns. FitsAbove ss ms ns (slice_index_or (nodes ++ x ∷ []) k d)) (sym front)
      (subst (λ y. FitsAbove ss ms (take k nodes) y) (sym same) (old ss ms on k d low))
  | inr high ↦
      let e : length nodes ≡ k = omega (arith, high, l, length_push nodes x) in
      let same = get_or-append_seam nodes x [] d in
      let front = take-append_seam nodes (x ∷ []) in
      subst (λ i. NodeFits ss ms (nodes ++ x ∷ []) i (slice_index_or (nodes ++ x ∷ []) i d)) e
      (subst (λ ns. FitsAbove ss ms ns (slice_index_or (nodes ++ x ∷ []) (length nodes) d)) (sym front)
      (subst (λ y. FitsAbove ss ms nodes y) (sym same) (new ss ms on)))
]

pub grows_one : (g : Ground) (nodes new : List Node) (x : Node) → new ≡ nodes ++ x ∷ [] → Fits g nodes x → Grows g nodes new
grows_one g nodes new x e fits = record {
  more = x ∷ [];
  whole = e;
  fit = λ old. subst (λ ns. AllFit g ns) (sym e) (one_fits g nodes x fits old);
}

-- ---- operands

pub has_node : (g : Ground) (nodes : List Node) (m : Made) (x : Sense) (P : ℕ → Type 0) → Is g nodes m x → P m.width
    → HasNode nodes m.node P
has_node g nodes m x P i h = subst (λ o. IsSomeAnd o (λ y. P y.width)) (sym i.stands) (subst P (sym i.wide) h)

pub width_is : (g : Ground) (nodes : List Node) (m : Made) (x : Sense) (f : Flat) → Is g nodes m x → GoesOn g nodes f
    → width_at f.nodes m.node ≡ m.width
width_is g nodes m x f i s =
    ap (λ o. unwrap_or (option_map (λ (y : Node). y.width) o) 0) (s.begins m.node i.here i.stands) ∙ i.wide

-- ---- one node more

-- what a node is worth, and what it reads, in designs that go on from the lower ones
abbrev pub IsWorth : Ground → List Node → Node → Sense → Type 0
IsWorth g nodes x s = (f : Flat) (v : Values) → GoesOn g nodes f → ValuesFit g v
    → node_value f v (node_values f v) x ≡ s.value v

abbrev pub IsRead : Ground → List Node → Node → Sense → Type 0
IsRead g nodes x s = (f : Flat) (q : Range) → GoesOn g nodes f → 1 ≤ q.width
    → node_reads q (nodes_read q [] f.nodes) x ≡ s.reads q

-- over all values that fit a sense's number is within a width
abbrev pub Bounded : Ground → ℕ → Sense → Type 0
Bounded g w s = (v : Values) → ValuesFit g v → s.value v < 2 ^ w

last_is : (g : Ground) (nodes new : List Node) (x : Node) (s : Sense) → new ≡ nodes ++ x ∷ [] → IsWidth x.width
    → Bounded g x.width s → IsWorth g nodes x s → IsRead g nodes x s → Is g new (record { node = length nodes; width = x.width }) s
last_is g nodes new x s e wide small worth read =
    let at : slice_get new (length nodes) ≡ Some x = ap (λ ns. slice_get ns (length nodes)) e ∙ last_at nodes x in
    record {
      here = x;
      stands = at;
      wide = refl;
      is_width = wide;
      fits = small;
      value = λ f v k fit. (values_law.are f v k.fits).each (length nodes) x (k.begins (length nodes) x at)
          ∙ worth f v (begins_less g nodes (x ∷ []) f (subst (λ ns. GoesOn g ns f) e k)) fit;
      reads = λ f q k some. (reads_law f q k.fits).each (length nodes) x (k.begins (length nodes) x at)
          ∙ read f q (begins_less g nodes (x ∷ []) f (subst (λ ns. GoesOn g ns f) e k)) some;
    }

pub added : {E : Type 0} (g : Ground) (nodes new : List Node) (x : Node) (s : Sense) (r : Result Made E)
    → IfOk r (λ m. m ≡ record { node = length nodes; width = x.width }) → OnOk r (new ≡ nodes ++ x ∷ []) → IsWidth x.width
    → Fits g nodes x → Bounded g x.width s → IsWorth g nodes x s → IsRead g nodes x s → IfOk r (MakesAt g nodes new x.width s)
added g nodes new x s (Ok m) number e wide fits small worth read = (
  ap (λ (k : Made). k.width) number,
  record {
    grown = grows_one g nodes new x e fits;
    is = subst (λ k. Is g new k s) (sym number) (last_is g nodes new x s e wide small worth read);
  },
)
added g nodes new x s (Err z) number e wide fits small worth read = tt

-- ---- what is read

pub or_none : (b : Bool) → b || false ≡ b
or_none true = refl
or_none false = refl
