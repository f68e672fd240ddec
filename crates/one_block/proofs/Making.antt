-- Nodes that are added at the end, and the values that they have in each design that goes on from there.
use Rattle.std.proofs.Common.{◌≡◌, ℕ, zero, suc, ◌<◌, ◌^◌, List, [], ◌∷◌, ◌++◌, length, map, take, refl, sym, ap, ◌∙◌, subst, arith, append-nil, append_assoc, inl, inr}
use Rattle.std.specs.Prelude.{Result, Ok, Err, IfOk, OnOk, Some, slice_get, slice_index_or, IsSomeAnd}
use Rattle.std.specs.Option.{option_map, unwrap_or}
use Rattle.std.proofs.Math.Seq.{get_or-append_seam, take-append_seam}
use Rattle.std.proofs.lemmas.Bool.{cases_lt}
use Rattle.std.proofs.lemmas.List.{get_or_append_left, length_push, take-append-le}
use Rattle.flat_ir.specs.FlatRun as plain
use Rattle.netlist.specs.Design.{Flat}
use Rattle.netlist.specs.Fits.{HasNode, IsWidth, FitsAbove, NodeFits}
use Rattle.netlist.specs.Values.{node_value, node_values, width_at}
use Rattle.netlist.specs.declared.design.Signal.{Signal}
use Rattle.netlist.specs.declared.node.Node.{Node}
use Rattle.netlist.proofs.ValuesLaw.{values_law}
use Rattle.one_block.specs.declared.made.Made.{Made}
use Rattle.one_block.specs.OneBlock.{Fits}
use Rattle.one_block.specs.SameDesign.{signal_of, values_of}
use Rattle.one_block.specs.Calls.Nodes.{Value, GoesOn, HasValue, NodesFit, Grows, Makes}

-- ---- what stands stays

pub kept_at : {X : Type 0} (xs more : List X) (k : ℕ) (x : X) → slice_get xs k ≡ Some x → slice_get (xs ++ more) k ≡ Some x
kept_at [] more k x at = absurd cc
kept_at (y ∷ ys) more zero x at = at
kept_at (y ∷ ys) more (suc k) x at = kept_at ys more k x at

pub last_at : {X : Type 0} (xs : List X) (x : X) → slice_get (xs ++ x ∷ []) (length xs) ≡ Some x
last_at [] x = refl
last_at (y ∷ ys) x = last_at ys x

pub begins_less : (nodes more : List Node) (f : Flat) → GoesOn (nodes ++ more) f → GoesOn nodes f
begins_less nodes more f g = record { fits = g.fits; begins = λ k x at. g.begins k x (kept_at nodes more k x at) }

pub goes_on : (ss : List Signal) (from to : List Node) (f : Flat) → Grows ss from to → GoesOn to f → GoesOn from f
goes_on ss from to f g s = begins_less from g.more f (subst (λ ns. GoesOn ns f) g.whole s)

pub has_kept : (p : plain.Flat) (ss : List Signal) (from to : List Node) (m : Made) (v : Value) → Grows ss from to
    → HasValue p from m v → HasValue p to m v
has_kept p ss from to m v g h = record {
  here = h.here;
  stands = subst (λ ns. slice_get ns m.node ≡ Some h.here) (sym g.whole) (kept_at from g.more m.node h.here h.stands);
  wide = h.wide;
  is_width = h.is_width;
  below = h.below;
  is = λ f row state s fit. h.is f row state (goes_on ss from to f g s) fit;
}

pub has_as : (p : plain.Flat) (nodes : List Node) (m : Made) (v u : Value) → HasValue p nodes m v
    → ((row state : List ℕ) → Fits p row state → v row state ≡ u row state) → HasValue p nodes m u
has_as p nodes m v u h e = record {
  here = h.here;
  stands = h.stands;
  wide = h.wide;
  is_width = h.is_width;
  below = λ row state fit. subst (λ k. k < 2 ^ m.width) (e row state fit) (h.below row state fit);
  is = λ f row state s fit. h.is f row state s fit ∙ e row state fit;
}

-- ---- growing

pub grows_none : (ss : List Signal) (nodes : List Node) → Grows ss nodes nodes
grows_none ss nodes = record { more = []; whole = sym (append-nil nodes); fit = λ x. x }

pub grows_on : (ss : List Signal) (a b c : List Node) → Grows ss a b → Grows ss b c → Grows ss a c
grows_on ss a b c g h = record {
  more = g.more ++ h.more;
  whole = h.whole ∙ ap (λ ns. ns ++ h.more) g.whole ∙ append_assoc a g.more h.more;
  fit = λ x. h.fit (g.fit x);
}

one_fits : (ss : List Signal) (nodes : List Node) (x : Node) → FitsAbove ss [] nodes x → NodesFit ss nodes → NodesFit ss (nodes ++ x ∷ [])
one_fits ss nodes x new old k d l = elim (cases_lt k (length nodes)) [
  | inl low ↦
      let same = get_or_append_left nodes (x ∷ []) d k low in
      let front = take-append-le k nodes (x ∷ []) (omega (arith, low)) in
      subst (λ ns. FitsAbove ss [] ns (slice_index_or (nodes ++ x ∷ []) k d)) (sym front)
      (subst (λ y. FitsAbove ss [] (take k nodes) y) (sym same) (old k d low))
  | inr high ↦
      let e : length nodes ≡ k = omega (arith, high, l, length_push nodes x) in
      let same = get_or-append_seam nodes x [] d in
      let front = take-append_seam nodes (x ∷ []) in
      subst (λ i. NodeFits ss [] (nodes ++ x ∷ []) i (slice_index_or (nodes ++ x ∷ []) i d)) e
      (subst (λ ns. FitsAbove ss [] ns (slice_index_or (nodes ++ x ∷ []) (length nodes) d)) (sym front)
      (subst (λ y. FitsAbove ss [] nodes y) (sym same) new))
]

pub grows_one : (ss : List Signal) (nodes new : List Node) (x : Node) → new ≡ nodes ++ x ∷ [] → FitsAbove ss [] nodes x
    → Grows ss nodes new
grows_one ss nodes new x e fits = record {
  more = x ∷ [];
  whole = e;
  fit = λ old. subst (λ ns. NodesFit ss ns) (sym e) (one_fits ss nodes x fits old);
}

-- ---- operands

pub has_node : (nodes : List Node) (k : ℕ) (y : Node) (P : ℕ → Type 0) → slice_get nodes k ≡ Some y → P y.width → HasNode nodes k P
has_node nodes k y P at h = subst (λ o. IsSomeAnd o (λ x. P x.width)) (sym at) h

pub width_is : (p : plain.Flat) (nodes : List Node) (m : Made) (v : Value) (f : Flat) → HasValue p nodes m v → GoesOn nodes f
    → width_at f.nodes m.node ≡ m.width
width_is p nodes m v f h g = ap (λ o. unwrap_or (option_map (λ (x : Node). x.width) o) 0) (g.begins m.node h.here h.stands) ∙ h.wide

-- ---- one node more

-- what the node that was added is worth
abbrev pub IsWorth : plain.Flat → List Node → Node → Value → Type 0
IsWorth p new x v = (f : Flat) (row state : List ℕ) → GoesOn new f → Fits p row state
    → node_value f (values_of p row state) (node_values f (values_of p row state)) x ≡ v row state

abbrev pub IsBelow : plain.Flat → ℕ → Value → Type 0
IsBelow p width v = (row state : List ℕ) → Fits p row state → v row state < 2 ^ width

last_has : (p : plain.Flat) (nodes new : List Node) (x : Node) (v : Value) → new ≡ nodes ++ x ∷ [] → IsWidth x.width
    → IsBelow p x.width v → IsWorth p new x v → HasValue p new (record { node = length nodes; width = x.width }) v
last_has p nodes new x v e wide below worth =
    let at : slice_get new (length nodes) ≡ Some x = ap (λ ns. slice_get ns (length nodes)) e ∙ last_at nodes x in
    record {
      here = x;
      stands = at;
      wide = refl;
      is_width = wide;
      below = below;
      is = λ f row state g fit.
          (values_law.are f (values_of p row state) g.fits).each (length nodes) x (g.begins (length nodes) x at)
          ∙ worth f row state g fit;
    }

-- nodes were added, and this one, of this width, has this value
abbrev pub MakesAt : plain.Flat → List Node → List Node → ℕ → Value → Made → Type 0
MakesAt p from to width v m = (m.width ≡ width) × Makes p from to m v

pub added : {E : Type 0} (p : plain.Flat) (from nodes new : List Node) (x : Node) (v : Value) (r : Result Made E)
    → Grows (map signal_of p.signals) from nodes → IfOk r (λ m. m ≡ record { node = length nodes; width = x.width })
    → OnOk r (new ≡ nodes ++ x ∷ []) → FitsAbove (map signal_of p.signals) [] nodes x → IsBelow p x.width v → IsWorth p new x v
    → IfOk r (λ m. MakesAt p from new x.width v m)
added p from nodes new x v (Ok m) g number e fits below worth = (
  ap (λ (k : Made). k.width) number,
  record {
    grown = grows_on _ from nodes new g (grows_one _ nodes new x e fits);
    has = subst (λ k. HasValue p new k v) (sym number) (last_has p nodes new x v e fits.0 below worth);
  },
)
added p from nodes new x v (Err z) g number e fits below worth = tt

-- the same without the width
pub only_made : {E : Type 0} (p : plain.Flat) (from to : List Node) (width : ℕ) (v : Value) (r : Result Made E)
    → IfOk r (λ m. MakesAt p from to width v m) → IfOk r (λ m. Makes p from to m v)
only_made p from to width v (Ok m) h = h.1
only_made p from to width v (Err z) h = tt

pub makes_as : (p : plain.Flat) (from to : List Node) (m : Made) (v u : Value) → Makes p from to m v
    → ((row state : List ℕ) → Fits p row state → v row state ≡ u row state) → Makes p from to m u
makes_as p from to m v u h e = record { grown = h.grown; has = has_as p to m v u h.has e }

pub made_as : {E : Type 0} (p : plain.Flat) (from to : List Node) (v u : Value) (r : Result Made E)
    → IfOk r (λ m. Makes p from to m v) → ((row state : List ℕ) → Fits p row state → v row state ≡ u row state)
    → IfOk r (λ m. Makes p from to m u)
made_as p from to v u (Ok m) h e = makes_as p from to m v u h e
made_as p from to v u (Err z) h e = tt
