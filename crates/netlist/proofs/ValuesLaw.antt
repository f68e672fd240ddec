-- The values that are computed one after another are those that each node has over all values.
use Rattle.std.proofs.Common.{◌≡◌, ℕ, zero, suc, ◌+◌, ◌<◌, List, [], ◌∷◌, ◌++◌, length, take, refl, sym, ap, ◌∙◌, subst, arith, append-nil, append_assoc}
use Rattle.std.specs.Prelude.{Option, None, Some, slice_get, slice_index, IsSomeAnd}
use Rattle.std.proofs.Math.Seq.{get_or-append_seam}
use Rattle.std.proofs.lemmas.List.{get_or_append_left, length_push, length-take-le}
use Rattle.std.proofs.lemmas.Option.{slice_get_within, get_or_from_slice_get}
use Rattle.netlist.specs.Design.{Flat}
use Rattle.netlist.specs.Plain.{PlainMemory}
use Rattle.netlist.specs.Fits.{IsWellFormed, OperationFits, HasNode, NodeFits}
use Rattle.netlist.specs.Values.{Values, operation_value, node_value, node_values, values_from}
use Rattle.netlist.specs.Laws.{ValuesLaw}
use Rattle.netlist.specs.declared.design.Signal.{Signal}
use Rattle.netlist.specs.declared.node.Node.{Node}
use Rattle.netlist.specs.declared.node.Operation.{Operation}
use Rattle.netlist.specs.declared.node.Operation.TheVariants as o

-- ---- an operation reads values of lower nodes alone

abbrev pub Reads : ℕ → Operation → Type 0
Reads n (o.Constant value) = Unit {0}
Reads n (o.Bits range) = Unit {0}
Reads n (o.Word memory index) = index.node < n
Reads n (o.Unary operator a) = a < n
Reads n (o.Binary operator signed a b) = (a < n) × (b < n)
Reads n (o.Extend signed a) = a < n
Reads n (o.Cut a) = a < n
Reads n (o.Select a place) = (a < n) × (place.node < n)
Reads n (o.Insert a place b) = (a < n) × (place.node < n) × (b < n)
Reads n (o.Concat a b) = (a < n) × (b < n)
Reads n (o.Choose c a b) = (c < n) × (a < n) × (b < n)
Reads n (o.Keep a b) = (a < n) × (b < n)

some_within : (xs : List Node) (k : ℕ) (P : Node → Type 0) → IsSomeAnd (slice_get xs k) P → k < length xs
some_within [] k P h = absurd h
some_within (x ∷ xs) zero P h = omega arith
some_within (x ∷ xs) (suc k) P h = omega (arith, some_within xs k P h)

within : (lower : List Node) (k : ℕ) (P : ℕ → Type 0) → HasNode lower k P → k < length lower
within lower k P h = some_within lower k (λ x. P x.width) h

-- the inner one of two nodes is there
inner_within : (lower : List Node) (b : ℕ) (Q : ℕ → ℕ → Type 0) (x : Option Node)
    → IsSomeAnd x (λ y. HasNode lower b (Q y.width)) → b < length lower
inner_within lower b Q None h = absurd h
inner_within lower b Q (Some y) h = within lower b (Q y.width) h

second_within : (lower : List Node) (b : ℕ) (P : ℕ → Type 0) (Q : ℕ → ℕ → Type 0) (x : Option Node)
    → IsSomeAnd x (λ y. P y.width × HasNode lower b (Q y.width)) → b < length lower
second_within lower b P Q None h = absurd h
second_within lower b P Q (Some y) h = within lower b (Q y.width) h.1

reads_lower : (ss : List Signal) (ms : List PlainMemory) (lower : List Node) (w : ℕ) (x : Operation)
    → OperationFits ss ms lower w x → Reads (length lower) x
reads_lower ss ms lower w (o.Constant value) f = tt
reads_lower ss ms lower w (o.Bits range) f = tt
reads_lower ss ms lower w (o.Word memory index) f = within lower index.node _ f.1
reads_lower ss ms lower w (o.Unary operator a) f = within lower a _ f
reads_lower ss ms lower w (o.Binary operator signed a b) f =
    (within lower a _ f, second_within lower b _ _ (slice_get lower a) f)
reads_lower ss ms lower w (o.Extend signed a) f = within lower a _ f
reads_lower ss ms lower w (o.Cut a) f = within lower a _ f
reads_lower ss ms lower w (o.Select a place) f = (within lower a _ f.0, within lower place.node _ f.1)
reads_lower ss ms lower w (o.Insert a place b) f =
    (within lower a _ f.0, within lower place.node _ f.1, within lower b _ f.2)
reads_lower ss ms lower w (o.Concat a b) f = (within lower a _ f, inner_within lower b _ (slice_get lower a) f)
reads_lower ss ms lower w (o.Choose c a b) f = (within lower c _ f.0, within lower a _ f.1, within lower b _ f.2)
reads_lower ss ms lower w (o.Keep a b) f = (within lower a _ f.0, within lower b _ f.1)

-- a value stands where it stood when more come after it
stays : (done more : List ℕ) (a : ℕ) → a < length done → slice_index (done ++ more) a ≡ slice_index done a
stays done more a l = get_or_append_left done more 0 a l

-- so an operation has the same value
value_kept : (f : Flat) (v : Values) (done more : List ℕ) (w : ℕ) (x : Operation) → Reads (length done) x
    → operation_value f v (done ++ more) w x ≡ operation_value f v done w x
value_kept f v done more w (o.Constant value) r = refl
value_kept f v done more w (o.Bits range) r = refl
value_kept f v done more w (o.Word memory index) r = rw (stays done more index.node r) refl
value_kept f v done more w (o.Unary operator a) r = rw (stays done more a r) refl
value_kept f v done more w (o.Binary operator signed a b) r =
    rw (stays done more a r.0) (simp (stays done more b r.1) refl)
value_kept f v done more w (o.Extend signed a) r = rw (stays done more a r) refl
value_kept f v done more w (o.Cut a) r = rw (stays done more a r) refl
value_kept f v done more w (o.Select a place) r =
    rw (stays done more a r.0) (simp (stays done more place.node r.1) refl)
value_kept f v done more w (o.Insert a place b) r =
    simp (stays done more a r.0, stays done more place.node r.1, stays done more b r.2) refl
value_kept f v done more w (o.Concat a b) r =
    rw (stays done more a r.0) (simp (stays done more b r.1) refl)
value_kept f v done more w (o.Choose c a b) r =
    simp (stays done more c r.0, stays done more a r.1, stays done more b r.2) refl
value_kept f v done more w (o.Keep a b) r = stays done more a r.0

-- ---- one value after another

-- the nodes that are left read lower ones, so many standing before them
abbrev pub AllRead : ℕ → List Node → Type 0
AllRead d xs = (k : ℕ) (x : Node) → slice_get xs k ≡ Some x → Reads (d + k) x.operation

-- these are the values of the nodes that are left
abbrev Hold : Flat → Values → ℕ → List ℕ → List Node → Type 0
Hold f v d vs xs = (k : ℕ) (x : Node) → slice_get xs k ≡ Some x → slice_index vs (d + k) ≡ node_value f v vs x

pub read_first : (d : ℕ) (x : Node) (xs : List Node) → AllRead d (x ∷ xs) → Reads d x.operation
read_first d x xs r = let e : d + 0 ≡ d = omega arith in subst (λ q. Reads q x.operation) e (r 0 x refl)

pub read_rest : {X : Type 0} (done : List X) (n : X) (x : Node) (xs : List Node) → AllRead (length done) (x ∷ xs)
    → AllRead (length (done ++ n ∷ [])) xs
read_rest done n x xs r k y at =
    let e : length done + suc k ≡ length (done ++ n ∷ []) + k = omega (arith, length_push done n) in
    subst (λ q. Reads q y.operation) e (r (suc k) y at)

-- what is computed stands after what was given, one value for each node
record Grows (f : Flat) (v : Values) (done : List ℕ) (xs : List Node) : Type 0 where
  more : List ℕ
  whole : values_from f v done xs ≡ done ++ more
  count : length more ≡ length xs

grows : (f : Flat) (v : Values) (done : List ℕ) (xs : List Node) → Grows f v done xs
grows f v done [] = record { more = []; whole = sym (append-nil done); count = refl }
grows f v done (x ∷ xs) =
    let n : ℕ = node_value f v done x in
    let g = grows f v (done ++ n ∷ []) xs in
    record {
      more = n ∷ g.more;
      whole = g.whole ∙ append_assoc done (n ∷ []) g.more;
      count = ap (λ (k : ℕ). suc k) g.count;
    }

-- what is computed are values
hold_all : (f : Flat) (v : Values) (done : List ℕ) (xs : List Node) → AllRead (length done) xs
    → Hold f v (length done) (values_from f v done xs) xs
hold_all f v done [] r k y at = absurd cc
hold_all f v done (x ∷ xs) r zero y at =
    let n : ℕ = node_value f v done x in
    let vs : List ℕ = values_from f v (done ++ n ∷ []) xs in
    let g = grows f v (done ++ n ∷ []) xs in
    let whole : vs ≡ done ++ (n ∷ g.more) = g.whole ∙ append_assoc done (n ∷ []) g.more in
    let e : length done + 0 ≡ length done = omega arith in
    let same : x ≡ y = cc in
    ap (λ q. slice_index vs q) e ∙ ap (λ ws. slice_index ws (length done)) whole
    ∙ get_or-append_seam done n g.more 0
    ∙ sym (value_kept f v done (n ∷ g.more) x.width x.operation (read_first (length done) x xs r))
    ∙ ap (λ ws. node_value f v ws x) (sym whole) ∙ ap (λ (z : Node). node_value f v vs z) same
hold_all f v done (x ∷ xs) r (suc k) y at =
    let n : ℕ = node_value f v done x in
    let e : length done + suc k ≡ length (done ++ n ∷ []) + k = omega (arith, length_push done n) in
    ap (λ q. slice_index (values_from f v (done ++ n ∷ []) xs) q) e
    ∙ hold_all f v (done ++ n ∷ []) xs (read_rest done n x xs r) k y at

-- values are what is computed
hold_rest : (f : Flat) (v : Values) (done : List ℕ) (n : ℕ) (more : List ℕ) (x : Node) (xs : List Node)
    → Hold f v (length done) (done ++ n ∷ more) (x ∷ xs)
    → Hold f v (length (done ++ n ∷ [])) ((done ++ n ∷ []) ++ more) xs
hold_rest f v done n more x xs h k y at =
    let e : length done + suc k ≡ length (done ++ n ∷ []) + k = omega (arith, length_push done n) in
    let s : done ++ n ∷ more ≡ (done ++ n ∷ []) ++ more = sym (append_assoc done (n ∷ []) more) in
    subst (λ ws. slice_index ws (length (done ++ n ∷ []) + k) ≡ node_value f v ws y) s
    (subst (λ q. slice_index (done ++ n ∷ more) q ≡ node_value f v (done ++ n ∷ more) y) e (h (suc k) y at))

computed : (f : Flat) (v : Values) (done more : List ℕ) (xs : List Node) → AllRead (length done) xs
    → Hold f v (length done) (done ++ more) xs → length more ≡ length xs → done ++ more ≡ values_from f v done xs
computed f v done [] [] r h l = append-nil done
computed f v done (n ∷ more) [] r h l = absurd (omega arith)
computed f v done [] (x ∷ xs) r h l = absurd (omega arith)
computed f v done (n ∷ more) (x ∷ xs) r h l =
    let e : length done + 0 ≡ length done = omega arith in
    let own : n ≡ node_value f v done x =
    sym (get_or-append_seam done n more 0) ∙ ap (λ q. slice_index (done ++ n ∷ more) q) (sym e) ∙ h 0 x refl
    ∙ value_kept f v done (n ∷ more) x.width x.operation (read_first (length done) x xs r) in
    sym (append_assoc done (n ∷ []) more)
    ∙ computed f v (done ++ n ∷ []) more xs (read_rest done n x xs r) (hold_rest f v done n more x xs h) (omega arith)
    ∙ ap (λ (z : ℕ). values_from f v (done ++ z ∷ []) xs) own

-- ---- of a well-formed design

pub all_read : (f : Flat) → IsWellFormed f → AllRead 0 f.nodes
all_read f w k x at =
    let there : k < length f.nodes = slice_get_within f.nodes k x at in
    let fits : NodeFits f.signals f.memories f.nodes k x =
    subst (λ y. NodeFits f.signals f.memories f.nodes k y) (get_or_from_slice_get f.nodes k x x at)
    (w.nodes k x there) in
    let count : length (take k f.nodes) ≡ 0 + k = length-take-le k f.nodes (omega arith) ∙ omega arith in
    subst (λ q. Reads q x.operation) count
    (reads_lower f.signals f.memories (take k f.nodes) x.width x.operation fits.1)

zero_more : (k : ℕ) → 0 + k ≡ k
zero_more k = omega arith

pub values_law : ValuesLaw
values_law = record {
  are = λ f v w. record {
    count = (let g = grows f v [] f.nodes in ap length g.whole ∙ g.count);
    each = λ k x at. ap (λ q. slice_index (node_values f v) q) (sym (zero_more k))
        ∙ hold_all f v [] f.nodes (all_read f w) k x at;
  };
  alone = λ f v xs w h. computed f v [] xs f.nodes (all_read f w)
      (λ k x at. ap (λ q. slice_index xs q) (zero_more k) ∙ h.each k x at) h.count;
}
