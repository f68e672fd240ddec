-- The nodes of the old design, one by one.
use Rattle.std.proofs.Common.{◌≡◌, ℕ, ◌<◌, ◌==◌, ◌&&◌, List, [], ◌∷◌, ◌++◌, length, map, get_or, inl, inr, refl, sym, ap, ◌∙◌, subst, arith}
use Rattle.std.specs.Prelude.{Result, Ok, Err, IfOk, Some, slice_get, slice_index}
use Rattle.std.specs.Option.{option_map, unwrap_or}
use Rattle.std.proofs.Math.Nat.{mod-eq_of_lt}
use Rattle.std.proofs.Math.Seq.{get_or-append_seam}
use Rattle.std.proofs.lemmas.Bool.{cases_lt}
use Rattle.std.proofs.lemmas.List.{get_or_append_left, length_push}
use Rattle.std.proofs.lemmas.Option.{slice_get-get_or}
use Rattle.bit_ops.specs.Operators.{low, add, bit, holds}
use Rattle.flat_ir.specs.FlatRun as plain
use Rattle.flat_ir.specs.Shown.{role_value}
use Rattle.flat_ir.specs.declared.design.Role.TheVariants as role
use Rattle.flat_ir.specs.declared.design.Node as old_node
use Rattle.flat_ir.specs.declared.design.Node.TheVariants as n
use Rattle.flat_ir.proofs.SettledLaws.{settles_once}
use Rattle.netlist.specs.Fits.{IsWidth}
use Rattle.netlist.specs.declared.design.Signal.{Signal}
use Rattle.netlist.specs.declared.design.Range.{Range}
use Rattle.netlist.specs.declared.node.Node.{Node}
use Rattle.one_block.specs.declared.made.Made.{Made}
use Rattle.one_block.specs.OneBlock.{input_widths, IsOneBlock}
use Rattle.one_block.specs.SameDesign.{signal_of, input_places, register_ranges, whole}
use Rattle.one_block.specs.Calls.Nodes.{Value, input_node, register_node, range_at, shown_of, node_of, made_at, HasValue, Makes, MakesAll, Stands, Led}
use Rattle.one_block.proofs.Making.{has_as, has_kept, grows_none, grows_on, made_as}
use Rattle.one_block.proofs.Signals.{input_at, register_at, mapped_at, fit_at, shown_is, zero_more}

pub node_is : (p : plain.Flat) → plain.IsWellFormed p → (k : ℕ) (x : old_node.Node) → slice_get p.nodes k ≡ Some x
    → (row state : List ℕ) → node_of p k row state ≡ plain.value row state (plain.flat_values p row state) x
node_is p well k x at row state = (settles_once.are p row state well).each k x at

-- ---- inputs and registers

-- the node of a data input has its number of the row
pub input_has : (p : plain.Flat) (signals : List Signal) (inputs : List ℕ) (registers : List Range) (nodes : List Node) (made : List Made) (i : ℕ)
    → Led p signals inputs registers nodes made → i < length inputs
    → HasValue p nodes (input_node signals inputs i) (λ row state. slice_index row i)
input_has p signals inputs registers nodes made i led l =
    let ss = p.signals in
    let q : ℕ = slice_index inputs i in
    let at : slice_get (input_places 0 ss) i ≡ Some q = ap (λ xs. slice_get xs i) (sym led.table.inputs_are) ∙ slice_get-get_or inputs i 0 l in
    let h = input_at 0 0 0 ss led.is_block.numbered i q at in
    let place : h.j ≡ q = sym (h.place ∙ zero_more h.j) in
    let width : h.s.width ≡ unwrap_or (option_map (λ (x : Signal). x.width) (slice_get signals q)) 0 =
    ap (λ o. unwrap_or (option_map (λ (x : Signal). x.width) o) 0)
    (sym (mapped_at signal_of ss h.j h.s h.at) ∙ ap (λ k. slice_get (map signal_of ss) k) place ∙ ap (λ xs. slice_get xs q) (sym led.table.signals_are)) in
    let same : record { node = h.j; width = h.s.width } ≡ input_node signals inputs i = (λ t. record { node = place t; width = width t }) in
    subst (λ (m : Made). HasValue p nodes m (λ row state. slice_index row i)) same
    (has_as p nodes (record { node = h.j; width = h.s.width }) (shown_of p h.j) (λ row state. slice_index row i) (led.stands.signals h.j h.s h.at)
    (λ row state fit. shown_is p row state h.j h.s h.at
    ∙ ap (λ x. low h.s.width (role_value row state x)) (h.shows ∙ ap role.Input (zero_more i))
    ∙ mod-eq_of_lt (fit_at (input_widths ss) row i h.s.width fit.inputs h.wide)))

-- the node of a register has its number of the state, which is within its width
pub register_has : (p : plain.Flat) (registers : List Range) (nodes : List Node) (made : List Made) (r : ℕ) → IsOneBlock p
    → registers ≡ register_ranges 0 p.signals → Stands p nodes made → r < length registers
    → HasValue p nodes (register_node registers r) (λ row state. slice_index state r)
register_has p registers nodes made r block are stands l =
    let ss = p.signals in
    let range : Range = range_at registers r in
    let at : slice_get (register_ranges 0 ss) r ≡ Some range =
    ap (λ xs. slice_get xs r) (sym are) ∙ slice_get-get_or registers r (record { signal = 0; low = 0; width = 0 }) l in
    let h = register_at 0 0 0 ss block.numbered r range at in
    let place : whole h.j h.s.width ≡ range = ap (λ k. whole k h.s.width) (sym (zero_more h.j)) ∙ sym h.place in
    let same : record { node = h.j; width = h.s.width } ≡ register_node registers r =
    ap (λ (x : Range). record { node = x.signal; width = x.width }) place in
    subst (λ (m : Made). HasValue p nodes m (λ row state. slice_index state r)) same
    (has_as p nodes (record { node = h.j; width = h.s.width }) (shown_of p h.j) (λ row state. slice_index state r) (stands.signals h.j h.s h.at)
    (λ row state fit. shown_is p row state h.j h.s h.at
    ∙ ap (λ x. low h.s.width (role_value row state x)) (h.shows ∙ ap role.Register (zero_more r))
    ∙ mod-eq_of_lt (fit_at p.registers state r h.s.width fit.registers (ap (λ ws. slice_get ws r) block.registers ∙ h.wide))))

-- ---- a node more

module _ (p : plain.Flat) (signals : List Signal) (inputs : List ℕ) (registers : List Range) (from : List Node) (made : List Made) (x : old_node.Node)
    (at : slice_get p.nodes (length made) ≡ Some x) (led : Led p signals inputs registers from made)
    (fits : plain.NodeFits (length inputs) (length registers) (length made) x) where
  -- a value of the old operation is that of the node
  as_node : {E : Type 0} (to : List Node) (v : Value) (y : old_node.Node) (r : Result Made E) → x ≡ y → IfOk r (λ m. Makes p from to m v)
      → ((row state : List ℕ) → v row state ≡ plain.value row state (plain.flat_values p row state) y)
      → IfOk r (λ m. Makes p from to m (node_of p (length made)))
  as_node to v y r e h same = made_as p from to v (node_of p (length made)) r h
      (λ row state fit. same row state ∙ sym (node_is p led.well (length made) y (at ∙ ap Some e) row state))

  fits_as : (y : old_node.Node) → x ≡ y → plain.NodeFits (length inputs) (length registers) (length made) y
  fits_as y e = subst (plain.NodeFits (length inputs) (length registers) (length made)) e fits

  pub sum_node : {E : Type 0} (to : List Node) (a b w : ℕ) (r : Result Made E) → x ≡ n.Sum a b w
      → ((u v : Value) → IsWidth w → HasValue p from (made_at made a) u → HasValue p from (made_at made b) v
      → IfOk r (λ m. Makes p from to m (λ row state. add w (u row state) (v row state))))
      → IfOk r (λ m. Makes p from to m (node_of p (length made)))
  sum_node to a b w r e h =
      let f = fits_as (n.Sum a b w) e in
      as_node to (λ row state. add w (node_of p a row state) (node_of p b row state)) (n.Sum a b w) r e
      (h (node_of p a) (node_of p b) (f.2, f.3) (led.stands.each a f.0) (led.stands.each b f.1)) (λ row state. refl)

  pub equal_node : {E : Type 0} (to : List Node) (a b : ℕ) (r : Result Made E) → x ≡ n.Equal a b
      → ((u v : Value) → HasValue p from (made_at made a) u → HasValue p from (made_at made b) v
      → IfOk r (λ m. Makes p from to m (λ row state. bit (u row state == v row state))))
      → IfOk r (λ m. Makes p from to m (node_of p (length made)))
  equal_node to a b r e h =
      let f = fits_as (n.Equal a b) e in
      as_node to (λ row state. bit (node_of p a row state == node_of p b row state)) (n.Equal a b) r e
      (h (node_of p a) (node_of p b) (led.stands.each a f.0) (led.stands.each b f.1)) (λ row state. refl)

  pub and_node : {E : Type 0} (to : List Node) (a b : ℕ) (r : Result Made E) → x ≡ n.And a b
      → ((u v : Value) → HasValue p from (made_at made a) u → HasValue p from (made_at made b) v
      → IfOk r (λ m. Makes p from to m (λ row state. bit (holds (u row state) && holds (v row state)))))
      → IfOk r (λ m. Makes p from to m (node_of p (length made)))
  and_node to a b r e h =
      let f = fits_as (n.And a b) e in
      as_node to (λ row state. bit (holds (node_of p a row state) && holds (node_of p b row state))) (n.And a b) r e
      (h (node_of p a) (node_of p b) (led.stands.each a f.0) (led.stands.each b f.1)) (λ row state. refl)

  pub not_node : {E : Type 0} (to : List Node) (a : ℕ) (r : Result Made E) → x ≡ n.Not a
      → ((v : Value) → HasValue p from (made_at made a) v → IfOk r (λ m. Makes p from to m (λ row state. bit (v row state == 0))))
      → IfOk r (λ m. Makes p from to m (node_of p (length made)))
  not_node to a r e h =
      as_node to (λ row state. bit (node_of p a row state == 0)) (n.Not a) r e
      (h (node_of p a) (led.stands.each a (fits_as (n.Not a) e))) (λ row state. refl)

  pub cut_node : {E : Type 0} (to : List Node) (a w : ℕ) (r : Result Made E) → x ≡ n.Cut a w
      → ((v : Value) → IsWidth w → HasValue p from (made_at made a) v
      → IfOk r (λ m. (m.width ≡ w) × Makes p from to m (λ row state. low w (v row state))))
      → IfOk r (λ m. Makes p from to m (node_of p (length made)))
  cut_node to a w (Err z) e h = tt
  cut_node to a w (Ok m) e h =
      let f = fits_as (n.Cut a w) e in
      let r : Result Made Unit = Ok m in
      as_node to (λ row state. low w (node_of p a row state)) (n.Cut a w) r e
      (h (node_of p a) (f.1, f.2) (led.stands.each a f.0)).1 (λ row state. refl)

  pub constant_node : {E : Type 0} (to : List Node) (value : ℕ) (r : Result Made E) → x ≡ n.Constant value
      → IfOk r (λ m. Makes p from to m (λ row state. value)) → IfOk r (λ m. Makes p from to m (node_of p (length made)))
  constant_node to value r e h = as_node to (λ row state. value) (n.Constant value) r e h (λ row state. refl)

  pub input_node_made : (i : ℕ) → x ≡ n.Input i → Makes p from from (input_node signals inputs i) (node_of p (length made))
  input_node_made i e = record {
    grown = grows_none (map signal_of p.signals) from;
    has = has_as p from (input_node signals inputs i) (λ row state. slice_index row i) (node_of p (length made))
        (input_has p signals inputs registers from made i led (fits_as (n.Input i) e))
        (λ row state fit. sym (node_is p led.well (length made) (n.Input i) (at ∙ ap Some e) row state));
  }

  pub register_node_made : (i : ℕ) → x ≡ n.Register i → Makes p from from (register_node registers i) (node_of p (length made))
  register_node_made i e = record {
    grown = grows_none (map signal_of p.signals) from;
    has = has_as p from (register_node registers i) (λ row state. slice_index state i) (node_of p (length made))
        (register_has p registers from made i led.is_block led.table.registers_are led.stands (fits_as (n.Register i) e))
        (λ row state fit. sym (node_is p led.well (length made) (n.Register i) (at ∙ ap Some e) row state));
  }

-- ---- all nodes

-- the old node behind those that have theirs
pub node_here : (p : plain.Flat) (nodes : List old_node.Node) (i k : ℕ) (d : old_node.Node) → nodes ≡ p.nodes → k ≡ i → i < length nodes
    → slice_get p.nodes k ≡ Some (get_or nodes i d)
node_here p nodes i k d are same l =
    ap (slice_get p.nodes) same ∙ ap (λ xs. slice_get xs i) (sym are) ∙ slice_get-get_or nodes i d l

-- one node more has its own
pub made_more : (p : plain.Flat) (signals : List Signal) (inputs : List ℕ) (registers : List Range) (n0 n1 n2 : List Node) (made new : List Made) (m : Made)
    → Led p signals inputs registers n0 [] → MakesAll p n0 n1 made
    → (Led p signals inputs registers n1 made → Makes p n1 n2 m (node_of p (length made))) → new ≡ made ++ m ∷ [] → MakesAll p n0 n2 new
made_more p signals inputs registers n0 n1 n2 made new m led old step is =
    let ss = map signal_of p.signals in
    let h = step (record { is_block = led.is_block; well = led.well; table = led.table; stands = old.stands }) in
    record {
      grown = grows_on ss n0 n1 n2 old.grown h.grown;
      stands = record {
        signals = λ k s at. has_kept p ss n1 n2 _ _ h.grown (old.stands.signals k s at);
        each = λ k l. subst (λ ms. HasValue p n2 (made_at ms k) (node_of p k)) (sym is) (elim (cases_lt k (length made)) [
          | inl low ↦
              subst (λ x. HasValue p n2 x (node_of p k)) (sym (get_or_append_left made (m ∷ []) _ k low))
              (has_kept p ss n1 n2 _ _ h.grown (old.stands.each k low))
          | inr high ↦
              let e : length made ≡ k = omega (arith, high, l, ap length is, length_push made m) in
              subst (λ i. HasValue p n2 (made_at (made ++ m ∷ []) i) (node_of p i)) e
              (subst (λ x. HasValue p n2 x (node_of p (length made))) (sym (get_or-append_seam made m [] _)) h.has)
        ]);
      };
    }
