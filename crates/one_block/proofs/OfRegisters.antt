-- What each register takes, write by write.
use Rattle.std.proofs.Common.{◌≡◌, ℕ, suc, ◌+◌, ◌<◌, Bool, true, false, if◌then◌else◌, List, [], ◌∷◌, ◌++◌, length, map, take, get_or, inl, inr, refl, sym, ap, ◌∙◌, subst, arith, get_or-set_other, get_or-set_same, length-set}
use Rattle.std.specs.Prelude.{Some, slice_index, slice_set}
use Rattle.std.proofs.lemmas.Bool.{cases_eq}
use Rattle.std.proofs.Math.Seq.{take-suc}
use Rattle.std.proofs.lemmas.List.{length-map}
use Rattle.std.proofs.lemmas.Option.{slice_get-get_or}
use Rattle.bit_ops.specs.Operators.{low, holds}
use Rattle.flat_ir.specs.FlatRun as plain
use Rattle.flat_ir.specs.declared.design.Action.{Action}
use Rattle.flat_ir.specs.declared.design.Deed.{Deed}
use Rattle.flat_ir.specs.declared.design.Deed.TheVariants as d
use Rattle.netlist.specs.declared.design.Range.{Range}
use Rattle.netlist.specs.declared.node.Node.{Node}
use Rattle.one_block.specs.declared.made.Made.{Made}
use Rattle.one_block.specs.OneBlock.{IsOneBlock}
use Rattle.one_block.specs.SameDesign.{signal_of, register_ranges}
use Rattle.one_block.specs.Calls.Nodes.{Value, range_at, register_node, node_of, HasValue, Stands}
use Rattle.one_block.specs.Calls.Registers.{ActionFits, ActionsFit, after_of, AreNext, Takes}
use Rattle.one_block.proofs.Making.{has_as, has_kept, grows_none, grows_on, MakesAt}
use Rattle.one_block.proofs.Signals.{fit_length, register_count, mapped_at, number_at}
use Rattle.one_block.proofs.OldNodes.{register_has}
use Rattle.one_block.proofs.OfOperators.{low_same}

-- ---- the old state, action by action

pub after_more : (vs : List ℕ) (done : List Action) (a : Action) (state : List ℕ)
    → plain.after_actions vs (done ++ a ∷ []) state ≡ plain.after_action vs a (plain.after_actions vs done state)
after_more vs [] a state = refl
after_more vs (x ∷ done) a state = after_more vs done a (plain.after_action vs x state)

deed_length : (vs : List ℕ) (x : Deed) (state : List ℕ) → length (plain.after_deed vs x state) ≡ length state
deed_length vs (d.Write r a) state = length-set state r (slice_index vs a)
deed_length vs (d.Say format shown) state = refl
deed_length vs (d.Stop line) state = refl

done_length : (b : Bool) (vs : List ℕ) (x : Deed) (state : List ℕ)
    → length (if b then plain.after_deed vs x state else state) ≡ length state
done_length true vs x state = deed_length vs x state
done_length false vs x state = refl

pub after_length : (vs : List ℕ) (actions : List Action) (state : List ℕ) → length (plain.after_actions vs actions state) ≡ length state
after_length vs [] state = refl
after_length vs (a ∷ as') state =
    after_length vs as' (plain.after_action vs a state) ∙ done_length (plain.is_done vs a) vs a.deed state

-- ---- before the first action

-- each register's own node has what it holds
pub own_next : (p : plain.Flat) (nodes : List Node) (made : List Made) (ranges : List Range) (next : List ℕ) → IsOneBlock p
    → ranges ≡ register_ranges 0 p.signals → Stands p nodes made → length next ≡ length ranges
    → ((r : ℕ) → r < length ranges → slice_index next r ≡ (range_at ranges r).signal) → AreNext p nodes ranges next []
own_next p nodes made ranges next block are stands count own = record {
  count = count;
  each = λ r l.
      let h = register_has p ranges nodes made r block are stands l in
      let same : register_node ranges r ≡ record { node = slice_index next r; width = (range_at ranges r).width } =
      ap (λ k. record { node = k; width = (range_at ranges r).width }) (sym (own r l)) in
      has_as p nodes _ (λ row state. slice_index state r) (after_of p [] (range_at ranges r).width r)
      (subst (λ (m : Made). HasValue p nodes m (λ row state. slice_index state r)) same h)
      (λ row state fit. sym (low_same (range_at ranges r).width (range_at ranges r).width (slice_index state r) (h.below row state fit) (omega arith)));
}

-- ---- one action more

-- the state of an action that writes nothing
quiet : (b : Bool) (state : List ℕ) → (if b then state else state) ≡ state
quiet true state = refl
quiet false state = refl

-- where no register is written, each has what it had
pub not_written : (p : plain.Flat) (nodes : List Node) (ranges : List Range) (next : List ℕ) (done : List Action) (a : Action)
    → ((vs state : List ℕ) → plain.after_deed vs a.deed state ≡ state) → AreNext p nodes ranges next done
    → Takes p nodes nodes ranges next (done ++ a ∷ [])
not_written p nodes ranges next done a still h = record {
  grown = grows_none (map signal_of p.signals) nodes;
  takes = record {
    count = h.count;
    each = λ r l. has_as p nodes _ (after_of p done (range_at ranges r).width r) (after_of p (done ++ a ∷ []) (range_at ranges r).width r) (h.each r l)
        (λ row state fit.
        let vs = plain.flat_values p row state in
        ap (λ s. low (range_at ranges r).width (slice_index s r))
        (sym (after_more vs done a state
        ∙ ap (λ s. if plain.is_done vs a then s else plain.after_actions vs done state) (still vs (plain.after_actions vs done state))
        ∙ quiet (plain.is_done vs a) (plain.after_actions vs done state))));
  };
}

-- the value of the register that is written, and of another
written_here : (b : Bool) (w r x : ℕ) (state : List ℕ) → r < length state
    → (if b then low w x else low w (slice_index state r)) ≡ low w (slice_index (if b then slice_set state r x else state) r)
written_here true w r x state l = ap (low w) (sym (get_or-set_same state r x 0 l))
written_here false w r x state l = refl

written_there : (b : Bool) (r q x : ℕ) (state : List ℕ) → (q ≡ r → ⊥) → slice_index (if b then slice_set state r x else state) q ≡ slice_index state q
written_there true r q x state other = get_or-set_other state r q x 0 other
written_there false r q x state other = refl

pub written : (p : plain.Flat) (from to : List Node) (ranges : List Range) (next : List ℕ) (done : List Action) (a : Action) (r v : ℕ) (m : Made)
    → a.deed ≡ d.Write r v → r < length ranges → length ranges ≡ length p.registers → AreNext p from ranges next done
    → MakesAt p from to (range_at ranges r).width
    (λ row state. if holds (node_of p a.condition row state) then low (range_at ranges r).width (node_of p v row state) else after_of p done (range_at ranges r).width r row state) m
    → Takes p from to ranges (slice_set next r m.node) (done ++ a ∷ [])
written p from to ranges next done a r v m is l count h made =
    let ss = map signal_of p.signals in
    let there : r < length next = omega (arith, l, h.count) in
    let after : (row state : List ℕ) → plain.after_actions (plain.flat_values p row state) (done ++ a ∷ []) state
    ≡ (if holds (node_of p a.condition row state) then slice_set (plain.after_actions (plain.flat_values p row state) done state) r (node_of p v row state) else plain.after_actions (plain.flat_values p row state) done state)
    = λ row state.
    let vs = plain.flat_values p row state in
    after_more vs done a state
    ∙ ap (λ x. if plain.is_done vs a then plain.after_deed vs x (plain.after_actions vs done state) else plain.after_actions vs done state) is in
    let value : Value = λ row state.
    if holds (node_of p a.condition row state) then low (range_at ranges r).width (node_of p v row state)
    else after_of p done (range_at ranges r).width r row state in
    record {
      grown = made.1.grown;
      takes = record {
        count = length-set next r m.node ∙ h.count;
        each = λ q lq. elim (cases_eq q r) [
          | inl same ↦
              let w : ℕ = (range_at ranges r).width in
              let place : m ≡ record { node = slice_index (slice_set next r m.node) r; width = w } =
              (λ t. record { node = sym (get_or-set_same next r m.node 0 there) t; width = made.0 t }) in
              subst (λ i. HasValue p to (record { node = slice_index (slice_set next r m.node) i; width = (range_at ranges i).width }) (after_of p (done ++ a ∷ []) (range_at ranges i).width i)) (sym same)
              (has_as p to _ value (after_of p (done ++ a ∷ []) w r) (subst (λ (k : Made). HasValue p to k value) place made.1.has)
              (λ row state fit.
              let vs = plain.flat_values p row state in
              let size : r < length (plain.after_actions vs done state) =
              omega (arith, l, count, after_length vs done state, fit_length p.registers state fit.registers) in
              written_here (holds (node_of p a.condition row state)) w r (node_of p v row state) (plain.after_actions vs done state) size
              ∙ ap (λ s. low w (slice_index s r)) (sym (after row state))))
          | inr other ↦
              let w : ℕ = (range_at ranges q).width in
              let old = has_kept p ss from to (record { node = slice_index next q; width = w }) (after_of p done w q) made.1.grown (h.each q lq) in
              let place : record { node = slice_index next q; width = w } ≡ record { node = slice_index (slice_set next r m.node) q; width = w } =
              ap (λ k. record { node = k; width = w }) (sym (get_or-set_other next r q m.node 0 other)) in
              has_as p to _ (after_of p done w q) (after_of p (done ++ a ∷ []) w q) (subst (λ (k : Made). HasValue p to k (after_of p done w q)) place old)
              (λ row state fit.
              let vs = plain.flat_values p row state in
              ap (low w) (sym (written_there (holds (node_of p a.condition row state)) r q (node_of p v row state) (plain.after_actions vs done state) other)
              ∙ ap (λ s. slice_index s q) (sym (after row state))))
        ];
      };
    }

-- what a write names is there
pub write_fits : (registers nodes : ℕ) (a : Action) (r v : ℕ) → a.deed ≡ d.Write r v → ActionFits registers nodes a
    → (a.condition < nodes) × (r < registers) × (v < nodes)
write_fits registers nodes a r v e f =
    let g = subst (plain.DeedFits registers nodes) e f.1 in (f.0, g.0, g.1)

pub say_fits : (registers nodes : ℕ) (a : Action) (format : List ℕ) (k : ℕ) → a.deed ≡ d.Say format (Some k) → ActionFits registers nodes a
    → (a.condition < nodes) × (k < nodes)
say_fits registers nodes a format k e f = (f.0, subst (plain.DeedFits registers nodes) e f.1)

-- what isn't a write leaves the state
pub still : (x : Deed) → ((r v : ℕ) → x ≡ d.Write r v → ⊥) → (vs state : List ℕ) → plain.after_deed vs x state ≡ state
still (d.Write r v) not vs state = absurd (not r v refl)
still (d.Say format shown) not vs state = refl
still (d.Stop line) not vs state = refl

-- ---- in order

pub take_more : {X : Type 0} (xs : List X) (i : ℕ) (x : X) → i < length xs → x ≡ get_or xs i x → take (i + 1) xs ≡ take i xs ++ x ∷ []
take_more xs i x l is =
    let e : i + 1 ≡ suc i = omega arith in
    ap (λ k. take k xs) e ∙ take-suc xs i x l ∙ ap (λ y. take i xs ++ y ∷ []) (sym is)

pub action_at : (registers nodes : ℕ) (actions : List Action) (i : ℕ) (x : Action) → ActionsFit registers nodes actions → i < length actions
    → x ≡ get_or actions i x → ActionFits registers nodes x
action_at registers nodes actions i x fit l is = fit i x (slice_get-get_or actions i x l ∙ ap Some (sym is))

-- before the first action
pub begun : (p : plain.Flat) (nodes : List Node) (made : List Made) (ranges : List Range) (next : List ℕ) → IsOneBlock p
    → ranges ≡ register_ranges 0 p.signals → Stands p nodes made → next ≡ map (λ (x : Range). x.signal) ranges → Takes p nodes nodes ranges next []
begun p nodes made ranges next block are stands is = record {
  grown = grows_none (map signal_of p.signals) nodes;
  takes = own_next p nodes made ranges next block are stands (ap length is ∙ length-map ranges (λ (x : Range). x.signal))
      (λ r l. ap (λ xs. slice_index xs r) is
      ∙ number_at (map (λ (x : Range). x.signal) ranges) r _ (mapped_at (λ (x : Range). x.signal) ranges r (range_at ranges r) (slice_get-get_or ranges r _ l)));
}

-- an action more
pub takes_more : (p : plain.Flat) (made : List Made) (from nodes to : List Node) (ranges : List Range) (next new : List ℕ) (done : List Action) (a : Action)
    → IsOneBlock p → ranges ≡ register_ranges 0 p.signals → Stands p from made → Takes p from nodes ranges next done
    → (Stands p nodes made → length ranges ≡ length p.registers → AreNext p nodes ranges next done → Takes p nodes to ranges new (done ++ a ∷ []))
    → Takes p from to ranges new (done ++ a ∷ [])
takes_more p made from nodes to ranges next new done a block are stands old step =
    let ss = map signal_of p.signals in
    let now : Stands p nodes made = record {
      signals = λ k s at. has_kept p ss from nodes _ _ old.grown (stands.signals k s at);
      each = λ k l. has_kept p ss from nodes _ _ old.grown (stands.each k l);
    } in
    let count : length ranges ≡ length p.registers = ap length are ∙ register_count 0 p.signals ∙ ap length (sym block.registers) in
    let h = step now count old.takes in
    record { grown = grows_on ss from nodes to old.grown h.grown; takes = h.takes }
