-- From the built nodes and actions to the numbered design that stands for the module.
use Rattle.std.proofs.Common.{◌≡◌, ℕ, zero, suc, ◌+◌, ◌<◌, true, List, [], ◌∷◌, ◌++◌, length, map, replicate, refl, sym, ap, subst, ◌∙◌, arith}
use Rattle.std.specs.Prelude.{Some, slice_get}
use Rattle.bit_ops.specs.Operators.{holds}
use Rattle.flat_ir.specs.declared.design.Signal.{Signal}
use Rattle.flat_ir.specs.declared.design.Node.{Node}
use Rattle.flat_ir.specs.declared.design.Node.TheVariants as n
use Rattle.flat_ir.specs.declared.design.Action.{Action}
use Rattle.flat_ir.specs.Fired.{fired_in}
use Rattle.flat_ir.specs.FlatRun.{Flat, IsWellFormed, NodeFits, DeedFits, values_from}
use Rattle.flat_ir.specs.Names.{input_names}
use Rattle.flat_ir.specs.Shown.{variable_of, signal_value}
use Rattle.design_names.specs.Variables.{scope, no_scopes}
use Rattle.vl_tree.specs.Tree.{Text, Module}
use Rattle.vl_meaning.specs.Objects.{data_inputs, registers}
use Rattle.vl_meaning.specs.Faults.{are_declared, is_sound}
use Rattle.vl_meaning.specs.Statement.{execute_all}
use Rattle.vl_meaning.specs.Run.{cell, cells, executed}
use Rattle.vl_meaning.specs.StandsFor.{StandsFor, by_names}
use Rattle.vl_proc.specs.Ports.{IsTable, widths_of}
use Rattle.vl_proc.specs.Lowers.{context, node_value, ActionsFit, Done, gate, Adds, IsBuilt}
use Rattle.vl_proc.proofs.Ports.{both_true, widths_length, widths_by_name, names_are, roles_fit, role_as}
use Rattle.vl_proc.proofs.Sees.{distinct_of, narrow_of, widths_fit}
use Rattle.vl_proc.proofs.Shows.{same_variables, same_values}
use Rattle.vl_proc.proofs.Values.{old_value, grown_none, added}

-- ---- a sound module

pub declared_of : (m : Module) → is_sound m ≡ true → are_declared m ≡ true
declared_of m h = (both_true _ _ (both_true _ _ (both_true _ _ h).0).0).0

-- ---- the clocked block

-- no nodes, and then one that is always 1
pub block_built : (m : Module) (first nodes : List Node) (actions : List Action) (k : ℕ) → k ≡ 0 → first ≡ [] ++ n.Constant 1 ∷ []
    → Adds m first nodes [] actions k (λ row state. execute_all (context m row state) m.body) → IsBuilt m nodes actions
block_built m first nodes actions k e w a =
    let made = added m [] [] first (n.Constant 1) k (λ row state. 1) (grown_none m []) e w tt (λ row state f g. refl) in
    record {
      nodes_fit = a.grown.fit (made.grown.fit (λ i x s. absurd cc));
      actions_fit = subst (ActionsFit (length (registers m)) (length nodes)) (sym a.whole) a.fit;
      done = λ row state f g.
          let one : node_value row state nodes k ≡ 1 = old_value m first nodes a.grown row state k made.here ∙ made.is row state f g in
          subst (λ (as' : List Action). Done m (values_from row state [] nodes) as' (executed m row (by_names m state))) (sym a.whole)
          (subst (λ (q : ℕ). Done m (values_from row state [] nodes) a.actions (gate (holds q) (executed m row (by_names m state)))) one (a.done row state f g));
    }

-- ---- the design

condition_fits : (r nodes : ℕ) (xs : List Action) → ActionsFit r nodes xs → (k : ℕ) (x : Action) → slice_get xs k ≡ Some x → x.condition < nodes
condition_fits r nodes [] f k x h = absurd cc
condition_fits r nodes (y ∷ ys) f zero x h = let e : y ≡ x = cc in subst (λ (z : Action). z.condition < nodes) e f.0
condition_fits r nodes (y ∷ ys) f (suc k) x h = condition_fits r nodes ys f.2 k x h

deed_fits : (r nodes : ℕ) (xs : List Action) → ActionsFit r nodes xs → (k : ℕ) (x : Action) → slice_get xs k ≡ Some x → DeedFits r nodes x.deed
deed_fits r nodes [] f k x h = absurd cc
deed_fits r nodes (y ∷ ys) f zero x h = let e : y ≡ x = cc in subst (λ (z : Action). DeedFits r nodes z.deed) e f.1
deed_fits r nodes (y ∷ ys) f (suc k) x h = deed_fits r nodes ys f.2 k x h

-- the design of these parts
abbrev pub design : Text → List Signal → ℕ → List ℕ → List Node → List Action → Flat
design name signals inputs widths nodes actions = record { name = name; signals = signals; inputs = inputs; registers = widths; nodes = nodes; actions = actions }

-- as many registers as widths
register_count : (m : Module) (widths : List ℕ) → widths ≡ widths_of m.ports → length (registers m) ≡ length widths
register_count m widths e = sym (ap length e ∙ widths_length m.ports)

pub design_fits : (m : Module) (name : Text) (signals : List Signal) (inputs : ℕ) (widths : List ℕ) (nodes : List Node) (actions : List Action) → are_declared m ≡ true → IsTable m.clock m.ports signals inputs widths
    → IsBuilt m nodes actions → IsWellFormed (design name signals inputs widths nodes actions)
design_fits m name signals inputs widths nodes actions declared t b =
    let r : length (registers m) ≡ length widths = register_count m widths t.widths_are in
    let i : length (data_inputs m) ≡ inputs = sym t.inputs_are in
    record {
      nodes = λ k x h. subst (λ (q : ℕ). NodeFits inputs q k x) r (subst (λ (q : ℕ). NodeFits q (length (registers m)) k x) i (b.nodes_fit k x h));
      conditions = condition_fits (length (registers m)) (length nodes) actions b.actions_fit;
      deeds = λ k x h. subst (λ (q : ℕ). DeedFits q (length nodes) x.deed) r (deed_fits (length (registers m)) (length nodes) actions b.actions_fit k x h);
      signals = λ k x h. role_as (0 + length (data_inputs m)) inputs (0 + length (registers m)) (length widths) x.role (omega (arith, i)) (omega (arith, r))
          (roles_fit m.clock 0 0 m.ports k x (ap (λ (ss : List Signal). slice_get ss k) (sym t.signals_are) ∙ h));
      widths = λ k x h. widths_fit m.clock 0 0 m.ports k x (narrow_of m declared) (ap (λ (ss : List Signal). slice_get ss k) (sym t.signals_are) ∙ h);
    }

-- zeros by number are zeros by name
zeros_named : (names : List Text) → cells names (replicate (length names) 0) ≡ map (λ x. cell x 0) names
zeros_named [] = refl
zeros_named (x ∷ xs) = ap (λ vs. cell x 0 ∷ vs) (zeros_named xs)

pub design_stands : (m : Module) (name : Text) (signals : List Signal) (inputs : ℕ) (widths : List ℕ) (nodes : List Node) (actions : List Action) → name ≡ m.name → are_declared m ≡ true
    → IsTable m.clock m.ports signals inputs widths → IsBuilt m nodes actions → StandsFor (design name signals inputs widths nodes actions) m
design_stands m name signals inputs widths nodes actions named declared t b = record {
  name = named;
  inputs = ap input_names t.signals_are ∙ names_are m.clock 0 0 m.ports;
  input_count = t.inputs_are;
  widths = t.widths_are ∙ widths_by_name m.ports (distinct_of m declared);
  scope = (λ i. scope true (named i) (map variable_of (t.signals_are i)) no_scopes) ∙ ap (λ vs. scope true m.name vs no_scopes) (same_variables m declared);
  start = ap (λ (q : ℕ). cells (registers m) (replicate q 0)) (sym (register_count m widths t.widths_are)) ∙ zeros_named (registers m);
  next = λ row state f g. (b.done row state f g).after state g;
  fired = λ row state f g. ap (fired_in []) (b.done row state f g).events;
  shown = λ row state f g. ap (map (signal_value row state)) t.signals_are ∙ same_values m declared row state f g;
}
