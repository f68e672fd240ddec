-- A program that has run over what a state and a row give has the values that settle.
use Rattle.std.proofs.Common.{◌≡◌, ℕ, zero, suc, ◌+◌, ◌^◌, ◌<◌, inl, inr, List, [], ◌∷◌, length, take, drop, sym, ap, ◌∙◌, subst, arith}
use Rattle.std.specs.Prelude.{map, slice_get, slice_index, slice_index_or, Some}
use Rattle.std.specs.List.{All}
use Rattle.std.proofs.lemmas.List.{get_or-take, get_or-drop, length-map, length-take-le, length-drop}
use Rattle.std.proofs.lemmas.Grind.{same_number_lists}
use Rattle.std.proofs.Math.ListN.{get_or-eq_default}
use Rattle.std.proofs.lemmas.Nat.{pow_pos}
use Rattle.std.proofs.lemmas.Bool.{cases_lt}
use Rattle.std.proofs.lemmas.List.Elements.{All-get_or}
use Rattle.netlist.specs.Plain.{PlainMemory}
use Rattle.netlist.specs.Design.{Flat}
use Rattle.netlist.specs.Fits.{IsWellFormed}
use Rattle.netlist.specs.Order.{IsOrder, flat_val}
use Rattle.netlist.specs.Laws.{SettlesOnce, SettlesAlone, ValuesLaw}
use Rattle.netlist.specs.Run.{State, FlatSettles, put_driven, given, all_words}
use Rattle.netlist.specs.Values.{Values, width_at, node_values}
use Rattle.step_program.specs.Values.{Slots, slot_value, contents}
use Rattle.step_program.specs.Plan.{IsReady, given_in, ran}
use Rattle.step_program.specs.declared.step.Slot.TheVariants as at
use Rattle.step_program.specs.declared.words.MemoryWords.{MemoryWords}
use Rattle.net_compile.specs.Cycle.{Cycle, StateFits, RowFits, Holds, slot_at}
use Rattle.net_compile.specs.Compiles.{Machine, Compiles}
use Rattle.held_state.specs.Slots.{numbers}
use Rattle.held_state.specs.Kept.{AllKept, state_words}
use Rattle.held_state.specs.States.{RegistersFit}
use Rattle.held_state.proofs.Words.{all_same}
use Rattle.held_state.proofs.GivenLaws.{number_at, given_value, register_fits, slot_count, all_in}

number_fits : (w : ℕ) (xs : List ℕ) (i : ℕ) → All (λ x. x < 2 ^ w) xs → slice_index xs i < 2 ^ w
number_fits w xs i h = elim (cases_lt i (length xs)) [
  | inl l ↦ All-get_or (λ x. x < 2 ^ w) xs i 0 l h
  | inr g ↦ subst (λ n. n < 2 ^ w) (sym (get_or-eq_default xs 0 g)) (pow_pos w)
]

word_fits : (ms : List PlainMemory) (ws : List MemoryWords) (k i : ℕ) (m : PlainMemory) → AllKept ms ws
    → slice_get ms k ≡ Some m → slice_index (slice_index_or (map contents ws) k []) i < 2 ^ m.width
word_fits [] ws k i m h at = absurd cc
word_fits (n ∷ ms) [] k i m h at = absurd h
word_fits (n ∷ ms) (v ∷ ws) zero i m h at =
    let a : n ≡ m = cc in
    subst (λ x. slice_index (contents v) i < 2 ^ x.width) a (number_fits n.width (contents v) i h.0.words.fit)
word_fits (n ∷ ms) (v ∷ ws) (suc k) i m h at = word_fits ms ws k i m h.1 at

pub state_fits : (f : Flat) (s : State) (ws : List MemoryWords) → RegistersFit f.registers s.registers
    → AllKept f.memories ws → all_words f.memories s.memories ≡ map contents ws → StateFits f s
state_fits f s ws r h e = record {
  registers = λ k d l. register_fits f.registers s.registers k d r l;
  words = λ k i m at.
      subst (λ all. slice_index (slice_index_or all k []) i < 2 ^ m.width) (sym e) (word_fits f.memories ws k i m h at);
}

-- ---- values

-- the driven parts have these numbers of their nodes
abbrev pub valued : Flat → State → List ℕ → List ℕ → Values
valued f s row xs = record {
  signals = put_driven f.signals f.driven xs (given f s row);
  memories = all_words f.memories s.memories;
}

pub record Settled (f : Flat) (s : State) (row xs : List ℕ) : Type 0 where
  pub nodes : xs ≡ node_values f (valued f s row xs)
  pub fit : (k : ℕ) → k < length xs → slice_index xs k < 2 ^ width_at f.nodes k
  pub settles : FlatSettles f s row (valued f s row xs)

by_values : (f : Flat) (s : State) (row xs : List ℕ) (v : Values) → xs ≡ node_values f v → FlatSettles f s row v
    → ((k : ℕ) → k < length xs → slice_index xs k < 2 ^ width_at f.nodes k) → Settled f s row xs
by_values f s row xs v e h fit =
    let is : valued f s row xs ≡ v = ap (λ ys. valued f s row ys) e ∙ sym h in
    record {
      nodes = e ∙ ap (λ u. node_values f u) (sym is);
      fit = fit;
      settles = subst (λ u. FlatSettles f s row u) (sym is) h;
    }

-- the slots of a machine's program after it ran over what stands in its given slots
pub record HasRun (f : Flat) (m : Machine) (ws : List MemoryWords) (x : Slots) (s : State) (row : List ℕ) : Type 0 where
  pub compiles : Compiles f m
  pub ready : IsReady m.plan x
  pub words : AllKept f.memories ws
  pub state : s ≡ record {
    registers = numbers x (take (length f.registers) m.front.slots);
    memories = state_words f.memories (map contents ws);
  }
  pub inputs : row ≡ numbers x (drop (length f.registers) m.front.slots)
  pub registers : RegistersFit f.registers s.registers
  pub row_fits : RowFits f row
  pub ran : x ≡ ran m.plan (map contents ws) (given_in m.plan x)

all_held : (f : Flat) (m : Machine) (ws : List MemoryWords) (x : Slots) (s : State) (row : List ℕ)
    → HasRun f m ws x s row → Holds f m.front s row (given_in m.plan x)
all_held f m ws x s row h =
    let count : length m.front.slots ≡ length f.registers + length f.inputs = slot_count f m h.compiles in
    record {
      counts = record {
        narrow = length-take-le m.plan.narrow x.narrow (omega (arith, h.ready.narrow)) ∙ h.compiles.narrow;
        wide = length-take-le m.plan.wide x.wide (omega (arith, h.ready.wide)) ∙ h.compiles.wide;
      };
      registers = λ k l.
          given_value m.plan x (slot_at m.front.slots k) (all_in f m h.compiles k (omega (arith, count, l)))
          ∙ sym (ap (λ u. slice_index u.registers k) h.state
          ∙ number_at x (take (length f.registers) m.front.slots) k
          (omega (arith, length-take-le (length f.registers) m.front.slots (omega (arith, count)), l))
          ∙ ap (λ u. slot_value x u) (get_or-take (length f.registers) m.front.slots k (at.Narrow 0) l));
      inputs = λ k l.
          given_value m.plan x (slot_at m.front.slots (length f.registers + k))
          (all_in f m h.compiles (length f.registers + k) (omega (arith, count, l)))
          ∙ sym (ap (λ u. slice_index u k) h.inputs
          ∙ number_at x (drop (length f.registers) m.front.slots) k
          (omega (arith, length-drop (length f.registers) m.front.slots, count, l))
          ∙ ap (λ u. slot_value x u) (get_or-drop (length f.registers) m.front.slots k (at.Narrow 0)));
    }

pub settled : (f : Flat) (order : List ℕ) (m : Machine) (ws : List MemoryWords) (x : Slots) (s : State)
    (row : List ℕ) → SettlesOnce → ValuesLaw → IsWellFormed f → IsOrder f order → HasRun f m ws x s row
    → Settled f s row (numbers x m.nodes)
settled f order m ws x s row once values fits is h =
    let words : all_words f.memories s.memories ≡ map contents ws =
    ap (λ u. all_words f.memories u.memories) h.state ∙ all_same f.memories ws h.words in
    let alone : SettlesAlone f s row (flat_val f order s row) = once f order s row fits is in
    let cycle : Cycle f m.front = record {
      state = s;
      row = row;
      values = flat_val f order s row;
      given = given_in m.plan x;
      state_fits = state_fits f s ws h.registers h.words words;
      row_fits = h.row_fits;
      settles = alone.settles;
      holds = all_held f m ws x s row h;
    } in
    let v : Values = flat_val f order s row in
    let count : length (numbers x m.nodes) ≡ length m.nodes = length-map m.nodes (λ u. slot_value x u) in
    let run : x ≡ ran m.plan (all_words f.memories s.memories) (given_in m.plan x) =
    h.ran ∙ ap (λ all. ran m.plan all (given_in m.plan x)) (sym words) in
    let each : (k : ℕ) → k < length (numbers x m.nodes)
    → slice_index (numbers x m.nodes) k ≡ slice_index (node_values f v) k =
    λ k l. number_at x m.nodes k (omega (arith, l, count)) ∙ ap (λ u. slot_value u (slot_at m.nodes k)) run
    ∙ h.compiles.value k cycle (omega (arith, l, count, h.compiles.count)) in
    by_values f s row (numbers x m.nodes) v
    (same_number_lists (numbers x m.nodes) (node_values f v)
    (count ∙ h.compiles.count ∙ sym (values.are f v fits).count) each) alone.settles
    (λ k l. subst (λ n. n < 2 ^ width_at f.nodes k) (sym (each k l))
    (h.compiles.fits k cycle (omega (arith, l, count, h.compiles.count))))
