-- What was made of a design that stands for a module stands for it.
use Rattle.std.proofs.Common.{◌≡◌, ℕ, List, [], ◌∷◌, length, map, refl, sym, ap, subst, ◌∙◌}
use Rattle.std.specs.Prelude.{replicate, slice_index}
use Rattle.std.specs.List.{range_with_len}
use Rattle.std.proofs.lemmas.Nat.{pow_pos}
use Rattle.std.proofs.lemmas.List.{length-map}
use Rattle.flat_ir.specs.FlatRun as plain
use Rattle.flat_ir.specs.Names.{Fit}
use Rattle.flat_ir.specs.Shown as plain_shown
use Rattle.netlist.specs.Design.{Flat}
use Rattle.netlist.specs.Run.{State, FlatSettles, flat_next}
use Rattle.netlist.specs.Values as netlist
use Rattle.one_block.specs.OneBlock.{Fits}
use Rattle.one_block.specs.SameDesign.{SameDesign, signal_of, state_of, values_of, fired_by_lines}
use Rattle.design_names.specs.Shown.{flat_shown}
use Rattle.vl_tree.specs.Tree.{Module}
use Rattle.vl_meaning.specs.StandsFor.{input_widths, register_widths}
use Rattle.vl_stands.specs.StandsFor.{StandsFor, SameCycle, StateFits, by_names}
use Rattle.vl_stands.specs.Laws.{StandsPlain, SameStands}
use Rattle.vl_stands.proofs.Shows.{scope_is, order_is, path_is, names_are, widths_are, all_numbers}

-- zeros fit every width
zeros_fit : (ws : List ℕ) → Fit ws (replicate (length ws) 0)
zeros_fit [] = tt
zeros_fit (w ∷ ws) = (pow_pos w, zeros_fit ws)

module _ (old : plain.Flat) (f : Flat) (m : Module) (p : StandsPlain old m) (d : SameDesign old f) where
  -- a state without memories, by its registers
  state_is : (s : State) → StateFits m s → state_of s.registers ≡ s
  state_is s fit = λ i. record { registers = s.registers; memories = sym fit.memories i }

  fits : (row registers : List ℕ) → Fit (input_widths m) row → Fit (register_widths m) registers → Fits old row registers
  fits row registers a b = record {
    inputs = subst (λ ws. Fit ws row) (sym p.widths) a;
    registers = subst (λ ws. Fit ws registers) (sym p.stands.widths) b;
  }

  -- the values of the signals are those that are shown
  shown_all : (row registers : List ℕ) → flat_shown f (values_of old row registers) ≡ plain_shown.flat_shown old row registers
  shown_all row registers =
      let xs : List ℕ = plain_shown.flat_shown old row registers in
      let count : length f.signals ≡ length xs =
      ap length d.signals ∙ length-map old.signals signal_of ∙ sym (length-map old.signals (plain_shown.signal_value row registers)) in
      ap (map (slice_index xs)) (order_is f old.name old.signals d.scopes d.signals ∙ ap (range_with_len 0) count) ∙ all_numbers xs

  of_registers : (row registers : List ℕ) → Fit (input_widths m) row → Fit (register_widths m) registers → SameCycle f m row (state_of registers)
  of_registers row registers a b =
      let fit = fits row registers a b in
      let after = p.stands.next row registers a b in
      record {
        values = values_of old row registers;
        settles = d.settles row registers fit;
        alone = λ v h. d.alone row registers v fit h;
        shown = shown_all row registers ∙ p.stands.shown row registers a b;
        fired = d.fired row registers fit ∙ p.stands.fired row registers a b;
        next = ap (by_names m) (d.next row registers fit) ∙ after.0;
        next_fits = subst (StateFits m) (sym (d.next row registers fit)) (record { registers = after.1; memories = refl });
      }

  stands : StandsFor f m
  stands = record {
    inputs = names_are f old.name old.signals d.scopes d.signals d.inputs ∙ p.stands.inputs;
    widths = widths_are f old.name old.signals d.scopes d.signals d.inputs ∙ p.widths;
    scope = scope_is f old.name old.signals d.scopes d.signals ∙ p.stands.scope;
    once = order_is f old.name old.signals d.scopes d.signals;
    path = path_is f old.name old.signals d.scopes d.signals ∙ p.stands.name;
    stops = d.stops;
    undriven = d.driven;
    start = ap (by_names m) d.start ∙ p.stands.start;
    start_fits = subst (StateFits m) (sym d.start) (record {
      registers = subst (λ ws. Fit ws (plain.flat_start old)) p.stands.widths (zeros_fit old.registers);
      memories = refl;
    });
    cycle = λ row s a b. subst (SameCycle f m row) (state_is s b) (of_registers row s.registers a b.registers);
  }

pub same_stands : SameStands
same_stands old f m p d = stands old f m p d
