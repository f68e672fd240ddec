-- The draft is well-formed, and it is the same design.
use Rattle.std.proofs.Common.{◌≡◌, ℕ, zero, suc, ◌<◌, ◌≤◌, ◌^◌, Bool, true, false, if◌then◌else◌, List, [], ◌∷◌, ◌++◌, length, map, replicate, refl, sym, ap, ◌∙◌, subst, arith, append-nil, append_assoc, lit<}
use Rattle.std.specs.Prelude.{Some, slice_get, slice_index}
use Rattle.std.specs.List.{All}
use Rattle.std.proofs.Math.Nat.{mod-eq_of_lt}
use Rattle.std.proofs.lemmas.List.{length-map, length_push}
use Rattle.std.proofs.lemmas.Grind.{same_number_lists}
use Rattle.std.proofs.lemmas.Option.{slice_get-get_or}
use Rattle.std.proofs.Math.Seq.{get_or-append_seam}
use Rattle.bit_ops.specs.Operators.{holds}
use Rattle.flat_ir.specs.FlatRun as plain
use Rattle.flat_ir.specs.Fired as by_lines
use Rattle.flat_ir.specs.Names.{Fit}
use Rattle.flat_ir.specs.declared.design.Signal as old
use Rattle.flat_ir.specs.declared.design.Node as old_node
use Rattle.flat_ir.specs.declared.design.Action.{Action}
use Rattle.netlist.specs.Design.{Flat}
use Rattle.netlist.specs.Fits.{IsWellFormed, EventFits, AllAt, ScopeFits, BlockFits}
use Rattle.netlist.specs.Run.{Fired, block_fired, redriven}
use Rattle.netlist.specs.Values.{node_values}
use Rattle.netlist.specs.declared.design.Event.{Event}
use Rattle.netlist.specs.declared.design.Effect.{Effect}
use Rattle.netlist.specs.declared.design.Effect.TheVariants as e
use Rattle.netlist.specs.declared.design.Signal.{Signal}
use Rattle.netlist.specs.declared.design.Range.{Range}
use Rattle.netlist.specs.declared.node.Node.{Node}
use Rattle.design_names.specs.Stops.{event_stops}
use Rattle.one_block.specs.declared.made.Made.{Made}
use Rattle.one_block.specs.OneBlock.{IsOneBlock, Fits, input_widths}
use Rattle.one_block.specs.SameDesign.{SameDesign, top_scope, signal_of, input_places, register_ranges, state_of, values_of, stop_lines, IsPlainStop, by_line}
use Rattle.one_block.specs.Calls.Nodes.{AllFit, GoesOn, NodesFit, Stands, MakesAll, reads_from, range_at, made_at}
use Rattle.one_block.specs.Calls.Registers.{ActionsFit, AreNext, Takes, parts_of}
use Rattle.one_block.specs.Calls.Events.{line_fired, text_behind, AddsEvents, Agree, AreThere}
use Rattle.one_block.proofs.Making.{has_kept, has_node}
use Rattle.one_block.proofs.Signals.{fit_at, fit_length, register_at, input_placed, mapped_at, number_at, zero_more, register_count, input_count, reads_fit, input_at}
use Rattle.one_block.proofs.Settles.{InputsFit, given_is}
use Rattle.one_block.proofs.Parts.{part_count, part_ranges, part_nexts, part_initials, parts_in_order, parts_fit, few_bits, signals_fit, inputs_fit, few_signals, few_inputs, fewer_registers}
use Rattle.one_block.proofs.Telling.{all_none, all_more}

-- ---- the design of these parts

abbrev pub design : List ℕ → List Signal → List ℕ → List Range → List ℕ → List Node → List Event → Flat
design name signals inputs ranges next nodes events = record {
  scopes = top_scope name ∷ [];
  signals = signals;
  inputs = inputs;
  driven = [];
  registers = parts_of ranges next;
  memories = [];
  nodes = nodes;
  writes = [];
  blocks = record { scope = 0; events = events } ∷ [];
}

-- what was made of an old design
pub record IsMade (p : plain.Flat) (made : List Made) (ranges : List Range) (next : List ℕ) (nodes : List Node) (events : List Event) : Type 0 where
  pub block : IsOneBlock p
  pub well : plain.IsWellFormed p
  pub ranges_are : ranges ≡ register_ranges 0 p.signals
  pub fit : NodesFit (map signal_of p.signals) nodes
  pub few : length nodes < 2 ^ 32
  pub count : length made ≡ length p.nodes
  pub stands : Stands p nodes made
  pub takes : AreNext p nodes ranges next p.actions
  pub few_events : length events < 2 ^ 32
  pub tells : AddsEvents made [] events p.actions

-- the nodes of the old ones, and what each register takes
pub all_made : (p : plain.Flat) (made : List Made) (ranges : List Range) (next : List ℕ) (n0 n1 n2 : List Node) (events : List Event) → IsOneBlock p
    → plain.IsWellFormed p → ranges ≡ register_ranges 0 p.signals → n0 ≡ reads_from 0 (map signal_of p.signals) → length made ≡ length p.nodes
    → MakesAll p n0 n1 made → Takes p n1 n2 ranges next p.actions → length n2 < 2 ^ 32 → length events < 2 ^ 32 → AddsEvents made [] events p.actions
    → IsMade p made ranges next n2 events
all_made p made ranges next n0 n1 n2 events block well are first count m t few few_events tells =
    let ss = map signal_of p.signals in
    record {
      block = block;
      well = well;
      ranges_are = are;
      fit = t.grown.fit (m.grown.fit (subst (NodesFit ss) (sym first) (reads_fit p well)));
      few = few;
      count = count;
      stands = record {
        signals = λ k s at. has_kept p ss n1 n2 _ _ t.grown (m.stands.signals k s at);
        each = λ k l. has_kept p ss n1 n2 _ _ t.grown (m.stands.each k l);
      };
      takes = t.takes;
      few_events = few_events;
      tells = tells;
    }

-- ---- it is well-formed

nodes_there : (p : plain.Flat) (nodes : List Node) (made : List Made) → Stands p nodes made → AreThere nodes made
nodes_there p nodes made stands k l =
    let h = stands.each k l in has_node nodes (made_at made k).node h.here (λ w. Unit {0}) h.stands tt

only_scope : (name : List ℕ) → AllAt ScopeFits (top_scope name ∷ [])
only_scope name zero d l = refl
only_scope name (suc k) d l = absurd (omega arith)

pub fits : (p : plain.Flat) (made : List Made) (ranges : List Range) (next : List ℕ) (nodes : List Node) (events : List Event)
    → IsMade p made ranges next nodes events
    → IsWellFormed (design p.name (map signal_of p.signals) (input_places 0 p.signals) ranges next nodes events)
fits p made ranges next nodes events m =
    let signals = length-map p.signals signal_of in
    let fewer : length ranges ≤ length p.signals = omega (arith, ap length m.ranges_are, fewer_registers 0 p.signals) in
    let parts = part_count ranges next m.takes.count in
    record {
      numbered = record {
        scopes = lit< tt;
        signals = omega (arith, signals, m.block.few);
        driven = lit< tt;
        registers = omega (arith, parts, fewer, m.block.few);
        memories = lit< tt;
        nodes = m.few;
        writes = lit< tt;
        blocks = lit< tt;
        events = omega (arith, m.few_events);
      };
      top = lit< tt;
      scopes = only_scope p.name;
      signals = record {
        each = signals_fit p m.block m.well;
        inputs = inputs_fit p m.block;
        few = few_signals p m.block;
        few_inputs = few_inputs p m.block;
      };
      nodes = m.fit;
      parts = record {
        driven = all_none _;
        registers = parts_fit p nodes ranges next m.block m.well m.ranges_are m.takes;
        driven_order = λ k d l. absurd (omega arith);
        register_order = parts_in_order p.signals ranges next m.ranges_are m.takes.count;
        apart = λ i j d e l k. absurd (omega arith);
      };
      memories = record {
        each = all_none _;
        writes = all_none _;
        few = omega arith;
        few_bits = few_bits p ranges next m.block m.well m.ranges_are m.takes.count (omega (arith, fewer, m.block.few));
      };
      blocks = all_more (BlockFits 1 nodes) (record { scope = 0; events = events }) [] (lit< tt, subst (All (EventFits nodes)) (sym m.tells.whole) (m.tells.fit nodes (nodes_there p nodes made m.stands)))
          (all_none (BlockFits 1 nodes));
    }

-- ---- stops by their lines

-- the lines of the stops among events
abbrev event_lines : List Event → List ℕ
event_lines events = stop_lines (event_stops 0 events)

no_more : (b : Bool) (lines : List ℕ) (rest : List Fired) → map (by_line lines) ((if b then [] else []) ++ rest) ≡ map (by_line lines) rest
no_more true lines rest = refl
no_more false lines rest = refl

nothing_more : (b : Bool) (rest : List by_lines.Fired) → (if b then [] else []) ++ rest ≡ rest
nothing_more true rest = refl
nothing_more false rest = refl

one_stop : (b : Bool) (lines : List ℕ) (n line : ℕ) (text : List ℕ) (rest : List Fired) (old : List by_lines.Fired) → slice_index lines n ≡ line
    → map (by_line lines) rest ≡ old
    → map (by_line lines) ((if b then record { stop = n; message = text } ∷ [] else []) ++ rest)
    ≡ (if b then record { line = line; message = text } ∷ [] else []) ++ old
one_stop true lines n line text rest old at e = λ i. record { line = at i; message = text } ∷ e i
one_stop false lines n line text rest old at e = e

-- the events that are left fire by lines what they fire by numbers
abbrev AreByLines : List Node → List ℕ → List Event → Type 0
AreByLines nodes xs events = (front : List ℕ) (n : ℕ) (text : List ℕ) → length front ≡ n
    → map (by_line (front ++ event_lines events)) (block_fired nodes xs n text events) ≡ line_fired nodes xs text events

by_effect : (nodes : List Node) (xs : List ℕ) (condition : ℕ) (effect : Effect) (more : List Event) → AreByLines nodes xs more
    → AreByLines nodes xs (record { condition = condition; effect = effect } ∷ more)
by_effect nodes xs condition (e.Said t) more rest front n text count =
    let b : Bool = holds (slice_index xs condition) in
    no_more b (front ++ event_lines more) (block_fired nodes xs n (if b then text ++ t else text) more)
    ∙ rest front n (if b then text ++ t else text) count
    ∙ sym (nothing_more b (line_fired nodes xs (if b then text ++ t else text) more))
by_effect nodes xs condition (e.Showed s) more rest front n text count =
    let b : Bool = holds (slice_index xs condition) in
    let t : List ℕ = text_behind nodes xs text (record { condition = condition; effect = e.Showed s }) in
    no_more b (front ++ event_lines more) (block_fired nodes xs n t more)
    ∙ rest front n t count
    ∙ sym (nothing_more b (line_fired nodes xs t more))
by_effect nodes xs condition (e.Stopped place fatal) more rest front n text count =
    let b : Bool = holds (slice_index xs condition) in
    let t : List ℕ = if b then [] else text in
    let lines : List ℕ = front ++ place.line ∷ event_lines more in
    let at : slice_index lines n ≡ place.line = ap (slice_index lines) (sym count) ∙ get_or-append_seam front place.line (event_lines more) 0 in
    let longer : (front ++ place.line ∷ []) ++ event_lines more ≡ lines = append_assoc front (place.line ∷ []) (event_lines more) in
    let size : length (front ++ place.line ∷ []) ≡ suc n = omega (arith, length_push front place.line, count) in
    one_stop b lines n place.line text (block_fired nodes xs (suc n) t more) (line_fired nodes xs t more) at
    (ap (λ ls. map (by_line ls) (block_fired nodes xs (suc n) t more)) (sym longer)
    ∙ rest (front ++ place.line ∷ []) (suc n) t size)

-- what fires by numbers is what fires by lines
pub by_lines_are : (nodes : List Node) (xs : List ℕ) (events : List Event) → AreByLines nodes xs events
by_lines_are nodes xs [] front n text count = refl
by_lines_are nodes xs (x ∷ more) front n text count =
    by_effect nodes xs x.condition x.effect more (by_lines_are nodes xs more) front n text count

-- ---- it is the same

-- the data inputs are within their widths
row_fits : (p : plain.Flat) (row state : List ℕ) → IsOneBlock p → Fits p row state → InputsFit row p.signals
row_fits p row state block fit k n s at shows =
    let h = input_at 0 0 0 p.signals block.numbered n k (input_placed k n s p.signals block.numbered at shows) in
    let place : h.j ≡ k = sym (h.place ∙ zero_more h.j) in
    let same : Some h.s ≡ Some s = sym h.at ∙ ap (slice_get p.signals) place ∙ at in
    let one : h.s ≡ s = cc in
    subst (λ (x : old.Signal). slice_index row n < 2 ^ x.width) one (fit_at (input_widths p.signals) row n h.s.width fit.inputs h.wide)

-- a list without its end and a nil
end_none : {X : Type 0} (xs : List X) → xs ++ [] ≡ xs
end_none xs = append-nil xs

-- a register's range has its width
register_wide : (p : plain.Flat) (ranges : List Range) (k : ℕ) → IsOneBlock p → ranges ≡ register_ranges 0 p.signals → k < length ranges
    → slice_get p.registers k ≡ Some (range_at ranges k).width
register_wide p ranges k block are l =
    let range : Range = range_at ranges k in
    let at : slice_get (register_ranges 0 p.signals) k ≡ Some range =
    ap (λ xs. slice_get xs k) (sym are) ∙ slice_get-get_or ranges k (record { signal = 0; low = 0; width = 0 }) l in
    let h = register_at 0 0 0 p.signals block.numbered k range at in
    ap (λ ws. slice_get ws k) block.registers ∙ h.wide ∙ ap (λ (x : Range). Some x.width) (sym h.place)

-- each register takes the old one's next value
next_is : (p : plain.Flat) (nodes : List Node) (ranges : List Range) (next : List ℕ) (f : Flat) (row state : List ℕ) → IsOneBlock p
    → length ranges ≡ length p.registers → ranges ≡ register_ranges 0 p.signals → AreNext p nodes ranges next p.actions → GoesOn nodes f → Fits p row state
    → map (slice_index (node_values f (values_of p row state))) next ≡ plain.flat_next p row state
next_is p nodes ranges next f row state block count are takes goes fit =
    let xs : List ℕ = node_values f (values_of p row state) in
    let after : List ℕ = plain.flat_next p row state in
    let kept : Fit p.registers after = block.keeps row state fit in
    let size : length (map (slice_index xs) next) ≡ length p.registers = length-map next (slice_index xs) ∙ takes.count ∙ count in
    same_number_lists (map (slice_index xs) next) after (size ∙ sym (fit_length p.registers after kept))
    (λ k l.
    let here : k < length ranges = omega (arith, l, size, count) in
    let there : k < length next = omega (arith, here, takes.count) in
    let w : ℕ = (range_at ranges k).width in
    let h = takes.each k here in
    let small : slice_index after k < 2 ^ w = fit_at p.registers after k w kept (register_wide p ranges k block are here) in
    number_at (map (slice_index xs) next) k _ (mapped_at (slice_index xs) next k (slice_index next k) (slice_get-get_or next k 0 there))
    ∙ h.is f row state goes fit
    ∙ mod-eq_of_lt small)

pub same : (p : plain.Flat) (made : List Made) (ranges : List Range) (next : List ℕ) (nodes : List Node) (events : List Event)
    → IsMade p made ranges next nodes events
    → SameDesign p (design p.name (map signal_of p.signals) (input_places 0 p.signals) ranges next nodes events)
same p made ranges next nodes events m =
    let f : Flat = design p.name (map signal_of p.signals) (input_places 0 p.signals) ranges next nodes events in
    let goes : GoesOn nodes f = record { fits = fits p made ranges next nodes events m; begins = λ k x at. at } in
    let range_count : length ranges ≡ length p.registers =
    ap length m.ranges_are ∙ register_count 0 p.signals ∙ ap length (sym m.block.registers) in
    let settled : (row state : List ℕ) → Fits p row state → redriven f (state_of state) row (values_of p row state) ≡ values_of p row state =
    λ row state fit.
    ap (λ xs. record { signals = xs; memories = [] })
    (given_is row state p.signals (parts_of ranges next) m.block.numbered (row_fits p row state m.block fit)
    (part_ranges ranges next m.takes.count ∙ m.ranges_are)) in
    record {
      scopes = refl;
      signals = refl;
      inputs = refl;
      driven = refl;
      registers = part_ranges ranges next m.takes.count ∙ m.ranges_are;
      memories = refl;
      stops = subst (All IsPlainStop) (sym (end_none (event_stops 0 events)))
          (subst (λ es. All IsPlainStop (event_stops 0 es)) (sym m.tells.whole) m.tells.stops);
      start = ap state_of (part_initials ranges next m.takes.count ∙ ap (λ n. replicate n 0) range_count);
      settles = λ row state fit. sym (settled row state fit);
      alone = λ row state v fit h. h ∙ settled row state fit;
      next = λ row state fit. ap state_of (
          part_nexts (slice_index (node_values f (values_of p row state))) ranges next m.takes.count
          ∙ next_is p nodes ranges next f row state m.block range_count m.ranges_are m.takes goes fit);
      fired = λ row state fit.
          let xs : List ℕ = node_values f (values_of p row state) in
          let vs : List ℕ = plain.flat_values p row state in
          let agree : Agree made xs vs = λ k l. (m.stands.each k l).is f row state goes fit in
          let all : events ≡ m.tells.more = m.tells.whole in
          ap (λ ss. map (by_line (stop_lines ss)) (block_fired nodes xs 0 [] events ++ [])) (end_none (event_stops 0 events))
          ∙ ap (map (by_line (event_lines events))) (end_none (block_fired nodes xs 0 [] events))
          ∙ by_lines_are nodes xs events [] 0 [] refl
          ∙ ap (line_fired nodes xs []) all
          ∙ (m.tells.tells nodes xs vs agree).fired [];
    }

-- ---- what the calls need

-- nodes and actions that fit the old design fit its table, and the nodes that were made
pub nodes_fit : (p : plain.Flat) (inputs : List ℕ) (ranges : List Range) (nodes : List old_node.Node) → IsOneBlock p → plain.IsWellFormed p
    → inputs ≡ input_places 0 p.signals → ranges ≡ register_ranges 0 p.signals → nodes ≡ p.nodes → AllFit (length inputs) (length ranges) nodes
nodes_fit p inputs ranges nodes block well a b e =
    let i : p.inputs ≡ length inputs = block.inputs ∙ sym (input_count 0 p.signals) ∙ ap length (sym a) in
    let r : length p.registers ≡ length ranges = ap length block.registers ∙ sym (register_count 0 p.signals) ∙ ap length (sym b) in
    subst (AllFit (length inputs) (length ranges)) (sym e)
    (subst (λ n. AllFit n (length ranges) p.nodes) i (subst (λ n. AllFit p.inputs n p.nodes) r well.nodes))

pub actions_fit : (p : plain.Flat) (ranges : List Range) (made : List Made) (actions : List Action) → IsOneBlock p → plain.IsWellFormed p
    → ranges ≡ register_ranges 0 p.signals → length made ≡ length p.nodes → actions ≡ p.actions
    → ActionsFit (length ranges) (length made) actions
actions_fit p ranges made actions block well b count e =
    let r : length p.registers ≡ length ranges = ap length block.registers ∙ sym (register_count 0 p.signals) ∙ ap length (sym b) in
    subst (ActionsFit (length ranges) (length made)) (sym e)
    (subst (λ n. ActionsFit n (length made) p.actions) r
    (subst (λ n. ActionsFit (length p.registers) n p.actions) (sym count) (λ k x at. (well.conditions k x at, well.deeds k x at))))

-- a design of these parts
pub closed : (p : plain.Flat) (made : List Made) (ranges : List Range) (next : List ℕ) (nodes : List Node) (events : List Event) (g : Flat)
    → IsMade p made ranges next nodes events → g.scopes ≡ top_scope p.name ∷ [] → g.signals ≡ map signal_of p.signals → g.inputs ≡ input_places 0 p.signals
    → g.driven ≡ [] → g.registers ≡ parts_of ranges next → g.memories ≡ [] → g.nodes ≡ nodes → g.writes ≡ []
    → g.blocks ≡ record { scope = 0; events = events } ∷ [] → IsWellFormed g × SameDesign p g
closed p made ranges next nodes events g m scopes signals inputs driven registers memories ns writes blocks =
    let is : design p.name (map signal_of p.signals) (input_places 0 p.signals) ranges next nodes events ≡ g = λ i. record {
      scopes = sym scopes i;
      signals = sym signals i;
      inputs = sym inputs i;
      driven = sym driven i;
      registers = sym registers i;
      memories = sym memories i;
      nodes = sym ns i;
      writes = sym writes i;
      blocks = sym blocks i;
    } in
    subst (λ (h : Flat). IsWellFormed h × SameDesign p h) is (fits p made ranges next nodes events m, same p made ranges next nodes events m)
