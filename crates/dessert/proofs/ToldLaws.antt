-- What is reported of an assertion by its number is what the definition reports of its line.
use Rattle.std.proofs.Common.{◌≡◌, ℕ, zero, suc, ◌<◌, List, [], ◌∷◌, length, map, refl, sym, ap, ◌∙◌, arith}
use Rattle.std.specs.Prelude.{slice_index, slice_index_or}
use Rattle.std.specs.List.{All}
use Rattle.std.proofs.lemmas.List.Elements.{All-nil, All-cons, All-append}
use Rattle.netlist.specs.Design.{Flat}
use Rattle.netlist.specs.Plain.{PlainBlock}
use Rattle.netlist.specs.Fits.{IsWellFormed, BlockFits}
use Rattle.netlist.specs.Run.{Fired}
use Rattle.netlist.specs.declared.node.Node.{Node}
use Rattle.netlist.specs.declared.design.Event.{Event}
use Rattle.netlist.specs.declared.design.Effect.{Effect}
use Rattle.netlist.specs.declared.design.Effect.TheVariants as e
use Rattle.design_names.specs.Path.{path_text}
use Rattle.design_names.specs.Stops.{effect_stop, event_stops, block_stops, flat_stops}
use Rattle.design_names.specs.declared.stops.Stop.{Stop}
use Rattle.one_block.specs.SameDesign.{stop_lines, by_line}
use Rattle.talk.specs.declared.answer.StopLine.{StopLine}
use Rattle.vl_tree.specs.Tree.{Module}
use Rattle.vl_stands.specs.StandsFor.{StandsFor}
use Rattle.dessert.specs.Reported.{stop_of}
use Rattle.dessert.specs.Sources.{Origins, spot_in}
use Rattle.dessert.specs.Calls.Told.{no_stop, stop_at, told_of, AreStops}

-- the line of the stop of a number
line_at : (stops : List Stop) (k : ℕ) → k < length stops → (slice_index_or stops k no_stop).place.line ≡ slice_index (stop_lines stops) k
line_at [] k h = absurd (omega (arith, h))
line_at (s ∷ stops) zero h = refl
line_at (s ∷ stops) (suc k) h = line_at stops k (omega (arith, h))

module _ (f : Flat) (m : Module) (o : Origins) (s : StandsFor f m) where
  told_is : (x : Fired) → x.stop < length (flat_stops f) → told_of f o x ≡ stop_of m.name o (by_line (stop_lines (flat_stops f)) x)
  told_is x h =
      let plain = s.stops x.stop no_stop h in
      let line : (stop_at f x.stop).place.line ≡ slice_index (stop_lines (flat_stops f)) x.stop = line_at (flat_stops f) x.stop h in
      let path : path_text f (stop_at f x.stop).scope ≡ m.name = ap (path_text f) plain.0 ∙ s.path in
      λ i. record {
        path = path i;
        fatal = plain.1 i;
        file = (spot_in o (line i)).file;
        line = (spot_in o (line i)).line;
        message = x.message;
      }

  pub all_told : (xs : List Fired) → AreStops f xs → map (told_of f o) xs ≡ map (stop_of m.name o) (map (by_line (stop_lines (flat_stops f))) xs)
  all_told [] h = refl
  all_told (x ∷ xs) h = λ i. told_is x (h 0 x (omega arith)) i ∷ all_told xs (λ k d l. h (suc k) d (omega (arith, l))) i

-- ---- the scopes of stops

effect_there : (n scope : ℕ) (x : Effect) → scope < n → All (λ s. s.scope < n) (effect_stop scope x)
effect_there n scope (e.Said text) h = All-nil (λ s. s.scope < n)
effect_there n scope (e.Showed shown) h = All-nil (λ s. s.scope < n)
effect_there n scope (e.Stopped place fatal) h = All-cons (λ s. s.scope < n) _ [] h (All-nil (λ s. s.scope < n))

events_there : (n scope : ℕ) (xs : List Event) → scope < n → All (λ s. s.scope < n) (event_stops scope xs)
events_there n scope [] h = All-nil (λ s. s.scope < n)
events_there n scope (x ∷ xs) h = All-append (λ s. s.scope < n) _ _ (effect_there n scope x.effect h) (events_there n scope xs h)

blocks_there : (n : ℕ) (nodes : List Node) (bs : List PlainBlock) → All (BlockFits n nodes) bs → All (λ s. s.scope < n) (block_stops bs)
blocks_there n nodes [] h = All-nil (λ s. s.scope < n)
blocks_there n nodes (b ∷ bs) h =
    All-append (λ s. s.scope < n) _ _ (events_there n b.scope b.events (h 0 b (omega arith)).0) (blocks_there n nodes bs (λ k d l. h (suc k) d (omega (arith, l))))

-- each stop stands in a scope that is there
pub scopes_there : (f : Flat) → IsWellFormed f → All (λ s. s.scope < length f.scopes) (flat_stops f)
scopes_there f well = blocks_there (length f.scopes) f.nodes f.blocks well.blocks
