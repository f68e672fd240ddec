-- Blocks one after another.
use Rattle.std.proofs.Common.{◌≡◌, ℕ, ◌+◌, ◌<◌, ◌≤◌, List, [], ◌∷◌, ◌++◌, length, drop, get_or, sym, ap, subst, ◌∙◌, arith, append_assoc, Bool, true, false}
use Rattle.std.specs.Prelude.{if◌then◌else◌}
use Rattle.std.proofs.lemmas.List.{drop_more}
use Rattle.std.proofs.lemmas.List.Sums.{sum_by-cons}
use Rattle.netlist.specs.Design.{Flat}
use Rattle.netlist.specs.Fits.{event_count}
use Rattle.netlist.specs.Plain.{PlainBlock}
use Rattle.netlist.specs.Run.{block_fired, blocks_fired, flat_fired, stop_count, is_stop}
use Rattle.netlist.specs.Values.{Values, node_values}
use Rattle.netlist.specs.declared.design.Event.{Event}
use Rattle.netlist.specs.declared.node.Node.{Node}
use Rattle.message_text.specs.declared.telling.Given.{Given}
use Rattle.message_text.specs.Told.{Told, AreGivenBlocks, FitAll, FitBlocks, TellsBlock, TellsBlocks, stops_of}
use Rattle.message_text.proofs.BlockLaws.{fit_length}

-- after the first k blocks: what fired and what is to fire are together what all blocks fire, and so are the stops
pub record Passed (old now : Told) (bs : List PlainBlock) (gs rest : List Given) (k : ℕ) : Type 0 where
  pub fits : FitBlocks (drop k bs) rest
  pub empty : now.text ≡ []
  pub room : now.stop + event_count (drop k bs) ≤ old.stop + event_count bs
  pub stops : now.stop + stops_of (drop k bs) ≡ old.stop + stops_of bs
  pub tells : (nodes : List Node) (xs : List ℕ) → AreGivenBlocks nodes xs bs gs
      → AreGivenBlocks nodes xs (drop k bs) rest
      × (now.fired ++ blocks_fired nodes xs now.stop (drop k bs) ≡ old.fired ++ blocks_fired nodes xs old.stop bs)

-- the blocks from a place on
opened : (bs : List PlainBlock) (k : ℕ) (b : PlainBlock) → k < length bs → b ≡ get_or bs k b
    → drop k bs ≡ b ∷ drop (k + 1) bs
opened bs k b less is = drop_more bs k b less ∙ ap (λ (x : PlainBlock). x ∷ drop (k + 1) bs) (sym is)

one_at_most : (stops : Bool) → (if stops then 1 else 0) ≤ 1
one_at_most true = omega arith
one_at_most false = omega arith

-- no more stops than events
few_stops : (es : List Event) → stop_count es ≤ length es
few_stops [] = omega arith
few_stops (x ∷ es) =
    let first : (if is_stop x.effect then 1 else 0) ≤ 1 = one_at_most (is_stop x.effect) in
    omega (arith, first, few_stops es)

-- what is asked of the block at a place
pub fit_block : (bs : List PlainBlock) (rest : List Given) (k : ℕ) (b : PlainBlock) → k < length bs → b ≡ get_or bs k b
    → FitBlocks (drop k bs) rest → FitAll b.events rest × FitBlocks (drop (k + 1) bs) (drop (length b.events) rest)
fit_block bs rest k b less is fits = subst (λ (cs : List PlainBlock). FitBlocks cs rest) (opened bs k b less is) fits

pub block_within : (bs : List PlainBlock) (rest : List Given) (k : ℕ) (b : PlainBlock) → k < length bs
    → b ≡ get_or bs k b → FitBlocks (drop k bs) rest → length b.events ≤ length rest
block_within bs rest k b less is fits = fit_length b.events rest (fit_block bs rest k b less is fits).0

pub events_from : (bs : List PlainBlock) (k : ℕ) (b : PlainBlock) → k < length bs → b ≡ get_or bs k b
    → event_count (drop k bs) ≡ length b.events + event_count (drop (k + 1) bs)
events_from bs k b less is =
    ap event_count (opened bs k b less is) ∙ sum_by-cons (λ (c : PlainBlock). length c.events) b (drop (k + 1) bs)

-- one block more
pub passed_more : (old now new : Told) (bs : List PlainBlock) (gs rest : List Given) (k : ℕ) (b : PlainBlock)
    → k < length bs → b ≡ get_or bs k b → TellsBlock now new b.events rest → new.stop ≡ now.stop + stop_count b.events
    → new.text ≡ [] → Passed old now bs gs rest k → Passed old new bs gs (drop (length b.events) rest) (k + 1)
passed_more old now new bs gs rest k b less is tells stop text passed =
    let after : List PlainBlock = drop (k + 1) bs in
    let here : drop k bs ≡ b ∷ after = opened bs k b less is in
    let stops : stops_of (drop k bs) ≡ stop_count b.events + stops_of after = ap stops_of here in
    record {
      fits = (fit_block bs rest k b less is passed.fits).1;
      empty = text;
      room = omega (arith, stop, events_from bs k b less is, few_stops b.events, passed.room);
      stops = omega (arith, stop, stops, passed.stops);
      tells = λ nodes xs given.
          let before = passed.tells nodes xs given in
          let now_given : AreGivenBlocks nodes xs (b ∷ after) rest =
          subst (λ (cs : List PlainBlock). AreGivenBlocks nodes xs cs rest) here before.0 in
          let told = tells nodes xs now_given.0 in (
            now_given.1,
            ap (λ (t : Told). t.fired ++ blocks_fired nodes xs t.stop after) told
                ∙ append_assoc now.fired (block_fired nodes xs now.stop [] b.events)
                (blocks_fired nodes xs (now.stop + stop_count b.events) after)
                ∙ ap (λ (cs : List PlainBlock). now.fired ++ blocks_fired nodes xs now.stop cs) (sym here)
                ∙ before.1,
          );
    }

-- all blocks of a design, from the first stop on: what fired is what fires in the cycle
pub told_is_fired : (f : Flat) (v : Values) (old new : Told) (gs : List Given) → old.stop ≡ 0 → old.fired ≡ []
    → TellsBlocks old new f.blocks gs → AreGivenBlocks f.nodes (node_values f v) f.blocks gs
    → new.fired ≡ flat_fired f v
told_is_fired f v old new gs first none tells given =
    tells f.nodes (node_values f v) given
    ∙ ap (λ (n : ℕ). old.fired ++ blocks_fired f.nodes (node_values f v) n f.blocks) first
    ∙ ap (λ xs. xs ++ flat_fired f v) none
