-- What fires in a cycle, block by block: the stops of a block are numbered behind those of the blocks before it.
use Rattle.std.proofs.Common.{◌≡◌, ℕ, suc, ◌+◌, List, [], ◌∷◌, ◌++◌, length, refl, sym, ap, subst, ◌∙◌, arith}
use Rattle.std.specs.Prelude.{Some, None, slice_get, take}
use Rattle.std.proofs.lemmas.List.{length-map}
use Rattle.std.proofs.lemmas.List.Sums.{sum_by-cons}
use Rattle.netlist.specs.Design.{Flat}
use Rattle.netlist.specs.Plain.{PlainBlock}
use Rattle.netlist.specs.Values.{Values, node_values}
use Rattle.netlist.specs.Run.{Fired, block_fired, blocks_fired, stop_count}
use Rattle.design_names.specs.Stops.{flat_stops}
use Rattle.vl_design.specs.Lists.{each_of}
use Rattle.vl_design.specs.Design.{Design}
use Rattle.vl_process.specs.Processes.{Block, blocks}
use Rattle.vl_process.specs.Run.{block_fires}
use Rattle.vl_process.specs.StandsFor.{fired_by, all_fired_by, block_scope, first_stop}
use Rattle.vl_process.specs.Laws.{FiresLaw}

-- appending is associative, by the first list
joined : {X : Type 0} (a b c : List X) → (a ++ b) ++ c ≡ a ++ (b ++ c)
joined [] b c = refl
joined (x ∷ a) b c = ap (λ r. x ∷ r) (joined a b c)

fired_by_appended : (f : Flat) (xs ys : List Fired) → all_fired_by f (xs ++ ys) ≡ all_fired_by f xs ++ all_fired_by f ys
fired_by_appended f [] ys = refl
fired_by_appended f (x ∷ xs) ys = let here = fired_by f (slice_get (flat_stops f) x.stop) x.message in
    ap (λ r. here ++ r) (fired_by_appended f xs ys) ∙ sym (joined here (all_fired_by f xs) (all_fired_by f ys))

-- each of these blocks, whose first stop is numbered behind n others, fires as the design's does
abbrev Each : Flat → Design → Values → ℕ → List PlainBlock → List Block → Type 0
Each f d v n bs xs = (b : ℕ) (p : PlainBlock) (x : Block) → slice_get bs b ≡ Some p → slice_get xs b ≡ Some x
    → all_fired_by f (block_fired f.nodes (node_values f v) (n + first_stop bs b) [] p.events) ≡ block_fires d v x

blocks_same : (f : Flat) (d : Design) (v : Values) (n : ℕ) (bs : List PlainBlock) (xs : List Block) → length bs ≡ length xs
    → Each f d v n bs xs → all_fired_by f (blocks_fired f.nodes (node_values f v) n bs) ≡ each_of (block_fires d v) xs
blocks_same f d v n [] [] count each = refl
blocks_same f d v n [] (x ∷ xs) count each = absurd cc
blocks_same f d v n (p ∷ ps) [] count each = absurd cc
blocks_same f d v n (p ∷ ps) (x ∷ xs) count each =
    let fires : ℕ → List Fired = λ k. block_fired f.nodes (node_values f v) k [] p.events in
    let none : n + 0 ≡ n = omega arith in
    let first : all_fired_by f (fires n) ≡ block_fires d v x =
    subst (λ k. all_fired_by f (fires k) ≡ block_fires d v x) none (each 0 p x refl refl) in
    let rest = blocks_same f d v (n + stop_count p.events) ps xs (omega (arith, count)) (λ b q y at there.
    let step : first_stop (p ∷ ps) (suc b) ≡ stop_count p.events + first_stop ps b =
    sum_by-cons (λ (o : PlainBlock). stop_count o.events) p (take b ps) in
    let behind : n + first_stop (p ∷ ps) (suc b) ≡ (n + stop_count p.events) + first_stop ps b = omega (arith, step) in
    subst (λ k. all_fired_by f (block_fired f.nodes (node_values f v) k [] q.events) ≡ block_fires d v y) behind
    (each (suc b) q y at there)) in
    fired_by_appended f (fires n) (blocks_fired f.nodes (node_values f v) (n + stop_count p.events) ps)
    ∙ ap (λ r. r ++ all_fired_by f (blocks_fired f.nodes (node_values f v) (n + stop_count p.events) ps)) first
    ∙ ap (λ r. block_fires d v x ++ r) rest

pub fires_same : FiresLaw
fires_same f d v stands fits =
    let count : length f.blocks ≡ length (blocks d) =
    sym (length-map f.blocks (λ (x : PlainBlock). Some x.scope)) ∙ ap length stands.blocks_stand
    ∙ length-map (blocks d) (block_scope d) in
    blocks_same f d v 0 f.blocks (blocks d) count (λ b p x at there.
    let none : first_stop f.blocks b ≡ 0 + first_stop f.blocks b = omega arith in
    let own = subst (λ o. all_fired_by f (block_fired f.nodes (node_values f v) (first_stop f.blocks b) []
    (elim o [ Some q ↦ q.events | None ↦ [] ])) ≡ block_fires d v x) at (stands.fired b x there v fits) in
    subst (λ k. all_fired_by f (block_fired f.nodes (node_values f v) k [] p.events) ≡ block_fires d v x) none own)
