-- Going on from each part to the one that it reads first, where ranks are distances, comes back.
use Rattle.std.proofs.Common.{◌≡◌, ℕ, suc, ◌+◌, ◌-◌, ◌<◌, ◌≤◌, inl, inr, List, [], ◌∷◌, ◌++◌, length, refl, sym, ap, ◌∙◌, subst, arith}
use Rattle.std.specs.Prelude.{Option, None, Some, slice_index, slice_index_or}
use Rattle.std.specs.Option.{unwrap_or}
use Rattle.std.proofs.lemmas.Bool.{cases_lt}
use Rattle.std.proofs.lemmas.List.{get_or_append_left, get_or_push, get_or_past, get_or_default, length_push}
use Rattle.std.proofs.Math.Logic.{⊎_elim}
use Rattle.netlist.specs.Design.{Flat}
use Rattle.netlist.specs.Graph.{ReadsPart, ReadsIn}
use Rattle.netlist.specs.Order.{IsNearest}
use Rattle.comb_order.specs.First.{ComesFirst, IsFirst, AreFirst}
use Rattle.comb_order.specs.Distance.{AreDistances, ComesBack}
use Rattle.comb_order.specs.Round.{IsRound, next_of}
use Rattle.comb_order.specs.declared.distance.TheConstants.{NEVER}
use Rattle.comb_order.proofs.Distances.{read_there}

-- what is known of the part after a part that comes back: it is the nearest
record Step (f : Flat) (to : ℕ) (ranks : List ℕ) (p q : ℕ) : Type 0 where
  low : slice_index ranks q < NEVER
  nearest : IsNearest f p q to (slice_index ranks q)

nearest_first : (f : Flat) (to : ℕ) (ranks : List ℕ) (p : ℕ) (q : Option ℕ) → AreDistances f to ranks
    → IsFirst ranks (ReadsPart f p) q → ComesBack ranks q → Step f to ranks p (unwrap_or q p)
nearest_first f to ranks p None d h back = absurd back
nearest_first f to ranks p (Some q) d h back =
    let there = read_there f p q h.0 in
    let no_more : (r m : ℕ) → ReadsPart f p r → ReadsIn f m r to → slice_index ranks q ≤ m = λ r m reads way.
    (let a : ComesFirst ranks q r = h.1 r reads in
    let b : slice_index ranks r ≤ m = d.fewest r m (read_there f p r reads) way in
    ⊎_elim (λ (x : slice_index ranks q < slice_index ranks r). omega (arith, x, b))
    (λ (x : (slice_index ranks q ≡ slice_index ranks r) × (q ≤ r)). omega (arith, x.0, b)) a) in
    record {
      low = back;
      nearest = record {
        reads = h.0;
        back = d.back q there back;
        fewest = no_more;
        least = λ r reads way.
            (let a : ComesFirst ranks q r = h.1 r reads in
            let b : slice_index ranks r ≤ slice_index ranks q =
            d.fewest r (slice_index ranks q) (read_there f p r reads) way in
            ⊎_elim (λ (x : slice_index ranks q < slice_index ranks r). omega (arith, x, b))
            (λ (x : (slice_index ranks q ≡ slice_index ranks r) × (q ≤ r)). x.1) a);
      };
    }

-- a part of a rank above 0 goes on to one of the rank below
record Goes (f : Flat) (to : ℕ) (ranks : List ℕ) (firsts : List (Option ℕ)) (p m : ℕ) : Type 0 where
  step : Step f to ranks p (next_of firsts p)
  rank : slice_index ranks (next_of firsts p) ≡ m

pub goes_first : (f : Flat) (to : ℕ) (ranks : List ℕ) (p m : ℕ) (q : Option ℕ) → AreDistances f to ranks
    → IsFirst ranks (ReadsPart f p) q → ReadsIn f (suc m) p to → ComesBack ranks q
goes_first f to ranks p m None d h way = absurd (h way.0 way.1)
goes_first f to ranks p m (Some q) d h way =
    let there = read_there f p way.0 way.1 in
    let a : ComesFirst ranks q way.0 = h.1 way.0 way.1 in
    let b : slice_index ranks way.0 < NEVER = d.ever way.0 m there way.2 in
    ⊎_elim (λ (x : slice_index ranks q < slice_index ranks way.0). omega (arith, x, b))
    (λ (x : (slice_index ranks q ≡ slice_index ranks way.0) × (q ≤ way.0)). omega (arith, x.0, b)) a

goes_on : (f : Flat) (to : ℕ) (ranks : List ℕ) (firsts : List (Option ℕ)) (p m : ℕ) → AreDistances f to ranks
    → AreFirst f ranks firsts → p < length f.driven → slice_index ranks p ≡ suc m → suc m < NEVER
    → Goes f to ranks firsts p m
goes_on f to ranks firsts p m d first l e low =
    let way : ReadsIn f (suc m) p to = subst (λ n. ReadsIn f n p to) e (d.back p l (omega (arith, e, low))) in
    let found : Option ℕ = slice_index_or firsts p None in
    let h : IsFirst ranks (ReadsPart f p) found = first.each p l in
    let step : Step f to ranks p (unwrap_or found p) =
    nearest_first f to ranks p found d h (goes_first f to ranks p m found d h way) in
    let q : ℕ = unwrap_or found p in
    let no_more : slice_index ranks q ≤ m = step.nearest.fewest way.0 m way.1 way.2 in
    let no_less : slice_index ranks p ≤ suc (slice_index ranks q) =
    d.fewest p (suc (slice_index ranks q)) l (q, step.nearest.reads, step.nearest.back) in
    record { step = step; rank = omega (arith, no_more, no_less, e) }

-- after so many steps of all
pub record Stands (f : Flat) (start : ℕ) (ranks : List ℕ) (all step : ℕ) (parts : List ℕ) (next : ℕ) : Type 0 where
  pub count : length parts ≡ step + 1
  pub first : slice_index parts 0 ≡ start
  pub left : slice_index ranks next + step ≡ all
  pub low : slice_index ranks next < NEVER
  pub last : IsNearest f (slice_index parts step) next start (slice_index ranks next)
  pub each : (i : ℕ) → i < step → IsNearest f (slice_index parts i) (slice_index parts (suc i)) start (all - i)

pub stands_first : (f : Flat) (start : ℕ) (ranks : List ℕ) (firsts : List (Option ℕ)) → AreDistances f start ranks
    → AreFirst f ranks firsts → start < length f.driven → ComesBack ranks (slice_index_or firsts start None)
    → Stands f start ranks (slice_index ranks (next_of firsts start)) 0 (start ∷ []) (next_of firsts start)
stands_first f start ranks firsts d first l back =
    let step : Step f start ranks start (next_of firsts start) =
    nearest_first f start ranks start (slice_index_or firsts start None) d (first.each start l) back in
    record {
      count = refl;
      first = refl;
      left = omega arith;
      low = step.low;
      last = step.nearest;
      each = λ i l. absurd (omega (arith, l));
    }

pub stands_more : (f : Flat) (start : ℕ) (ranks : List ℕ) (firsts : List (Option ℕ)) (all step : ℕ) (parts : List ℕ)
    (next : ℕ) → AreDistances f start ranks → AreFirst f ranks firsts → step < all
    → Stands f start ranks all step parts next
    → Stands f start ranks all (step + 1) (parts ++ next ∷ []) (next_of firsts next)
stands_more f start ranks firsts all step parts next d first l s =
    let m : ℕ = all - suc step in
    let rank : slice_index ranks next ≡ suc m = omega (arith, s.left, l) in
    let there : next < length f.driven = read_there f (slice_index parts step) next s.last.reads in
    let goes = goes_on f start ranks firsts next m d first there rank (omega (arith, s.low, rank)) in
    let more : List ℕ = parts ++ next ∷ [] in
    let end : slice_index more (step + 1) ≡ next = get_or_push parts next 0 (step + 1) s.count in
    let old : (i : ℕ) → i < step + 1 → slice_index more i ≡ slice_index parts i = λ i b.
    get_or_append_left parts (next ∷ []) 0 i (omega (arith, b, s.count)) in
    record {
      count = length_push parts next ∙ ap (λ n. n + 1) s.count;
      first = old 0 (omega arith) ∙ s.first;
      left = omega (arith, goes.rank, l);
      low = goes.step.low;
      last = subst (λ k. IsNearest f k (next_of firsts next) start (slice_index ranks (next_of firsts next))) (sym end)
          goes.step.nearest;
      each = λ i b. elim (cases_lt i step) [
        | inl less ↦ subst (λ k. IsNearest f k (slice_index more (suc i)) start (all - i)) (sym (old i b))
            (subst (λ k. IsNearest f (slice_index parts i) k start (all - i)) (sym (old (suc i) (omega (arith, less))))
            (s.each i less))
        | inr same ↦
            let e : step ≡ i = omega (arith, same, b) in
            let here : slice_index more (suc i) ≡ next =
            (let n : suc i ≡ step + 1 = omega (arith, e) in ap (slice_index more) n ∙ end) in
            let number : slice_index ranks next ≡ all - i = omega (arith, s.left, e) in
            let own : slice_index parts step ≡ slice_index more i =
            ap (slice_index parts) e ∙ sym (old i b) in
            subst (λ k. IsNearest f k (slice_index more (suc i)) start (all - i)) own
            (subst (λ k. IsNearest f (slice_index parts step) k start (all - i)) (sym here)
            (subst (λ n. IsNearest f (slice_index parts step) next start n) number s.last))
      ];
    }

pub stands_last : (f : Flat) (start : ℕ) (ranks : List ℕ) (all step : ℕ) (parts : List ℕ) (next : ℕ)
    → AreDistances f start ranks → step ≡ all → Stands f start ranks all step parts next → IsRound f start parts
stands_last f start ranks all step parts next d e s =
    let there : next < length f.driven = read_there f (slice_index parts step) next s.last.reads in
    let zero_left : slice_index ranks next ≡ 0 = omega (arith, s.left, e) in
    let home : next ≡ start = subst (λ n. ReadsIn f n next start) zero_left (d.back next there s.low) in
    record {
      some = omega (arith, s.count);
      first = s.first;
      next = λ i b. elim (cases_lt i step) [
        | inl less ↦
            let long : suc i < length parts = omega (arith, less, s.count) in
            let number : all - i ≡ length parts - suc i = omega (arith, s.count, e) in
            subst (λ n. IsNearest f (slice_index parts i) (slice_index_or parts (suc i) start) start n) number
            (subst (λ k. IsNearest f (slice_index parts i) k start (all - i))
            (get_or_default parts (suc i) 0 start long) (s.each i less))
        | inr same ↦
            let at : step ≡ i = omega (arith, same, b, s.count) in
            let past : slice_index_or parts (suc i) start ≡ start =
            get_or_past parts (suc i) start (omega (arith, at, s.count)) in
            let number : slice_index ranks next ≡ length parts - suc i = omega (arith, zero_left, at, s.count) in
            subst (λ n. IsNearest f (slice_index parts i) (slice_index_or parts (suc i) start) start n) number
            (subst (λ k. IsNearest f (slice_index parts i) k start (slice_index ranks next)) (home ∙ sym past)
            (subst (λ k. IsNearest f (slice_index parts k) next start (slice_index ranks next)) at s.last))
      ];
    }
