-- From what the reader of modules answers to what `parse_source` answers.
use Rattle.std.proofs.Common.{◌≡◌, ◌-◌, ℕ, List, [], ◌∷◌, length, take, refl, sym, ◌∙◌, ap, subst, arith}
use Rattle.std.proofs.Math.Seq.{take-length}
use Rattle.vl_tree.specs.Token.{Tokens}
use Rattle.vl_tree.specs.Syntax.{Source}
use Rattle.vl_tree.specs.Placed.{Placed, placed}
use Rattle.vl_tree.specs.Modules.{source_at}
use Rattle.vl_tree.specs.Depth.{source_depths}
use Rattle.vl_tree.specs.Derives.{Within, IsSource}
use Rattle.vl_read.specs.declared.fault.Fault.{Fault}
use Rattle.vl_read.specs.declared.fault.Fault.TheVariants as f
use Rattle.vl_read.specs.Faults.{told}
use Rattle.vl_read.specs.Reading.{Took, Refuses}
use Rattle.vl_read.proofs.Places.{stuck_bad, stuck_shallow, sunk_deep, rest_bad, rest_shallow, took_derives, took_shallow, took_only}
use Rattle.vl_read.proofs.TokenRules.{placed_length}
use Rattle.vl_source.specs.Readers.{NoModule}
use Rattle.vl_source.specs.Parsed.{IsRefused}

length_none : (xs : List Placed) → length xs ≡ 0 → xs ≡ []
length_none [] h = refl
length_none (a ∷ xs) h = absurd cc

module _ (ts : Tokens) (count : ℕ) (all : count ≡ length ts) where
  from_count : (n : ℕ) → length (placed 0 ts) - n ≡ count - n
  from_count n = ap (λ k. k - n) (placed_length 0 ts ∙ sym all)

  pub refused : (e : Fault) → Refuses source_at source_depths NoModule NoModule (placed 0 ts) e → IsRefused ts (told count e)
  refused f.Memory r = tt
  refused (f.At left) r =
      rw (← from_count left) (record {
        bad = stuck_bad source_at source_depths NoModule NoModule tt tt (placed 0 ts) left r;
        shallow = stuck_shallow source_at source_depths NoModule NoModule tt tt (placed 0 ts) left r;
      })
  refused (f.Deep left) r =
      rw (← from_count left) (sunk_deep source_at source_depths NoModule NoModule tt tt (placed 0 ts) left r)

  module _ (t : Source) (rest : List Placed) (p : Took source_at source_depths NoModule NoModule t (placed 0 ts) rest) where
    pub left_over : (left : ℕ) → left ≡ length rest → (left ≡ 0 → ⊥) → IsRefused ts (told count (f.At left))
    left_over left e n =
        let some : rest ≡ [] → ⊥ = λ h. n (e ∙ ap length h) in
        rw (e, ← from_count (length rest)) (record {
          bad = rest_bad source_at source_depths NoModule NoModule tt tt t (placed 0 ts) rest p some;
          shallow = rest_shallow source_at source_depths NoModule NoModule tt tt t (placed 0 ts) rest p;
        })

    module _ (end : length rest ≡ 0) where
      all_taken : take (length (placed 0 ts) - length rest) (placed 0 ts) ≡ placed 0 ts
      all_taken =
          let n : length (placed 0 ts) - length rest ≡ length (placed 0 ts) = omega (arith, end) in
          ap (λ n. take n (placed 0 ts)) n ∙ take-length (placed 0 ts)

      pub parsed : IsSource (placed 0 ts) t
      parsed = record {
        derives = subst (λ us. source_at t us []) all_taken
            (took_derives source_at source_depths NoModule NoModule tt tt t (placed 0 ts) rest p);
        shallow = subst (λ us. Within us (source_depths t)) all_taken
            (took_shallow source_at source_depths NoModule NoModule tt tt t (placed 0 ts) rest p);
      }

      pub only_parsed : (u : Source) → source_at u (placed 0 ts) [] → u ≡ t
      only_parsed u d =
          took_only source_at source_depths NoModule NoModule tt tt t (placed 0 ts) rest p u
          (subst (λ us. source_at u us []) (sym all_taken) d)
