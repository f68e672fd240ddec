-- What follows of runs in general.
use Rattle.std.proofs.Common.{◌≡◌, ℕ, ◌<◌, Bool, true, false, true≢false, List, [], ◌∷◌, if◌then◌else◌, refl, sym, ap, ◌∙◌}
use Rattle.std.proofs.lemmas.Bool.{ltb-true}
use Rattle.std.specs.Prelude.{◌-◌, nat_lt, slice_index, slice_index_or, map}
use Rattle.std.specs.List.{list_any}
use Rattle.netlist.specs.Design.{Flat}
use Rattle.netlist.specs.Run.{State, Fired, flat_fired}
use Rattle.named_run.specs.Named.{RunData, end_of, state_after, values_after, register_in, has, fires, no_run, token_of, HasShape, shape_of}

none_fires_of : (xs : List Fired) → list_any (λ x. has [] x.stop) xs ≡ false
none_fires_of [] = refl
none_fires_of (x ∷ xs) = none_fires_of xs

either_false : (b c : Bool) → c ≡ false → (if b then false else c) ≡ false
either_false Bool.true c e = refl
either_false Bool.false c e = e

then_false : (b c : Bool) → c ≡ false → (if b then c else false) ≡ false
then_false Bool.true c e = e
then_false Bool.false c e = refl

within_true : (b c d : Bool) → (if b then false else (if c then d else false)) ≡ true → c ≡ true
within_true Bool.true c d e = absurd (true≢false (sym e))
within_true Bool.false Bool.true d e = refl
within_true Bool.false Bool.false d e = absurd (true≢false (sym e))

-- what fires does so before the run's end
pub fires_below : (r : RunData) (p t : ℕ) → fires r p t ≡ true → t < end_of r
unfolding fires
fires_below r p t e = ltb-true t (end_of r) (within_true (nat_lt t r.cycle) (nat_lt t (end_of r)) _ e)

-- a leader that owns no assertion never fires
pub none_owned : (r : RunData) (p t : ℕ) → slice_index_or r.owned p [] ≡ [] → fires r p t ≡ false
unfolding fires
none_owned r p t e = either_false (nat_lt t r.cycle) _ (then_false (nat_lt t (end_of r)) _
    (ap (λ (ns : List ℕ). list_any (λ x. has ns x.stop) (flat_fired r.flat (values_after r (t - r.cycle)))) e
    ∙ none_fires_of (flat_fired r.flat (values_after r (t - r.cycle)))))

-- where no run is named, nothing fires
pub no_run_fires : (a p t : ℕ) → fires (no_run a) p t ≡ false
no_run_fires a p t = none_owned (no_run a) p t refl

widths_in : (f : Flat) (s : State) (ks : List ℕ)
    → map (λ b. b.width) (map (register_in f s) ks) ≡ map (λ k. slice_index (map (λ p. p.range.width) f.registers) k) ks
widths_in f s [] = refl
widths_in f s (k ∷ ks) = ap (λ (l : List ℕ). slice_index (map (λ p. p.range.width) f.registers) k ∷ l) (widths_in f s ks)

-- each token of the run has its channel's shape
pub token_shaped : (r : RunData) (ch t : ℕ) → HasShape r ch (token_of r ch t)
unfolding token_of shape_of
token_shaped r ch t = record {
  channel = refl;
  widths = widths_in r.flat (state_after r (t - r.cycle)) (slice_index_or r.carried ch []);
}
