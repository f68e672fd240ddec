-- The tokens of sixteen registers.
use Rattle.std.proofs.Common.{◌≡◌, ℕ, zero, suc, ◌-◌, ◌<◌, List, [], ◌∷◌, map, replicate, get_or, refl, sym, ap, ◌∙◌, subst, arith}
use Rattle.std.specs.List.{range_with_len}
use Rattle.dt_core.specs.BitVectors.{BitVector, vector}
use Rattle.named_run.specs.Named.{token_of, state_after, register_in, HasShape}
use Rattle.named_run.proofs.RunLaws.{token_shaped}
use Rattle.named_run.specs.declared.token.Token.{Token}
use Rattle.thread_tests.specs.Runs.{wide}

-- a token whose registers are 0
abbrev pub zeros : ℕ → Token
zeros t = record { channel = 0; cycle = t; values = replicate 16 (vector 32 0) }

values_are : (k : ℕ) → map (register_in wide.flat (state_after wide k)) (range_with_len 0 16) ≡ replicate 16 (vector 32 0)
unfolding state_after
values_are zero = refl
values_are (suc k) = refl

pub wide_is : (t : ℕ) → token_of wide 0 t ≡ zeros t
unfolding token_of
wide_is t = ap (λ (vs : List BitVector). record { channel = 0; cycle = t; values = vs }) (values_are (t - 0))

-- a token of the run is the one of its own cycle, and with another cycle it is that cycle's
pub own_cycle : (x : Token) (t : ℕ) → x ≡ token_of wide 0 t → x ≡ token_of wide 0 x.cycle
own_cycle x t e = e ∙ ap (token_of wide 0) (sym (ap (λ (y : Token). y.cycle) (e ∙ wide_is t)))

pub again : (x : Token) (t : ℕ) → x ≡ token_of wide 0 x.cycle
    → ◌≡◌ {A = Token} record { channel = x.channel; cycle = t; values = x.values } (token_of wide 0 t)
again x t e = let is = e ∙ wide_is x.cycle in
    (λ i. record { channel = (is i).channel; cycle = t; values = (is i).values }) ∙ sym (wide_is t)

-- a blank of these registers has the channel's shape
pub wide_shaped : (x : Token) → x ≡ token_of wide 0 0 → (k : ℕ) (d : Token) → k < 1 → HasShape wide 0 (get_or (x ∷ []) k d)
wide_shaped x e zero d l = subst (HasShape wide 0) (sym e) (token_shaped wide 0 0)
wide_shaped x e (suc k) d l = absurd (omega (arith, l))
