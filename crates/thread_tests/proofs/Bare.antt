-- The tokens of the tests' channel.
use Rattle.std.proofs.Common.{◌≡◌, ℕ, zero, suc, ◌<◌, List, [], ◌∷◌, map, length, get_or, refl, sym, ap, ◌∙◌, subst, arith}
use Rattle.dt_core.specs.BitVectors.{BitVector}
use Rattle.named_run.specs.Named.{token_of, HasShape, shape_of}
use Rattle.named_run.proofs.RunLaws.{token_shaped}
use Rattle.named_run.specs.declared.token.Token.{Token}
use Rattle.token_chan.specs.Names.{Name}
use Rattle.thread_tests.specs.Runs.{quiet}

abbrev pub bare_token : ℕ → Token
bare_token t = record { channel = 0; cycle = t; values = [] }

pub token_is : (t : ℕ) → bare_token t ≡ token_of quiet 0 t
unfolding token_of
token_is t = refl

-- the one returned token of the tests has the channel's shape
pub one_shaped : (k : ℕ) (d : Token) → k < 1 → HasShape quiet 0 (get_or (bare_token 0 ∷ []) k d)
one_shaped zero d l = subst (HasShape quiet 0) (sym (token_is 0)) (token_shaped quiet 0 0)
one_shaped (suc k) d l = absurd (omega (arith, l))

-- so have three of them
pub three_shaped : (k : ℕ) (d : Token) → k < 3 → HasShape quiet 0 (get_or (bare_token 0 ∷ bare_token 0 ∷ bare_token 0 ∷ []) k d)
three_shaped zero d l = subst (HasShape quiet 0) (sym (token_is 0)) (token_shaped quiet 0 0)
three_shaped (suc zero) d l = subst (HasShape quiet 0) (sym (token_is 0)) (token_shaped quiet 0 0)
three_shaped (suc (suc zero)) d l = subst (HasShape quiet 0) (sym (token_is 0)) (token_shaped quiet 0 0)
three_shaped (suc (suc (suc k))) d l = absurd (omega (arith, l))

-- a token of the channel's shape, as the one of a cycle
no_values : (xs : List BitVector) → map (λ b. b.width) xs ≡ [] → xs ≡ []
no_values [] e = refl
no_values (x ∷ xs) e = absurd (let n = ap (λ (l : List ℕ). length l) e in omega (arith, n))

pub bare_again : (x : Token) (t : ℕ) → HasShape quiet 0 x
    → ◌≡◌ {A = Token} record { channel = x.channel; cycle = t; values = x.values } (token_of quiet 0 t)
unfolding shape_of
bare_again x t h = (λ i. record { channel = h.channel i; cycle = t; values = no_values x.values h.widths i }) ∙ token_is t

-- a token of a channel has its shape, by whichever name
pub shaped_by : (x y : Name) (t : Token) (k : ℕ) → y ≡ x → t ≡ token_of y.run y.channel k → HasShape x.run x.channel t
shaped_by x y t k same is = subst (λ (n : Name). HasShape n.run n.channel t) same
    (subst (HasShape y.run y.channel) (sym is) (token_shaped y.run y.channel k))
