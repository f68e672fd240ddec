-- The rule of a channel's queue: it holds the run's tokens in order, from the count taken up to the count given, and at
-- most as many as its depth. FAME1 decoupling as in Strober in outline; the rule is this project's own.
use Rattle.std.specs.Prelude.{◌≡◌, ℕ, zero, suc, ◌+◌, ◌<◌, ◌≤◌, true, false, List, [], ◌∷◌, length}
use mathlib.Core.Option.{some}
use lib.ListN.{get_elem?}
use Rattle.named_run.specs.Named.{token_of}
use Rattle.named_run.specs.declared.token.Token.{Token}
use Rattle.token_chan.specs.Names.{Name, no_name}
use Rattle.token_chan.specs.declared.view.TokenView.{TokenView}

-- the tokens of the channel of n cycles, from the cycle a on
abbrev pub tokens : Name → ℕ → ℕ → List Token
tokens x a zero = []
tokens x a (suc n) = token_of x.run x.channel a ∷ tokens x (suc a) n

-- ---- views

-- a pass that gives, one that takes, one that does both, and one that does neither
abbrev pub giver_view : Name → ℕ → ℕ → TokenView
giver_view x given knows_taken = record {
  gives = true;
  takes = false;
  name = x;
  given = given;
  taken = 0;
  knows_given = 0;
  knows_taken = knows_taken;
}

abbrev pub taker_view : Name → ℕ → ℕ → TokenView
taker_view x taken knows_given = record {
  gives = false;
  takes = true;
  name = x;
  given = 0;
  taken = taken;
  knows_given = knows_given;
  knows_taken = 0;
}

abbrev pub whole_view : Name → ℕ → ℕ → TokenView
whole_view x given taken = record {
  gives = true;
  takes = true;
  name = x;
  given = given;
  taken = taken;
  knows_given = given;
  knows_taken = taken;
}

-- the giver's pass with the taker's in it: what each knew stays
abbrev pub joined_view : Name → ℕ → ℕ → ℕ → ℕ → TokenView
joined_view x given taken knows_given knows_taken = record {
  gives = true;
  takes = true;
  name = x;
  given = given;
  taken = taken;
  knows_given = knows_given;
  knows_taken = knows_taken;
}

abbrev pub idle_view : TokenView
idle_view = record {
  gives = false;
  takes = false;
  name = no_name;
  given = 0;
  taken = 0;
  knows_given = 0;
  knows_taken = 0;
}

-- ---- the rule

-- what a pass knows is so: each role stands at one pass
pub record Fits (giver taker given taken : ℕ) (x : Name) (j : ℕ) (v : TokenView) : Type 0 where
  pub gives : v.gives ≡ true → (j ≡ giver) × (v.given ≡ given) × (v.knows_taken ≤ taken) × (v.name ≡ x)
  pub takes : v.takes ≡ true → (j ≡ taker) × (v.taken ≡ taken) × (v.knows_given ≤ given) × (v.name ≡ x)

pub record Holds (items : List Token) (views : List TokenView) : Type 0 where
  pub giver : ℕ
  pub taker : ℕ
  pub given : ℕ
  pub taken : ℕ
  pub name : Name
  pub fits : (j : ℕ) (v : TokenView) → get_elem? views j ≡ some v → Fits giver taker given taken name j v
  pub count : taken + length items ≡ given
  pub in_order : items ≡ tokens name taken (length items)
  pub room : length items ≤ name.depth

-- ---- what the steps tell

-- the first push names the channel and the cycle at which it begins
abbrev pub names : Name → TokenView → Token → TokenView → Type 0
names x v t w = w ≡ whole_view x (t.cycle + 1) t.cycle

-- the giver has given one more, and knows how many are taken
abbrev pub gives : TokenView → Token → TokenView → Type 0
gives v t w = (known : ℕ) × (v.knows_taken ≤ known) × (w ≡ record {
  gives = v.gives;
  takes = v.takes;
  name = v.name;
  given = v.given + 1;
  taken = v.taken;
  knows_given = v.knows_given;
  knows_taken = known;
})

-- the taker has taken the run's next token, which was given, and knows how many are given
abbrev pub takes : TokenView → Token → TokenView → Type 0
takes v t w = (t ≡ token_of v.name.run v.name.channel v.taken) × (v.gives ≡ true → v.taken < v.given)
    × ((known : ℕ) × (v.knows_given ≤ known) × (w ≡ record {
      gives = v.gives;
      takes = v.takes;
      name = v.name;
      given = v.given;
      taken = v.taken + 1;
      knows_given = known;
      knows_taken = v.knows_taken;
    }))

-- the queue was full, and so many were taken then; or it was empty, and so many were given then
abbrev pub full_then : TokenView → List Token → Type 0
full_then v items = (taken : ℕ) × (v.knows_taken ≤ taken) × (taken + length items ≡ v.given)

abbrev pub empty_then : TokenView → List Token → Type 0
empty_then v items = (given : ℕ) × (v.knows_given ≤ given) × (v.taken + length items ≡ given)

-- one pass does both, so it knows how many there are
abbrev pub counted : TokenView → List Token → Type 0
counted v items = v.taken + length items ≡ v.given

-- it knows as well how many at most, and that it knew no more than was so
abbrev pub stands : TokenView → List Token → Type 0
stands v items = counted v items × (length items ≤ v.name.depth) × (v.knows_taken ≤ v.taken) × (v.knows_given ≤ v.given)
