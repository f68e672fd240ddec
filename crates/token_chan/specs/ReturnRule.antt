-- The rule of a channel's queue of returned tokens, which leads back from the taker to the giver: it holds, in order,
-- the tokens that the taker has returned and the giver hasn't reused yet, at most as many as the channel's depth, and
-- each has the channel's shape. What values they have is free: they are to be filled anew. This project's own.
use Rattle.std.specs.Prelude.{◌≡◌, ℕ, ◌+◌, ◌<◌, ◌≤◌, true, false, List, [], ◌∷◌, ◌++◌, length, All}
use mathlib.Core.Option.{some}
use lib.ListN.{get_elem?}
use Rattle.named_run.specs.Named.{HasShape}
use Rattle.named_run.specs.declared.token.Token.{Token}
use Rattle.token_chan.specs.Names.{Name, no_name}
use Rattle.token_chan.specs.declared.view.ReturnView.{ReturnView}

-- each of the tokens has the channel's shape
abbrev pub AreShaped : Name → List Token → Type 0
AreShaped x [] = Unit {0}
AreShaped x (t ∷ ts) = HasShape x.run x.channel t × AreShaped x ts

-- ---- views

-- a pass that reuses tokens, one that hands them back, one that does both, and one that does neither
abbrev pub giver_return_view : Name → List Token → ℕ → ReturnView
giver_return_view x reused knows_returned = record {
  reuses = true;
  hands_back = false;
  name = x;
  reused = reused;
  returned = [];
  knows_returned = knows_returned;
  knows_reused = 0;
}

abbrev pub taker_return_view : Name → List Token → ℕ → ReturnView
taker_return_view x returned knows_reused = record {
  reuses = false;
  hands_back = true;
  name = x;
  reused = [];
  returned = returned;
  knows_returned = 0;
  knows_reused = knows_reused;
}

abbrev pub both_view : Name → List Token → List Token → ℕ → ℕ → ReturnView
both_view x reused returned knows_returned knows_reused = record {
  reuses = true;
  hands_back = true;
  name = x;
  reused = reused;
  returned = returned;
  knows_returned = knows_returned;
  knows_reused = knows_reused;
}

abbrev pub idle_return : ReturnView
idle_return = record {
  reuses = false;
  hands_back = false;
  name = no_name;
  reused = [];
  returned = [];
  knows_returned = 0;
  knows_reused = 0;
}

-- a pass that has returned these and reused none, and may do both
pub record IsFilled (x : Name) (blanks : List Token) (v : ReturnView) : Type 0 where
  pub reuses : v.reuses ≡ true
  pub hands_back : v.hands_back ≡ true
  pub name : v.name ≡ x
  pub reused : v.reused ≡ []
  pub returned : v.returned ≡ blanks

-- a pass that knew v has reused these tokens since, as w knows, and they stand behind those that were there before
pub record AreMoved (v w : ReturnView) (before now : List Token) : Type 0 where
  pub moved : List Token
  pub behind : now ≡ before ++ moved
  pub reused : v.reused ++ moved ≡ w.reused
  pub shaped : All (HasShape v.name.run v.name.channel) moved

-- ---- the rule

-- what a pass knows is so: each role stands at one pass
pub record ReturnFits (giver taker : ℕ) (reused returned : List Token) (x : Name) (j : ℕ) (v : ReturnView)
    : Type 0 where
  pub reuses : v.reuses ≡ true → (j ≡ giver) × (v.reused ≡ reused) × (v.knows_returned ≤ length returned) × (v.name ≡ x)
  pub hands_back : v.hands_back ≡ true
      → (j ≡ taker) × (v.returned ≡ returned) × (v.knows_reused ≤ length reused) × (v.name ≡ x)

pub record ReturnsHold (items : List Token) (views : List ReturnView) : Type 0 where
  pub giver : ℕ
  pub taker : ℕ
  pub reused : List Token
  pub returned : List Token
  pub name : Name
  pub fits : (j : ℕ) (v : ReturnView) → get_elem? views j ≡ some v → ReturnFits giver taker reused returned name j v
  pub in_order : reused ++ items ≡ returned
  pub room : length items ≤ name.depth
  pub shaped : AreShaped name items

-- ---- what the steps tell

-- this token is returned last, and the taker knows how many are reused
abbrev pub hands_back : ReturnView → Token → ReturnView → Type 0
hands_back v t w = (known : ℕ) × (v.knows_reused ≤ known) × (w ≡ record {
  reuses = v.reuses;
  hands_back = v.hands_back;
  name = v.name;
  reused = v.reused;
  returned = v.returned ++ t ∷ [];
  knows_returned = v.knows_returned;
  knows_reused = known;
})

-- the oldest returned token is reused, and the giver knows how many are returned
abbrev pub reuses : ReturnView → Token → ReturnView → Type 0
reuses v t w = HasShape v.name.run v.name.channel t × (v.hands_back ≡ true → length v.reused < length v.returned)
    × ((known : ℕ) × (v.knows_returned ≤ known) × (w ≡ record {
      reuses = v.reuses;
      hands_back = v.hands_back;
      name = v.name;
      reused = v.reused ++ t ∷ [];
      returned = v.returned;
      knows_returned = known;
      knows_reused = v.knows_reused;
    }))

-- the queue was full, and so many were reused then; or it was empty, and so many were returned then
abbrev pub no_room_then : ReturnView → List Token → Type 0
no_room_then v items = (reused : ℕ) × (v.knows_reused ≤ reused) × (reused + length items ≡ length v.returned)

abbrev pub none_returned_then : ReturnView → List Token → Type 0
none_returned_then v items = (returned : ℕ)
    × (v.knows_returned ≤ returned) × (length v.reused + length items ≡ returned)

-- one pass does both, so it knows which there are, how many at most, and that it knew no more than was so
abbrev pub returns_stand : ReturnView → List Token → Type 0
returns_stand v items = (v.reused ++ items ≡ v.returned) × (length items ≤ v.name.depth)
    × (v.knows_returned ≤ length v.returned) × (v.knows_reused ≤ length v.reused)
