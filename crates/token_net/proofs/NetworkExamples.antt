-- Worked examples: two partitions that exchange a bit each cycle, over one row and then two more; the lag rule with
-- leaders at 7 and 5; and a leader that has seen a fire.
use Rattle.std.proofs.Common.{◌≡◌, ℕ, zero, suc, ◌+◌, ◌-◌, ◌<◌, ◌≤◌, ◌==◌, Bool, true, false, not, if◌then◌else◌}
use Rattle.std.proofs.Common.{List, [], ◌∷◌, length, refl, ap, ◌∙◌, inl, inr, ⊎_elim, arith}
use Rattle.token_net.specs.Shape.{Shape, IsShape, Run, AreTokens, IsRun}
use Rattle.token_net.specs.SideState.{SideState, idle, taking, quiet, firing}
use Rattle.token_net.specs.Posts.{Posts, Course, KeepsLag, LeaderRuns, none_yet, present, sight, after_fire}
use Rattle.token_net.specs.End.{IsDone}
use Rattle.token_net.specs.Network.{leading, lagging, Config, Enabled, MayStart, after, start}
use Rattle.token_net.specs.Network.{take, evaluate, give, raise, halt, see, lag_raise}
use Rattle.token_net.specs.Left.{left}
use Rattle.token_net.specs.Extension.{Step, event, extension, MayStep, after_step}

-- ---- two partitions: a takes b, and b takes a, turned in the cycles in which the input is 1

abbrev other_than : Bool → Bool → Bool
other_than a true = not a
other_than a false = a

abbrev next_of : (ℕ → Bool) → ℕ → ℕ → Bool → (ℕ → Bool) → Bool
next_of d p t own copy = if p == 0 then copy 1 else other_than (copy 0) (d t)

-- channel 0 leads from partition 0 to 1, and channel 1 back
abbrev pair : (ℕ → Bool) → ℕ → Shape Bool Bool
pair d lag = record {
  parts = 2;
  channels = 2;
  from = λ ch. ch;
  to = λ ch. 1 - ch;
  depth = 2;
  lag = lag;
  next = next_of d;
  fires = λ p t own copy. false;
  send = λ ch own. own;
}

abbrev mutual
  a_of : (ℕ → Bool) → ℕ → Bool
  a_of d zero = false
  a_of d (suc t) = b_of d t

  b_of : (ℕ → Bool) → ℕ → Bool
  b_of d zero = false
  b_of d (suc t) = other_than (a_of d t) (d t)

-- the run of the two registers, which knows no partitions
abbrev bits : (ℕ → Bool) → Run Bool Bool
bits d = record {
  part = λ p t. if p == 0 then a_of d t else b_of d t;
  token = λ ch t. if ch == 0 then a_of d t else b_of d t;
  fired = λ p t. false;
}

abbrev begun : Config Bool Bool
begun = start (pair (λ _. true) 0) (bits (λ _. true)) 1

abbrev one_row : Shape Bool Bool
one_row = pair (λ _. true) 0

-- ---- one row

-- nothing is given before it is evaluated
no_give : Enabled one_row begun (give leading 0) → ⊥
no_give en = ⊎_elim (λ (q : idle ≡ quiet). absurd cc) (λ (f : idle ≡ firing). absurd cc) en.2.evaluated

a_take : Enabled one_row begun (take leading 0)
a_take = (
  record { going = refl; clear = omega arith },
  record {
    there = omega arith;
    ready = inl (refl, omega arith);
    some = λ none. absurd (let l = ap length none in omega (arith, l));
  },
)

left_at_first : left one_row begun ≡ 32
left_at_first = refl

left_after_the_take : left one_row (after one_row begun (take leading 0)) ≡ 31
left_after_the_take = refl

-- the taker is taking, the channel is empty
taker_is_taking : (after one_row begun (take leading 0)).leaders.phase 1 ≡ taking
taker_is_taking = refl

channel_is_empty : (after one_row begun (take leading 0)).leaders.held 0 ≡ []
channel_is_empty = refl

-- ---- a whole cycle of the leaders, then what the laggers may do

abbrev steps_of : Config Bool Bool → List Step → Config Bool Bool
steps_of c [] = c
steps_of c (s ∷ steps) = steps_of (after_step one_row c s) steps

abbrev a_cycle : List Step
a_cycle =
    event (take leading 0) ∷ event (take leading 1) ∷ event (evaluate leading 0) ∷ event (evaluate leading 1)
    ∷ event (give leading 0) ∷ event (give leading 1) ∷ event (raise 0) ∷ event (raise 1) ∷ event (halt 0)
    ∷ event (halt 1) ∷ []

abbrev leaders_done : Config Bool Bool
leaders_done = steps_of begun a_cycle

own_states : (leaders_done.leaders.own 0 ≡ false) × (leaders_done.leaders.own 1 ≡ true)
own_states = (refl, refl)

next_tokens : (leaders_done.leaders.held 0 ≡ record { cycle = 1; values = false } ∷ [])
    × (leaders_done.leaders.held 1 ≡ record { cycle = 1; values = true } ∷ [])
next_tokens = (refl, refl)

left_after_the_leaders : left one_row leaders_done ≡ 12
left_after_the_leaders = refl

-- a lagger that hasn't seen the leaders doesn't start
no_start : MayStart one_row lagging leaders_done 0 → ⊥
no_start may = let a = may 0 (omega arith) in absurd (omega (arith, a))

seen_start : MayStart one_row lagging (steps_of leaders_done (event (see 0 0) ∷ event (see 0 1) ∷ [])) 0
seen_start zero l = omega arith
seen_start (suc zero) l = omega arith
seen_start (suc (suc k)) l = absurd (omega (arith, l))

-- ---- what holds of both partitions holds of each

below_two : (P : ℕ → Type 0) → P 0 → P 1 → (k : ℕ) → k < 2 → P k
below_two P a b zero l = a
below_two P a b (suc zero) l = b
below_two P a b (suc (suc k)) l = absurd (omega (arith, l))

-- ---- the laggers' cycle, and then two rows more

abbrev laggers_cycle : List Step
laggers_cycle =
    event (see 0 0) ∷ event (see 0 1) ∷ event (see 1 0) ∷ event (see 1 1) ∷ event (take lagging 0)
    ∷ event (take lagging 1) ∷ event (evaluate lagging 0) ∷ event (evaluate lagging 1) ∷ event (give lagging 0)
    ∷ event (give lagging 1) ∷ event (lag_raise 0) ∷ event (lag_raise 1) ∷ []

abbrev all_done : Config Bool Bool
all_done = steps_of leaders_done laggers_cycle

nothing_left : left one_row all_done ≡ 0
nothing_left = refl

may_extend : MayStep one_row all_done (extension 2)
may_extend = record {
  finished = record {
    leaders = below_two (λ p. (all_done.posts.leader p).halted ≡ true) refl refl;
    laggers = below_two (λ q. IsDone 2 0 (all_done.posts.lagger q)) done_zero done_one;
  };
  no_fire = refl;
}
  where
    done_zero : IsDone 2 0 (all_done.posts.lagger 0)
    done_zero = record {
      halts = below_two (λ p. (sight (all_done.posts.lagger 0) p).halted ≡ true) refl refl;
      near = (0, omega arith, omega arith);
    }

    done_one : IsDone 2 0 (all_done.posts.lagger 1)
    done_one = record {
      halts = below_two (λ p. (sight (all_done.posts.lagger 1) p).halted ≡ true) refl refl;
      near = (0, omega arith, omega arith);
    }

-- the leaders go on from 1 with 3 rows, and a lagger has seen them there, not halted
abbrev longer : Config Bool Bool
longer = after_step one_row all_done (extension 2)

three_rows : longer.rows ≡ 3
three_rows = refl

goes_on : (present (longer.posts.leader 1) ≡ record { at = 1; halted = false })
    × (sight (longer.posts.lagger 0) 1 ≡ record { at = 1; halted = false })
goes_on = (refl, refl)

left_after_the_extension : left one_row longer ≡ 52
left_after_the_extension = refl

next_take : Enabled one_row longer (take leading 0)
next_take = (
  record { going = refl; clear = omega arith },
  record {
    there = omega arith;
    ready = inl (refl, omega arith);
    some = λ none. absurd (let l = ap length none in omega (arith, l));
  },
)

-- ---- the lag rule: leaders at 7 and 5, lag 4

abbrev at_seven_and_five : ℕ → Posts
at_seven_and_five b = record {
  leader = λ p. record { at = if p == 0 then 7 else 5; halted = false; reported = false; seen = none_yet };
  lagger = λ q. record { at = b; sights = record { at = 7; halted = false } ∷ record { at = 5; halted = false } ∷ [] };
  fire = none_yet;
}

abbrev ten_rows : Course
ten_rows = record { parts = 2; rows = 10; lag = 4; fired = λ p t. false }

may_be_at_one : KeepsLag ten_rows (at_seven_and_five 1)
may_be_at_one q zero ql pl = inr (omega arith)
may_be_at_one q (suc zero) ql pl = inr (omega arith)
may_be_at_one q (suc (suc k)) ql pl = absurd (omega (arith, pl))

may_not_be_at_two : KeepsLag ten_rows (at_seven_and_five 2) → ⊥
may_not_be_at_two rule = ⊎_elim (λ (z : 2 ≡ 0). absurd (omega (arith, z))) (λ (l : 2 + 4 ≤ 5).
    absurd (omega (arith, l)))
    (rule 0 1 (omega arith) (omega arith))

-- ten rows, leaders at 7 and 5, laggers at b
abbrev stands : ℕ → Config Bool Bool
stands b = record begun { rows = 10; posts = at_seven_and_five b }

starts_from_zero : MayStart (pair (λ _. true) 4) lagging (stands 0) 0
starts_from_zero zero l = omega arith
starts_from_zero (suc zero) l = omega arith
starts_from_zero (suc (suc k)) l = absurd (omega (arith, l))

waits_at_one : MayStart (pair (λ _. true) 4) lagging (stands 1) 0 → ⊥
waits_at_one may = let a = may 1 (omega arith) in absurd (omega (arith, a))

-- the fire word is the lesser of two reports
least_fire : (after_fire 1 (after_fire 0 (at_seven_and_five 0))).fire ≡ 5
least_fire = refl

-- ---- a leader at 6 that has seen a fire at 5, whatever the leaders hold, takes, evaluates, gives and raises nothing

abbrev past_a_fire : SideState Bool Bool → Config Bool Bool
past_a_fire h = record begun {
  rows = 10;
  leaders = h;
  posts = record (at_seven_and_five 0) {
    leader = λ p. record { at = 6; halted = false; reported = false; seen = 5 };
    fire = 5;
  };
}

module _ (h : SideState Bool Bool) where
  no_run : LeaderRuns ((past_a_fire h).posts.leader 0) → ⊥
  no_run runs = let a = runs.clear in absurd (omega (arith, a))

  no_take_past_a_fire : Enabled one_row (past_a_fire h) (take leading 1) → ⊥
  no_take_past_a_fire en = no_run en.0

  no_evaluation_past_a_fire : Enabled one_row (past_a_fire h) (evaluate leading 0) → ⊥
  no_evaluation_past_a_fire en = no_run en.0

  no_give_past_a_fire : Enabled one_row (past_a_fire h) (give leading 0) → ⊥
  no_give_past_a_fire en = no_run en.0

  no_raise_past_a_fire : Enabled one_row (past_a_fire h) (raise 0) → ⊥
  no_raise_past_a_fire en = no_run en.0

  -- it may halt
  halts_past_a_fire : Enabled one_row (past_a_fire h) (halt 0)
  halts_past_a_fire = (omega arith, record { going = refl; why = inr (inr (omega arith)) })

-- ---- the laws speak of something: the pair is a network, and the run is its own

pair_is_shape : (d : ℕ → Bool) (lag : ℕ) → IsShape (pair d lag)
pair_is_shape d lag = record {
  from = λ ch l. l;
  to = λ ch l. omega arith;
  apart = λ ch l e. absurd (omega (arith, l, e));
  single = λ ch k cl kl e _. e;
  deep = omega arith;
  some = omega arith;
}

pair_is_run : (d : ℕ → Bool) (lag rows : ℕ) → IsRun (pair d lag) rows (bits d)
pair_is_run d lag rows = record {
  next = λ p t copy pl tl tokens.
      let e : suc t ≡ t + 1 = omega arith in
      below_two (λ q. AreTokens (pair d lag) (bits d) q t copy
      → next_of d q t ((bits d).part q t) copy ≡ (bits d).part q (t + 1))
      (λ took. took 1 (omega arith) refl ∙ ap (a_of d) e)
      (λ took. ap (λ (x : Bool). other_than x (d t)) (took 0 (omega arith) refl) ∙ ap (b_of d) e) p pl tokens;
  fires = λ p t copy pl tl tokens. refl;
  send = λ ch t l _. refl;
}
