-- What a seat at the board knows: the run, and the posts that it has. This project's own.
use Rattle.std.specs.Prelude.{ℕ, zero, suc, false, List, [], ◌∷◌, replicate}
use Rattle.named_run.specs.Named.{RunData, end_of, fires, no_run}
use Rattle.token_net.specs.Posts.{Course, Leader, Lagger, none_yet}

-- the run that all who share a board name, with the number of leaders and the lag
pub record Named : Type 0 where
  pub run : RunData
  pub parts : ℕ
  pub lag : ℕ

-- what the rules of posts ask of it
abbrev pub course : Named → Course
course n = record { parts = n.parts; rows = end_of n.run; lag = n.lag; fired = fires n.run }

-- a leader's post that a seat has, with the number of its looks at the fire word
pub record HeldLeader : Type 0 where
  pub number : ℕ
  pub post : Leader
  pub looks : ℕ

-- a lagger's post that a seat has, with the number of its looks at each leader's word
pub record HeldLagger : Type 0 where
  pub number : ℕ
  pub post : Lagger
  pub looks : List ℕ

-- a post without a look
abbrev pub rested_leader : HeldLeader → HeldLeader
rested_leader k = record k { looks = 0 }

abbrev pub rested_lagger : ℕ → HeldLagger → HeldLagger
rested_lagger parts k = record k { looks = replicate parts 0 }

-- ---- the posts at the start, in order of number from k on

abbrev pub first_leader : ℕ → ℕ → HeldLeader
first_leader a k = record {
  number = k;
  post = record { at = a; halted = false; reported = false; seen = none_yet };
  looks = 0;
}

abbrev pub first_lagger : ℕ → ℕ → ℕ → ℕ → HeldLagger
first_lagger parts a b k = record {
  number = k;
  post = record { at = b; sights = replicate parts (record { at = a; halted = false }) };
  looks = replicate parts 0;
}

abbrev pub leaders_from : ℕ → ℕ → ℕ → List HeldLeader
leaders_from a k zero = []
leaders_from a k (suc m) = first_leader a k ∷ leaders_from a (suc k) m

abbrev pub laggers_from : ℕ → ℕ → ℕ → ℕ → ℕ → List HeldLagger
laggers_from parts a b k zero = []
laggers_from parts a b k (suc m) = first_lagger parts a b k ∷ laggers_from parts a b (suc k) m

-- no run, for a seat without posts
abbrev pub no_name : Named
no_name = record { run = no_run 0; parts = 0; lag = 0 }
