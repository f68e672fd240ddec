-- The runs of the tests. This project's own.
use Rattle.std.specs.Prelude.{◌≡◌, ℕ, ◌<◌, ◌++◌, false, List, [], ◌∷◌, map, replicate, length, None}
use Rattle.std.specs.Prelude.{slice_index_or}
use Rattle.std.specs.List.{range_with_len}
use Rattle.netlist.specs.Design.{Flat}
use Rattle.netlist.specs.declared.design.RegisterPart.{RegisterPart}
use Rattle.netlist.specs.declared.design.SignalKind.TheVariants as kind
use Rattle.netlist.specs.declared.design.Role.TheVariants as role
use Rattle.netlist.specs.declared.design.Effect.TheVariants as effect
use Rattle.netlist.specs.declared.node.Operation.TheVariants as operation
use Rattle.named_run.specs.Named.{RunData, no_flat}
use Rattle.token_net.specs.Posts.{none_yet}
use Rattle.board_rule.specs.Views.{Named}
use Rattle.gang_board.specs.PostStates.{leader_named, IsLeaderOf, lagger_named}
use Rattle.gang_board.specs.declared.board.Board.{Board}
use Rattle.gang_board.specs.declared.posts.LeaderPost.{LeaderPost}
use Rattle.gang_board.specs.declared.posts.LagPost.{LagPost}

-- nine rows, a leader that owns no assertion, and a channel that carries no register
abbrev pub quiet : RunData
quiet = record {
  flat = no_flat;
  order = [];
  state = record { registers = []; memories = [] };
  cycle = 0;
  rows = replicate 9 [];
  owned = [] ∷ [];
  carried = [] ∷ [];
}

-- a design with an input of one bit, and a block that stops where it is 1
abbrev pub watched : Flat
watched = record {
  scopes = [];
  signals = record { scope = None; name = []; kind = kind.Wire; width = 1; role = role.Input 0; kept = 0 } ∷ [];
  inputs = 0 ∷ [];
  driven = [];
  registers = [];
  memories = [];
  nodes = record { width = 1; operation = operation.Bits (record { signal = 0; low = 0; width = 1 }) } ∷ [];
  writes = [];
  blocks = record {
    scope = 0;
    events = record { condition = 0; effect = effect.Stopped (record { token = 0; line = 1 }) false } ∷ [];
  } ∷ [];
}

-- a row in which the input is 1, and one in which it is 0; the first of two leaders owns the assertion
abbrev pub one_fires : RunData
one_fires = record {
  flat = watched;
  order = [];
  state = record { registers = []; memories = [] };
  cycle = 0;
  rows = (1 ∷ []) ∷ (0 ∷ []) ∷ [];
  owned = (0 ∷ []) ∷ [] ∷ [];
  carried = [];
}

-- a thousand rows in which the input is 0, and one in which it is 1; each of sixteen leaders owns the assertion
unfoldable pub failing_rows : List (List ℕ)
failing_rows = replicate 1000 (0 ∷ []) ++ (1 ∷ []) ∷ []

abbrev pub failing : RunData
failing = record {
  flat = watched;
  order = [];
  state = record { registers = []; memories = [] };
  cycle = 0;
  rows = failing_rows;
  owned = replicate 16 (0 ∷ []);
  carried = [];
}

-- the board of the tests: sixteen leaders, and a lag of eight
abbrev pub failing_named : Named
failing_named = record { run = failing; parts = 16; lag = 8 }

-- the leader's post stands at this position, and it may go on
pub record IsGoing (b : Board) (number at : ℕ) (p : LeaderPost) : Type 0 where
  pub board : IsLeaderOf b p
  pub named : leader_named p ≡ failing_named
  pub number_is : p.number ≡ number
  pub position : p.position ≡ at
  pub halted : p.halted ≡ false
  pub reported : p.reported ≡ false

-- these laggers' posts are of the board of the tests
abbrev pub AreFollowing : List LagPost → Type 0
AreFollowing posts = (k : ℕ) (d : LagPost) → k < length posts → lagger_named (slice_index_or posts k d) ≡ failing_named

-- a design with sixteen registers of 32 bits, each of which is 0 and stays so, and one channel that carries them all
abbrev pub sixteen : List RegisterPart
sixteen = map (λ k. record { range = record { signal = k; low = 0; width = 32 }; block = 0; next = 0; initial = 0 })
    (range_with_len 0 16)

abbrev pub wide : RunData
wide = record {
  flat = record no_flat { registers = sixteen };
  order = [];
  state = record { registers = []; memories = [] };
  cycle = 0;
  rows = [];
  owned = [];
  carried = range_with_len 0 16 ∷ [];
}

-- four million rows, and no assertion
unfoldable pub idle_rows : List (List ℕ)
idle_rows = replicate 4000000 []

abbrev pub idle : RunData
idle = record {
  flat = no_flat;
  order = [];
  state = record { registers = []; memories = [] };
  cycle = 0;
  rows = idle_rows;
  owned = [];
  carried = [];
}

-- a board of one leader and one lagger without a lag
abbrev pub idle_named : Named
idle_named = record { run = idle; parts = 1; lag = 0 }

-- the leader's post stands at this position, and has seen no fire
pub record IsIdle (b : Board) (at : ℕ) (p : LeaderPost) : Type 0 where
  pub board : IsLeaderOf b p
  pub named : leader_named p ≡ idle_named
  pub position : p.position ≡ at
  pub halted : p.halted ≡ false
  pub seen : p.seen ≡ none_yet
