-- The run of a numbered design from one of its states, as contracts name it; its tokens, and which of its assertions
-- fire. This project's own.
use Rattle.std.specs.Prelude.{◌≡◌, ℕ, zero, suc, ◌+◌, ◌-◌, ◌==◌, nat_lt, Bool, false, if◌then◌else◌, List, [], map}
use Rattle.std.specs.Prelude.{length, slice_index, slice_index_or}
use Rattle.std.specs.List.{list_any}
use Rattle.dt_core.specs.BitVectors.{BitVector, vector}
use Rattle.netlist.specs.Design.{Flat}
use Rattle.netlist.specs.Order.{flat_val}
use Rattle.netlist.specs.Run.{State, flat_next, flat_fired}
use Rattle.netlist.specs.Values.{Values}
use Rattle.named_run.specs.declared.token.Token.{Token}

-- a run: the design and an order of its driven parts, a state and the cycle that it is of, the rows from that cycle on;
-- for each leader the numbers of the assertions that it owns; for each channel the register parts that it carries
pub record RunData : Type 0 where
  pub flat : Flat
  pub order : List ℕ
  pub state : State
  pub cycle : ℕ
  pub rows : List (List ℕ)
  pub owned : List (List ℕ)
  pub carried : List (List ℕ)

-- the number of cycles up to the last row's end, counted from cycle 0
abbrev pub end_of : RunData → ℕ
end_of r = r.cycle + length r.rows

-- ---- states

-- the row of the run's k-th cycle
abbrev pub row_after : RunData → ℕ → List ℕ
row_after r k = slice_index_or r.rows k []

-- the state after k cycles of the run
unfoldable pub state_after : RunData → ℕ → State
state_after r zero = r.state
state_after r (suc k) = flat_next r.flat (state_after r k) (flat_val r.flat r.order (state_after r k) (row_after r k))

-- the values to which the run's k-th cycle settles
unfoldable pub values_after : RunData → ℕ → Values
values_after r k = flat_val r.flat r.order (state_after r k) (row_after r k)

-- ---- tokens

-- the bit vector of a register part in a state
abbrev pub register_in : Flat → State → ℕ → BitVector
register_in f s k = vector (slice_index (map (λ p. p.range.width) f.registers) k) (slice_index s.registers k)

-- the widths of what a channel carries
unfoldable pub shape_of : RunData → ℕ → List ℕ
shape_of r ch = map (λ k. slice_index (map (λ p. p.range.width) r.flat.registers) k) (slice_index_or r.carried ch [])

-- the token of the channel ch of the cycle t: the channel's register parts in the state of that cycle
unfoldable pub token_of : RunData → ℕ → ℕ → Token
token_of r ch t = record {
  channel = ch;
  cycle = t;
  values = map (register_in r.flat (state_after r (t - r.cycle))) (slice_index_or r.carried ch []);
}

-- a token is of this channel, and its values have the number and the widths of what the channel carries
pub record HasShape (r : RunData) (ch : ℕ) (token : Token) : Type 0 where
  pub channel : ◌≡◌ {A = ℕ} token.channel ch
  pub widths : map (λ b. b.width) token.values ≡ shape_of r ch

-- ---- assertions

-- the numbers stand in the list
abbrev pub has : List ℕ → ℕ → Bool
has ns n = list_any (λ m. m == n) ns

-- an assertion that the leader p owns fires in the cycle t; before the run's first cycle and after its last none does
unfoldable pub fires : RunData → ℕ → ℕ → Bool
fires r p t = if nat_lt t r.cycle then false else (if nat_lt t (end_of r)
    then list_any (λ x. has (slice_index_or r.owned p []) x.stop) (flat_fired r.flat (values_after r (t - r.cycle)))
    else false)

-- ---- no run

abbrev pub no_flat : Flat
no_flat = record {
  scopes = [];
  signals = [];
  inputs = [];
  driven = [];
  registers = [];
  memories = [];
  nodes = [];
  writes = [];
  blocks = [];
}

-- the run that stands where none is named yet: no rows from the cycle a on, and no assertion
abbrev pub no_run : ℕ → RunData
no_run a = record {
  flat = no_flat;
  order = [];
  state = record { registers = []; memories = [] };
  cycle = a;
  rows = [];
  owned = [];
  carried = [];
}
