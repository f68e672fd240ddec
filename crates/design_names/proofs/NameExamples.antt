-- Worked examples of what a design shows.
use Rattle.std.proofs.Common.{◌≡◌, refl, ℕ, true, false, List, [], ◌∷◌, codes}
use Rattle.std.specs.Prelude.{Option, Some, None}
use Rattle.netlist.specs.Design.{Flat}
use Rattle.netlist.specs.declared.design.Scope as declared
use Rattle.netlist.specs.declared.design.ScopeKind.{ScopeKind}
use Rattle.netlist.specs.declared.design.ScopeKind.TheVariants as scope_kind
use Rattle.netlist.specs.declared.design.Signal.{Signal}
use Rattle.netlist.specs.declared.design.SignalKind.{SignalKind}
use Rattle.netlist.specs.declared.design.SignalKind.TheVariants as kind
use Rattle.netlist.specs.declared.design.Role.{Role}
use Rattle.netlist.specs.declared.design.Role.TheVariants as role
use Rattle.netlist.specs.declared.design.Effect.TheVariants as e
use Rattle.design_names.specs.Variables.{wire, reg, integer, scope, no_scopes, next_scope}
use Rattle.design_names.specs.Shown.{flat_scope, flat_order, flat_shown}
use Rattle.design_names.specs.Outline.{flat_outline}
use Rattle.design_names.specs.Path.{scopes_to, path, path_text}
use Rattle.design_names.specs.Stops.{flat_stops}
use Rattle.design_names.specs.declared.outline.Entry.TheVariants as entry

abbrev a_scope : Option ℕ → ScopeKind → List ℕ → declared.Scope
a_scope parent k name = record { parent = parent; kind = k; name = name }

abbrev a_signal : Option ℕ → SignalKind → ℕ → Role → List ℕ → Signal
a_signal s k w r name = record { scope = s; name = name; kind = k; width = w; role = r; kept = 0 }

-- an instance u in the top with a generate scope g in it, and an instance v in the top. The scopes don't stand in
-- preorder: v comes before g. Signals of g stand before one of the top, and t stands in no scope
abbrev nested : Flat
nested = record {
  scopes = a_scope None scope_kind.Instance (codes "top") ∷ a_scope (Some 0) scope_kind.Instance (codes "u")
      ∷ a_scope (Some 0) scope_kind.Instance (codes "v") ∷ a_scope (Some 1) scope_kind.Generate (codes "g[-1]") ∷ [];
  signals = a_signal (Some 0) kind.Wire 1 role.Clock (codes "clk") ∷ a_signal (Some 3) kind.Reg 4 role.Inner (codes "r")
      ∷ a_signal (Some 0) kind.Wire 2 (role.Input 0) (codes "a") ∷ a_signal None kind.Reg 8 role.Inner (codes "t")
      ∷ a_signal (Some 2) kind.Integer 32 role.Inner (codes "i") ∷ a_signal (Some 1) kind.Wire 1 role.Clock (codes "c") ∷ [];
  inputs = 2 ∷ [];
  driven = [];
  registers = [];
  memories = [];
  nodes = [];
  writes = [];
  blocks = record {
    scope = 3;
    events = record { condition = 0; effect = e.Said (codes "hit") }
        ∷ record { condition = 0; effect = e.Stopped (record { token = 7; line = 3 }) false } ∷ [];
  }
      ∷ record { scope = 0; events = [] }
      ∷ record {
        scope = 2;
        events = record { condition = 0; effect = e.Stopped (record { token = 9; line = 5 }) true }
            ∷ record { condition = 0; effect = e.Stopped (record { token = 11; line = 6 }) false } ∷ [];
      } ∷ [];
}

nested_scope : flat_scope nested ≡ scope true (codes "top")
    (record { kind = wire; width = 1; name = codes "clk"; clock = true } ∷ record { kind = wire; width = 2; name = codes "a"; clock = false } ∷ [])
    (next_scope (scope true (codes "u") (record { kind = wire; width = 1; name = codes "c"; clock = true } ∷ [])
    (next_scope (scope false (codes "g[-1]") (record { kind = reg; width = 4; name = codes "r"; clock = false } ∷ []) no_scopes) no_scopes))
    (next_scope (scope true (codes "v") (record { kind = integer; width = 32; name = codes "i"; clock = false } ∷ []) no_scopes) no_scopes))
nested_scope = refl

nested_order : flat_order nested ≡ 0 ∷ 2 ∷ 5 ∷ 1 ∷ 4 ∷ []
nested_order = refl

-- the values of the signals are 0, 9, 3, 200, 7 and 0
nested_shown : flat_shown nested (record { signals = 0 ∷ 9 ∷ 3 ∷ 200 ∷ 7 ∷ 0 ∷ []; memories = [] }) ≡ 0 ∷ 3 ∷ 0 ∷ 9 ∷ 7 ∷ []
nested_shown = refl

nested_outline : flat_outline nested
    ≡ entry.Scope 0 ∷ entry.Signal 0 ∷ entry.Signal 2 ∷ entry.Scope 1 ∷ entry.Signal 5 ∷ entry.Scope 3 ∷ entry.Signal 1
    ∷ entry.End ∷ entry.End ∷ entry.Scope 2 ∷ entry.Signal 4 ∷ entry.End ∷ entry.End ∷ []
nested_outline = refl

-- three assertions: one of the block in g, two of the one in v
nested_stops : flat_stops nested
    ≡ record { scope = 3; place = record { token = 7; line = 3 }; fatal = false }
    ∷ record { scope = 2; place = record { token = 9; line = 5 }; fatal = true }
    ∷ record { scope = 2; place = record { token = 11; line = 6 }; fatal = false } ∷ []
nested_stops = refl

nested_way : scopes_to nested 3 ≡ 0 ∷ 1 ∷ 3 ∷ []
nested_way = refl

nested_path : path nested 3 ≡ codes "top" ∷ codes "u" ∷ codes "g[-1]" ∷ []
nested_path = refl

nested_path_text : path_text nested 3 ≡ codes "top.u.g[-1]"
nested_path_text = refl

top_path_text : path_text nested 0 ≡ codes "top"
top_path_text = refl
