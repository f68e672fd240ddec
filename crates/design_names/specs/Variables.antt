-- What is shown of a design by name: its scopes with their variables, in the words of the value change dump (IEEE 1364-2005,
-- clause 18.2.3). That a clock is marked is this project's own.
use Rattle.std.specs.Prelude.{ℕ, Bool, List, [], ◌++◌}

-- what a variable was declared as
pub data Kind : Type 0 where
  wire : Kind
  reg : Kind
  integer : Kind

-- a variable: its kind, its width in bits, its name, and whether it is a clock's name
pub record Variable : Type 0 where
  pub kind : Kind
  pub width : ℕ
  pub name : List ℕ
  pub clock : Bool

-- a scope: whether it is an instance, its name, its variables in order of declaration, its child scopes in order of text
mutual
  pub data Scope : Type 0 where
    scope : Bool → List ℕ → List Variable → Scopes → Scope

  pub data Scopes : Type 0 where
    no_scopes : Scopes
    next_scope : Scope → Scopes → Scopes

-- all variables, a scope's before its children's: a variable's number is its place here
abbrev mutual
  pub variables_of : Scope → List Variable
  variables_of (scope instance name variables children) = variables ++ variables_below children

  pub variables_below : Scopes → List Variable
  variables_below no_scopes = []
  variables_below (next_scope s ss) = variables_of s ++ variables_below ss
