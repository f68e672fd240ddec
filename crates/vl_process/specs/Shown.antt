-- What a design shows by name: its scopes with their signals, in the words of the value change dump (IEEE 1364-2005, 18.2.3).
-- This project's own: that a clock is marked; the values of a cycle in order of the signals are what the variables show.
use Rattle.std.specs.Prelude.{ℕ, ◌-◌, Bool, true, false, if◌then◌else◌, List, [], ◌∷◌, map, length, take}
use Rattle.netlist.specs.Values.{Values}
use Rattle.design_names.specs.Variables.{Kind, wire, reg, integer, Variable, Scopes, no_scopes, next_scope}
use Rattle.design_names.specs.Variables as tree
use Rattle.vl_value.specs.Paths.{Text, Path, same_path, below}
use Rattle.vl_value.specs.Things.{width_of}
use Rattle.vl_design.specs.Declarations as declared
use Rattle.vl_design.specs.Scopes.{Scope, Origin, instance_of, block}
use Rattle.vl_design.specs.Objects.{Object}
use Rattle.vl_design.specs.LoopVariables.{loop_variables, signals_of, is_path_in}
use Rattle.vl_design.specs.Design.{Design}
use Rattle.vl_process.specs.Texts.{step_text, top_name}
use Rattle.vl_process.specs.Clocks.{clock_names}

-- ---- variables

abbrev pub kind_of : declared.Kind → Kind
kind_of declared.net = wire
kind_of declared.register = reg
kind_of declared.whole_number = integer

abbrev pub variable_of : List Path → Path → Object → Variable
variable_of clocks p o = record {
  kind = kind_of o.kind;
  width = width_of o.shape;
  name = o.name.text;
  clock = is_path_in clocks (below p o.name.text);
}

abbrev pub variables_in : Design → Scope → List Variable
variables_in d s = map (variable_of (clock_names d.scopes) s.level.path) (signals_of (loop_variables d.scopes) s)

-- ---- the tree of scopes

abbrev pub is_instance : Origin → Bool
is_instance (instance_of m j) = true
is_instance block = false

-- the last step of a path as a text; that of the top is the name of its module
abbrev pub last_text : Text → Path → Text
last_text top [] = top
last_text top (x ∷ []) = step_text x
last_text top (x ∷ y ∷ more) = last_text top (y ∷ more)

-- whether a path is one step longer than another
abbrev pub is_step_below : Path → Path → Bool
is_step_below p q = same_path (take (length q - 1) q) p

-- a scope with its path
pub record Named : Type 0 where
  pub path : Path
  pub scope : tree.Scope

-- those that stand in the scope at a path, in order
abbrev pub children : Path → List Named → Scopes
children p [] = no_scopes
children p (n ∷ ns) = if is_step_below p n.path then next_scope n.scope (children p ns) else children p ns

abbrev pub with_children : Design → Scope → List Named → Named
with_children d s behind = record {
  path = s.level.path;
  scope = tree.scope (is_instance s.origin) (last_text (top_name d.scopes) s.level.path) (variables_in d s)
      (children s.level.path behind);
}

-- what stands in a scope comes behind it
abbrev pub named_scopes : Design → List Scope → List Named
named_scopes d [] = []
named_scopes d (s ∷ ss) = let behind : List Named = named_scopes d ss in with_children d s behind ∷ behind

-- the top
abbrev pub first_scope : List Named → tree.Scope
first_scope [] = tree.scope true [] [] no_scopes
first_scope (n ∷ ns) = n.scope

abbrev pub scope_of : Design → tree.Scope
scope_of d = first_scope (named_scopes d d.scopes)

-- what the variables of that tree show in a cycle that settled at v, in order
abbrev pub shown : Design → Values → List ℕ
shown d v = v.signals
