-- What the readers of targets answer (IEEE 1364-2005, A.8.5, for the rule; the answers are this project's own).
use Rattle.std.specs.Prelude.{ℕ, ◌≡◌, List, [], ◌∷◌, Option, Some, None, Result}
use Rattle.vl_tree.specs.declared.token.Mark.TheVariants as m
use Rattle.vl_tree.specs.declared.statement.Target as code
use Rattle.vl_tree.specs.Token.{Kind}
use Rattle.vl_tree.specs.Token as k
use Rattle.vl_tree.specs.Syntax.{Targets, no_target, more_target}
use Rattle.vl_tree.specs.SyntaxView.{target}
use Rattle.vl_tree.specs.Placed.{Placed}
use Rattle.vl_tree.specs.Statements.{target_at, targets_at}
use Rattle.vl_tree.specs.Depth.{target_depths, targets_depths}
use Rattle.vl_read.specs.declared.fault.Fault.{Fault}
use Rattle.vl_read.specs.Reading.{Reads}
use Rattle.vl_read.specs.Tokens.{Not}
use Rattle.vl_read.specs.Commas.{EndsCommas}
use Rattle.vl_simple.specs.declared.target.Start.{Start}
use Rattle.vl_simple.specs.declared.target.Start.TheVariants as start

-- what a token of this kind begins, or that no target begins with it
abbrev pub BeginsTarget : Kind → Option Start → Type 0
BeginsTarget a (Some (start.Name n)) = a ≡ k.name n.now
BeginsTarget a (Some start.Brace) = a ≡ k.mark m.OpenBrace
BeginsTarget a None = ((n : List ℕ) → a ≡ k.name n → ⊥) × (a ≡ k.mark m.OpenBrace → ⊥)

-- no select comes next
abbrev pub EndsTarget : List Placed → Type 0
EndsTarget = Not (k.mark m.OpenBracket)

-- targets of the program
abbrev pub targets_of : List code.Target → Targets
targets_of [] = no_target
targets_of (x ∷ xs) = more_target (target x) (targets_of xs)

-- the target that was read and the tokens after it, or why there is none
abbrev pub ReadsTarget : ℕ → List Placed → Result (code.Target × List Placed) Fault → Type 0
ReadsTarget d ts r = Reads target target_at (target_depths d) EndsTarget EndsTarget ts r

-- the targets that were read and the tokens after them, or why there are none
abbrev pub ReadsTargets : ℕ → List Placed → Result (List code.Target × List Placed) Fault → Type 0
ReadsTargets d ts r = Reads targets_of targets_at (targets_depths d) (EndsCommas EndsTarget) (EndsCommas EndsTarget) ts r
