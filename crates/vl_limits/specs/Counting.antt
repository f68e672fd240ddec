-- Counts with a limit. This project's own.
use Rattle.std.specs.Prelude.{◌≡◌, ℕ, Bool, if◌then◌else◌, List, [], ◌∷◌, ◌++◌, Option, Some, None}
use Rattle.dt_core.specs.declared.place.Place as code
use Rattle.vl_tree.specs.Syntax.{Place}
use Rattle.vl_tree.specs.SyntaxView as view
use Rattle.vl_design.specs.Declarations.{Declared}
use Rattle.vl_design.specs.ObjectFaults.{beyond, memory_words}
use Rattle.vl_limits.specs.declared.limit.Limit.{Limit}
use Rattle.vl_limits.specs.declared.words.Words.{Words}

-- where a limit is passed when these follow
abbrev pub further_from : Option code.Place → ℕ → List (Place × ℕ) → Option Place
further_from (Some p) left cs = Some (view.place p)
further_from None left cs = beyond left 0 cs

abbrev pub further : Limit → List (Place × ℕ) → Option Place
further l cs = further_from l.passed l.left cs

-- nothing was added
abbrev pub Begins : ℕ → Limit → Type 0
Begins most l = (cs : List (Place × ℕ)) → further l cs ≡ beyond most 0 cs

-- these were added, whatever follows
abbrev pub Adds : List (Place × ℕ) → Limit → Limit → Type 0
Adds ds old new = (cs : List (Place × ℕ)) → further new cs ≡ further old (ds ++ cs)

-- ---- words of memories

abbrev pub listed : Option Words → List (Place × ℕ)
listed None = []
listed (Some w) = (view.place w.place, w.count) ∷ []

-- of a declaration that counts or doesn't
abbrev pub words_if : Bool → Declared → List (Place × ℕ)
words_if b d = if b then memory_words d else []
