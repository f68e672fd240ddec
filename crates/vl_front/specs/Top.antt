-- Which sources have a top module (IEEE 1364-2005, 12.1.1). That a name may be asked for is this project's own. Where none is asked for, and
-- a source has modules, it isn't looked at yet which of them no other instantiates.
use Rattle.std.specs.Prelude.{ℕ, ◌≡◌, ◌==◌, Bool, true, false, not, List, length, bytes_eq, Option, Some, None, option_map, Ok}
use Rattle.std.specs.List.{list_any}
use Rattle.std.specs.Borrow.{Bor}
use Rattle.vl_tree.specs.Token.{Tokens}
use Rattle.vl_tree.specs.Placed.{placed}
use Rattle.vl_tree.specs.Syntax.{Module, Source}
use Rattle.vl_tree.specs.Derives.{IsSource}
use Rattle.vl_front.specs.Spelled.{spelled}
use Rattle.vl_front.specs.FirstFault.{line_at, AreSource}

-- the name of the top that is asked for, if one is
abbrev pub Asked : Type 0
Asked = Option (List ℕ)

-- whether a module of a source has this name
abbrev pub has_module : List ℕ → List Module → Bool
has_module name modules = list_any (λ m. bytes_eq m.name.text name) modules

-- whether a source has no top: no module has the name that is asked for, or there is no module
abbrev pub is_topless : Asked → Source → Bool
is_topless (Some name) s = not (has_module name s)
is_topless None s = length s == 0

-- whether a module of this name may be the top
abbrev pub is_asked : Asked → List ℕ → Bool
is_asked (Some name) n = bytes_eq n name
is_asked None n = true

-- the tokens are a source's that has a top
abbrev pub HaveTop : Asked → Tokens → Type 0
HaveTop top ts = (s : Source) × IsSource (placed 0 ts) s × (is_topless top s ≡ false)

-- the tokens are a source's, and no source that they are has a top; the fault stands at token 0, on this line
abbrev pub HaveNoTop : Asked → Tokens → ℕ → Type 0
HaveNoTop top ts line =
    AreSource ts × ((s : Source) → IsSource (placed 0 ts) s → is_topless top s ≡ true) × (line ≡ line_at ts 0)

-- the text has no fault of the first three phases and no top
abbrev pub HasNoTop : List ℕ → Asked → ℕ → Type 0
HasNoTop text top line = (ts : Tokens) × (spelled text ≡ Ok ts) × HaveNoTop top ts line

-- a name without its borrow, if there is one
abbrev pub asked : Option (Bor (List ℕ)) → Asked
asked = option_map (λ name. name.now)
