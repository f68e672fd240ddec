-- Tables of words.
use Rattle.std.proofs.Common.{◌≡◌, ℕ, Bool, true, false, List, [], ◌∷◌, refl, map, if◌then◌else◌}
use Rattle.std.specs.Prelude.{Option, Some, option_map, bytes_eq}
use Rattle.vl_pre.specs.Tables.{entry}

entry_by : {X Y : Type 0} (f : X → Y) (b : Bool) (x : X) (o : Option X) (p : Option Y) → option_map f o ≡ p → option_map f (if b then Some x else o) ≡ (if b then Some (f x) else p)
entry_by f true x o p e = refl
entry_by f false x o p e = e

-- what a table has under a word, where what it has is seen otherwise
pub entry_map : {X Y : Type 0} (f : X → Y) (table : List (List ℕ × X)) (word : List ℕ) → option_map f (entry table word) ≡ entry (map (λ e. (e.0, f e.1)) table) word
entry_map f [] word = refl
entry_map f (e ∷ es) word = entry_by f (bytes_eq e.0 word) e.1 (entry es word) (entry (map (λ x. (x.0, f x.1)) es) word) (entry_map f es word)
