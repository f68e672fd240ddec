-- The number of a name's first port, and the port that stands there.
use Rattle.std.proofs.Common.{◌≡◌, ℕ, ◌+◌, ◌-◌, ◌<◌, ◌≤◌, suc, Bool, true, false, List, [], ◌∷◌, length, get_or, map, Option, Some, None, refl, sym, ap, ◌∙◌, arith, is_some, if◌then◌else◌}
use Rattle.std.specs.Prelude.{bytes_eq, IfSome}
use Rattle.std.proofs.lemmas.List.{length-map}
use Rattle.vl_tree.specs.declared.tree.Port as code
use Rattle.vl_tree.specs.Tree.{Text, Port}
use Rattle.vl_tree.specs.View.{port}
use Rattle.vl_meaning.specs.Objects.{port_name, port_named, place_from, port_place}

-- a name has a number where it has a port
pub is_some-place_from : (k : ℕ) (ps : List Port) (x : Text) → is_some (place_from k ps x) ≡ is_some (port_named ps x)
is_some-place_from k [] x = refl
is_some-place_from k (p ∷ ps) x = by (bytes_eq (port_name p) x) (is_some-place_from (k + 1) ps x)
  where
    by : (b : Bool) → is_some (place_from (k + 1) ps x) ≡ is_some (port_named ps x)
        → is_some (if b then Some k else place_from (k + 1) ps x) ≡ is_some (if b then Some p else port_named ps x)
    by true rest = refl
    by false rest = rest

-- the port of a name stands at the name's number, counted on from k
record StandsFrom (k : ℕ) (ps : List code.Port) (x : Text) (n : ℕ) : Type 0 where
  from : k ≤ n
  below : n < k + length ps
  here : (d : code.Port) → Some (port (get_or ps (n - k) d)) ≡ port_named (map port ps) x

stands_from : (k : ℕ) (ps : List code.Port) (x : Text) (n : ℕ) → Some n ≡ place_from k (map port ps) x → StandsFrom k ps x n
stands_from k [] x n h = absurd cc
stands_from k (p ∷ ps) x n h = by (bytes_eq (port_name (port p)) x) refl (stands_from (k + 1) ps x n)
  where
    by : (b : Bool) → bytes_eq (port_name (port p)) x ≡ b → (Some n ≡ place_from (k + 1) (map port ps) x → StandsFrom (k + 1) ps x n) → StandsFrom k (p ∷ ps) x n
    by true e behind =
        let s : Some n ≡ Some k = h ∙ ap (λ b. if b then Some k else place_from (k + 1) (map port ps) x) e in
        let same : n ≡ k = cc in
        let z : n - k ≡ 0 = omega (arith, same) in
        record {
          from = omega (arith, same);
          below = omega (arith, same);
          here = λ d. ap (λ i. Some (port (get_or (p ∷ ps) i d))) z ∙ ap (λ b. if b then Some (port p) else port_named (map port ps) x) (sym e);
        }
    by false e behind =
        let r = behind (h ∙ ap (λ b. if b then Some k else place_from (k + 1) (map port ps) x) e) in
        let z : n - k ≡ suc (n - (k + 1)) = omega (arith, r.from) in
        record {
          from = omega (arith, r.from);
          below = omega (arith, r.below);
          here = λ d. ap (λ i. Some (port (get_or (p ∷ ps) i d))) z ∙ r.here d ∙ ap (λ b. if b then Some (port p) else port_named (map port ps) x) (sym e);
        }

-- the port of a name stands at the name's number
pub record StandsAt (ps : List code.Port) (x : Text) (n : ℕ) : Type 0 where
  pub below : n < length ps
  pub here : (d : code.Port) → Some (port (get_or ps n d)) ≡ port_named (map port ps) x

pub port_at : (ps : List code.Port) (x : Text) (n : ℕ) → Some n ≡ port_place (map port ps) x → StandsAt ps x n
port_at ps x n h =
    let r = stands_from 0 ps x n h in
    let z : n ≡ n - 0 = omega arith in
    record { below = omega (arith, r.below); here = λ d. ap (λ i. Some (port (get_or ps i d))) z ∙ r.here d }

no_port-by : (o : Option Port) → is_some o ≡ false → None ≡ o
no_port-by None h = refl
no_port-by (Some p) h = absurd cc

-- a number is one of a port
pub place_within : (ps : List code.Port) (x : Text) (r : Option ℕ) → r ≡ port_place (map port ps) x → IfSome r (λ n. n < length (map port ps))
place_within ps x None h = tt
place_within ps x (Some n) h = omega (arith, (port_at ps x n h).below, length-map ps port)

-- what has no number has no port
pub no_port : (ps : List Port) (x : Text) → None ≡ port_place ps x → None ≡ port_named ps x
no_port ps x h = no_port-by (port_named ps x) (sym (is_some-place_from 0 ps x) ∙ ap is_some (sym h))
