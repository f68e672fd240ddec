-- What a well-formed design says of the nodes that a node reads.
use Rattle.std.proofs.Common.{◌≡◌, ℕ, zero, suc, List, [], ◌∷◌, take, subst, refl}
use Rattle.std.specs.Prelude.{Some, slice_get, IsSomeAnd}
use Rattle.std.proofs.lemmas.Option.{slice_get_within, get_or_from_slice_get}
use Rattle.netlist.specs.Design.{Flat}
use Rattle.netlist.specs.Fits.{IsWellFormed, HasNode, NodeFits}
use Rattle.netlist.specs.Values.{width_at}
use Rattle.netlist.specs.declared.node.Node.{Node}

get_taken : (xs : List Node) (k a : ℕ) (P : Node → Type 0) → IsSomeAnd (slice_get (take k xs) a) P
    → IsSomeAnd (slice_get xs a) P
get_taken xs zero a P h = absurd h
get_taken [] (suc k) a P h = absurd h
get_taken (x ∷ xs) (suc k) zero P h = h
get_taken (x ∷ xs) (suc k) (suc a) P h = get_taken xs k a P h

-- what holds of the width of a node that is there
pub some_width : (xs : List Node) (a : ℕ) (P : ℕ → Type 0) → HasNode xs a P → P (width_at xs a)
some_width [] a P h = absurd h
some_width (x ∷ xs) zero P h = h
some_width (x ∷ xs) (suc a) P h = some_width xs a P h

pub read_width : (xs : List Node) (k a : ℕ) (P : ℕ → Type 0) → HasNode (take k xs) a P → P (width_at xs a)
read_width xs k a P h = some_width xs a P (get_taken xs k a (λ x. P x.width) h)

pub width_of : (xs : List Node) (a : ℕ) (x : Node) → slice_get xs a ≡ Some x → width_at xs a ≡ x.width
width_of [] a x at = absurd cc
width_of (y ∷ xs) zero x at = let same : y ≡ x = cc in subst (λ (z : Node). y.width ≡ z.width) same refl
width_of (y ∷ xs) (suc a) x at = width_of xs a x at

-- a node that is there fits
pub node_fits : (f : Flat) → IsWellFormed f → (n : ℕ) (x : Node) → slice_get f.nodes n ≡ Some x
    → NodeFits f.signals f.memories f.nodes n x
node_fits f w n x at =
    subst (λ y. NodeFits f.signals f.memories f.nodes n y) (get_or_from_slice_get f.nodes n x x at)
    (w.nodes n x (slice_get_within f.nodes n x at))
