-- A fault handed on: each lemma of `Pieces` on refusals, for all faults at once.
use Rattle.std.proofs.Common.{◌≡◌, ◌≤◌, ℕ, List, ◌∷◌}
use Rattle.vl_read.specs.declared.fault.Fault.{Fault}
use Rattle.vl_read.specs.declared.fault.Fault.TheVariants as f
use Rattle.vl_read.specs.Reading.{Took, Refuses, Both, BothDepths}
use Rattle.vl_read.proofs.Pieces.{Links, stuck_less, sunk_less, stuck_as, sunk_as, stuck_after, sunk_after, stuck_first, sunk_first, stuck_second, sunk_second}

module _ {T N : Type 0} (D : N → List T → List T → Type 0) (M : N → List ℕ) (F G F1 G1 : List T → Type 0) (f1 : (z : List T) → F1 z → F z) (g1 : (z : List T) → G1 z → G z) where
  pub fails_less : (ts : List T) (e : Fault) → Refuses D M F G ts e → Refuses D M F1 G1 ts e
  fails_less ts f.Memory r = r
  fails_less ts (f.At left) r = stuck_less D M F G F1 G1 f1 g1 ts left r
  fails_less ts (f.Deep left) r = sunk_less D M F G F1 G1 f1 g1 ts left r

module _ {T N K : Type 0} (D : N → List T → List T → Type 0) (M : N → List ℕ) (E : K → List T → List T → Type 0) (L : K → List ℕ) (F G : List T → Type 0) (make : N → K)
    (depths : (x : N) → L (make x) ≡ M x)
    (into : (x : N) (us z : List T) → D x us z → E (make x) us z) (out : (u : K) (us z : List T) → E u us z → G z → (x : N) × D x us z × (u ≡ make x)) where
  pub fails_as : (ts : List T) (e : Fault) → Refuses D M F G ts e → Refuses E L F G ts e
  fails_as ts f.Memory r = r
  fails_as ts (f.At left) r = stuck_as D M E L F G make depths into out ts left r
  fails_as ts (f.Deep left) r = sunk_as D M E L F G make depths into out ts left r

module _ {T N K : Type 0} (D : N → List T → List T → Type 0) (M : N → List ℕ) (E : K → List T → List T → Type 0) (L : K → List ℕ) (F G : List T → Type 0) (make : N → K)
    (a : T) (d : ℕ) (low : d ≤ 200) (depths : (x : N) → L (make x) ≡ d ∷ M x)
    (into : (x : N) (us z : List T) → D x us z → E (make x) (a ∷ us) z) (out : (u : K) (us z : List T) → E u (a ∷ us) z → G z → (x : N) × D x us z × (u ≡ make x)) where
  pub fails_after : (ts after : List T) → ts ≡ a ∷ after → (e : Fault) → Refuses D M F G after e → Refuses E L F G ts e
  fails_after ts after h f.Memory r = r
  fails_after ts after h (f.At left) r = stuck_after D M E L F G make a d low depths into out ts after h left r
  fails_after ts after h (f.Deep left) r = sunk_after D M E L F G make a d low depths into out ts after h left r

module _ {T N K : Type 0} (D : N → List T → List T → Type 0) (M : N → List ℕ) (E : K → List T → List T → Type 0) (L : K → List ℕ) (F G F1 G1 : List T → Type 0) (l : Links E F G F1 G1) where
  pub fails_first : (ts : List T) (e : Fault) → Refuses D M F1 G1 ts e → Refuses (Both D E) (BothDepths M L) F G ts e
  fails_first ts f.Memory r = r
  fails_first ts (f.At left) r = stuck_first D M E L F G F1 G1 l ts left r
  fails_first ts (f.Deep left) r = sunk_first D M E L F G F1 G1 l ts left r

  pub fails_second : (t : N) (ts m : List T) → Took D M F1 G1 t ts m → (e : Fault) → Refuses E L F G m e → Refuses (Both D E) (BothDepths M L) F G ts e
  fails_second t ts m p f.Memory r = r
  fails_second t ts m p (f.At left) r = stuck_second D M E L F G F1 G1 l t ts m left p r
  fails_second t ts m p (f.Deep left) r = sunk_second D M E L F G F1 G1 l t ts m left p r
