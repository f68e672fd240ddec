-- Steps through a rule of several parts: from what leads to all of them to what leads to those after the first.
use Rattle.std.proofs.Common.{ℕ, List}
use Rattle.vl_read.specs.declared.fault.Fault.{Fault}
use Rattle.vl_read.specs.Reading.{Took, Refuses, Any, Both, BothDepths}
use Rattle.vl_read.proofs.Pieces.{Links, Productive}
use Rattle.vl_read.proofs.Fails.{fails_first}
use Rattle.vl_read.proofs.Leads.{Leads, leads_on, leads_second}

-- a part and what comes after it, with what may stand between them
pub record Joint {T N K : Type 0} (D : N → List T → List T → Type 0) (M : N → List ℕ) (E : K → List T → List T → Type 0) (L : K → List ℕ)
    (F G F1 G1 : List T → Type 0) : Type 0 where
  pub link : Links E F G F1 G1

module _ {T N K H : Type 0} {D : N → List T → List T → Type 0} {M : N → List ℕ} {E : K → List T → List T → Type 0} {L : K → List ℕ}
    {F G F1 G1 : List T → Type 0} {us : List T} {B : H → List T → List T → Type 0} {P : H → List ℕ} {F2 G2 : List T → Type 0}
    {vs : List T} {make : N × K → H} where
  -- the first part fails
  pub fails_at : Joint D M E L F G F1 G1 → Leads (Both D E) (BothDepths M L) F G us B P F2 G2 vs make
      → (e : Fault) → Refuses D M F1 G1 us e → Refuses B P F2 G2 vs e
  fails_at j lead e r = lead.fails e (fails_first D M E L F G F1 G1 j.link us e r)

  -- the first part was read
  pub after_part : Joint D M E L F G F1 G1 → Leads (Both D E) (BothDepths M L) F G us B P F2 G2 vs make
      → (t : N) (m : List T) → Took D M F1 G1 t us m → Leads E L F G m B P F2 G2 vs (λ u. make (t, u))
  after_part j lead t m q = leads_on (leads_second D M E L F G F1 G1 j.link t us m q) lead

-- two parts can be, one after the other
pub both_some : {T N K : Type 0} {D : N → List T → List T → Type 0} {E : K → List T → List T → Type 0} {F : List T → Type 0}
    → Productive D Any → Productive E F → Productive (Both D E) F
both_some p q z f = let o = q z f in let w = p o.1 tt in ((w.0, o.0), w.1, (o.1, w.2, o.2))
