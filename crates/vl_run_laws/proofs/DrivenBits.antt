-- Drivers and driven parts, by the law of parts.
use Rattle.std.proofs.Common.{◌≡◌, ℕ, zero, suc, ◌+◌, Bool, true, false, ◌||◌, if◌then◌else◌, List, [], ◌∷◌, map, refl, sym, ap, subst, ◌∙◌, arith, get_or}
use Rattle.std.specs.Prelude.{Some, slice_get}
use Rattle.std.specs.List.{All, list_any}
use Rattle.std.proofs.lemmas.Option.{slice_get_within, get_or_from_slice_get, slice_get-get_or}
use Rattle.netlist.specs.Design.{Flat}
use Rattle.netlist.specs.Laws.{HasBit}
use Rattle.netlist.specs.Values.{Values}
use Rattle.netlist.specs.declared.design.DrivenPart.{DrivenPart}
use Rattle.vl_value.specs.Paths.{Path}
use Rattle.vl_design.specs.Design.{Design}
use Rattle.vl_process.specs.Aims.{is_aimed}
use Rattle.vl_process.specs.Processes.{Driver, drivers, driver_aims}
use Rattle.vl_process.specs.Settling.{Holds}
use Rattle.vl_process.specs.Parts.{Part, owner_from, driven_parts}
use Rattle.vl_process.specs.StandsFor.{StandsFor, range_of, HasNodeValue, OwnedHold}
use Rattle.vl_run_laws.specs.DrivenBits.{HasDrivenPart, IsDrivenBit, DrivenBitsLaw, HoldsLaw}
use Rattle.vl_run_laws.proofs.Parts.{parts_are}

-- ---- the two lists of parts, side by side

record Beside (ps : List DrivenPart) (j : ℕ) (q : Part) : Type 0 where
  part : DrivenPart
  at : slice_get ps j ≡ Some part
  range : part.range ≡ range_of q

beside : (ps : List DrivenPart) (qs : List Part) (j : ℕ) (q : Part) → map (λ (p : DrivenPart). p.range) ps ≡ map range_of qs
    → slice_get qs j ≡ Some q → Beside ps j q
beside [] [] j q e at = absurd cc
beside [] (r ∷ qs) j q e at = absurd cc
beside (p ∷ ps) [] j q e at = absurd cc
beside (p ∷ ps) (r ∷ qs) zero q e at =
    let first : p.range ≡ range_of r = cc in
    let same : r ≡ q = cc in
    record { part = p; at = refl; range = first ∙ ap range_of same }
beside (p ∷ ps) (r ∷ qs) (suc j) q e at =
    let rest : map (λ (p : DrivenPart). p.range) ps ≡ map range_of qs = cc in
    let b = beside ps qs j q rest at in
    record { part = b.part; at = b.at; range = b.range }

record Above (qs : List Part) (j : ℕ) (p : DrivenPart) : Type 0 where
  part : Part
  at : slice_get qs j ≡ Some part
  range : p.range ≡ range_of part

above : (ps : List DrivenPart) (qs : List Part) (j : ℕ) (p : DrivenPart) → map (λ (p : DrivenPart). p.range) ps ≡ map range_of qs
    → slice_get ps j ≡ Some p → Above qs j p
above [] [] j q e at = absurd cc
above [] (r ∷ qs) j q e at = absurd cc
above (p ∷ ps) [] j q e at = absurd cc
above (p ∷ ps) (r ∷ qs) zero q e at =
    let first : p.range ≡ range_of r = cc in
    let same : p ≡ q = cc in
    record { part = r; at = refl; range = ap (λ (x : DrivenPart). x.range) (sym same) ∙ first }
above (p ∷ ps) (r ∷ qs) (suc j) q e at =
    let rest : map (λ (p : DrivenPart). p.range) ps ≡ map range_of qs = cc in
    let b = above ps qs j q rest at in
    record { part = b.part; at = b.at; range = b.range }

-- ---- a bit is driven where it has an owner, which is the number of a driver

record Owner (n : ℕ) (rs : List Driver) (p : Path) (k : ℕ) : Type 0 where
  owner : ℕ
  is : owner_from n (map driver_aims rs) p k ≡ Some owner

-- a driver before the others, by whether it has the bit
owner_more : (n : ℕ) (r : Driver) (rs : List Driver) (p : Path) (k : ℕ) (b : Bool) → is_aimed (driver_aims r) p k ≡ b
    → (list_any (λ r. is_aimed (driver_aims r) p k) rs ≡ true → Owner (suc n) rs p k)
    → list_any (λ r. is_aimed (driver_aims r) p k) (r ∷ rs) ≡ true → Owner n (r ∷ rs) p k
owner_more n r rs p k true e rest any = record {
  owner = n;
  is = ap (λ c. if c then Some n else owner_from (suc n) (map driver_aims rs) p k) e;
}
owner_more n r rs p k false e rest any =
    let o = rest (ap (λ c. c || list_any (λ r. is_aimed (driver_aims r) p k) rs) (sym e) ∙ any) in
    record {
      owner = o.owner;
      is = ap (λ c. if c then Some n else owner_from (suc n) (map driver_aims rs) p k) e ∙ o.is;
    }

owner_in : (n : ℕ) (rs : List Driver) (p : Path) (k : ℕ) → list_any (λ r. is_aimed (driver_aims r) p k) rs ≡ true → Owner n rs p k
owner_in n [] p k any = absurd cc
owner_in n (r ∷ rs) p k any =
    owner_more n r rs p k (is_aimed (driver_aims r) p k) refl (λ later. owner_in (suc n) rs p k later) any

record Owns (n m : ℕ) (rs : List Driver) (p : Path) (k : ℕ) : Type 0 where
  place : ℕ
  number : m ≡ n + place
  driver : Driver
  at : slice_get rs place ≡ Some driver
  any : list_any (λ r. is_aimed (driver_aims r) p k) rs ≡ true

owns_more : (n m : ℕ) (r : Driver) (rs : List Driver) (p : Path) (k : ℕ) (b : Bool) → is_aimed (driver_aims r) p k ≡ b
    → (owner_from (suc n) (map driver_aims rs) p k ≡ Some m → Owns (suc n) m rs p k)
    → owner_from n (map driver_aims (r ∷ rs)) p k ≡ Some m → Owns n m (r ∷ rs) p k
owns_more n m r rs p k true aimed rest e =
    let own : Some n ≡ Some m =
    sym (ap (λ c. if c then Some n else owner_from (suc n) (map driver_aims rs) p k) aimed) ∙ e in
    let same : n ≡ m = cc in
    record {
      place = 0;
      number = omega (arith, same);
      driver = r;
      at = refl;
      any = ap (λ c. c || list_any (λ r. is_aimed (driver_aims r) p k) rs) aimed;
    }
owns_more n m r rs p k false aimed rest e =
    let o = rest (sym (ap (λ c. if c then Some n else owner_from (suc n) (map driver_aims rs) p k) aimed) ∙ e) in
    record {
      place = suc o.place;
      number = omega (arith, o.number);
      driver = o.driver;
      at = o.at;
      any = ap (λ c. c || list_any (λ r. is_aimed (driver_aims r) p k) rs) aimed ∙ o.any;
    }

owns : (n m : ℕ) (rs : List Driver) (p : Path) (k : ℕ) → owner_from n (map driver_aims rs) p k ≡ Some m → Owns n m rs p k
owns n m [] p k e = absurd cc
owns n m (r ∷ rs) p k e =
    owns_more n m r rs p k (is_aimed (driver_aims r) p k) refl (λ later. owns (suc n) m rs p k later) e

-- ---- the bits

held_bit : (f : Flat) (d : Design) (t i : ℕ) → StandsFor f d → IsDrivenBit d t i → HasDrivenPart f t i
held_bit f d t i stands b =
    let o = owner_in 0 (drivers d) b.signal.path i b.driven in
    let h = (parts_are.driven d).held t i o.owner
    (record { signal = b.signal; at = b.at; within = b.within; owner = o.is }) in
    let p = beside f.driven (driven_parts d) h.number h.part stands.driven h.at in
    record {
      number = h.number;
      part = p.part;
      at = p.at;
      has = subst (λ r. HasBit r t i) (sym p.range) h.has;
    }

driven_bit : (f : Flat) (d : Design) (t i : ℕ) → StandsFor f d → HasDrivenPart f t i → IsDrivenBit d t i
driven_bit f d t i stands h =
    let q = above f.driven (driven_parts d) h.number h.part stands.driven h.at in
    let has : HasBit (range_of q.part) t i = subst (λ r. HasBit r t i) q.range h.has in
    let own = (parts_are.driven d).owned h.number i q.part q.at (refl, has.1, has.2) in
    let o = owns 0 q.part.owner (drivers d) own.signal.path i own.owner in
    record {
      signal = own.signal;
      at = ap (slice_get d.signals) (sym has.0) ∙ own.at;
      within = own.within;
      driven = o.any;
    }

pub driven_bits : DrivenBitsLaw
driven_bits f d t i stands = (driven_bit f d t i stands, held_bit f d t i stands)

-- ---- all drivers hold

-- each part has an owner among the drivers
record Driver_of (d : Design) (q : Part) : Type 0 where
  driver : Driver
  at : slice_get (drivers d) q.owner ≡ Some driver

driver_of : (d : Design) (j : ℕ) (q : Part) → slice_get (driven_parts d) j ≡ Some q → Driver_of d q
driver_of d j q at =
    let some = (parts_are.driven d).some j q at in
    let own = (parts_are.driven d).owned j q.low q at (refl, omega arith, omega (arith, some)) in
    let o = owns 0 q.owner (drivers d) own.signal.path q.low own.owner in
    let place : o.place ≡ q.owner = omega (arith, o.number) in
    record { driver = o.driver; at = subst (λ k. slice_get (drivers d) k ≡ Some o.driver) place o.at }

all_owned : (f : Flat) (v : Values) (r : ℕ) (qs : List Part) (ps : List DrivenPart)
    → ((j : ℕ) (p : DrivenPart) → slice_get ps j ≡ Some p → HasNodeValue f v p) → OwnedHold f v r qs ps
all_owned f v r [] ps each = tt
all_owned f v r (q ∷ qs) [] each = tt
all_owned f v r (q ∷ qs) (p ∷ ps) each = (λ e. each 0 p refl, all_owned f v r qs ps (λ j x at. each (suc j) x at))

owned_at : (f : Flat) (v : Values) (r j : ℕ) (qs : List Part) (ps : List DrivenPart) (q : Part) (p : DrivenPart)
    → slice_get qs j ≡ Some q → slice_get ps j ≡ Some p → q.owner ≡ r → OwnedHold f v r qs ps → HasNodeValue f v p
owned_at f v r j [] ps q p a b e h = absurd cc
owned_at f v r j (x ∷ qs) [] q p a b e h = absurd cc
owned_at f v r zero (x ∷ qs) (y ∷ ps) q p a b e h =
    let first : x ≡ q = cc in
    let second : y ≡ p = cc in
    subst (HasNodeValue f v) second (h.0 (ap (λ (z : Part). z.owner) first ∙ e))
owned_at f v r (suc j) (x ∷ qs) (y ∷ ps) q p a b e h = owned_at f v r j qs ps q p a b e h.1

all_each : {X : Type 0} (P : X → Type 0) (xs : List X) → ((k : ℕ) (x : X) → slice_get xs k ≡ Some x → P x) → All P xs
all_each P xs each = λ k d l. each k (get_or xs k d) (slice_get-get_or xs k d l)

pub all_at : {X : Type 0} (P : X → Type 0) (xs : List X) (k : ℕ) (x : X) → All P xs → slice_get xs k ≡ Some x → P x
all_at P xs k x all at = subst P (get_or_from_slice_get xs k x x at) (all k x (slice_get_within xs k x at))

pub all_hold : HoldsLaw
all_hold f d v stands fits = (
  λ hold. all_each (HasNodeValue f v) f.driven (λ j p at.
      let q = above f.driven (driven_parts d) j p stands.driven at in
      let r = driver_of d j q.part q.at in
      owned_at f v q.part.owner j (driven_parts d) f.driven q.part p q.at at refl
      ((stands.drives q.part.owner r.driver r.at v fits).0 (all_at (Holds d v) (drivers d) q.part.owner r.driver hold r.at))),
  λ values. all_each (Holds d v) (drivers d) (λ k r at.
      (stands.drives k r at v fits).1 (all_owned f v k (driven_parts d) f.driven
      (λ j p there. all_at (HasNodeValue f v) f.driven j p values there))),
)
