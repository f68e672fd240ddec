-- Bits of signals after values were put into ranges, one part after another.
use Rattle.std.proofs.Common.{◌≡◌, ℕ, ◌+◌, ◌-◌, ◌^◌, ◌<◌, ◌≤◌, ◌⊎◌, inl, inr, List, [], ◌∷◌, length, refl, sym, ap, ◌∙◌, subst, arith, get_or-set_other, get_or-set_same, length-set}
use Rattle.std.specs.Prelude.{Option, None, Some, slice_get, slice_index, IsSomeAnd}
use Rattle.std.specs.Option.{option_map, unwrap_or}
use Rattle.std.specs.Int.{bit_at}
use Rattle.std.proofs.Math.Nat.{mod-lt}
use Rattle.std.proofs.lemmas.Bool.{cases_lt, cases_eq}
use Rattle.std.proofs.lemmas.Nat.{pow_pos}
use Rattle.std.proofs.lemmas.Option.{slice_get_within}
use Rattle.bit_ops.specs.Operators.{insert_at}
use Rattle.netlist.specs.Fits.{IsInner, PlaceFits}
use Rattle.netlist.specs.Laws.{HasBit}
use Rattle.netlist.specs.Run.{put}
use Rattle.netlist.specs.declared.design.Signal.{Signal}
use Rattle.netlist.specs.declared.design.Range.{Range}
use Rattle.netlist.specs.declared.design.DrivenPart.{DrivenPart}
use Rattle.netlist.proofs.Bits.{bit_inside, bit_below, bit_above}

-- the bit of a signal at a place
abbrev pub bit : List ℕ → ℕ → ℕ → ℕ
bit values s i = bit_at (slice_index values s) i

-- a value for each signal, within its width where parts may give it bits
pub record AreSized (signals : List Signal) (values : List ℕ) : Type 0 where
  pub count : length values ≡ length signals
  pub inner : (k : ℕ) (x : Signal) → slice_get signals k ≡ Some x → IsInner x.role → slice_index values k < 2 ^ x.width

-- ---- one range

pub some_with : {X : Type 0} (o : Option X) (P : X → Type 0) → IsSomeAnd o P → (x : X) × (o ≡ Some x) × P x
some_with None P h = absurd h
some_with (Some x) P h = (x, refl, h)

-- the signal in which a range lies
pub record Placed (signals : List Signal) (r : Range) : Type 0 where
  pub signal : Signal
  pub at : slice_get signals r.signal ≡ Some signal
  pub inner : IsInner signal.role
  pub within : r.low + r.width ≤ signal.width

placed : (signals : List Signal) (r : Range) → PlaceFits signals r → Placed signals r
placed signals r p =
    let x = some_with (slice_get signals r.signal) (λ s. IsInner s.role × (r.low + r.width ≤ s.width)) p in
    record { signal = x.0; at = x.1; inner = x.2.0; within = x.2.1 }

-- what stands in a range's signal after a value was put there
put_there : (signals : List Signal) (r : Range) (n : ℕ) (values : List ℕ) → (p : Placed signals r)
    → AreSized signals values
    → slice_index (put signals r n values) r.signal
    ≡ insert_at p.signal.width r.low r.width n (slice_index values r.signal)
put_there signals r n values p z =
    let there : r.signal < length values =
    omega (arith, slice_get_within signals r.signal p.signal p.at, z.count) in
    get_or-set_same values r.signal _ 0 there
    ∙ ap (λ o. insert_at (unwrap_or (option_map (λ (s : Signal). s.width) o) 0) r.low r.width n
    (slice_index values r.signal)) p.at

pub put_in : (signals : List Signal) (r : Range) (n : ℕ) (values : List ℕ) (s i : ℕ) → PlaceFits signals r
    → AreSized signals values → HasBit r s i → bit (put signals r n values) s i ≡ bit_at n (i - r.low)
put_in signals r n values s i fits z h =
    let p : Placed signals r = placed signals r fits in
    ap (λ k. bit (put signals r n values) k i) (sym h.0) ∙ ap (λ x. bit_at x i) (put_there signals r n values p z)
    ∙ bit_inside p.signal.width r.low r.width n (slice_index values r.signal) i p.within h.1 h.2

pub put_beside : (signals : List Signal) (r : Range) (n : ℕ) (values : List ℕ) (s i : ℕ) → PlaceFits signals r
    → AreSized signals values → (HasBit r s i → ⊥) → bit (put signals r n values) s i ≡ bit values s i
put_beside signals r n values s i fits z h =
    elim (cases_eq s r.signal) [
      | inr other ↦ ap (λ x. bit_at x i) (get_or-set_other values r.signal s _ 0 other)
      | inl same ↦
          let p : Placed signals r = placed signals r fits in
          let there = put_there signals r n values p z in
          let moved : bit (put signals r n values) s i ≡ bit_at
          (insert_at p.signal.width r.low r.width n (slice_index values r.signal)) i =
          ap (λ k. bit (put signals r n values) k i) same ∙ ap (λ x. bit_at x i) there in
          let back : bit values r.signal i ≡ bit values s i = ap (λ k. bit values k i) (sym same) in
          elim (cases_lt i r.low) [
            | inl below ↦ moved ∙ bit_below p.signal.width r.low r.width n (slice_index values r.signal) i p.within below
                ∙ back
            | inr from ↦
                let after : r.low + r.width ≤ i = elim (cases_lt i (r.low + r.width)) [
                  | inl to ↦ absurd (h (sym same, from, to))
                  | inr far ↦ far
                ] in
                moved ∙ bit_above p.signal.width r.low r.width n (slice_index values r.signal) i
                (z.inner r.signal p.signal p.at p.inner) after ∙ back
          ]
    ]

pub put_sized : (signals : List Signal) (r : Range) (n : ℕ) (values : List ℕ) → PlaceFits signals r
    → AreSized signals values → AreSized signals (put signals r n values)
put_sized signals r n values fits z =
    let p : Placed signals r = placed signals r fits in
    record {
      count = length-set values r.signal _ ∙ z.count;
      inner = λ k x at inner. elim (cases_eq k r.signal) [
        | inr other ↦ subst (λ y. y < 2 ^ x.width) (sym (get_or-set_other values r.signal k _ 0 other))
            (z.inner k x at inner)
        | inl same ↦
            let own : Some p.signal ≡ Some x = sym p.at ∙ ap (slice_get signals) (sym same) ∙ at in
            let equal : p.signal ≡ x = cc in
            let value = ap (slice_index (put signals r n values)) same ∙ put_there signals r n values p z in
            subst (λ y. y < 2 ^ x.width) (sym value) (subst (λ (y : Signal). insert_at p.signal.width r.low r.width n
            (slice_index values r.signal) < 2 ^ y.width) equal (mod-lt _ (pow_pos p.signal.width)))
      ];
    }

-- ---- parts, one after another

-- an element of a list
abbrev pub In : {X : Type 0} → X → List X → Type 0
In x [] = ⊥
In x (y ∷ ys) = (x ≡ y) ⊎ In x ys

-- the values of signals with these parts put in, each with what it has over those before it
abbrev pub put_all : List Signal → (DrivenPart → List ℕ → ℕ) → List DrivenPart → List ℕ → List ℕ
put_all signals value [] v = v
put_all signals value (p ∷ ps) v = put_all signals value ps (put signals p.range (value p v) v)

abbrev pub AllPlaced : List Signal → List DrivenPart → Type 0
AllPlaced signals ps = (p : DrivenPart) → In p ps → PlaceFits signals p.range

abbrev pub InNone : List DrivenPart → ℕ → ℕ → Type 0
InNone ps s i = (p : DrivenPart) → In p ps → HasBit p.range s i → ⊥

pub all_sized : (signals : List Signal) (value : DrivenPart → List ℕ → ℕ) (ps : List DrivenPart) (v : List ℕ)
    → AllPlaced signals ps → AreSized signals v → AreSized signals (put_all signals value ps v)
all_sized signals value [] v fits z = z
all_sized signals value (p ∷ ps) v fits z =
    all_sized signals value ps (put signals p.range (value p v) v) (λ q h. fits q (inr h))
    (put_sized signals p.range (value p v) v (fits p (inl refl)) z)

-- bits in none of them stay
pub all_beside : (signals : List Signal) (value : DrivenPart → List ℕ → ℕ) (ps : List DrivenPart) (v : List ℕ) (s i : ℕ)
    → AllPlaced signals ps → AreSized signals v → InNone ps s i → bit (put_all signals value ps v) s i ≡ bit v s i
all_beside signals value [] v s i fits z none = refl
all_beside signals value (p ∷ ps) v s i fits z none =
    all_beside signals value ps (put signals p.range (value p v) v) s i (λ q h. fits q (inr h))
    (put_sized signals p.range (value p v) v (fits p (inl refl)) z) (λ q h. none q (inr h))
    ∙ put_beside signals p.range (value p v) v s i (fits p (inl refl)) z (none p (inl refl))

-- ---- a bit lies in one of them, or in none

has_bit : (r : Range) (s i : ℕ) → HasBit r s i ⊎ (HasBit r s i → ⊥)
has_bit r s i = elim (cases_eq r.signal s) [
  | inr other ↦ inr (λ h. other h.0)
  | inl same ↦ elim (cases_lt i r.low) [
    | inl below ↦ inr (λ h. omega (arith, h.1))
    | inr from ↦ elim (cases_lt i (r.low + r.width)) [
      | inl to ↦ inl (same, from, to)
      | inr far ↦ inr (λ h. omega (arith, h.2))
    ]
  ]
]

pub record Holder (ps : List DrivenPart) (s i : ℕ) : Type 0 where
  pub part : DrivenPart
  pub among : In part ps
  pub has : HasBit part.range s i

pub holder : (ps : List DrivenPart) (s i : ℕ) → Holder ps s i ⊎ InNone ps s i
holder [] s i = inr (λ p h b. h)
holder (p ∷ ps) s i = elim (has_bit p.range s i) [
  | inl own ↦ inl (record { part = p; among = inl refl; has = own })
  | inr other ↦ elim (holder ps s i) [
    | inl h ↦ inl (record { part = h.part; among = inr h.among; has = h.has })
    | inr none ↦ inr (λ q among b. elim among [
      | inl e ↦ other (subst (λ (x : DrivenPart). HasBit x.range s i) e b)
      | inr h ↦ none q h b
    ])
  ]
]

-- a bit that lies in two parts lies in one
abbrev pub LieInOne : List DrivenPart → Type 0
LieInOne ps = (p q : DrivenPart) (s i : ℕ) → In p ps → In q ps → HasBit p.range s i → HasBit q.range s i → p ≡ q

-- two valuations agree but for the bits of these parts
abbrev pub AgreeBeside : List DrivenPart → List ℕ → List ℕ → Type 0
AgreeBeside ps u v = (s i : ℕ) → InNone ps s i → bit u s i ≡ bit v s i

-- what each of them has doesn't depend on it and those after it
abbrev pub AreSteady : (DrivenPart → List ℕ → ℕ) → List DrivenPart → Type 0
AreSteady value [] = Unit {0}
AreSteady value (p ∷ ps) = ((u v : List ℕ) → AgreeBeside (p ∷ ps) u v → value p u ≡ value p v) × AreSteady value ps

-- each has in u the bits that it has over u
abbrev pub EachHas : (DrivenPart → List ℕ → ℕ) → List DrivenPart → List ℕ → Type 0
EachHas value ps u = (p : DrivenPart) (s i : ℕ) → In p ps → HasBit p.range s i
    → bit u s i ≡ bit_at (value p u) (i - p.range.low)

-- at the end each has what it has over the end
pub all_have : (signals : List Signal) (value : DrivenPart → List ℕ → ℕ) (ps : List DrivenPart) (v : List ℕ)
    → AllPlaced signals ps → LieInOne ps → AreSteady value ps → AreSized signals v
    → EachHas value ps (put_all signals value ps v)
all_have signals value [] v fits one steady z p s i among b = absurd among
all_have signals value (p ∷ ps) v fits one steady z q s i among b =
    let next : List ℕ = put signals p.range (value p v) v in
    let next_sized : AreSized signals next = put_sized signals p.range (value p v) v (fits p (inl refl)) z in
    let rest : EachHas value ps (put_all signals value ps next) =
    all_have signals value ps next (λ x h. fits x (inr h)) (λ x y t j h g. one x y t j (inr h) (inr g)) steady.1
    next_sized in
    elim (holder ps s i) [
      | inl h ↦ rest q s i (subst (λ x. In x ps) (one h.part q s i (inr h.among) among h.has b) h.among) b
      | inr none ↦ elim among [
        | inr later ↦ absurd (none q later b)
        | inl own ↦
            let is : p ≡ q = sym own in
            let end : List ℕ = put_all signals value ps next in
            all_beside signals value ps next s i (λ x h. fits x (inr h)) next_sized none
            ∙ put_in signals p.range (value p v) v s i (fits p (inl refl)) z (subst (λ (x : DrivenPart). HasBit x.range s i)
            own b)
            ∙ ap (λ n. bit_at n (i - p.range.low)) (steady.0 v end (λ t j away. sym
            (all_beside signals value (p ∷ ps) v t j fits z away)))
            ∙ ap (λ (x : DrivenPart). bit_at (value x end) (i - x.range.low)) is
      ]
    ]

-- and what agrees beside them and has this too agrees with the end everywhere
pub ends_same : (signals : List Signal) (value : DrivenPart → List ℕ → ℕ) (ps : List DrivenPart) (u v : List ℕ)
    → AllPlaced signals ps → AreSteady value ps → AreSized signals v → EachHas value ps u → AgreeBeside ps u v
    → (s i : ℕ) → bit u s i ≡ bit (put_all signals value ps v) s i
ends_same signals value [] u v fits steady z has agree s i = agree s i (λ p h b. h)
ends_same signals value (p ∷ ps) u v fits steady z has agree s i =
    let next : List ℕ = put signals p.range (value p v) v in
    ends_same signals value ps u next (λ x h. fits x (inr h)) steady.1
    (put_sized signals p.range (value p v) v (fits p (inl refl)) z) (λ q t j h b. has q t j (inr h) b)
    (λ t j away. elim (has_bit p.range t j) [
      | inl own ↦ has p t j (inl refl) own ∙ ap (λ n. bit_at n (j - p.range.low)) (steady.0 u v agree)
          ∙ sym (put_in signals p.range (value p v) v t j (fits p (inl refl)) z own)
      | inr other ↦ agree t j (λ q among b. elim among [
        | inl e ↦ other (subst (λ (x : DrivenPart). HasBit x.range t j) e b)
        | inr h ↦ away q h b
      ]) ∙ sym (put_beside signals p.range (value p v) v t j (fits p (inl refl)) z other)
    ]) s i
