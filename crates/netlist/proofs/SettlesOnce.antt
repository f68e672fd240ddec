-- One valuation settles: that of an order.
use Rattle.std.proofs.Common.{◌≡◌, ℕ, zero, suc, ◌^◌, ◌<◌, inl, inr, List, [], ◌∷◌, length, map, drop, get_or, refl, sym, ap, ◌∙◌, subst, arith, true}
use Rattle.std.specs.Prelude.{Option, None, Some, slice_get, slice_index, IsSomeAnd}
use Rattle.std.specs.List.{All}
use Rattle.std.proofs.lemmas.Nat.Bits.{same_from_bits}
use Rattle.std.proofs.lemmas.List.{ext_get_or, get_or-map, length-map}
use Rattle.std.proofs.lemmas.List.Elements.{All-get_or}
use Rattle.std.proofs.lemmas.Option.{slice_get_within, get_or_from_slice_get}
use Rattle.netlist.specs.Design.{Flat}
use Rattle.netlist.specs.Fits.{IsWellFormed, DrivenFits, RegisterFits, PlaceFits, SignalFits}
use Rattle.netlist.specs.Graph.{ReadsPart, reads}
use Rattle.netlist.specs.Laws.{HasBit, SettlesOnce}
use Rattle.netlist.specs.Order.{IsOrder, drive, driven_in, flat_val}
use Rattle.netlist.specs.Run.{State, FlatSettles, put, put_registers, put_driven, given, all_words, role_value}
use Rattle.netlist.specs.Values.{Values, node_values}
use Rattle.netlist.specs.declared.design.Signal.{Signal}
use Rattle.netlist.specs.declared.design.DrivenPart.{DrivenPart}
use Rattle.netlist.specs.declared.design.RegisterPart.{RegisterPart}
use Rattle.netlist.specs.declared.node.Node.{Node}
use Rattle.netlist.proofs.PartsLaw.{parts_law}
use Rattle.netlist.proofs.SameValues.{same_value}
use Rattle.netlist.proofs.Puts.{bit, AreSized, some_with, put_sized, In, put_all, AllPlaced, all_sized, all_beside, LieInOne, AreSteady, EachHas, all_have, ends_same}

-- ---- elements of a list

pub record Place {X : Type 0} (x : X) (xs : List X) : Type 0 where
  pub at : ℕ
  pub is : slice_get xs at ≡ Some x

pub place : {X : Type 0} (x : X) (xs : List X) → In x xs → Place x xs
place x [] among = absurd among
place x (y ∷ ys) among = elim among [
  | inl e ↦ record { at = 0; is = ap Some (sym e) }
  | inr h ↦ (let p = place x ys h in record { at = suc p.at; is = p.is })
]

pub in_from : {X : Type 0} (x : X) (xs : List X) (k : ℕ) → slice_get xs k ≡ Some x → In x xs
in_from x [] k at = absurd cc
in_from x (y ∷ ys) zero at = inl cc
in_from x (y ∷ ys) (suc k) at = inr (in_from x ys k at)

pub all_in : {X : Type 0} (P : X → Type 0) (xs : List X) → All P xs → (x : X) → In x xs → P x
all_in P xs a x among =
    let p = place x xs among in
    subst P (get_or_from_slice_get xs p.at x x p.is) (All-get_or P xs p.at x (slice_get_within xs p.at x p.is) a)

-- ---- the parts of an order, one after another

abbrev pub more : Option DrivenPart → List DrivenPart → List DrivenPart
more None ps = ps
more (Some p) ps = p ∷ ps

abbrev pub chosen : Flat → List ℕ → List DrivenPart
chosen f [] = []
chosen f (k ∷ ks) = more (slice_get f.driven k) (chosen f ks)

-- a part's node over these signals
abbrev over : Flat → List (List ℕ) → DrivenPart → List ℕ → ℕ
over f m p v = slice_index (node_values f (record { signals = v; memories = m })) p.node

-- a part's node among values that are given
abbrev pub fixed : List ℕ → DrivenPart → List ℕ → ℕ
fixed xs p v = slice_index xs p.node

driven_is : (f : Flat) (m : List (List ℕ)) (ks : List ℕ) (v : List ℕ)
    → driven_in f ks (record { signals = v; memories = m })
    ≡ record { signals = put_all f.signals (over f m) (chosen f ks) v; memories = m }
driven_is f m [] v = refl
driven_is f m (k ∷ ks) v =
    elim (slice_get f.driven k) as (λ o. driven_in f ks (drive f (record { signals = v; memories = m }) o)
    ≡ record { signals = put_all f.signals (over f m) (more o (chosen f ks)) v; memories = m }) [
      | None ↦ driven_is f m ks v
      | Some p ↦ driven_is f m ks (put f.signals p.range (over f m p v) v)
    ]

pub put_driven_is : (ss : List Signal) (ps : List DrivenPart) (xs v : List ℕ)
    → put_driven ss ps xs v ≡ put_all ss (fixed xs) ps v
put_driven_is ss [] xs v = refl
put_driven_is ss (p ∷ ps) xs v = put_driven_is ss ps xs (put ss p.range (slice_index xs p.node) v)

-- what is known of a part that was chosen: where its number stands
record Chosen (f : Flat) (p : DrivenPart) (ks : List ℕ) : Type 0 where
  at : ℕ
  within : at < length ks
  is : slice_get f.driven (slice_index ks at) ≡ Some p

chosen_later : (f : Flat) (p : DrivenPart) (k : ℕ) (ks : List ℕ) → Chosen f p ks → Chosen f p (k ∷ ks)
chosen_later f p k ks c = record { at = suc c.at; within = omega (arith, c.within); is = c.is }

chosen_more : (f : Flat) (p : DrivenPart) (k : ℕ) (ks : List ℕ) (o : Option DrivenPart)
    → (In p (chosen f ks) → Chosen f p ks) → slice_get f.driven k ≡ o → In p (more o (chosen f ks))
    → Chosen f p (k ∷ ks)
chosen_more f p k ks None rest e h = chosen_later f p k ks (rest h)
chosen_more f p k ks (Some q) rest e h = elim h [
  | inl own ↦ record { at = 0; within = omega arith; is = e ∙ ap Some (sym own) }
  | inr later ↦ chosen_later f p k ks (rest later)
]

chosen_at : (f : Flat) (p : DrivenPart) (ks : List ℕ) → In p (chosen f ks) → Chosen f p ks
chosen_at f p [] among = absurd among
chosen_at f p (k ∷ ks) among = chosen_more f p k ks (slice_get f.driven k) (chosen_at f p ks) refl among

chosen_driven : (f : Flat) (p : DrivenPart) (ks : List ℕ) → In p (chosen f ks) → In p f.driven
chosen_driven f p ks h = let c = chosen_at f p ks h in in_from p f.driven (slice_index ks c.at) c.is

in_more : (p : DrivenPart) (o : Option DrivenPart) (ps : List DrivenPart) → In p ps → In p (more o ps)
in_more p None ps h = h
in_more p (Some q) ps h = inr h

-- a part whose number stands in the list is chosen
in_chosen : (f : Flat) (p : DrivenPart) (ks : List ℕ) (i : ℕ) → i < length ks
    → slice_get f.driven (slice_index ks i) ≡ Some p → In p (chosen f ks)
in_chosen f p [] i l at = absurd (omega arith)
in_chosen f p (k ∷ ks) zero l at =
    subst (λ (o : Option DrivenPart). In p (more o (chosen f ks))) (sym at) (inl refl)
in_chosen f p (k ∷ ks) (suc i) l at =
    in_more p (slice_get f.driven k) (chosen f ks) (in_chosen f p ks i (omega arith) at)

-- ---- what a part has doesn't depend on those that don't stand before it

abbrev ReadsBack : Flat → List ℕ → Type 0
ReadsBack f ks = (i j : ℕ) → i < length ks → j < length ks → ReadsPart f (slice_index ks i) (slice_index ks j) → j < i

reads_part : (f : Flat) (k j : ℕ) (p q : DrivenPart) → slice_get f.driven k ≡ Some p → slice_get f.driven j ≡ Some q
    → reads f p.node q ≡ true → ReadsPart f k j
reads_part f k j p q a b r =
    subst (λ (o : Option DrivenPart). IsSomeAnd o (λ x. IsSomeAnd (slice_get f.driven j) (λ y. reads f x.node y ≡ true)))
    (sym a)
    (subst (λ (o : Option DrivenPart). IsSomeAnd o (λ y. reads f p.node y ≡ true)) (sym b) r)

steady_more : (f : Flat) → IsWellFormed f → (m : List (List ℕ)) (k : ℕ) (ks : List ℕ) → ReadsBack f (k ∷ ks)
    → (o : Option DrivenPart) → slice_get f.driven k ≡ o → AreSteady (over f m) (chosen f ks)
    → AreSteady (over f m) (more o (chosen f ks))
steady_more f w m k ks back None e rest = rest
steady_more f w m k ks back (Some p) e rest = (
  λ u v agree.
      let fits : DrivenFits f.signals f.nodes p =
      all_in (DrivenFits f.signals f.nodes) f.driven w.parts.driven p (in_from p f.driven k e) in
      let x = some_with (slice_get f.nodes p.node) (λ (y : Node). y.width ≡ p.range.width) fits.1 in
      same_value f w (p ∷ chosen f ks) (record { signals = u; memories = m }) (record { signals = v; memories = m })
      agree refl p.node x.0 x.1
      (λ q among r. elim among [
        | inl own ↦ (let no : 0 < 0 = back 0 0 (omega arith) (omega arith)
            (reads_part f k k p q e (e ∙ ap Some (sym own)) r) in omega (arith, no))
        | inr later ↦ (let c = chosen_at f q ks later in
            let no : suc c.at < 0 = back 0 (suc c.at) (omega arith) (omega (arith, c.within))
            (reads_part f k (slice_index ks c.at) p q e c.is r) in omega (arith, no))
      ]),
  rest,
)

all_steady : (f : Flat) → IsWellFormed f → (m : List (List ℕ)) (ks : List ℕ) → ReadsBack f ks
    → AreSteady (over f m) (chosen f ks)
all_steady f w m [] back = tt
all_steady f w m (k ∷ ks) back =
    steady_more f w m k ks back (slice_get f.driven k) refl
    (all_steady f w m ks (λ i j a b r. (let l : suc j < suc i = back (suc i) (suc j) (omega (arith, a)) (omega (arith, b)) r in
    omega (arith, l))))

pub fixed_steady : (xs : List ℕ) (ps : List DrivenPart) → AreSteady (fixed xs) ps
fixed_steady xs [] = tt
fixed_steady xs (p ∷ ps) = (λ u v agree. refl, fixed_steady xs ps)

-- ---- what the state and the row say

pub registers_sized : (ss : List Signal) (ps : List RegisterPart) (state v : List ℕ)
    → ((p : RegisterPart) → In p ps → PlaceFits ss p.range) → AreSized ss v
    → AreSized ss (put_registers ss ps state v)
registers_sized ss [] state v fits z = z
registers_sized ss (p ∷ ps) state v fits z =
    registers_sized ss ps (drop 1 state) (put ss p.range (slice_index state 0) v) (λ q h. fits q (inr h))
    (put_sized ss p.range (slice_index state 0) v (fits p (inl refl)) z)

-- what a row says of the signals, and what they keep
abbrev pub plain : Flat → List ℕ → List ℕ
plain f row = map (λ x. role_value row x.kept x.role) f.signals

pub plain_at : (f : Flat) (row : List ℕ) (k : ℕ) (x : Signal) → slice_get f.signals k ≡ Some x
    → slice_index (plain f row) k ≡ role_value row x.kept x.role
plain_at f row k x at =
    get_or-map (λ y. role_value row y.kept y.role) f.signals k x 0 (slice_get_within f.signals k x at)
    ∙ ap (λ (y : Signal). role_value row y.kept y.role) (get_or_from_slice_get f.signals k x x at)

pub plain_sized : (f : Flat) → IsWellFormed f → (row : List ℕ) → AreSized f.signals (plain f row)
plain_sized f w row = record {
  count = length-map f.signals (λ x. role_value row x.kept x.role);
  inner = λ k x at inner.
      let fits : SignalFits (length f.scopes) f.inputs k x =
      subst (λ y. SignalFits (length f.scopes) f.inputs k y) (get_or_from_slice_get f.signals k x x at)
      (w.signals.each k x (slice_get_within f.signals k x at)) in
      let value = plain_at f row k x at ∙ ap (λ r. role_value row x.kept r) inner in
      subst (λ n. n < 2 ^ x.width) (sym value) fits.3;
}

pub given_sized : (f : Flat) → IsWellFormed f → (s : State) (row : List ℕ) → AreSized f.signals (given f s row)
given_sized f w s row =
    registers_sized f.signals f.registers s.registers (plain f row)
    (λ p h. let fits : RegisterFits (length f.blocks) f.signals f.nodes p = all_in (RegisterFits (length f.blocks) f.signals f.nodes)
    f.registers w.parts.registers p h in
    fits.0) (plain_sized f w row)

-- ---- both halves

equal_from_bits : (u v : List ℕ) → length u ≡ length v → ((s i : ℕ) → bit u s i ≡ bit v s i)
    → u ≡ v
equal_from_bits u v l same = ext_get_or 0 u v l (λ k _. same_from_bits (slice_index u k) (slice_index v k) (same k))

pub driven_placed : (f : Flat) → IsWellFormed f → AllPlaced f.signals f.driven
driven_placed f w p h =
    let fits : DrivenFits f.signals f.nodes p = all_in (DrivenFits f.signals f.nodes) f.driven w.parts.driven p h in fits.0

pub lie_in_one : (f : Flat) → IsWellFormed f → LieInOne f.driven
lie_in_one f w p q s i a b c d =
    let x = place p f.driven a in
    let y = place q f.driven b in
    let p_is : get_or f.driven x.at p ≡ p = get_or_from_slice_get f.driven x.at p p x.is in
    let q_is : get_or f.driven y.at p ≡ q = get_or_from_slice_get f.driven y.at q p y.is in
    let same : x.at ≡ y.at =
    (parts_law f w).driven x.at y.at s i p (slice_get_within f.driven x.at p x.is)
    (slice_get_within f.driven y.at q y.is)
    (subst (λ (z : DrivenPart). HasBit z.range s i) (sym p_is) c)
    (subst (λ (z : DrivenPart). HasBit z.range s i) (sym q_is) d) in
    sym p_is ∙ ap (λ k. get_or f.driven k p) same ∙ q_is

-- each driven part stands in the order
pub in_order : (f : Flat) (order : List ℕ) → IsOrder f order → (p : DrivenPart) → In p f.driven → In p (chosen f order)
in_order f order o p h =
    let x = place p f.driven h in
    let there = o.each x.at (slice_get_within f.driven x.at p x.is) in
    in_chosen f p order there.0 there.1 (ap (slice_get f.driven) there.2 ∙ x.is)

-- what is known of a design with an order
record Ordered (f : Flat) (order : List ℕ) (m : List (List ℕ)) (base : List ℕ) : Type 0 where
  fits : AllPlaced f.signals (chosen f order)
  one : LieInOne (chosen f order)
  steady : AreSteady (over f m) (chosen f order)
  sized : AreSized f.signals base
  all : (p : DrivenPart) → In p f.driven → In p (chosen f order)
  placed : AllPlaced f.signals f.driven
  lie : LieInOne f.driven

ordered : (f : Flat) → IsWellFormed f → (order : List ℕ) → IsOrder f order → (s : State) (row : List ℕ)
    → Ordered f order (all_words f.memories s.memories) (given f s row)
ordered f w order o s row = record {
  fits = λ p h. driven_placed f w p (chosen_driven f p order h);
  one = λ p q t i a b c d. lie_in_one f w p q t i (chosen_driven f p order a) (chosen_driven f q order b) c d;
  steady = all_steady f w (all_words f.memories s.memories) order o.after;
  sized = given_sized f w s row;
  all = in_order f order o;
  placed = driven_placed f w;
  lie = lie_in_one f w;
}

-- the values of the order, with each driven part at its node's value over them, are the same
settled : (f : Flat) (order : List ℕ) (m : List (List ℕ)) (base : List ℕ) → Ordered f order m base
    → (let end : List ℕ = put_all f.signals (over f m) (chosen f order) base in
    end ≡ put_driven f.signals f.driven (node_values f (record { signals = end; memories = m })) base)
settled f order m base o =
    let end : List ℕ = put_all f.signals (over f m) (chosen f order) base in
    let xs : List ℕ = node_values f (record { signals = end; memories = m }) in
    let again : List ℕ = put_all f.signals (fixed xs) f.driven base in
    let has : EachHas (over f m) (chosen f order) end =
    all_have f.signals (over f m) (chosen f order) base o.fits o.one o.steady o.sized in
    let same : (t i : ℕ) → bit end t i ≡ bit again t i =
    ends_same f.signals (fixed xs) f.driven end base o.placed (fixed_steady xs f.driven) o.sized
    (λ p t i h b. has p t i (o.all p h) b)
    (λ t i none. all_beside f.signals (over f m) (chosen f order) base t i o.fits o.sized
    (λ p h b. none p (chosen_driven f p order h) b)) in
    let long = all_sized f.signals (over f m) (chosen f order) base o.fits o.sized in
    let long_too = all_sized f.signals (fixed xs) f.driven base o.placed o.sized in
    equal_from_bits end again (long.count ∙ sym long_too.count) same ∙ sym (put_driven_is f.signals f.driven xs base)

-- what settles are the values of the order
alone : (f : Flat) (order : List ℕ) (m : List (List ℕ)) (base u : List ℕ) → Ordered f order m base
    → u ≡ put_driven f.signals f.driven (node_values f (record { signals = u; memories = m })) base
    → u ≡ put_all f.signals (over f m) (chosen f order) base
alone f order m base u o is =
    let end : List ℕ = put_all f.signals (over f m) (chosen f order) base in
    let xs : List ℕ = node_values f (record { signals = u; memories = m }) in
    let again : List ℕ = put_all f.signals (fixed xs) f.driven base in
    let equal : u ≡ again = is ∙ put_driven_is f.signals f.driven xs base in
    let has : EachHas (fixed xs) f.driven again =
    all_have f.signals (fixed xs) f.driven base o.placed o.lie (fixed_steady xs f.driven) o.sized in
    let same : (t i : ℕ) → bit u t i ≡ bit end t i =
    ends_same f.signals (over f m) (chosen f order) u base o.fits o.steady o.sized
    (λ p t i h b. ap (λ v. bit v t i) equal ∙ has p t i (chosen_driven f p order h) b)
    (λ t i none. ap (λ v. bit v t i) equal ∙ all_beside f.signals (fixed xs) f.driven base t i o.placed o.sized
    (λ p h b. none p (o.all p h) b)) in
    let long = all_sized f.signals (over f m) (chosen f order) base o.fits o.sized in
    let long_too = all_sized f.signals (fixed xs) f.driven base o.placed o.sized in
    equal_from_bits u end (ap length equal ∙ long_too.count ∙ sym long.count) same

pub settles_once : SettlesOnce
settles_once f order s row w o =
    let m : List (List ℕ) = all_words f.memories s.memories in
    let base : List ℕ = given f s row in
    let end : List ℕ = put_all f.signals (over f m) (chosen f order) base in
    let known : Ordered f order m base = ordered f w order o s row in
    let is : flat_val f order s row ≡ record { signals = end; memories = m } = driven_is f m order base in
    record {
      settles = subst (λ v. FlatSettles f s row v) (sym is)
          (ap (λ (v : List ℕ). record { signals = v; memories = m }) (settled f order m base known));
      alone = λ u h.
          let words : u.memories ≡ m = ap (λ (v : Values). v.memories) h in
          let own : u.signals ≡ put_driven f.signals f.driven (node_values f (record { signals = u.signals; memories = m }))
          base = ap (λ (v : Values). v.signals) h
          ∙ ap (λ x. put_driven f.signals f.driven (node_values f (record { signals = u.signals; memories = x })) base)
          words in
          ap (λ x. record { signals = u.signals; memories = x }) words
          ∙ ap (λ (v : List ℕ). record { signals = v; memories = m }) (alone f order m base u.signals known own) ∙ sym is;
    }
