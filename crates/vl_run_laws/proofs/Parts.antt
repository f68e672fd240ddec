-- The parts of all signals, from the runs of each.
use Rattle.std.proofs.Common.{◌≡◌, ℕ, zero, suc, ◌+◌, ◌<◌, ◌≤◌, ◌⊎◌, inl, inr, List, [], ◌∷◌, ◌++◌, map, refl, sym, ap, subst, ◌∙◌, arith}
use Rattle.std.specs.Prelude.{Option, Some, slice_get}
use Rattle.std.specs.Option.{option_map}
use Rattle.std.proofs.lemmas.List.{length-map}
use Rattle.std.proofs.lemmas.Option.{slice_get-map, slice_get_within}
use Rattle.netlist.proofs.Puts.{In}
use Rattle.netlist.proofs.SettlesOnce.{place, in_from}
use Rattle.vl_value.specs.Reads.{up_to}
use Rattle.vl_design.specs.Design.{Signal}
use Rattle.vl_process.specs.Aims.{Aimed}
use Rattle.vl_process.specs.Processes.{drivers, driver_aims, blocks, block_aims}
use Rattle.vl_process.specs.Settling.{signal_width}
use Rattle.vl_process.specs.Parts.{Part, owner_from, signal_parts, parts_from}
use Rattle.vl_store.proofs.Lists.{count_up, number_up}
use Rattle.vl_run_laws.specs.Parts.{HasPlace, StandsApart, ArePartsOf, PartsLaw}
use Rattle.vl_run_laws.proofs.Runs.{runs_inside, runs_held, Before, Sorted, runs_sorted}

-- ---- lists

in_left : {X : Type 0} (x : X) (xs ys : List X) → In x xs → In x (xs ++ ys)
in_left x [] ys h = absurd h
in_left x (y ∷ xs) ys h = elim h [ inl e ↦ inl e | inr later ↦ inr (in_left x xs ys later) ]

in_right : {X : Type 0} (x : X) (xs ys : List X) → In x ys → In x (xs ++ ys)
in_right x [] ys h = h
in_right x (y ∷ xs) ys h = inr (in_right x xs ys h)

in_either : {X : Type 0} (x : X) (xs ys : List X) → In x (xs ++ ys) → In x xs ⊎ In x ys
in_either x [] ys h = inr h
in_either x (y ∷ xs) ys h = elim h [
  | inl e ↦ inl (inl e)
  | inr later ↦ elim (in_either x xs ys later) [ inl a ↦ inl (inr a) | inr b ↦ inr b ]
]

-- ---- one signal

abbrev owners : List (List Aimed) → Signal → List (Option ℕ)
owners all y = map (owner_from 0 all y.path) (up_to (signal_width y))

owner_there : (all : List (List Aimed)) (y : Signal) (k : ℕ) → k < signal_width y
    → slice_get (owners all y) k ≡ Some (owner_from 0 all y.path k)
owner_there all y k l = slice_get-map (owner_from 0 all y.path) (up_to (signal_width y)) k
    ∙ ap (option_map (owner_from 0 all y.path)) (number_up (signal_width y) k l)

owner_within : (all : List (List Aimed)) (y : Signal) (k n : ℕ) → slice_get (owners all y) k ≡ Some (Some n)
    → (k < signal_width y) × (owner_from 0 all y.path k ≡ Some n)
owner_within all y k n at =
    let l : k < signal_width y = subst (λ m. k < m) (length-map (up_to (signal_width y)) (owner_from 0 all y.path)
    ∙ count_up (signal_width y)) (slice_get_within (owners all y) k (Some n) at) in
    let same : Some (owner_from 0 all y.path k) ≡ Some (Some n) = sym (owner_there all y k l) ∙ at in
    (l, cc)

-- ---- all signals, from the one of a number on

-- what is known of a part: the signal that has its number, and the owner of each of its places
record Known (all : List (List Aimed)) (n : ℕ) (xs : List Signal) (q : Part) : Type 0 where
  place : ℕ
  is : q.signal ≡ n + place
  signal : Signal
  at : slice_get xs place ≡ Some signal
  some : 1 ≤ q.width
  each : (k : ℕ) → q.low ≤ k → k < q.low + q.width → (k < signal_width signal)
      × (owner_from 0 all signal.path k ≡ Some q.owner)

of_signal : (all : List (List Aimed)) (n : ℕ) (y : Signal) (ys : List Signal) (q : Part) → In q (signal_parts all n y)
    → Known all n (y ∷ ys) q
of_signal all n y ys q h =
    let p = runs_inside n 0 (owners all y) q h in
    record {
      place = 0;
      is = omega (arith, p.signal);
      signal = y;
      at = refl;
      some = p.some;
      each = λ k a b.
          let zero_more : k ≡ 0 + k = omega arith in
          owner_within all y k q.owner (p.each k (omega (arith, a)) (omega (arith, b)));
    }

of_later : (all : List (List Aimed)) (n : ℕ) (y : Signal) (ys : List Signal) (q : Part) → Known all (suc n) ys q
    → Known all n (y ∷ ys) q
of_later all n y ys q p = record {
  place = suc p.place;
  is = omega (arith, p.is);
  signal = p.signal;
  at = p.at;
  some = p.some;
  each = p.each;
}

known : (all : List (List Aimed)) (n : ℕ) (xs : List Signal) (q : Part) → In q (parts_from all n xs) → Known all n xs q
known all n [] q h = absurd h
known all n (y ∷ ys) q h = elim (in_either q (signal_parts all n y) (parts_from all (suc n) ys) h) [
  | inl here ↦ of_signal all n y ys q here
  | inr later ↦ of_later all n y ys q (known all (suc n) ys q later)
]

-- a place with an owner lies in a part of its signal
record HeldBy (qs : List Part) (x k : ℕ) : Type 0 where
  part : Part
  among : In part qs
  has : HasPlace part x k

held_in : (all : List (List Aimed)) (n : ℕ) (xs : List Signal) (x i k m : ℕ) (y : Signal) → x ≡ n + i
    → slice_get xs i ≡ Some y → k < signal_width y → owner_from 0 all y.path k ≡ Some m → HeldBy (parts_from all n xs) x k
held_in all n [] x i k m y is at l own = absurd cc
held_in all n (z ∷ zs) x zero k m y is at l own =
    let same : z ≡ y = cc in
    let there : slice_get (owners all z) k ≡ Some (Some m) =
    subst (λ s. slice_get (owners all s) k ≡ Some (Some m)) (sym same) (owner_there all y k l ∙ ap Some own) in
    let h = runs_held n 0 k k m (owners all z) (omega arith) there in
    let p = runs_inside n 0 (owners all z) h.part h.among in
    record {
      part = h.part;
      among = in_left h.part (signal_parts all n z) (parts_from all (suc n) zs) h.among;
      has = (omega (arith, p.signal, is), h.from, h.to);
    }
held_in all n (z ∷ zs) x (suc i) k m y is at l own =
    let h = held_in all (suc n) zs x i k m y (omega (arith, is)) at l own in
    record {
      part = h.part;
      among = in_right h.part (signal_parts all n z) (parts_from all (suc n) zs) h.among;
      has = h.has;
    }

-- ---- in order

before_all : (q : Part) (as' bs : List Part) → Before q as' → ((r : Part) → In r bs → q.signal < r.signal)
    → Before q (as' ++ bs)
before_all q [] [] b less = tt
before_all q [] (r ∷ bs) b less = inl (less r (inl refl))
before_all q (a ∷ as') bs b less = b

sorted_both : (as' bs : List Part) → Sorted as' → Sorted bs → ((q r : Part) → In q as' → In r bs → q.signal < r.signal)
    → Sorted (as' ++ bs)
sorted_both [] bs a b less = b
sorted_both (q ∷ as') bs a b less =
    (before_all q as' bs a.0 (λ r h. less q r (inl refl) h), sorted_both as' bs a.1 b (λ p r i j. less p r (inr i) j))

sorted_parts : (all : List (List Aimed)) (n : ℕ) (xs : List Signal) → Sorted (parts_from all n xs)
sorted_parts all n [] = tt
sorted_parts all n (y ∷ ys) =
    sorted_both (signal_parts all n y) (parts_from all (suc n) ys) (runs_sorted n 0 (owners all y))
    (sorted_parts all (suc n) ys) (λ q r i j.
    let a = runs_inside n 0 (owners all y) q i in
    let b = known all (suc n) ys r j in
    omega (arith, a.signal, b.is))

neighbours : (qs : List Part) (i : ℕ) (q r : Part) → Sorted qs → slice_get qs i ≡ Some q → slice_get qs (suc i) ≡ Some r
    → StandsApart q r
neighbours [] i q r z a b = absurd cc
neighbours (s ∷ []) zero q r z a b = absurd cc
neighbours (s ∷ t ∷ qs) zero q r z a b =
    let first : s ≡ q = cc in
    let second : t ≡ r = cc in
    subst (λ x. StandsApart x r) first (subst (StandsApart s) second z.0)
neighbours (s ∷ qs) (suc i) q r z a b = neighbours qs i q r z.1 a b

-- ---- the law

all_parts : (all : List (List Aimed)) (xs : List Signal) → ArePartsOf all xs (parts_from all 0 xs)
all_parts all xs = record {
  owned = λ i k q at has.
      let p = known all 0 xs q (in_from q (parts_from all 0 xs) i at) in
      let own = p.each k has.1 has.2 in
      let number : p.place ≡ q.signal = omega (arith, p.is) in
      record {
        signal = p.signal;
        at = subst (λ n. slice_get xs n ≡ Some p.signal) number p.at;
        within = own.0;
        owner = own.1;
      };
  held = λ x k n own.
      let h = held_in all 0 xs x x k n own.signal (omega arith) own.at own.within own.owner in
      let there = place h.part (parts_from all 0 xs) h.among in
      let p = known all 0 xs h.part h.among in
      let owner = (p.each k h.has.1 h.has.2).1 in
      let number : p.place ≡ x = omega (arith, p.is, h.has.0) in
      let signals : Some p.signal ≡ Some own.signal = sym p.at ∙ ap (slice_get xs) number ∙ own.at in
      let same : p.signal ≡ own.signal = cc in
      let owners_same : Some h.part.owner ≡ Some n = sym owner ∙ ap (λ (s : Signal). owner_from 0 all s.path k) same ∙ own.owner in
      record { number = there.at; part = h.part; at = there.is; has = h.has; owner = cc };
  some = λ i q at. (known all 0 xs q (in_from q (parts_from all 0 xs) i at)).some;
  apart = λ i q r a b. neighbours (parts_from all 0 xs) i q r (sorted_parts all 0 xs) a b;
}

pub parts_are : PartsLaw
parts_are = record {
  driven = λ d. all_parts (map driver_aims (drivers d)) d.signals;
  registers = λ d. all_parts (map block_aims (blocks d)) d.signals;
}
