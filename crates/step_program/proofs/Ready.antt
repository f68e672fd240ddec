-- The memory of a program that runs.
use Rattle.std.proofs.Common.{◌≡◌, ℕ, ◌+◌, ◌<◌, ◌≤◌, Bool, true, false, List, [], ◌∷◌, ◌++◌, length, take, drop, set, refl, sym, ap, ◌∙◌, arith, append-nil, append_assoc}
use Rattle.std.proofs.lemmas.List.{take-append-drop, take-take, drop-take, take_at, drop_at, drop-set-lt, length-set, length-take-le}
use Rattle.step_program.specs.Values.{Slots, placed, after, is_narrow, step_value}
use Rattle.step_program.specs.Running.{slots, front}
use Rattle.step_program.specs.Plan.{Plan, narrow_front, wide_front, started, ran, given_in, IsReady}
use Rattle.step_program.specs.declared.step.Step.{Step}

-- ---- what stands in front stays in front

record Grew (before now : Slots) : Type 0 where
  narrow : List ℕ
  wide : List ℕ
  narrow_is : now.narrow ≡ before.narrow ++ narrow
  wide_is : now.wide ≡ before.wide ++ wide

grew_one : (b : Bool) (v : ℕ) (slots : Slots) → Grew slots (placed b v slots)
grew_one true v slots = record { narrow = v ∷ []; wide = []; narrow_is = refl; wide_is = sym (append-nil slots.wide) }
grew_one false v slots = record { narrow = []; wide = v ∷ []; narrow_is = sym (append-nil slots.narrow); wide_is = refl }

grew_more : (a b c : Slots) → Grew a b → Grew b c → Grew a c
grew_more a b c g h = record {
  narrow = g.narrow ++ h.narrow;
  wide = g.wide ++ h.wide;
  narrow_is = h.narrow_is ∙ ap (λ x. x ++ h.narrow) g.narrow_is ∙ append_assoc a.narrow g.narrow h.narrow;
  wide_is = h.wide_is ∙ ap (λ x. x ++ h.wide) g.wide_is ∙ append_assoc a.wide g.wide h.wide;
}

grew : (words : List (List ℕ)) (slots : Slots) (steps : List Step) → Grew slots (after words slots steps)
grew words slots [] = record {
  narrow = [];
  wide = [];
  narrow_is = sym (append-nil slots.narrow);
  wide_is = sym (append-nil slots.wide);
}
grew words slots (x ∷ xs) =
    let v : ℕ = step_value words slots x in
    grew_more slots (placed (is_narrow x) v slots) (after words slots (x ∷ xs)) (grew_one (is_narrow x) v slots)
    (grew words (placed (is_narrow x) v slots) xs)

-- ---- lists

take_both : (n m : ℕ) (xs : List ℕ) → take (n + m) xs ≡ take n xs ++ take m (drop n xs)
take_both n m xs =
    let low : n ≤ n + m = omega arith in
    sym (take-append-drop n (take (n + m) xs)) ∙ ap (λ ys. ys ++ drop n (take (n + m) xs)) (take-take n (n + m) xs low)
    ∙ ap (λ ys. take n xs ++ ys) (drop-take n m xs)

-- a list that begins with given numbers and constants
begins_given : (n : ℕ) (given constants more xs : List ℕ) → length given ≡ n → xs ≡ given ++ constants ++ more
    → take n xs ≡ given
begins_given n given constants more xs l e =
    ap (take n) (e ∙ append_assoc given constants more) ∙ take_at given (constants ++ more) n l

begins_constants : (n : ℕ) (given constants more xs : List ℕ) → length given ≡ n → xs ≡ given ++ constants ++ more
    → take (length constants) (drop n xs) ≡ constants
begins_constants n given constants more xs l e =
    ap (λ x. take (length constants) (drop n x)) (e ∙ append_assoc given constants more)
    ∙ ap (take (length constants)) (drop_at given (constants ++ more) n l)
    ∙ take_at constants more (length constants) refl

-- ---- a run

pub record HasRun (p : Plan) (words : List (List ℕ)) (old now : Slots) : Type 0 where
  pub value : now ≡ ran p words (given_in p old)
  pub ready : IsReady p now
  pub given : given_in p now ≡ given_in p old

pub has_run : (p : Plan) (words : List (List ℕ)) (old now : Slots) → IsReady p old
    → now ≡ after words (front (narrow_front p) (wide_front p) old.narrow old.wide) p.steps
    → length now.narrow ≡ length old.narrow → length now.wide ≡ length old.wide → HasRun p words old now
has_run p words old now h is ln lw =
    let n : ℕ = p.narrow in let m : ℕ = p.wide in
    let cn : List ℕ = p.narrow_constants in let cw : List ℕ = p.wide_constants in
    let en : take (n + length cn) old.narrow ≡ take n old.narrow ++ cn =
    take_both n (length cn) old.narrow ∙ ap (λ ys. take n old.narrow ++ ys) h.narrow_constants in
    let ew : take (m + length cw) old.wide ≡ take m old.wide ++ cw =
    take_both m (length cw) old.wide ∙ ap (λ ys. take m old.wide ++ ys) h.wide_constants in
    let value : now ≡ ran p words (given_in p old) = is ∙ (λ i. after words (slots (en i) (ew i)) p.steps) in
    let g = grew words (started p (given_in p old)) p.steps in
    let nn : now.narrow ≡ take n old.narrow ++ cn ++ g.narrow = ap (λ x. x.narrow) value ∙ g.narrow_is in
    let nw : now.wide ≡ take m old.wide ++ cw ++ g.wide = ap (λ x. x.wide) value ∙ g.wide_is in
    let rn = h.narrow in let rw = h.wide in
    let low_n : n ≤ length old.narrow = omega arith in let low_w : m ≤ length old.wide = omega arith in
    let tn : length (take n old.narrow) ≡ n = length-take-le n old.narrow low_n in
    let tw : length (take m old.wide) ≡ m = length-take-le m old.wide low_w in record {
      value = value;
      ready = record {
        narrow = ln ∙ h.narrow;
        wide = lw ∙ h.wide;
        narrow_constants = begins_constants n (take n old.narrow) cn g.narrow now.narrow tn nn;
        wide_constants = begins_constants m (take m old.wide) cw g.wide now.wide tw nw;
      };
      given = λ i. slots (begins_given n (take n old.narrow) cn g.narrow now.narrow tn nn i)
          (begins_given m (take m old.wide) cw g.wide now.wide tw nw i);
    }

-- ---- a number that is given

kept_constants : (n k v : ℕ) (constants xs : List ℕ) → k < n → take (length constants) (drop n xs) ≡ constants
    → take (length constants) (drop n (set xs k v)) ≡ constants
kept_constants n k v constants xs h e = ap (take (length constants)) (drop-set-lt n xs k v h) ∙ e

pub ready_narrow : (p : Plan) (s : Slots) (k v : ℕ) → k < p.narrow → IsReady p s → IsReady p (slots (set s.narrow k v) s.wide)
ready_narrow p s k v h r = record {
  narrow = length-set s.narrow k v ∙ r.narrow;
  wide = r.wide;
  narrow_constants = kept_constants p.narrow k v p.narrow_constants s.narrow h r.narrow_constants;
  wide_constants = r.wide_constants;
}

pub ready_wide : (p : Plan) (s : Slots) (k v : ℕ) → k < p.wide → IsReady p s → IsReady p (slots s.narrow (set s.wide k v))
ready_wide p s k v h r = record {
  narrow = r.narrow;
  wide = length-set s.wide k v ∙ r.wide;
  narrow_constants = r.narrow_constants;
  wide_constants = kept_constants p.wide k v p.wide_constants s.wide h r.wide_constants;
}
