-- Numbers of a state and of a row in the given slots of a design's program.
use Rattle.std.proofs.Common.{◌≡◌, ◌≢◌, ℕ, ◌+◌, ◌^◌, ◌<◌, ◌≤◌, List, length, take, drop, refl, sym, ap, ◌∙◌, subst, arith}
use Rattle.std.proofs.lemmas.List.{get_or-take, get_or-drop, length-take-le, length-drop}
use Rattle.std.proofs.lemmas.Bool.{leb-true}
use Rattle.std.proofs.Math.Nat.{pow-le-pow_right}
use Rattle.netlist.specs.Design.{Flat}
use Rattle.step_program.specs.Values.{Slots, is_narrow_width}
use Rattle.step_program.specs.Fits.{IsSlot, is_narrow_slot}
use Rattle.step_program.specs.Plan.{Plan, IsReady}
use Rattle.step_program.specs.declared.step.Slot.{Slot}
use Rattle.step_program.specs.declared.step.Slot.TheVariants as at
use Rattle.net_compile.specs.Cycle.{slot_at}
use Rattle.net_compile.specs.Compiles.{Machine, Compiles}
use Rattle.held_state.specs.Slots.{numbers, with_numbers, Takes}
use Rattle.held_state.proofs.Puts.{SameCounts, AllIn, AllApart, all_counts, all_there, all_drops, kept_numbers}
use Rattle.held_state.proofs.GivenLaws.{all_in, slot_count}

wider : (v w : ℕ) → v ≤ w → 2 ^ v ≤ 2 ^ w
wider v w h = let two : 0 < 2 = omega arith in pow-le-pow_right two h

pub take_fits : (s : Slot) (w n : ℕ) → is_narrow_slot s ≡ is_narrow_width w → n < 2 ^ w → w ≤ 128 → Takes s n
take_fits (at.Narrow k) w n kind l wide =
    let few : w ≤ 64 = leb-true w 64 (sym kind) in
    let p : 2 ^ w ≤ 2 ^ 64 = wider w 64 few in
    omega (arith, l, p)
take_fits (at.Wide k) w n kind l wide = let p : 2 ^ w ≤ 2 ^ 128 = wider w 128 wide in omega (arith, l, p)

-- the slots in front of a number, and those from it on
pub in_taken : (n m : ℕ) (ss : List Slot) (r : ℕ) → r ≤ length ss → AllIn n m ss → AllIn n m (take r ss)
in_taken n m ss r l h k i =
    let few : k < r = omega (arith, length-take-le r ss l, i) in
    subst (λ s. IsSlot n m s) (sym (get_or-take r ss k (at.Narrow 0) few)) (h k (omega (arith, few, l)))

pub in_dropped : (n m : ℕ) (ss : List Slot) (r : ℕ) → AllIn n m ss → AllIn n m (drop r ss)
in_dropped n m ss r h k i =
    subst (λ s. IsSlot n m s) (sym (get_or-drop r ss k (at.Narrow 0))) (h (r + k) (omega (arith, length-drop r ss, i)))

pub apart_taken : (ss : List Slot) (r : ℕ) → r ≤ length ss → AllApart ss → AllApart (take r ss)
apart_taken ss r l h j k less i e =
    let few : k < r = omega (arith, length-take-le r ss l, i) in
    h j k less (omega (arith, few, l))
    (sym (get_or-take r ss j (at.Narrow 0) (omega (arith, few, less))) ∙ e ∙ get_or-take r ss k (at.Narrow 0) few)

apart_dropped : (ss : List Slot) (r : ℕ) → AllApart ss → AllApart (drop r ss)
apart_dropped ss r h j k less i e =
    h (r + j) (r + k) (omega (arith, less)) (omega (arith, length-drop r ss, i))
    (sym (get_or-drop r ss j (at.Narrow 0)) ∙ e ∙ get_or-drop r ss k (at.Narrow 0))

apart_between : (ss : List Slot) (r : ℕ) → r ≤ length ss → AllApart ss → (j k : ℕ) → j < length (take r ss)
    → k < length (drop r ss) → slot_at (take r ss) j ≢ slot_at (drop r ss) k
apart_between ss r l h j k i g e =
    let few : j < r = omega (arith, length-take-le r ss l, i) in
    h j (r + k) (omega (arith, few)) (omega (arith, length-drop r ss, g))
    (sym (get_or-take r ss j (at.Narrow 0) few) ∙ e ∙ get_or-drop r ss k (at.Narrow 0))

-- the memory stays ready
pub ready_after : (p : Plan) (x : Slots) (ss : List Slot) (ns : List ℕ) → IsReady p x → AllIn p.narrow p.wide ss
    → IsReady p (with_numbers x ss ns)
ready_after p x ss ns h i =
    let c : SameCounts (with_numbers x ss ns) x = all_counts x ss ns in
    let d = all_drops x p.narrow p.wide ss ns i in
    record {
      narrow = c.narrow ∙ h.narrow;
      wide = c.wide ∙ h.wide;
      narrow_constants = ap (λ xs. take (length p.narrow_constants) xs) d.0 ∙ h.narrow_constants;
      wide_constants = ap (λ xs. take (length p.wide_constants) xs) d.1 ∙ h.wide_constants;
    }

slot_in_more : (n m k l : ℕ) (s : Slot) → n ≤ k → m ≤ l → IsSlot n m s → IsSlot k l s
slot_in_more n m k l (at.Narrow i) a b h = omega (arith, a, h)
slot_in_more n m k l (at.Wide i) a b h = omega (arith, b, h)

pub all_wider : (p : Plan) (x : Slots) → IsReady p x → (ss : List Slot) → AllIn p.narrow p.wide ss
    → AllIn (length x.narrow) (length x.wide) ss
all_wider p x h ss i k l =
    slot_in_more p.narrow p.wide (length x.narrow) (length x.wide) (slot_at ss k) (omega (arith, h.narrow))
    (omega (arith, h.wide)) (i k l)

pub all_apart : (f : Flat) (m : Machine) → Compiles f m → AllApart m.front.slots
all_apart f m c j k less l = c.slots.apart j k less (omega (arith, l, c.slots.count))

-- a row was put into the slots of the data inputs
pub record PutRow (r : ℕ) (m : Machine) (x y : Slots) (row : List ℕ) : Type 0 where
  pub ready : IsReady m.plan y
  pub registers : numbers y (take r m.front.slots) ≡ numbers x (take r m.front.slots)
  pub inputs : numbers y (drop r m.front.slots) ≡ row

-- numbers were put into the slots of the register parts
pub record PutState (r : ℕ) (m : Machine) (y : Slots) (ns : List ℕ) : Type 0 where
  pub ready : IsReady m.plan y
  pub registers : numbers y (take r m.front.slots) ≡ ns

pub put_row : (f : Flat) (m : Machine) (x : Slots) (row : List ℕ) → Compiles f m → IsReady m.plan x
    → length row ≡ length f.inputs
    → PutRow (length f.registers) m x (with_numbers x (drop (length f.registers) m.front.slots) row) row
put_row f m x row c h count =
    let r : ℕ = length f.registers in
    let ss : List Slot = m.front.slots in
    let all : length ss ≡ length f.registers + length f.inputs = slot_count f m c in
    let inside : AllIn m.plan.narrow m.plan.wide (drop r ss) =
    in_dropped m.plan.narrow m.plan.wide ss r (all_in f m c) in
    let apart : AllApart ss = all_apart f m c in
    record {
      ready = ready_after m.plan x (drop r ss) row h inside;
      registers = kept_numbers x (drop r ss) (take r ss) row (apart_between ss r (omega (arith, all)) apart);
      inputs = all_there x (length x.narrow) (length x.wide) (drop r ss) row (omega (arith, length-drop r ss, all, count)) refl refl
          (all_wider m.plan x h (drop r ss) inside) (apart_dropped ss r apart);
    }

pub put_state : (f : Flat) (m : Machine) (x : Slots) (ns : List ℕ) → Compiles f m → IsReady m.plan x
    → length ns ≡ length f.registers
    → PutState (length f.registers) m (with_numbers x (take (length f.registers) m.front.slots) ns) ns
put_state f m x ns c h count =
    let r : ℕ = length f.registers in
    let ss : List Slot = m.front.slots in
    let all : length ss ≡ length f.registers + length f.inputs = slot_count f m c in
    let inside : AllIn m.plan.narrow m.plan.wide (take r ss) =
    in_taken m.plan.narrow m.plan.wide ss r (omega (arith, all)) (all_in f m c) in
    record {
      ready = ready_after m.plan x (take r ss) ns h inside;
      registers = all_there x (length x.narrow) (length x.wide) (take r ss) ns
          (length-take-le r ss (omega (arith, all)) ∙ sym count) refl refl (all_wider m.plan x h (take r ss) inside)
          (apart_taken ss r (omega (arith, all)) (all_apart f m c));
    }
