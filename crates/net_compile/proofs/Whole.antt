-- What a whole program promises.
use Rattle.std.proofs.Common.{◌≡◌, ℕ, ◌<◌, List, length, refl, sym, ap, ◌∙◌, subst, arith}
use Rattle.std.specs.Prelude.{Option, None, slice_index_or}
use Rattle.netlist.specs.Design.{Flat}
use Rattle.netlist.specs.Run.{all_words}
use Rattle.netlist.specs.Values.{width_at}
use Rattle.netlist.proofs.Puts.{some_with}
use Rattle.step_program.specs.Values.{slot_value}
use Rattle.step_program.specs.Fits.{IsSlot, is_narrow_slot}
use Rattle.step_program.specs.Draft.{Draft}
use Rattle.step_program.specs.Plan.{Plan, Carries, narrow_total, wide_total, ran}
use Rattle.step_program.specs.Table.{Table, stands}
use Rattle.step_program.specs.declared.step.Slot.{Slot}
use Rattle.step_program.specs.declared.step.Slot.TheVariants as at
use Rattle.net_compile.specs.Cycle.{Front, HasSlots, given_widths, slot_at}
use Rattle.net_compile.specs.Stands.{Begins, Stands, NodesStand, node_number}
use Rattle.net_compile.specs.Compiles.{ArePlaced, Compiles}
use Rattle.net_compile.proofs.Standing.{given_of}

-- the slot of a node, in the draft and in the program
record Node (f : Flat) (front : Front) (d : Draft) (table : Table) (nodes : List Slot) (n : ℕ) : Type 0 where
  slot : Slot
  is : slot_at nodes n ≡ stands table slot
  holds : Stands f front d slot (width_at f.nodes n) (node_number f front n)

node : (f : Flat) (front : Front) (d : Draft) (table : Table) (slots : List (Option Slot)) (nodes : List Slot)
    → NodesStand f front d slots → length slots ≡ length f.nodes → ArePlaced table slots nodes → (n : ℕ)
    → n < length f.nodes → Node f front d table nodes n
node f front d table slots nodes h count p n l =
    let s = some_with (slice_index_or slots n None) (λ slot. slot_at nodes n ≡ stands table slot)
    (p.1 n (omega (arith, l, count))) in
    record { slot = s.0; is = s.2; holds = h n s.0 s.1 }

kind_stays : (t : Table) (s : Slot) → is_narrow_slot (stands t s) ≡ is_narrow_slot s
kind_stays t (at.Narrow k) = refl
kind_stays t (at.Wide k) = refl

pub compiles : (f : Flat) (front : Front) (d : Draft) (p : Plan) (table : Table) (slots : List (Option Slot))
    (nodes : List Slot) → HasSlots (given_widths f) front → Begins front d → NodesStand f front d slots
    → length slots ≡ length f.nodes → Carries d p table → ArePlaced table slots nodes
    → Compiles f (record { plan = p; front = front; nodes = nodes })
compiles f front d p table slots nodes h b stand count carries placed = record {
  slots = h;
  narrow = carries.narrow ∙ b.narrow;
  wide = carries.wide ∙ b.wide;
  count = placed.0 ∙ count;
  within = λ n l.
      let x : Node f front d table nodes n = node f front d table slots nodes stand count placed n l in
      subst (λ s. IsSlot (narrow_total p) (wide_total p) s) (sym x.is) (carries.within x.slot x.holds.there.placed);
  kind = λ n l.
      let x : Node f front d table nodes n = node f front d table slots nodes stand count placed n l in
      ap is_narrow_slot x.is ∙ kind_stays table x.slot ∙ x.holds.there.kind;
  fits = λ n c l.
      let x : Node f front d table nodes n = node f front d table slots nodes stand count placed n l in
      x.holds.fits c;
  value = λ n c l.
      let x : Node f front d table nodes n = node f front d table slots nodes stand count placed n l in
      let words : List (List ℕ) = all_words f.memories c.state.memories in
      ap (λ s. slot_value (ran p words c.given) s) x.is
      ∙ carries.value words c.given x.slot (given_of f front d b c) x.holds.there.placed ∙ x.holds.value c;
}
