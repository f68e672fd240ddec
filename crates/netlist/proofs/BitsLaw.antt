-- What settles has the bits of its parts.
use Rattle.std.proofs.Common.{◌≡◌, ℕ, zero, suc, ◌+◌, ◌-◌, ◌<◌, inl, inr, List, [], ◌∷◌, length, drop, get_or, refl, sym, ap, ◌∙◌, subst, arith}
use Rattle.std.specs.Prelude.{Some, slice_get, slice_index}
use Rattle.std.specs.Int.{bit_at}
use Rattle.std.proofs.lemmas.List.{get_or-drop, drop-drop}
use Rattle.std.proofs.lemmas.Option.{slice_get_within, get_or_from_slice_get, slice_get-get_or}
use Rattle.netlist.specs.Design.{Flat}
use Rattle.netlist.specs.Fits.{IsWellFormed, RegisterFits, PlaceFits}
use Rattle.netlist.specs.Laws.{HasBit, HasBitOf, LiesInNone, HasBitsOfParts, BitsLaw}
use Rattle.netlist.specs.Run.{State, FlatSettles, put, put_registers, given, all_words, role_value}
use Rattle.netlist.specs.Values.{Values, node_values}
use Rattle.netlist.specs.declared.design.Signal.{Signal}
use Rattle.netlist.specs.declared.design.DrivenPart.{DrivenPart}
use Rattle.netlist.specs.declared.design.RegisterPart.{RegisterPart}
use Rattle.netlist.proofs.PartsLaw.{parts_law}
use Rattle.netlist.proofs.Puts.{bit, AreSized, In, put_all, AllPlaced, all_beside, LieInOne, InNone, all_have}
use Rattle.netlist.proofs.SettlesOnce.{Place, place, in_from, all_in, fixed, put_driven_is, fixed_steady, plain, plain_at, plain_sized, given_sized, driven_placed, lie_in_one}

-- ---- register parts are parts that have the values of a list

abbrev numbered : ℕ → List RegisterPart → List DrivenPart
numbered k [] = []
numbered k (p ∷ ps) = record { range = p.range; node = k } ∷ numbered (suc k) ps

registers_are : (ss : List Signal) (k : ℕ) (ps : List RegisterPart) (state v : List ℕ)
    → put_registers ss ps (drop k state) v ≡ put_all ss (fixed state) (numbered k ps) v
registers_are ss k [] state v = refl
registers_are ss k (p ∷ ps) state v =
    let none_more : k + 0 ≡ k = omega arith in
    let one_more : k + 1 ≡ suc k = omega arith in
    let first : slice_index (drop k state) 0 ≡ slice_index state k =
    get_or-drop k state 0 0 ∙ ap (λ n. slice_index state n) none_more in
    let rest : drop 1 (drop k state) ≡ drop (suc k) state =
    drop-drop 1 k state ∙ ap (λ n. drop n state) one_more in
    ap (λ n. put_registers ss ps (drop 1 (drop k state)) (put ss p.range n v)) first
    ∙ ap (λ l. put_registers ss ps l (put ss p.range (slice_index state k) v)) rest
    ∙ registers_are ss (suc k) ps state (put ss p.range (slice_index state k) v)

record Numbered (k : ℕ) (ps : List RegisterPart) (q : DrivenPart) : Type 0 where
  at : ℕ
  part : RegisterPart
  is : slice_get ps at ≡ Some part
  same : q ≡ record { range = part.range; node = k + at }

from_numbered : (k : ℕ) (ps : List RegisterPart) (q : DrivenPart) → In q (numbered k ps) → Numbered k ps q
from_numbered k [] q h = absurd h
from_numbered k (p ∷ ps) q h = elim h [
  | inl own ↦
      (let e : k ≡ k + 0 = omega arith in
      record {
        at = 0;
        part = p;
        is = refl;
        same = own ∙ ap (λ (n : ℕ). record { range = p.range; node = n }) e;
      })
  | inr later ↦
      (let r = from_numbered (suc k) ps q later in
      let e : suc k + r.at ≡ k + suc r.at = omega arith in
      record {
        at = suc r.at;
        part = r.part;
        is = r.is;
        same = r.same ∙ ap (λ (n : ℕ). record { range = r.part.range; node = n }) e;
      })
]

to_numbered : (k : ℕ) (ps : List RegisterPart) (i : ℕ) (p : RegisterPart) → slice_get ps i ≡ Some p
    → In (record { range = p.range; node = k + i }) (numbered k ps)
to_numbered k [] i p at = absurd cc
to_numbered k (x ∷ ps) zero p at =
    let e : k + 0 ≡ k = omega arith in
    let same : p ≡ x = cc in
    inl (ap (λ (n : ℕ). record { range = p.range; node = n }) e
    ∙ ap (λ (y : RegisterPart). record { range = y.range; node = k }) same)
to_numbered k (x ∷ ps) (suc i) p at =
    let e : suc k + i ≡ k + suc i = omega arith in
    inr (subst (λ n. In (record { range = p.range; node = n }) (numbered (suc k) ps)) e
    (to_numbered (suc k) ps i p at))

registers_placed : (f : Flat) → IsWellFormed f → AllPlaced f.signals (numbered 0 f.registers)
registers_placed f w q h =
    let r = from_numbered 0 f.registers q h in
    let fits : RegisterFits (length f.blocks) f.signals f.nodes r.part =
    all_in (RegisterFits (length f.blocks) f.signals f.nodes) f.registers w.parts.registers r.part
    (in_from r.part f.registers r.at r.is) in
    subst (λ (x : DrivenPart). PlaceFits f.signals x.range) (sym r.same) fits.0

registers_in_one : (f : Flat) → IsWellFormed f → LieInOne (numbered 0 f.registers)
registers_in_one f w p q t i a b c d =
    let x = from_numbered 0 f.registers p a in
    let y = from_numbered 0 f.registers q b in
    let x_is : get_or f.registers x.at x.part ≡ x.part = get_or_from_slice_get f.registers x.at x.part x.part x.is in
    let y_is : get_or f.registers y.at x.part ≡ y.part = get_or_from_slice_get f.registers y.at y.part x.part y.is in
    let same : x.at ≡ y.at =
    (parts_law f w).registers x.at y.at t i x.part (slice_get_within f.registers x.at x.part x.is)
    (slice_get_within f.registers y.at y.part y.is)
    (subst (λ (z : RegisterPart). HasBit z.range t i) (sym x_is)
    (subst (λ (z : DrivenPart). HasBit z.range t i) x.same c))
    (subst (λ (z : RegisterPart). HasBit z.range t i) (sym y_is)
    (subst (λ (z : DrivenPart). HasBit z.range t i) y.same d)) in
    let parts : x.part ≡ y.part = sym x_is ∙ ap (λ k. get_or f.registers k x.part) same ∙ y_is in
    x.same ∙ ap (λ (z : RegisterPart). record { range = z.range; node = 0 + x.at }) parts
    ∙ ap (λ k. record { range = y.part.range; node = 0 + k }) same ∙ sym y.same

-- ---- bits in no part

driven_none : (f : Flat) (t i : ℕ)
    → ((k : ℕ) (d : DrivenPart) → k < length f.driven → HasBit (get_or f.driven k d).range t i → ⊥)
    → InNone f.driven t i
driven_none f t i none p h b =
    let x = place p f.driven h in
    none x.at p (slice_get_within f.driven x.at p x.is)
    (subst (λ (z : DrivenPart). HasBit z.range t i) (sym (get_or_from_slice_get f.driven x.at p p x.is)) b)

registers_none : (f : Flat) (t i : ℕ)
    → ((k : ℕ) (d : RegisterPart) → k < length f.registers → HasBit (get_or f.registers k d).range t i → ⊥)
    → InNone (numbered 0 f.registers) t i
registers_none f t i none q h b =
    let x = from_numbered 0 f.registers q h in
    none x.at x.part (slice_get_within f.registers x.at x.part x.is)
    (subst (λ (z : RegisterPart). HasBit z.range t i)
    (sym (get_or_from_slice_get f.registers x.at x.part x.part x.is))
    (subst (λ (z : DrivenPart). HasBit z.range t i) x.same b))

-- ---- what the state and the row say

given_is : (f : Flat) (s : State) (row : List ℕ)
    → given f s row ≡ put_all f.signals (fixed s.registers) (numbered 0 f.registers) (plain f row)
given_is f s row = registers_are f.signals 0 f.registers s.registers (plain f row)

given_register : (f : Flat) → IsWellFormed f → (s : State) (row : List ℕ) (k : ℕ) (p : RegisterPart) (i : ℕ)
    → slice_get f.registers k ≡ Some p → HasBit p.range p.range.signal i
    → bit (given f s row) p.range.signal i ≡ bit_at (slice_index s.registers k) (i - p.range.low)
given_register f w s row k p i at h =
    let none_less : 0 + k ≡ k = omega arith in
    ap (λ v. bit v p.range.signal i) (given_is f s row)
    ∙ all_have f.signals (fixed s.registers) (numbered 0 f.registers) (plain f row) (registers_placed f w)
    (registers_in_one f w) (fixed_steady s.registers (numbered 0 f.registers)) (plain_sized f w row)
    (record { range = p.range; node = 0 + k }) p.range.signal i (to_numbered 0 f.registers k p at) h
    ∙ ap (λ n. bit_at (slice_index s.registers n) (i - p.range.low)) none_less

-- ---- the law

signals_are : (f : Flat) (s : State) (row : List ℕ) (v : Values) → FlatSettles f s row v
    → v.signals ≡ put_all f.signals (fixed (node_values f v)) f.driven (given f s row)
signals_are f s row v h =
    ap (λ (x : Values). x.signals) h ∙ put_driven_is f.signals f.driven (node_values f v) (given f s row)

-- the bits in no driven part are those that the state and the row give
beside_driven : (f : Flat) → IsWellFormed f → (s : State) (row : List ℕ) (v : Values) → FlatSettles f s row v
    → (t i : ℕ) → InNone f.driven t i → bit v.signals t i ≡ bit (given f s row) t i
beside_driven f w s row v h t i none =
    ap (λ u. bit u t i) (signals_are f s row v h)
    ∙ all_beside f.signals (fixed (node_values f v)) f.driven (given f s row) t i (driven_placed f w)
    (given_sized f w s row) none

pub bits_law : BitsLaw
bits_law f s row v w h = record {
  memories = ap (λ (x : Values). x.memories) h;
  driven = λ k i d l b.
      let p : DrivenPart = get_or f.driven k d in
      ap (λ u. bit u p.range.signal i) (signals_are f s row v h)
      ∙ all_have f.signals (fixed (node_values f v)) f.driven (given f s row) (driven_placed f w) (lie_in_one f w)
      (fixed_steady (node_values f v) f.driven) (given_sized f w s row) p p.range.signal i
      (in_from p f.driven k (slice_get-get_or f.driven k d l)) b;
  registers = λ k i d l b.
      let p : RegisterPart = get_or f.registers k d in
      beside_driven f w s row v h p.range.signal i
      (driven_none f p.range.signal i (λ j e m c. (parts_law f w).both j k p.range.signal i e d m l c b))
      ∙ given_register f w s row k p i (slice_get-get_or f.registers k d l) b;
  others = λ t i x at none.
      beside_driven f w s row v h t i (driven_none f t i none.driven)
      ∙ ap (λ u. bit u t i) (given_is f s row)
      ∙ all_beside f.signals (fixed s.registers) (numbered 0 f.registers) (plain f row) t i (registers_placed f w)
      (plain_sized f w row) (registers_none f t i none.registers)
      ∙ ap (λ n. bit_at n i) (plain_at f row t x at);
}
