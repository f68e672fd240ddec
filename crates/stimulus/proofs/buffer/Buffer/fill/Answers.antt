use Rattle.std.proofs.Common.{◌≡◌, ℕ, zero, suc, [], ◌∷◌, ◌+◌, ◌-◌, List, ◌++◌, length, take, drop, sym, ap, ◌∙◌, arith}
use Rattle.std.specs.List.{slice_range}
use Rattle.std.proofs.lemmas.List.{take_all, take_at, length-take, length-drop}
use Rattle.stimulus.specs.Reader.{Held}
use Rattle.stimulus.proofs.buffer.Buffer.fill.Goals as goal

range_front : (xs : List ℕ) (k : ℕ) → slice_range xs 0 k ≡ take k xs
range_front xs k = let e : k - 0 ≡ k = omega arith in ap (λ m. take m xs) e

-- the first elements, and as many of those after them
two_parts : (xs : List ℕ) (m n : ℕ) → take (m + n) xs ≡ take m xs ++ take n (drop m xs)
two_parts xs zero n = let e : 0 + n ≡ n = omega arith in ap (λ k. take k xs) e
two_parts [] (suc m) n = let e : suc m + n ≡ suc (m + n) = omega arith in ap (λ k. take k []) e ∙ sym (take_all n [] (omega arith))
two_parts (x ∷ xs) (suc m) n = let e : suc m + n ≡ suc (m + n) = omega arith in ap (λ k. take k (x ∷ xs)) e ∙ ap (λ t. x ∷ t) (two_parts xs m n)

pub returns-in-Ok-clause-fills : goal.returns-in-Ok-clause-fills
returns-in-Ok-clause-fills g c =
    let i = c.self.inside in
    let front = c.to_front.new.bytes in
    let read = c.read_after.new.bytes in
    let len = i.end - i.at in
    let n = c.in-Ok.count in
    let one : take i.bytes.len (front ++ drop (length front) i.bytes.items) ≡ front =
    take_at front (drop (length front) i.bytes.items) i.bytes.len (omega (arith, c.to_front.ensures.size, ap length c.deref_mut.ensures.value, i.bytes.ok.0)) in
    let mid = take i.bytes.len (front ++ drop (length front) i.bytes.items) in
    let size : length read ≡ i.bytes.len =
    omega (arith, c.read_after.ensures.size, ap length c.deref_mut-2.ensures.value, ap length one, c.to_front.ensures.size, ap length c.deref_mut.ensures.value, i.bytes.ok.0) in
    let two : take i.bytes.len (read ++ drop (length read) mid) ≡ read = take_at read (drop (length read) mid) i.bytes.len size in
    let held : take len read ≡ c.args.self.now.bytes =
    c.in-Ok.ensures.front ∙ ap (take len) (c.deref_mut-2.ensures.value ∙ one) ∙ c.to_front.ensures.part
    ∙ ap (λ xs. slice_range xs i.at i.end) c.deref_mut.ensures.value ∙ ap (λ (h : Held). h.bytes) c.self.view_is in
    let more = take n (drop len read) in
    let count : length more ≡ n =
    omega (arith, length-take n (drop len read), length-drop len read, size, c.in-Ok.ensures.few, c.requires, ap length held, length-take len read, c.self.invariant, i.bytes.ok.0) in (
      more,
      c.in-Ok.ensures.taken,
      (
        ap (λ xs. slice_range xs 0 (len + n)) two ∙ range_front read (len + n) ∙ two_parts read len n ∙ ap (λ t. t ++ more) held,
        sym count,
        omega (arith, count, c.in-Ok.count-test),
      ),
    )
