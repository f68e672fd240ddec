-- Finding the next line, one call to the source after another.
use Rattle.std.proofs.Common.{◌≡◌, ℕ, ◌+◌, ◌-◌, ◌<◌, ◌≤◌, inl, inr, true, false, List, [], ◌∷◌, ◌++◌, length, take, drop, get_or, Option, Some, None, sym, ap, ◌∙◌, subst, arith, append_assoc, append-nil}
use Rattle.std.specs.Prelude.{◌==◌}
use Rattle.std.specs.Io.KnownBytes.{Consumes}
use Rattle.std.proofs.KnownBytes.{Consumes-trans}
use Rattle.std.proofs.lemmas.Bool.{cases_lt, ne_eqb}
use Rattle.std.proofs.lemmas.List.{take_all, take-append-drop, drop_more, get_or_default, get_or-take, get_or-drop, length-take-le, length-drop, take_at}
use Rattle.std.proofs.lemmas.Bool.Decides.{nat_tests}
use Rattle.memchr.specs.Find.{IsFirstByte, is_byte}
use Rattle.stimulus.specs.Lines.{IsPlain}
use Rattle.stimulus.specs.Reader.{Held}
use Rattle.stimulus.specs.Calls.Turns.{HasLine, IsInTime, IsOpenLine, WasOpen}

-- no LF among the first bytes, nor among so many after them
plain_further : (bytes : List ℕ) (s n : ℕ) → s + n ≤ length bytes → IsPlain (take s bytes)
    → ((j : ℕ) → j < n → (get_or (drop s bytes) j 0 == 10) ≡ false) → IsPlain (take (s + n) bytes)
plain_further bytes s n within plain none i d less =
    let size = length-take-le (s + n) bytes within in
    let few : i < s + n = omega (arith, less, size) in
    let at : get_or (take (s + n) bytes) i d ≡ get_or bytes i d = get_or-take (s + n) bytes i d few in
    elim (cases_lt i s) [
      | inl before ↦
          let first : i < length (take s bytes) = omega (arith, length-take-le s bytes (omega (arith, within))) in
          ap (λ b. b == 10) (at ∙ sym (get_or-take s bytes i d before)) ∙ plain i d first
      | inr after ↦
          let e : s + (i - s) ≡ i = omega arith in
          ap (λ b. b == 10) (at ∙ ap (λ m. get_or bytes m d) (sym e) ∙ sym (get_or-drop s bytes (i - s) d)
          ∙ get_or_default (drop s bytes) (i - s) d 0 (omega (arith, length-drop s bytes, within, few))) ∙ none (i - s) (omega arith)
    ]

is_ten : (b : ℕ) → (b == 10) ≡ true → b ≡ 10
is_ten b h = grind (arith, nat_tests)

pub found : (bytes part : List ℕ) (s n : ℕ) → s ≤ length bytes → part ≡ drop s bytes → IsPlain (take s bytes) → IsFirstByte (is_byte 10) part (Some n)
    → HasLine bytes (s + n)
found bytes part s n within e plain first =
    let f : IsFirstByte (is_byte 10) (drop s bytes) (Some n) = subst (λ p. IsFirstByte (is_byte 10) p (Some n)) e first in
    let less : s + n < length bytes = omega (arith, length-drop s bytes, f.0.high) in
    let is : get_or bytes (s + n) 0 ≡ 10 = sym (get_or-drop s bytes n 0) ∙ is_ten (get_or (drop s bytes) n 0) f.1 in
    record {
      within = less;
      line = sym (take-append-drop (s + n) bytes) ∙ ap (λ t. take (s + n) bytes ++ t) (drop_more bytes (s + n) 0 less ∙ ap (λ b. b ∷ drop (s + n + 1) bytes) is);
      plain = plain_further bytes s n (omega arith) plain (λ j l. ne_eqb (get_or (drop s bytes) j 0) 10 (λ is'. f.0.before j (omega arith) l (ap (λ b. b == 10) is')));
    }

pub not_found : (bytes part : List ℕ) (s : ℕ) → s ≤ length bytes → part ≡ drop s bytes → IsPlain (take s bytes) → IsFirstByte (is_byte 10) part None → IsPlain bytes
not_found bytes part s within e plain first =
    let f : IsFirstByte (is_byte 10) (drop s bytes) None = subst (λ p. IsFirstByte (is_byte 10) p None) e first in
    let n = length bytes - s in
    let all : IsPlain (take (s + n) bytes) =
    plain_further bytes s n (omega arith) plain (λ j l. ne_eqb (get_or (drop s bytes) j 0) 10 (λ is'. f j (omega arith) (omega (arith, length-drop s bytes)) (ap (λ b. b == 10) is'))) in
    subst IsPlain (take_all (s + n) bytes (omega arith)) all

-- the rest of what is held
pub part_is : (held bytes : List ℕ) (s : ℕ) → held ≡ bytes → take (length held - s) (drop s held) ≡ drop s bytes
part_is held bytes s e = take_all (length held - s) (drop s held) (omega (arith, length-drop s held)) ∙ ap (drop s) e

-- what was held stays a front of what is held
pub plain_front : (old new more : List ℕ) (s : ℕ) → s ≡ length old → new ≡ old ++ more → IsPlain old → IsPlain (take s new)
plain_front old new more s e f plain = subst IsPlain (sym (ap (take s) f ∙ take_at old more s (sym e))) plain

-- what a call gave came after an open line
pub given : (old new : Held) (more : List ℕ) → IsOpenLine old.bytes → new.bytes ≡ old.bytes ++ more → new.fresh ≡ length more → WasOpen new
given old new more is_open e f = record { front = old.bytes; last = more; bytes = e; size = sym f; is_open = is_open }

pub none_given : (old new : Held) → IsOpenLine old.bytes → new.bytes ≡ old.bytes → new.fresh ≡ 0 → WasOpen new
none_given old new is_open e f = record { front = old.bytes; last = []; bytes = e ∙ sym (append-nil old.bytes); size = sym f; is_open = is_open }

pub failed : (start old new : Held) → IsInTime start old → new.bytes ≡ old.bytes → new.fresh ≡ old.fresh → IsInTime start new
failed start old new (inl same) e f = inl (e ∙ same.0, f ∙ same.1)
failed start old new (inr was) e f = inr (record { front = was.front; last = was.last; bytes = e ∙ was.bytes; size = was.size ∙ sym f; is_open = was.is_open })

-- two takings, one after the other
pub more_taken : (start old new : List ℕ) (a b c : Option (List ℕ)) → (more : List ℕ) × Consumes a b more × (old ≡ start ++ more)
    → (further : List ℕ) → Consumes b c further → new ≡ old ++ further → (more : List ℕ) × Consumes a c more × (new ≡ start ++ more)
more_taken start old new a b c t further h e =
    (t.0 ++ further, Consumes-trans a b c t.0 further t.1 h, e ∙ ap (λ xs. xs ++ further) t.2 ∙ append_assoc start t.0 further)
