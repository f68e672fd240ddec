-- One byte on in a text.
use Rattle.std.proofs.Common.{◌≡◌, ℕ, zero, suc, ◌-◌, ◌<◌, Bool, true, false, List, [], ◌∷◌, drop, refl, ap, sym, ◌∙◌, arith}
use Rattle.std.specs.Prelude.{Some, codes}
use Rattle.vl_pre.specs.Bytes.{Text, Placed, line_after, placed, all_at, bytes, begins}
use Rattle.vl_pre.specs.Calls.Cursors.{text_from}
use Rattle.vl_pre.specs.Pieces.{stops_line, from_stop, after_close}

bytes-placed : (line : ℕ) (bs : List ℕ) → bytes (placed line bs) ≡ bs
bytes-placed line [] = refl
bytes-placed line (b ∷ bs) = ap (λ x. b ∷ x) (bytes-placed (line_after line b) bs)

bytes-all_at : (line : ℕ) (bs : List ℕ) → bytes (all_at line bs) ≡ bs
bytes-all_at line [] = refl
bytes-all_at line (b ∷ bs) = ap (λ x. b ∷ x) (bytes-all_at line bs)

pub bytes-text_from : (in_body : Bool) (line : ℕ) (bs : List ℕ) → bytes (text_from in_body line bs) ≡ bs
bytes-text_from true line bs = bytes-all_at line bs
bytes-text_from false line bs = bytes-placed line bs

-- ---- so many bytes

pub drop_next : (n : ℕ) (ts us : Text) (c : Placed) → 0 < n → ts ≡ c ∷ us → drop (n - 1) us ≡ drop n ts
drop_next zero ts us c some e = absurd (omega (arith, some))
drop_next (suc m) ts us c some e = let k : suc m - 1 ≡ m = omega arith in ap (λ x. drop x us) k ∙ ap (λ x. drop (suc m) x) (sym e)

drop_empty : (n : ℕ) → drop n (let x : Text = [] in x) ≡ []
drop_empty zero = refl
drop_empty (suc n) = refl

pub drop_none : (n : ℕ) (ts us : Text) → ts ≡ [] → us ≡ [] → us ≡ drop n ts
drop_none n ts us e e' = e' ∙ sym (drop_empty n) ∙ ap (λ x. drop n x) (sym e)

pub drop_zero : (n : ℕ) (ts : Text) → n ≡ 0 → drop n ts ≡ ts
drop_zero n ts e = ap (λ x. drop x ts) e

-- ---- where a line stops

pub stop_next : (k : Bool) (ts us : Text) (c : Placed) → ts ≡ c ∷ us → stops_line k (bytes ts) ≡ false → from_stop k ts ≡ from_stop k us
stop_next k ts us c e h = let h' : stops_line k (bytes (c ∷ us)) ≡ false = ap (λ x. stops_line k (bytes x)) (sym e) ∙ h in ap (from_stop k) e ∙ rw h' refl

pub stop_here : (k : Bool) (ts : Text) → stops_line k (bytes ts) ≡ true → from_stop k ts ≡ ts
stop_here k [] h = refl
stop_here k (c ∷ ts) h = rw h refl

pub stop_none : (k : Bool) (ts us : Text) → ts ≡ [] → us ≡ [] → us ≡ from_stop k ts
stop_none k ts us e e' = e' ∙ ap (from_stop k) (sym e)

-- ---- the end of a comment

abbrev pub at_close : Text → Bool
at_close ts = begins (codes "*/") (bytes ts)

pub close_next : (ts us : Text) (c : Placed) → ts ≡ c ∷ us → at_close ts ≡ false → after_close ts ≡ after_close us
close_next ts us c e h = let h' : at_close (c ∷ us) ≡ false = ap at_close (sym e) ∙ h in ap after_close e ∙ rw h' refl

pub close_here : (ts : Text) → at_close ts ≡ true → after_close ts ≡ Some (drop 2 ts)
close_here [] h = absurd cc
close_here (c ∷ ts) h = rw h refl
