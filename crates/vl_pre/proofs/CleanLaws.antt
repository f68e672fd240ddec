-- Bytes and lines side by side.
use Rattle.std.proofs.Common.{◌≡◌, ℕ, ◌<◌, List, [], ◌∷◌, ◌++◌, length, get_or, refl, ap, sym, ◌∙◌, arith}
use Rattle.std.specs.Prelude.{Some, option_map, slice_get}
use Rattle.std.proofs.lemmas.Option.{slice_get-map, slice_get-get_or}
use Rattle.std.proofs.lemmas.List.{length-map}
use Rattle.vl_pre.specs.Bytes.{Text, Placed, at_line, joined, bytes, lines}

pub bytes-joined : (bs ls : List ℕ) → length bs ≡ length ls → bytes (joined bs ls) ≡ bs
bytes-joined [] ls e = refl
bytes-joined (b ∷ bs) [] e = absurd (omega (arith, e))
bytes-joined (b ∷ bs) (l ∷ ls) e = ap (λ xs. b ∷ xs) (bytes-joined bs ls (omega (arith, e)))

pub lines-joined : (bs ls : List ℕ) → length bs ≡ length ls → lines (joined bs ls) ≡ ls
lines-joined [] [] e = refl
lines-joined [] (l ∷ ls) e = absurd (omega (arith, e))
lines-joined (b ∷ bs) [] e = absurd (omega (arith, e))
lines-joined (b ∷ bs) (l ∷ ls) e = ap (λ xs. l ∷ xs) (lines-joined bs ls (omega (arith, e)))

pub length-joined : (bs ls : List ℕ) → length bs ≡ length ls → length (joined bs ls) ≡ length bs
length-joined bs ls e = let m = length-map (joined bs ls) (λ (c : Placed). c.byte) in sym m ∙ ap length (bytes-joined bs ls e)

-- what a text that is these bytes and lines says of one place
pub byte_at : (bs ls : List ℕ) (ts : Text) (k : ℕ) → length bs ≡ length ls → joined bs ls ≡ ts → slice_get bs k ≡ option_map (λ (c : Placed). c.byte) (slice_get ts k)
byte_at bs ls ts k e is =
    ap (λ xs. slice_get xs k) (sym (bytes-joined bs ls e)) ∙ slice_get-map (λ (c : Placed). c.byte) (joined bs ls) k ∙ ap (λ (x : Text). option_map (λ (c : Placed). c.byte) (slice_get x k)) is

pub line_at : (bs ls : List ℕ) (ts : Text) (k line d : ℕ) → length bs ≡ length ls → joined bs ls ≡ ts → k < length ls → line ≡ get_or ls k d
    → option_map (λ (c : Placed). c.line) (slice_get ts k) ≡ Some line
line_at bs ls ts k line d e is below read =
    ap (λ (x : Text). option_map (λ (c : Placed). c.line) (slice_get x k)) (sym is) ∙ sym (slice_get-map (λ (c : Placed). c.line) (joined bs ls) k)
    ∙ ap (λ xs. slice_get xs k) (lines-joined bs ls e) ∙ slice_get-get_or ls k d below ∙ ap Some (sym read)

-- one byte more
pub joined_push : (bs ls : List ℕ) (b l : ℕ) → length bs ≡ length ls → joined (bs ++ b ∷ []) (ls ++ l ∷ []) ≡ joined bs ls ++ at_line l b ∷ []
joined_push [] [] b l e = refl
joined_push [] (x ∷ ls) b l e = absurd (omega (arith, e))
joined_push (x ∷ bs) [] b l e = absurd (omega (arith, e))
joined_push (x ∷ bs) (y ∷ ls) b l e = ap (λ xs. at_line y x ∷ xs) (joined_push bs ls b l (omega (arith, e)))
