-- Rows in words, one after another.
use Rattle.std.proofs.Common.{◌≡◌, ℕ, zero, suc, ◌+◌, ◌-◌, ◌*◌, ◌<◌, ◌≤◌, List, [], ◌∷◌, ◌++◌, length, take, drop, get_or, set, refl, sym, ap, ◌∙◌, arith, mul-le-mul_right}
use Rattle.std.proofs.lemmas.List.{take-take, drop-drop, drop-take}
use Rattle.packed_rows.specs.Kept.{Kept}
use Rattle.packed_rows.specs.Packed.{Fits, unpacked, packed, number, rows_in}
use Rattle.packed_rows.proofs.PackLaws.{unpacked_packed}

-- the row that begins at a place
abbrev pub row_at : List ℕ → ℕ → ℕ → List ℕ → List ℕ
row_at ws each from words = unpacked ws (number (take each (drop from words)))

pub length_rows : (ws : List ℕ) (each n : ℕ) (words : List ℕ) → length (rows_in ws each n words) ≡ n
length_rows ws each zero words = refl
length_rows ws each (suc n) words = ap suc (length_rows ws each n (drop each words))

-- a row by its number
pub nth_row : (ws : List ℕ) (each n k : ℕ) (words : List ℕ) → k < n
    → get_or (rows_in ws each n words) k [] ≡ row_at ws each (k * each) words
nth_row ws each zero k words less = absurd (omega arith)
nth_row ws each (suc n) zero words less =
    let none : 0 ≡ 0 * each = omega arith in ap (λ (i : ℕ). row_at ws each i words) none
nth_row ws each (suc n) (suc k) words less =
    let more : each + k * each ≡ suc k * each = omega arith in
    nth_row ws each n k (drop each words) (omega arith)
    ∙ ap (λ (t : List ℕ). unpacked ws (number (take each t))) (drop-drop (k * each) each words)
    ∙ ap (λ (i : ℕ). row_at ws each i words) more

-- one row more
pub last_row : (ws : List ℕ) (each n : ℕ) (words : List ℕ)
    → rows_in ws each (suc n) words ≡ rows_in ws each n words ++ row_at ws each (n * each) words ∷ []
last_row ws each zero words =
    let none : 0 ≡ 0 * each = omega arith in ap (λ (i : ℕ). row_at ws each i words ∷ []) none
last_row ws each (suc n) words =
    let more : each + n * each ≡ suc n * each = omega arith in
    let first : List ℕ = unpacked ws (number (take each words)) in
    ap (λ (t : List (List ℕ)). first ∷ t) (last_row ws each n (drop each words))
    ∙ ap (λ (t : List ℕ). (first ∷ rows_in ws each n (drop each words)) ++ unpacked ws (number (take each t)) ∷ [])
    (drop-drop (n * each) each words)
    ∙ ap (λ (i : ℕ). (first ∷ rows_in ws each n (drop each words)) ++ row_at ws each i words ∷ []) more

-- rows don't look at the words after them
pub same_rows : (ws : List ℕ) (each n : ℕ) (old new : List ℕ) → take (n * each) new ≡ take (n * each) old
    → rows_in ws each n new ≡ rows_in ws each n old
same_rows ws each zero old new same = refl
same_rows ws each (suc n) old new same =
    let more : suc n * each ≡ each + n * each = omega arith in
    let whole : take (each + n * each) new ≡ take (each + n * each) old =
    ap (λ (i : ℕ). take i new) (sym more) ∙ same ∙ ap (λ (i : ℕ). take i old) more in
    let within : each ≤ each + n * each = omega arith in
    let first : take each new ≡ take each old = sym (take-take each (each + n * each) new within)
    ∙ ap (take each) whole ∙ take-take each (each + n * each) old within in
    let rest : take (n * each) (drop each new) ≡ take (n * each) (drop each old) =
    sym (drop-take each (n * each) new) ∙ ap (drop each) whole ∙ drop-take each (n * each) old in
    ap (λ (t : List ℕ). unpacked ws (number t) ∷ rows_in ws each n (drop each new)) first
    ∙ ap (λ (t : List (List ℕ)). unpacked ws (number (take each old)) ∷ t)
    (same_rows ws each n (drop each old) (drop each new) rest)

-- a row is pushed: the words before it stay, and its own are packed
pub pushed_row : (ws row : List ℕ) (each n from : ℕ) (old new : List ℕ) → Fits ws row → from ≡ n * each
    → take from new ≡ take from old → number (take (from + each - from) (drop from new)) ≡ packed ws row
    → rows_in ws each (n + 1) new ≡ rows_in ws each n old ++ row ∷ []
pushed_row ws row each n from old new fits place before here =
    let one : n + 1 ≡ suc n = omega arith in
    let size : each ≡ from + each - from = omega arith in
    let stays : take (n * each) new ≡ take (n * each) old =
    ap (λ (i : ℕ). take i new) (sym place) ∙ before ∙ ap (λ (i : ℕ). take i old) place in
    let its : row_at ws each (n * each) new ≡ row = ap (λ (i : ℕ). row_at ws each i new) (sym place)
    ∙ ap (λ (i : ℕ). unpacked ws (number (take i (drop from new)))) size ∙ ap (unpacked ws) here
    ∙ unpacked_packed ws row fits in
    ap (λ (k : ℕ). rows_in ws each k new) one ∙ last_row ws each n new
    ∙ ap (λ (t : List (List ℕ)). t ++ row_at ws each (n * each) new ∷ []) (same_rows ws each n old new stays)
    ∙ ap (λ (r : List ℕ). rows_in ws each n old ++ r ∷ []) its

-- a row takes the place of another one: the words before it and after it stay, and its own are packed
replaced : (ws row : List ℕ) (each n k : ℕ) (old new : List ℕ) → Fits ws row → k < n
    → take (k * each) new ≡ take (k * each) old → drop (k * each + each) new ≡ drop (k * each + each) old
    → number (take each (drop (k * each) new)) ≡ packed ws row → rows_in ws each n new ≡ set (rows_in ws each n old) k row
replaced ws row each zero k old new fits less before after here = absurd (omega (arith, less))
replaced ws row each (suc n) zero old new fits less before after here =
    let none : 0 * each ≡ 0 = omega arith in
    let one : 0 * each + each ≡ each = omega arith in
    let its : unpacked ws (number (take each new)) ≡ row =
    ap (λ (i : ℕ). unpacked ws (number (take each (drop i new)))) (sym none) ∙ ap (unpacked ws) here ∙ unpacked_packed ws row fits in
    let rest : drop each new ≡ drop each old =
    ap (λ (i : ℕ). drop i new) (sym one) ∙ after ∙ ap (λ (i : ℕ). drop i old) one in
    ap (λ (r : List ℕ). r ∷ rows_in ws each n (drop each new)) its ∙ ap (λ (t : List ℕ). row ∷ rows_in ws each n t) rest
replaced ws row each (suc n) (suc k) old new fits less before after here =
    let more : suc k * each ≡ each + k * each = omega arith in
    let beyond : suc k * each + each ≡ each + (k * each + each) = omega arith in
    let whole : take (each + k * each) new ≡ take (each + k * each) old =
    ap (λ (i : ℕ). take i new) (sym more) ∙ before ∙ ap (λ (i : ℕ). take i old) more in
    let within : each ≤ each + k * each = omega arith in
    let first : take each new ≡ take each old = sym (take-take each (each + k * each) new within)
    ∙ ap (take each) whole ∙ take-take each (each + k * each) old within in
    let front : take (k * each) (drop each new) ≡ take (k * each) (drop each old) =
    sym (drop-take each (k * each) new) ∙ ap (drop each) whole ∙ drop-take each (k * each) old in
    let back : drop (k * each + each) (drop each new) ≡ drop (k * each + each) (drop each old) =
    drop-drop (k * each + each) each new ∙ ap (λ (i : ℕ). drop i new) (sym beyond) ∙ after
    ∙ ap (λ (i : ℕ). drop i old) beyond ∙ sym (drop-drop (k * each + each) each old) in
    let its : number (take each (drop (k * each) (drop each new))) ≡ packed ws row =
    ap (λ (t : List ℕ). number (take each t)) (drop-drop (k * each) each new ∙ ap (λ (i : ℕ). drop i new) (sym more)) ∙ here in
    ap (λ (t : List ℕ). unpacked ws (number t) ∷ rows_in ws each n (drop each new)) first
    ∙ ap (λ (t : List (List ℕ)). unpacked ws (number (take each old)) ∷ t)
    (replaced ws row each n k (drop each old) (drop each new) fits (omega (arith, less)) front back its)

pub replaced_row : (ws row : List ℕ) (each n k from : ℕ) (old new : List ℕ) → Fits ws row → k < n → from ≡ k * each
    → take from new ≡ take from old → drop (from + each) new ≡ drop (from + each) old
    → number (take (from + each - from) (drop from new)) ≡ packed ws row
    → rows_in ws each n new ≡ set (rows_in ws each n old) k row
replaced_row ws row each n k from old new fits less place before after here =
    let size : each ≡ from + each - from = omega arith in
    let head : take (k * each) new ≡ take (k * each) old =
    ap (λ (i : ℕ). take i new) (sym place) ∙ before ∙ ap (λ (i : ℕ). take i old) place in
    let tail : drop (k * each + each) new ≡ drop (k * each + each) old =
    ap (λ (i : ℕ). drop (i + each) new) (sym place) ∙ after ∙ ap (λ (i : ℕ). drop (i + each) old) place in
    let its : number (take each (drop (k * each) new)) ≡ packed ws row =
    ap (λ (i : ℕ). number (take each (drop i new))) (sym place) ∙ ap (λ (i : ℕ). number (take i (drop from new))) size ∙ here in
    replaced ws row each n k old new fits less head tail its

-- the place of a row is within the words of all rows
pub place_within : (k n each long : ℕ) → k < n → long ≡ n * each → k * each + each ≤ long
place_within k n each long less is =
    let next : k + 1 ≤ n = omega arith in
    let product : (k + 1) * each ≤ n * each = mul-le-mul_right each next in
    omega (arith, product, is)

-- ---- of rows that are kept

-- there is room for a row more
pub has_room : (ws words : List ℕ) (each n most : ℕ) (now : Kept)
    → now ≡ record { widths = ws; most = most; rows = rows_in ws each n words } → length now.rows < now.most → n < most
has_room ws words each n most now is less =
    omega (arith, ap (λ (k : Kept). length k.rows) is, ap (λ (k : Kept). k.most) is, length_rows ws each n words, less)

-- a row is there
pub is_there : (ws words : List ℕ) (each n most k : ℕ) (now : Kept)
    → now ≡ record { widths = ws; most = most; rows = rows_in ws each n words } → n ≤ most → k < length now.rows
    → (k < n) × (k < most)
is_there ws words each n most k now is few less =
    let here : k < n = omega (arith, ap (λ (s : Kept). length s.rows) is, length_rows ws each n words, less) in
    (here, omega (arith, here, few))

-- and is read
pub read_row : (ws : List ℕ) (each n k from : ℕ) (words : List ℕ) (rows : List (List ℕ)) → k < n
    → rows ≡ rows_in ws each n words → from ≡ k * each
    → unpacked ws (number (take (from + each - from) (drop from words))) ≡ get_or rows k []
read_row ws each n k from words rows less is place =
    let size : from + each - from ≡ each = omega arith in
    ap (λ (i : ℕ). unpacked ws (number (take i (drop from words)))) size
    ∙ ap (λ (i : ℕ). row_at ws each i words) place ∙ sym (nth_row ws each n k words less)
    ∙ ap (λ (rs : List (List ℕ)). get_or rs k []) (sym is)
