-- The scanner of formats against the pieces that they are spelled of.
use Rattle.std.proofs.Common.{◌≡◌, ◌≢◌, inl, inr, ℕ, ◌+◌, Bool, true, false, if◌then◌else◌, List, [], ◌∷◌, ◌++◌, refl, sym, ap, ◌∙◌, subst, arith, Option, Some, None, decimal}
use Rattle.std.specs.Prelude.{◌==◌, ◌||◌}
use Rattle.std.proofs.lemmas.Bool.Decides.{nat_tests}
use Rattle.flat_ir.specs.Format.{Progress, outside, percent, percent_zero, itself, into, shows, wrong, step, counted, items_from, one_more, items, written, text_from, format_text}
use Rattle.flat_ir.specs.Pieces.{Piece, byte, percent_sign, item, IsSpelled, Spells, item_count, joined, CountsItems, JoinsTexts}

-- a byte other than a percent sign stands for itself
is_itself : (b : ℕ) → b ≢ 37 → step outside b ≡ itself
is_itself b h = let e : (b == 37) ≡ false = grind (arith, nat_tests) in ap (λ t. if t then into percent else itself) e

-- ---- from the pieces to what is computed

-- the items of a piece, and so many more
abbrev with_piece : Piece → ℕ → ℕ
with_piece (byte b) n = n
with_piece percent_sign n = n
with_piece item n = n + 1

spelling_counts : (p : Piece) (front rest : List ℕ) (n : ℕ) → IsSpelled p front → items_from outside rest ≡ Some n
    → items_from outside (front ++ rest) ≡ Some (with_piece p n)
spelling_counts (byte b) front rest n s h =
    ap (λ x. items_from outside (x ++ rest)) s.1 ∙ ap (λ x. counted x (λ q. items_from q rest)) (is_itself b s.0) ∙ h
spelling_counts percent_sign front rest n s h = ap (λ x. items_from outside (x ++ rest)) s ∙ h
spelling_counts item front rest n (inl s) h = ap (λ x. items_from outside (x ++ rest)) s ∙ ap one_more h
spelling_counts item front rest n (inr s) h = ap (λ x. items_from outside (x ++ rest)) s ∙ ap one_more h

count_joins : (p : Piece) (ps : List Piece) → with_piece p (item_count ps) ≡ item_count (p ∷ ps)
count_joins (byte b) ps = refl
count_joins percent_sign ps = refl
count_joins item ps = refl

pieces_count : (ps : List Piece) (format : List ℕ) → Spells ps format → items format ≡ Some (item_count ps)
pieces_count [] format h = ap items h
pieces_count (p ∷ ps) format h =
    ap items h.4 ∙ spelling_counts p h.0 h.1 (item_count ps) h.2 (pieces_count ps h.1 h.3) ∙ ap (λ (k : ℕ). Some k) (count_joins p ps)

spelling_text : (p : Piece) (ps : List Piece) (front rest ns : List ℕ) → IsSpelled p front → ((ms : List ℕ) → format_text rest ms ≡ joined ps ms)
    → format_text (front ++ rest) ns ≡ joined (p ∷ ps) ns
spelling_text (byte b) ps front rest ns s h =
    ap (λ x. format_text (x ++ rest) ns) s.1 ∙ ap (λ x. written x b ns (λ q ms. text_from q rest ms)) (is_itself b s.0) ∙ ap (λ x. b ∷ x) (h ns)
spelling_text percent_sign ps front rest ns s h = ap (λ x. format_text (x ++ rest) ns) s ∙ ap (λ x. 37 ∷ x) (h ns)
spelling_text item ps front rest [] (inl s) h = ap (λ x. format_text (x ++ rest) []) s ∙ h []
spelling_text item ps front rest [] (inr s) h = ap (λ x. format_text (x ++ rest) []) s ∙ h []
spelling_text item ps front rest (n ∷ ns) (inl s) h = ap (λ x. format_text (x ++ rest) (n ∷ ns)) s ∙ ap (λ x. decimal n ++ x) (h ns)
spelling_text item ps front rest (n ∷ ns) (inr s) h = ap (λ x. format_text (x ++ rest) (n ∷ ns)) s ∙ ap (λ x. decimal n ++ x) (h ns)

pub joins_texts : JoinsTexts
joins_texts format [] ns h = ap (λ x. format_text x ns) h
joins_texts format (p ∷ ps) ns h =
    ap (λ x. format_text x ns) h.4 ∙ spelling_text p ps h.0 h.1 ns h.2 (λ ms. joins_texts h.1 ps ms h.3)

-- ---- from what is computed to the pieces

-- what was read of an item
abbrev front_of : Progress → List ℕ
front_of outside = []
front_of percent = 37 ∷ []
front_of percent_zero = 37 ∷ 48 ∷ []

-- the format is spelled of pieces with so many items
abbrev HasPieces : List ℕ → ℕ → Type 0
HasPieces format n = (ps : List Piece) × Spells ps format × (item_count ps ≡ n)

-- a piece in front of others
piece_more : (p : Piece) (front rest : List ℕ) (n : ℕ) → IsSpelled p front → HasPieces rest n → HasPieces (front ++ rest) (with_piece p n)
piece_more p front rest n s h = (p ∷ h.0, (front, rest, s, h.1, refl), sym (count_joins p h.0) ∙ ap (λ (k : ℕ). with_piece p k) h.2)

item_more : (front rest : List ℕ) (found : Option ℕ) (n : ℕ) → IsSpelled item front → one_more found ≡ Some n → ((k : ℕ) → found ≡ Some k → HasPieces rest k) → HasPieces (front ++ rest) n
item_more front rest None n s e h = absurd cc
item_more front rest (Some k) n s e h = let same : k + 1 ≡ n = cc in subst (HasPieces (front ++ rest)) same (piece_more item front rest k s (h k refl))

outside_case : (t : Bool) (b : ℕ) (bs : List ℕ) (n : ℕ) → (b == 37) ≡ t → counted (if t then into percent else itself) (λ q. items_from q bs) ≡ Some n
    → ((r : Progress) (k : ℕ) → items_from r bs ≡ Some k → HasPieces (front_of r ++ bs) k) → HasPieces (b ∷ bs) n
outside_case true b bs n e f h = let s : b ≡ 37 = grind (arith, nat_tests) in subst (λ (x : ℕ). HasPieces (x ∷ bs) n) (sym s) (h percent n f)
outside_case false b bs n e f h = let s : b ≢ 37 = grind (arith, nat_tests) in piece_more (byte b) (b ∷ []) bs n (s, refl) (h outside n f)

percent_case : (t u : Bool) (b : ℕ) (bs : List ℕ) (n : ℕ) → (b == 37) ≡ t → (b == 48) ≡ u
    → counted (if t then itself else if u then into percent_zero else wrong) (λ q. items_from q bs) ≡ Some n
    → ((r : Progress) (k : ℕ) → items_from r bs ≡ Some k → HasPieces (front_of r ++ bs) k) → HasPieces (37 ∷ b ∷ bs) n
percent_case true u b bs n e z f h =
    let s : b ≡ 37 = grind (arith, nat_tests) in subst (λ (x : ℕ). HasPieces (37 ∷ x ∷ bs) n) (sym s) (piece_more percent_sign (37 ∷ 37 ∷ []) bs n refl (h outside n f))
percent_case false true b bs n e z f h = let s : b ≡ 48 = grind (arith, nat_tests) in subst (λ (x : ℕ). HasPieces (37 ∷ x ∷ bs) n) (sym s) (h percent_zero n f)
percent_case false false b bs n e z f h = absurd cc

zero_case : (t u : Bool) (b : ℕ) (bs : List ℕ) (n : ℕ) → (b == 100) ≡ t → (b == 68) ≡ u
    → counted (if t || u then shows else wrong) (λ q. items_from q bs) ≡ Some n
    → ((r : Progress) (k : ℕ) → items_from r bs ≡ Some k → HasPieces (front_of r ++ bs) k) → HasPieces (37 ∷ 48 ∷ b ∷ bs) n
zero_case true u b bs n e z f h =
    let s : b ≡ 100 = grind (arith, nat_tests) in
    subst (λ (x : ℕ). HasPieces (37 ∷ 48 ∷ x ∷ bs) n) (sym s) (item_more (37 ∷ 48 ∷ 100 ∷ []) bs (items_from outside bs) n (inl refl) f (h outside))
zero_case false true b bs n e z f h =
    let s : b ≡ 68 = grind (arith, nat_tests) in
    subst (λ (x : ℕ). HasPieces (37 ∷ 48 ∷ x ∷ bs) n) (sym s) (item_more (37 ∷ 48 ∷ 68 ∷ []) bs (items_from outside bs) n (inr refl) f (h outside))
zero_case false false b bs n e z f h = absurd cc

has_pieces : (bs : List ℕ) (r : Progress) (n : ℕ) → items_from r bs ≡ Some n → HasPieces (front_of r ++ bs) n
has_pieces [] outside n e = ([], refl, cc)
has_pieces [] percent n e = absurd cc
has_pieces [] percent_zero n e = absurd cc
has_pieces (b ∷ bs) outside n e = outside_case (b == 37) b bs n refl e (has_pieces bs)
has_pieces (b ∷ bs) percent n e = percent_case (b == 37) (b == 48) b bs n refl refl e (has_pieces bs)
has_pieces (b ∷ bs) percent_zero n e = zero_case (b == 100) (b == 68) b bs n refl refl e (has_pieces bs)

pub counts_items : CountsItems
counts_items format n = (λ e. has_pieces format outside n e, λ h. pieces_count h.0 format h.1 ∙ ap (λ (k : ℕ). Some k) h.2)
