-- any_other text comes through, and a plain body with the use of its macro.
use Rattle.std.proofs.Common.{◌≡◌, ◌≤◌, ◌&&◌, not, ℕ, zero, suc, Bool, true, false, List, [], ◌∷◌, take, drop, length, refl, ap, ◌∙◌, arith, ◌⊎◌, inl, inr}
use Rattle.std.specs.Prelude.{None, codes}
use Rattle.std.proofs.Math.ListN.{drop_of_length-le}
use Rattle.std.proofs.lemmas.List.{take-append-drop, length-drop, length-map}
use Rattle.vl_pre.specs.Bytes.{Text, Placed, at_line, bytes, begins, placed, all_at, is_allowed, most_clean}
use Rattle.vl_pre.specs.Pieces.{a_string, escaped_name, any_other, Part, gives, before, go_on, first, as_it_stands, kept, string_length, escaped_length}
use Rattle.vl_pre.specs.Directives.{Context}
use Rattle.vl_pre.specs.CleanText.{Step, step, body_piece, body_reading, whole_body, expanded, use_of, reading_from, reading, start, answer, within}
use Rattle.vl_pre.specs.Laws.Plain.{is_plain, PlainComesThrough, UseReadsAsBody}
use Rattle.vl_pre.proofs.CursorLaws.{bytes-text_from}
use Rattle.vl_pre.proofs.ReadingLaws.{length-placed}

both : (a b : Bool) → (a && b) ≡ true → (a ≡ true) × (b ≡ true)
both true b h = (refl, h)
both false b h = absurd cc

is_not : (a : Bool) → not a ≡ true → a ≡ false
is_not true h = absurd cc
is_not false h = refl

-- what is said of the first byte of a plain text, and of the rest
record PlainHead (b : ℕ) (bs : List ℕ) : Type 0 where
  allowed : is_allowed b ≡ true
  no_tick : begins (96 ∷ []) (b ∷ bs) ≡ false
  no_line : begins (codes "//") (b ∷ bs) ≡ false
  no_block : begins (codes "/*") (b ∷ bs) ≡ false
  rest : is_plain bs ≡ true

plain_head : (b : ℕ) (bs : List ℕ) → is_plain (b ∷ bs) ≡ true → PlainHead b bs
plain_head b bs h =
    let p = both (is_allowed b && not (begins (96 ∷ []) (b ∷ bs))) (not (begins (codes "//") (b ∷ bs)) && (not (begins (codes "/*") (b ∷ bs)) && is_plain bs)) h in
    let q = both (is_allowed b) (not (begins (96 ∷ []) (b ∷ bs))) p.0 in
    let r = both (not (begins (codes "//") (b ∷ bs))) (not (begins (codes "/*") (b ∷ bs)) && is_plain bs) p.1 in
    let s = both (not (begins (codes "/*") (b ∷ bs))) (is_plain bs) r.1 in
    record { allowed = q.0; no_tick = is_not (begins (96 ∷ []) (b ∷ bs)) q.1; no_line = is_not (begins (codes "//") (b ∷ bs)) r.0; no_block = is_not (begins (codes "/*") (b ∷ bs)) s.0; rest = s.1 }

plain_drop : (k : ℕ) (ts : Text) → is_plain (bytes ts) ≡ true → is_plain (bytes (drop k ts)) ≡ true
plain_drop zero ts h = h
plain_drop (suc k) [] h = refl
plain_drop (suc k) (c ∷ ts) h = plain_drop k ts (plain_head c.byte (bytes ts) h).rest

plain_stands : (k : ℕ) (ts rest : Text) → is_plain (bytes ts) ≡ true → as_it_stands (take k ts) rest ≡ gives (take k ts) rest
plain_stands zero ts rest h = refl
plain_stands (suc k) [] rest h = refl
plain_stands (suc k) (c ∷ ts) rest h =
    let p = plain_head c.byte (bytes ts) h in
    let one : as_it_stands (take (suc k) (c ∷ ts)) rest ≡ before (c ∷ []) (as_it_stands (take k ts) rest) = let a = p.allowed in rw a refl in
    one ∙ ap (before (c ∷ [])) (plain_stands k ts rest p.rest)

-- ---- a reading that keeps what is plain

-- piece by piece, each of a byte at least
plain_reads : (read : ℕ → Text → Part) → ((n : ℕ) → read n [] ≡ gives [] []) → ((n : ℕ) (c : Placed) (ts : Text) → is_plain (bytes (c ∷ ts)) ≡ true → (j : ℕ) × (read (suc n) (c ∷ ts) ≡ go_on (kept (suc j) (c ∷ ts)) (read n)))
    → (n : ℕ) (ts : Text) → length ts ≤ n → is_plain (bytes ts) ≡ true → read n ts ≡ gives ts []
plain_reads read none next n [] room h = none n
plain_reads read none next zero (c ∷ ts) room h = absurd (omega (arith, room))
plain_reads read none next (suc n) (c ∷ ts) room h =
    let s = next n c ts h in
    let j = s.0 in
    let here : kept (suc j) (c ∷ ts) ≡ gives (take (suc j) (c ∷ ts)) (drop (suc j) (c ∷ ts)) = plain_stands (suc j) (c ∷ ts) (drop (suc j) (c ∷ ts)) h in
    let d = length-drop j ts in
    let more : read n (drop j ts) ≡ gives (drop j ts) [] = plain_reads read none next n (drop j ts) (omega (arith, d, room)) (plain_drop (suc j) (c ∷ ts) h) in
    s.1 ∙ ap (λ (p : Part). go_on p (read n)) here ∙ ap (before (take (suc j) (c ∷ ts))) more ∙ ap (λ x. gives x []) (take-append-drop (suc j) (c ∷ ts))

-- what a plain text begins with
plain_first : (c : Placed) (ts : Text) (q s : Bool) → PlainHead c.byte (bytes ts) → begins (34 ∷ []) (bytes (c ∷ ts)) ≡ q → begins (92 ∷ []) (bytes (c ∷ ts)) ≡ s
    → (first (bytes (c ∷ ts)) ≡ a_string) ⊎ ((first (bytes (c ∷ ts)) ≡ escaped_name) ⊎ (first (bytes (c ∷ ts)) ≡ any_other))
plain_first c ts true s p e f = let a = p.no_line in let b = p.no_block in inl (rw (a, b, e) refl)
plain_first c ts false true p e f = let a = p.no_line in let b = p.no_block in inr (inl (rw (a, b, e, f) refl))
plain_first c ts false false p e f = let a = p.no_line in let b = p.no_block in let t = p.no_tick in inr (inr (rw (a, b, e, f, t) refl))

-- ---- the text

abbrev keeps : ℕ → Context → Placed → Text → Step
keeps j context c ts = record { part = kept (suc j) (c ∷ ts); context = context }

step_by : (context : Context) (c : Placed) (ts : Text) → (first (bytes (c ∷ ts)) ≡ a_string) ⊎ ((first (bytes (c ∷ ts)) ≡ escaped_name) ⊎ (first (bytes (c ∷ ts)) ≡ any_other)) → (j : ℕ) × (step true context c ts ≡ keeps j context c ts)
step_by context c ts (inl e) = (string_length false false (bytes ts), rw e refl)
step_by context c ts (inr (inl e)) = (escaped_length false (bytes ts), rw e refl)
step_by context c ts (inr (inr e)) = (0, rw e refl)

piece_by : (expand : List ℕ → Part) (line : ℕ) (c : Placed) (ts : Text) → (first (bytes (c ∷ ts)) ≡ a_string) ⊎ ((first (bytes (c ∷ ts)) ≡ escaped_name) ⊎ (first (bytes (c ∷ ts)) ≡ any_other))
    → (j : ℕ) × (body_piece expand line (first (bytes (c ∷ ts))) c ts ≡ kept (suc j) (c ∷ ts))
piece_by expand line c ts (inl e) = (string_length false false (bytes ts), rw e refl)
piece_by expand line c ts (inr (inl e)) = (escaped_length false (bytes ts), rw e refl)
piece_by expand line c ts (inr (inr e)) = (0, rw e refl)

begins_so : (c : Placed) (ts : Text) → is_plain (bytes (c ∷ ts)) ≡ true → (first (bytes (c ∷ ts)) ≡ a_string) ⊎ ((first (bytes (c ∷ ts)) ≡ escaped_name) ⊎ (first (bytes (c ∷ ts)) ≡ any_other))
begins_so c ts h = plain_first c ts (begins (34 ∷ []) (bytes (c ∷ ts))) (begins (92 ∷ []) (bytes (c ∷ ts))) (plain_head c.byte (bytes ts) h) refl refl

reading_none : (n : ℕ) → reading_from n start [] ≡ gives [] []
reading_none zero = refl
reading_none (suc n) = refl

reading_next : (n : ℕ) (c : Placed) (ts : Text) → is_plain (bytes (c ∷ ts)) ≡ true → (j : ℕ) × (reading_from (suc n) start (c ∷ ts) ≡ go_on (kept (suc j) (c ∷ ts)) (reading_from n start))
reading_next n c ts h = let s = step_by start c ts (begins_so c ts h) in (s.0, ap (λ (x : Step). go_on x.part (reading_from n x.context)) s.1)

pub plain_comes_through : PlainComesThrough
plain_comes_through text h room =
    let plain : is_plain (bytes (placed 1 text)) ≡ true = ap is_plain (bytes-text_from false 1 text) ∙ h in
    let counted = length-placed 1 text in
    let read : reading text ≡ gives (placed 1 text) [] = plain_reads (λ n. reading_from n start) reading_none reading_next (length text) (placed 1 text) (omega (arith, counted)) plain in
    ap (within most_clean) read ∙ ap (λ x. answer x None (placed 1 text)) (drop_of_length-le (placed 1 text) {i = most_clean} (omega (arith, counted, room)))

-- ---- the use of a macro

body_none : (expand : List ℕ → Part) (line n : ℕ) → body_reading expand line n [] ≡ gives [] []
body_none expand line zero = refl
body_none expand line (suc n) = refl

body_next : (expand : List ℕ → Part) (line n : ℕ) (c : Placed) (ts : Text) → is_plain (bytes (c ∷ ts)) ≡ true
    → (j : ℕ) × (body_reading expand line (suc n) (c ∷ ts) ≡ go_on (kept (suc j) (c ∷ ts)) (body_reading expand line n))
body_next expand line n c ts h = let s = piece_by expand line c ts (begins_so c ts h) in (s.0, ap (λ (x : Part). go_on x (body_reading expand line n)) s.1)

pub use_reads_as_body : UseReadsAsBody
use_reads_as_body depth line macros name body e h =
    let expand = use_of depth macros line in
    let plain : is_plain (bytes (all_at line body)) ≡ true = ap is_plain (bytes-text_from true line body) ∙ h in
    let counted = length-map body (at_line line) in
    ap (expanded line (whole_body expand line)) e
    ∙ plain_reads (body_reading expand line) (body_none expand line) (body_next expand line) (length body) (all_at line body) (omega (arith, counted)) plain
