-- The lexer's loop.
use Rattle.std.proofs.Common.{◌≡◌, ◌≤◌, ◌<◌, ◌+◌, inl, inr, ℕ, zero, suc, List, [], ◌∷◌, ◌++◌, refl, sym, subst, ap, ◌∙◌, arith, append_assoc, append-nil, drop, length, length-drop, get_or}
use Rattle.std.specs.Prelude.{Option, Some, None, Result, Ok, Err}
use Rattle.std.proofs.lemmas.List.{map-append, length-map, length-append, drop-map, drop-drop, get_or-map}
use Rattle.std.proofs.Math.ListN.{drop_of_length-le}
use Rattle.std.proofs.Math.Seq.{drop-append_seam, drop-cons}
use Rattle.vl_tree.specs.declared.token.Token as code
use Rattle.vl_tree.specs.declared.token.TokenKind as code_kind
use Rattle.vl_tree.specs.Token.{Kind, Token, token, Tokens, coded, coded_kind, all_coded}
use Rattle.vl_pre.specs.Bytes.{Placed, Text, at_line, bytes, lines, joined}
use Rattle.vl_tree.specs.declared.fault.FaultKind.{FaultKind}
use Rattle.vl_tree.specs.declared.fault.FaultKind.TheVariants.{TooManyTokens}
use Rattle.vl_lex.specs.Tokens.{gap, spelt, piece_at, Lexed, ahead, stuck, lexed, lexed_from, most_tokens, answer, at_most, tokens_of}
use Rattle.vl_lex.specs.Faults.{fault}
use Rattle.vl_lex.specs.Calls.Reading.{piece_of, IsFault, Takes, Steps}
use Rattle.vl_tree.specs.Fault.{HasFault, fault_of}
use Rattle.vl_tree.specs.declared.fault.StaticFault.{StaticFault}
use Rattle.vl_tree.specs.declared.fault.StaticFault.TheVariants as f
use Rattle.vl_lex.specs.declared.faults.Wrong.TheVariants as wrong

-- ---- what the loop keeps

-- so many tokens were read, and the rest is to be read
abbrev pub SoFar : Lexed → List code.Token → Text → Type 0
SoFar l items ts = (n : ℕ) × (length ts ≤ n) × (l ≡ ahead (all_coded items) (lexed_from n ts))

pub at_start : (text : Text) (items : List code.Token) → items ≡ [] → SoFar (lexed text) items text
at_start text items e =
    let P : List code.Token → Type 0 = λ x. SoFar (lexed text) x text in
    subst P (sym e) (length text, omega arith, refl)

-- the same where a byte is left: at least one step is left
abbrev Next : Lexed → List code.Token → Placed → Text → Type 0
Next l items c ts = (n : ℕ) × (length ts ≤ n) × (l ≡ ahead (all_coded items) (lexed_from (suc n) (c ∷ ts)))

one_left : (n : ℕ) (c : Placed) (ts : Text) → length (c ∷ ts) ≤ n → (m : ℕ) × (n ≡ suc m) × (length ts ≤ m)
one_left zero c ts h = absurd (omega (arith, h))
one_left (suc m) c ts h = (m, refl, omega (arith, h))

next_step : (l : Lexed) (items : List code.Token) (c : Placed) (ts : Text) → SoFar l items (c ∷ ts) → Next l items c ts
next_step l items c ts s =
    let o = one_left s.0 c ts s.1 in
    (o.0, o.2, s.2 ∙ ap (λ x. ahead (all_coded items) (lexed_from x (c ∷ ts))) o.1)

-- ---- one piece

gap_read : (l : Lexed) (items : List code.Token) (c : Placed) (ts : Text) (k : ℕ) → piece_at (bytes (c ∷ ts)) ≡ Ok (gap k) → 0 < k → SoFar l items (c ∷ ts) → SoFar l items (drop k (c ∷ ts))
gap_read l items c ts k h some s =
    let o = next_step l items c ts s in
    let e : lexed_from (suc o.0) (c ∷ ts) ≡ lexed_from o.0 (drop k (c ∷ ts)) = rw h refl in
    let fits : length (drop k (c ∷ ts)) ≤ o.0 = let i = length-drop k (c ∷ ts) in let j = o.1 in omega (arith, i, j, some) in
    (o.0, fits, o.2 ∙ ap (ahead (all_coded items)) e)

ahead_more : (ts us : Tokens) (l : Lexed) → ahead ts (ahead us l) ≡ ahead (ts ++ us) l
ahead_more ts us l = ap (λ x. record l { tokens = x }) (sym (append_assoc ts us l.tokens))

-- a token that stands at the head comes next
token_next : (l : Lexed) (items : List code.Token) (c : Placed) (ts : Text) (k : Kind) (used : ℕ) (o : Next l items c ts) → piece_at (bytes (c ∷ ts)) ≡ Ok (spelt k used)
    → l ≡ ahead (all_coded items) (ahead (token c.line k ∷ []) (lexed_from o.0 (drop used (c ∷ ts))))
token_next l items c ts k used o h =
    let e : lexed_from (suc o.0) (c ∷ ts) ≡ ahead (token c.line k ∷ []) (lexed_from o.0 (drop used (c ∷ ts))) = rw h refl in
    o.2 ∙ ap (ahead (all_coded items)) e

token_read : (l : Lexed) (items : List code.Token) (c : Placed) (ts : Text) (kind : code_kind.TokenKind) (used : ℕ) → piece_at (bytes (c ∷ ts)) ≡ Ok (spelt (coded_kind kind) used) → 0 < used
    → SoFar l items (c ∷ ts) → SoFar l (items ++ record { line = c.line; kind = kind } ∷ []) (drop used (c ∷ ts))
token_read l items c ts kind used h some s =
    let o = next_step l items c ts s in
    let t : code.Token = record { line = c.line; kind = kind } in
    let more : Lexed = lexed_from o.0 (drop used (c ∷ ts)) in
    let g : l ≡ ahead (all_coded (items ++ t ∷ [])) more =
    token_next l items c ts (coded_kind kind) used o h ∙ ahead_more (all_coded items) (coded t ∷ []) more ∙ ap (λ x. ahead x more) (sym (map-append coded items (t ∷ []))) in
    let fits : length (drop used (c ∷ ts)) ≤ o.0 = let i = length-drop used (c ∷ ts) in let j = o.1 in omega (arith, i, j, some) in
    (o.0, fits, g)

-- what is left of the tokens after a piece, and that there are no more than may be
abbrev Read : Lexed → List code.Token → Text → Type 0
Read l items ts = SoFar l items ts × (length items ≤ most_tokens)

step_read : (l : Lexed) (old new : List code.Token) (c : Placed) (ts : Text) (k : Option code_kind.TokenKind) (n m : ℕ) → piece_at (bytes (c ∷ ts)) ≡ Ok (piece_of k n) → Takes old c.line k n new (Ok m) → 0 < m
    → Read l old (c ∷ ts) → Read l new (drop m (c ∷ ts))
step_read l old new c ts None n m h t some r =
    let P : List code.Token → Type 0 = λ x. Read l x (drop m (c ∷ ts)) in
    let h' : piece_at (bytes (c ∷ ts)) ≡ Ok (gap m) = h ∙ ap (λ x. Ok (gap x)) (sym t.0) in
    subst P (sym t.1) (gap_read l old c ts m h' some r.0, r.1)
step_read l old new c ts (Some k) n m h t some r =
    let P : List code.Token → Type 0 = λ x. Read l x (drop m (c ∷ ts)) in
    let h' : piece_at (bytes (c ∷ ts)) ≡ Ok (spelt (coded_kind k) m) = h ∙ ap (λ x. Ok (spelt (coded_kind k) x)) (sym t.0) in
    let few = t.2 in
    let a = length-append old (record { line = c.line; kind = k } ∷ []) in
    subst P (sym t.1) (token_read l old c ts k m h' some r.0, omega (arith, few, a))

-- ---- the answer

few_coded : (items : List code.Token) → length items ≤ most_tokens → drop most_tokens (all_coded items) ≡ []
few_coded items h = let e : length (all_coded items) ≡ length items = length-map items coded in drop_of_length-le (all_coded items) {i = most_tokens} (rw e h)

end_of : (n : ℕ) → lexed_from n [] ≡ record { tokens = []; fault = None }
end_of zero = refl
end_of (suc n) = refl

-- where the text is over the tokens are these
pub all_read : (text rest : Text) (items : List code.Token) → rest ≡ [] → length items ≤ most_tokens → SoFar (lexed text) items rest → tokens_of text ≡ Ok (all_coded items)
all_read text rest items e few s =
    let s' : SoFar (lexed text) items [] = subst (λ x. SoFar (lexed text) items x) e s in
    let g : lexed text ≡ record { tokens = all_coded items; fault = None } =
    s'.2 ∙ ap (ahead (all_coded items)) (end_of s'.0) ∙ ap (λ x. record { tokens = x; fault = None }) (append-nil (all_coded items)) in
    ap (at_most most_tokens) g ∙ ap (λ x. answer x None (all_coded items)) (few_coded items few)

fault_at : (text : Text) (items : List code.Token) (c : Placed) (ts : Text) (k : FaultKind) → piece_at (bytes (c ∷ ts)) ≡ Err k → Read (lexed text) items (c ∷ ts) → tokens_of text ≡ Err (fault k c.line)
fault_at text items c ts k h r =
    let o = next_step (lexed text) items c ts r.0 in
    let e : lexed_from (suc o.0) (c ∷ ts) ≡ stuck k c.line = rw h refl in
    let g : lexed text ≡ record { tokens = all_coded items; fault = Some (fault k c.line) } =
    o.2 ∙ ap (ahead (all_coded items)) e ∙ ap (λ x. record { tokens = x; fault = Some (fault k c.line) }) (append-nil (all_coded items)) in
    ap (at_most most_tokens) g ∙ ap (λ x. answer x (Some (fault k c.line)) (all_coded items)) (few_coded items r.1)

one_more : (ts more : Tokens) (t : Token) → length ts ≡ most_tokens → drop most_tokens (ts ++ (t ∷ more)) ≡ t ∷ more
one_more ts more t e = ap (λ n. drop n (ts ++ (t ∷ more))) (sym e) ∙ drop-append_seam ts (t ∷ more)

-- with one token more than there may be the text has that fault
too_many : (text : Text) (items : List code.Token) (c : Placed) (ts : Text) (k : Kind) (used : ℕ) → piece_at (bytes (c ∷ ts)) ≡ Ok (spelt k used) → most_tokens ≤ length items
    → Read (lexed text) items (c ∷ ts) → tokens_of text ≡ Err (fault TooManyTokens c.line)
too_many text items c ts k used h full r =
    let o = next_step (lexed text) items c ts r.0 in
    let t : Token = token c.line k in
    let more : Lexed = lexed_from o.0 (drop used (c ∷ ts)) in
    let g : lexed text ≡ ahead (all_coded items) (ahead (t ∷ []) more) = token_next (lexed text) items c ts k used o h in
    let few = r.1 in
    let n : length (all_coded items) ≡ most_tokens = let j = length-map items coded in omega (arith, j, few, full) in
    let d : drop most_tokens (all_coded items ++ (t ∷ more.tokens)) ≡ t ∷ more.tokens = one_more (all_coded items) more.tokens t n in
    ap (at_most most_tokens) g ∙ ap (λ x. answer x more.fault (all_coded items ++ (t ∷ more.tokens))) d

none_stands : (text : Text) (items : List code.Token) (c : Placed) (ts : Text) (e : StaticFault) → IsFault (piece_at (bytes (c ∷ ts))) c.line e → Read (lexed text) items (c ∷ ts) → HasFault (tokens_of text) (fault_of e)
none_stands text items c ts e (wrong.Bad k, is, h) r =
    let P : StaticFault → Type 0 = λ x. HasFault (tokens_of text) (fault_of x) in
    subst P (sym is) (fault_at text items c ts k h r)
none_stands text items c ts e (wrong.Memory, is, h) r =
    let P : StaticFault → Type 0 = λ x. HasFault (tokens_of text) (fault_of x) in
    subst P (sym is) tt

none_taken : (text : Text) (items new : List code.Token) (c : Placed) (ts : Text) (k : Option code_kind.TokenKind) (n : ℕ) (e : StaticFault) → piece_at (bytes (c ∷ ts)) ≡ Ok (piece_of k n)
    → Takes items c.line k n new (Err e) → Read (lexed text) items (c ∷ ts) → HasFault (tokens_of text) (fault_of e)
none_taken text items new c ts None n e h t r = absurd t
none_taken text items new c ts (Some k) n f.Memory h t r = tt
none_taken text items new c ts (Some k) n (f.At phase place kind) h t r =
    let P : StaticFault → Type 0 = λ x. HasFault (tokens_of text) (fault_of x) in
    subst P (sym t.1) (too_many text items c ts (coded_kind k) n h t.0 r)

-- ---- places of a text

-- what stands at this place
abbrev Place : Text → ℕ → Type 0
Place text at = (c : Placed) × (ts : Text) × (drop at text ≡ c ∷ ts) × (get_or (lines text) at 0 ≡ c.line) × (drop at (bytes text) ≡ bytes (c ∷ ts))

place : (text : Text) (at : ℕ) → at < length text → Place text at
place text at h =
    let c : Placed = get_or text at (at_line 0 0) in
    let ts : Text = drop (suc at) text in
    let d : drop at text ≡ c ∷ ts = drop-cons text at (at_line 0 0) h in
    (c, ts, d, get_or-map (λ x. x.line) text at (at_line 0 0) 0 h, drop-map (λ x. x.byte) at text ∙ ap bytes d)

module _ (text : Text) (old new : List code.Token) (at line : ℕ) (bs : List ℕ) (here : at < length text) (on : line ≡ get_or (lines text) at 0) (rest : bs ≡ drop at (bytes text))
    (r : Read (lexed text) old (drop at text)) where
  -- the piece at this place
  same : {m : Result ℕ StaticFault} → Steps old line (piece_at bs) new m → (p : Place text at) → Steps old p.0.line (piece_at (bytes (p.0 ∷ p.1))) new m
  same {m} s p =
      let l : line ≡ p.0.line = on ∙ p.3 in
      let b : bs ≡ bytes (p.0 ∷ p.1) = rest ∙ p.4 in
      subst (λ x. Steps old x (piece_at (bytes (p.0 ∷ p.1))) new m) l (subst (λ x. Steps old line (piece_at x) new m) b s)

  pub next_read : (m : ℕ) → 0 < m → Steps old line (piece_at bs) new (Ok m) → Read (lexed text) new (drop (at + m) text)
  next_read m some s =
      let p = place text at here in
      let r' : Read (lexed text) old (p.0 ∷ p.1) = subst (λ x. Read (lexed text) old x) p.2 r in
      let d : drop m (p.0 ∷ p.1) ≡ drop (at + m) text = ap (drop m) (sym p.2) ∙ drop-drop m at text in
      elim (same s p) [
        | inl t ↦ subst (λ x. Read (lexed text) new x) d (step_read (lexed text) old new p.0 p.1 t.0 t.1 m t.2 t.3 some r')
        | inr t ↦ absurd t
      ]

  pub next_fails : (e : StaticFault) → Steps old line (piece_at bs) new (Err e) → HasFault (tokens_of text) (fault_of e)
  next_fails e s =
      let p = place text at here in
      let r' : Read (lexed text) old (p.0 ∷ p.1) = subst (λ x. Read (lexed text) old x) p.2 r in
      elim (same s p) [
        | inl t ↦ none_taken text old new p.0 p.1 t.0 t.1 e t.2 t.3 r'
        | inr t ↦ none_stands text old p.0 p.1 e t r'
      ]

-- what stands after a place and is no longer than the rest ends within the text
pub ends_within : (text : Text) (at used : ℕ) (bs : List ℕ) → bs ≡ drop at (bytes text) → used ≤ length bs → at ≤ length text → at + used ≤ length text
ends_within text at used bs e u h =
    let a = ap length e in
    let b = length-drop at (bytes text) in
    let c = length-map text (λ x. x.byte) in
    omega (arith, a, b, c, u, h)

-- ---- bytes and lines side by side

pub bytes_joined : (bs ls : List ℕ) → length bs ≡ length ls → bytes (joined bs ls) ≡ bs
bytes_joined [] ls e = refl
bytes_joined (b ∷ bs) [] e = absurd (omega (arith, e))
bytes_joined (b ∷ bs) (l ∷ ls) e = ap (λ x. b ∷ x) (bytes_joined bs ls (omega (arith, e)))

pub lines_joined : (bs ls : List ℕ) → length bs ≡ length ls → lines (joined bs ls) ≡ ls
lines_joined [] [] e = refl
lines_joined [] (l ∷ ls) e = absurd (omega (arith, e))
lines_joined (b ∷ bs) [] e = absurd (omega (arith, e))
lines_joined (b ∷ bs) (l ∷ ls) e = ap (λ x. l ∷ x) (lines_joined bs ls (omega (arith, e)))

pub joined_is : (text : Text) → joined (bytes text) (lines text) ≡ text
joined_is [] = refl
joined_is (c ∷ ts) = ap (λ x. c ∷ x) (joined_is ts)

pub paired : (text : Text) → length (bytes text) ≡ length (lines text)
paired text = length-map text (λ c. c.byte) ∙ sym (length-map text (λ c. c.line))

pub joined_length : (bs ls : List ℕ) → length bs ≡ length ls → length (joined bs ls) ≡ length bs
joined_length bs ls e = sym (length-map (joined bs ls) (λ c. c.byte)) ∙ ap length (bytes_joined bs ls e)

pub same_text : (text : Text) (bs ls : List ℕ) → bs ≡ bytes text → ls ≡ lines text → joined bs ls ≡ text
same_text text bs ls b l = ap (λ x. joined x ls) b ∙ ap (joined (bytes text)) l ∙ joined_is text
