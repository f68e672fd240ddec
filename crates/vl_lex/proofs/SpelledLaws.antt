-- What is computed of a text is what it is spelled of.
use Rattle.std.proofs.Common.{◌≡◌, ◌≤◌, ◌<◌, ◌⊎◌, inl, inr, ℕ, zero, suc, List, [], ◌∷◌, ◌++◌, refl, sym, subst, ap, ◌∙◌, arith, append_assoc, append-nil, drop, length, length-drop}
use Rattle.std.specs.Prelude.{Option, Some, None, Result, Ok, Err}
use Rattle.std.proofs.Math.ListN.{drop_of_length-le}
use Rattle.std.proofs.Math.Seq.{drop-append_seam}
use Rattle.vl_tree.specs.Token.{Kind, Token, token, Tokens}
use Rattle.vl_pre.specs.Bytes.{Placed, Text, bytes}
use Rattle.vl_tree.specs.declared.fault.FaultKind.{FaultKind}
use Rattle.vl_tree.specs.declared.fault.FaultKind.TheVariants.{TooManyTokens}
use Rattle.vl_lex.specs.Faults.{Fault, fault}
use Rattle.vl_lex.specs.Tokens.{Piece, gap, spelt, piece_at, Lexed, ahead, stuck, lexed, lexed_from, most_tokens, answer, at_most, tokens_of}
use Rattle.vl_lex.specs.Laws.Spelled.{size_of, Leads, tokens_in, AreTokens, FailsAt, PassesAt, HaveOneList}
use Rattle.vl_lex.proofs.PieceLaws.{piece_some}

-- ---- one step

ok_same : {X Y : Type 0} → (x y : X) → (let r : Result X Y = Ok x in r) ≡ Ok y → x ≡ y
ok_same x y e = cc

-- where the text is over nothing is left to read
over : (n : ℕ) → lexed_from n [] ≡ record { tokens = []; fault = None }
over zero = refl
over (suc n) = refl

-- the tokens of a piece: none or one
abbrev own : Piece → ℕ → Tokens
own (gap n) line = []
own (spelt k n) line = token line k ∷ []

step : (n : ℕ) (c : Placed) (ts : Text) (p : Piece) → piece_at (bytes (c ∷ ts)) ≡ Ok p → lexed_from (suc n) (c ∷ ts) ≡ ahead (own p c.line) (lexed_from n (drop (size_of p) (c ∷ ts)))
step n c ts (gap k) h = rw h refl
step n c ts (spelt a k) h = rw h refl

tokens_step : (p : Piece) (ps : List Piece) (c : Placed) (ts : Text) → tokens_in (p ∷ ps) (c ∷ ts) ≡ own p c.line ++ tokens_in ps (drop (size_of p) (c ∷ ts))
tokens_step (gap k) ps c ts = refl
tokens_step (spelt a k) ps c ts = refl

shorter : (n : ℕ) (c : Placed) (ts : Text) (p : Piece) → piece_at (bytes (c ∷ ts)) ≡ Ok p → length (c ∷ ts) ≤ suc n → length (drop (size_of p) (c ∷ ts)) ≤ n
shorter n c ts p h w =
    let s : 0 < size_of p = piece_some (bytes (c ∷ ts)) p h in
    let d = length-drop (size_of p) (c ∷ ts) in
    omega (arith, s, d, w)

ahead_none : (l : Lexed) → ahead [] l ≡ l
ahead_none l = refl

ahead_more : (ts us : Tokens) (l : Lexed) → ahead ts (ahead us l) ≡ ahead (ts ++ us) l
ahead_more ts us l = ap (λ x. record l { tokens = x }) (sym (append_assoc ts us l.tokens))

-- ---- pieces that lead to a place are read

abbrev Reaches : ℕ → Text → Text → Tokens → Type 0
Reaches n ts there found = (m : ℕ) × (length there ≤ m) × (lexed_from n ts ≡ ahead found (lexed_from m there))

reach_step : (p : Piece) (ps : List Piece) (n : ℕ) (c : Placed) (rest there : Text) → length (c ∷ rest) ≤ n → Leads (p ∷ ps) (c ∷ rest) there
    → ((m : ℕ) (ts : Text) → length ts ≤ m → Leads ps ts there → Reaches m ts there (tokens_in ps ts)) → Reaches n (c ∷ rest) there (tokens_in (p ∷ ps) (c ∷ rest))
reach_step p ps zero c rest there w l more = absurd (omega (arith, w))
reach_step p ps (suc n) c rest there w l more =
    let r = more n (drop (size_of p) (c ∷ rest)) (shorter n c rest p l.0 w) l.1 in
    let found : Tokens = tokens_in ps (drop (size_of p) (c ∷ rest)) in
    let e : lexed_from (suc n) (c ∷ rest) ≡ ahead (own p c.line ++ found) (lexed_from r.0 there) =
    step n c rest p l.0 ∙ ap (ahead (own p c.line)) r.2 ∙ ahead_more (own p c.line) found (lexed_from r.0 there) in
    (r.0, r.1, e ∙ ap (λ x. ahead x (lexed_from r.0 there)) (sym (tokens_step p ps c rest)))

reaches : (ps : List Piece) (n : ℕ) (ts there : Text) → length ts ≤ n → Leads ps ts there → Reaches n ts there (tokens_in ps ts)
reaches [] n ts there w l = subst (λ x. Reaches n ts x []) l (n, w, refl)
reaches (p ∷ ps) n [] there w l = absurd (let h = l.0 in cc)
reaches (p ∷ ps) n (c ∷ rest) there w l = reach_step p ps n c rest there w l (λ m ts. reaches ps m ts there)

-- pieces that lead to the end give all tokens
all_lexed : (text : Text) (ts : Tokens) → AreTokens text ts → lexed text ≡ record { tokens = ts; fault = None }
all_lexed text ts a =
    let r = reaches a.0 (length text) text [] (omega arith) a.1 in
    r.2 ∙ ap (ahead (tokens_in a.0 text)) (over r.0) ∙ ap (λ x. record { tokens = x; fault = None }) (append-nil (tokens_in a.0 text) ∙ sym a.2)

few_dropped : (ts : Tokens) → length ts ≤ most_tokens → drop most_tokens ts ≡ []
few_dropped ts h = drop_of_length-le ts {i = most_tokens} h

pub all : (text : Text) (ts : Tokens) → AreTokens text ts → length ts ≤ most_tokens → tokens_of text ≡ Ok ts
all text ts a few = ap (at_most most_tokens) (all_lexed text ts a) ∙ ap (λ x. answer x None ts) (few_dropped ts few)

pub have_one_list : HaveOneList
have_one_list text ts us a b = ap (λ x. x.tokens) (sym (all_lexed text ts a) ∙ all_lexed text us b)

-- ---- what was read, by pieces

-- pieces lead to the end, or to a place where none stands
abbrev Ends : Option Fault → Text → Type 0
Ends None there = there ≡ []
Ends (Some f) there = (c : Placed) × (rest : Text) × (there ≡ c ∷ rest) × (k : FaultKind) × (piece_at (bytes there) ≡ Err k) × (f ≡ fault k c.line)

pub record Cut (text : Text) (l : Lexed) : Type 0 where
  pub pieces : List Piece
  pub there : Text
  pub leads : Leads pieces text there
  pub tokens : l.tokens ≡ tokens_in pieces text
  pub ends : Ends l.fault there

cut_end : Cut [] (record { tokens = []; fault = None })
cut_end = record { pieces = []; there = []; leads = refl; tokens = refl; ends = refl }

cut_step : (c : Placed) (ts : Text) (p : Piece) (l : Lexed) → piece_at (bytes (c ∷ ts)) ≡ Ok p → Cut (drop (size_of p) (c ∷ ts)) l → Cut (c ∷ ts) (ahead (own p c.line) l)
cut_step c ts p l h k = record {
  pieces = p ∷ k.pieces;
  there = k.there;
  leads = (h, k.leads);
  tokens = ap (λ x. own p c.line ++ x) k.tokens ∙ sym (tokens_step p k.pieces c ts);
  ends = k.ends;
}

cut_by : (n : ℕ) (c : Placed) (ts : Text) (r : Result Piece FaultKind) → piece_at (bytes (c ∷ ts)) ≡ r → length (c ∷ ts) ≤ suc n
    → ((us : Text) → length us ≤ n → Cut us (lexed_from n us)) → Cut (c ∷ ts) (lexed_from (suc n) (c ∷ ts))
cut_by n c ts (Ok p) h w more =
    subst (Cut (c ∷ ts)) (sym (step n c ts p h)) (cut_step c ts p (lexed_from n (drop (size_of p) (c ∷ ts))) h (more (drop (size_of p) (c ∷ ts)) (shorter n c ts p h w)))
cut_by n c ts (Err k) h w more =
    let e : lexed_from (suc n) (c ∷ ts) ≡ stuck k c.line = rw h refl in
    subst (Cut (c ∷ ts)) (sym e) (record { pieces = []; there = c ∷ ts; leads = refl; tokens = refl; ends = (c, ts, refl, k, h, refl) })

cut : (n : ℕ) (ts : Text) → length ts ≤ n → Cut ts (lexed_from n ts)
cut n [] w = subst (Cut []) (sym (over n)) cut_end
cut zero (c ∷ ts) w = absurd (omega (arith, w))
cut (suc n) (c ∷ ts) w = cut_by n c ts (piece_at (bytes (c ∷ ts))) refl w (cut n)

-- ---- the answer

ok_answer : (drops : Tokens) (o : Option Fault) (found ts : Tokens) → answer drops o found ≡ Ok ts → (drops ≡ []) × (o ≡ None) × (found ≡ ts)
ok_answer (token line k ∷ more) o found ts e = absurd cc
ok_answer [] (Some f) found ts e = absurd cc
ok_answer [] None found ts e = (refl, refl, cc)

none_dropped : (n : ℕ) (ts : Tokens) → drop n ts ≡ [] → length ts ≤ n
none_dropped n ts e = let d = length-drop n ts in let z = ap length e in omega (arith, d, z)

pub found : (text : Text) (ts : Tokens) → tokens_of text ≡ Ok ts → AreTokens text ts × (length ts ≤ most_tokens)
found text ts e =
    let l : Lexed = lexed text in
    let a = ok_answer (drop most_tokens l.tokens) l.fault l.tokens ts e in
    let k = cut (length text) text (omega arith) in
    let there : k.there ≡ [] = subst (λ x. Ends x k.there) a.1 k.ends in
    let w = none_dropped most_tokens l.tokens a.0 in
    ((k.pieces, subst (λ x. Leads k.pieces text x) there k.leads, sym a.2 ∙ k.tokens), subst (λ (x : Tokens). length x ≤ most_tokens) a.2 w)

-- ---- the first fault

err_same : {X Y : Type 0} → (x y : Y) → (let r : Result X Y = Err x in r) ≡ Err y → x ≡ y
err_same x y e = cc

-- what the answer's fault is: that after all tokens, of which there are few, or the first token too many
abbrev FromAnswer : Tokens → Option Fault → Fault → Type 0
FromAnswer [] o f = o ≡ Some f
FromAnswer (t ∷ more) o f = (line : ℕ) × (k : Kind) × (t ≡ token line k) × (fault TooManyTokens line ≡ f)

err_answer : (drops : Tokens) (o : Option Fault) (found : Tokens) (f : Fault) → answer drops o found ≡ Err f → FromAnswer drops o f
err_answer (token line k ∷ more) o found f e = (line, k, refl, err_same _ f e)
err_answer [] (Some g) found f e = ap Some (err_same g f e)
err_answer [] None found f e = absurd cc

-- the place of the token of this number
pub record Nth (text : Text) (n : ℕ) (t : Token) : Type 0 where
  pub pieces : List Piece
  pub here : Placed
  pub after : Text
  pub kind : Kind
  pub size : ℕ
  pub leads : Leads pieces text (here ∷ after)
  pub stands : piece_at (bytes (here ∷ after)) ≡ Ok (spelt kind size)
  pub is : token here.line kind ≡ t
  pub before : length (tokens_in pieces text) ≡ n

-- one gap more before it
nth_gap : (c : Placed) (ts : Text) (k n : ℕ) (t : Token) → piece_at (bytes (c ∷ ts)) ≡ Ok (gap k) → Nth (drop k (c ∷ ts)) n t → Nth (c ∷ ts) n t
nth_gap c ts k n t h x = record {
  pieces = gap k ∷ x.pieces;
  here = x.here;
  after = x.after;
  kind = x.kind;
  size = x.size;
  leads = (h, x.leads);
  stands = x.stands;
  is = x.is;
  before = x.before;
}

-- one token more before it
nth_token : (c : Placed) (ts : Text) (a : Kind) (k n : ℕ) (t : Token) → piece_at (bytes (c ∷ ts)) ≡ Ok (spelt a k) → Nth (drop k (c ∷ ts)) n t → Nth (c ∷ ts) (suc n) t
nth_token c ts a k n t h x = record {
  pieces = spelt a k ∷ x.pieces;
  here = x.here;
  after = x.after;
  kind = x.kind;
  size = x.size;
  leads = (h, x.leads);
  stands = x.stands;
  is = x.is;
  before = ap suc x.before;
}

head_same : (x y : Token) (xs ys : Tokens) → x ∷ xs ≡ y ∷ ys → x ≡ y
head_same x y xs ys e = cc

nth : (ps : List Piece) (n : ℕ) (text there : Text) (t : Token) (more : Tokens) → Leads ps text there → drop n (tokens_in ps text) ≡ t ∷ more → Nth text n t
nth [] zero text there t more l e = absurd cc
nth [] (suc n) text there t more l e = absurd cc
nth (p ∷ ps) n [] there t more l e = absurd (let h = l.0 in cc)
nth (gap k ∷ ps) n (c ∷ ts) there t more l e = nth_gap c ts k n t l.0 (nth ps n (drop k (c ∷ ts)) there t more l.1 e)
nth (spelt a k ∷ ps) zero (c ∷ ts) there t more l e = record {
  pieces = [];
  here = c;
  after = ts;
  kind = a;
  size = k;
  leads = refl;
  stands = l.0;
  is = head_same _ t _ more e;
  before = refl;
}
nth (spelt a k ∷ ps) (suc n) (c ∷ ts) there t more l e = nth_token c ts a k n t l.0 (nth ps n (drop k (c ∷ ts)) there t more l.1 e)

token_line : (line l : ℕ) (k a : Kind) → token line k ≡ token l a → line ≡ l
token_line line l k a e = cc

by_drops : (text : Text) (f : Fault) (drops : Tokens) → drop most_tokens (lexed text).tokens ≡ drops → FromAnswer drops (lexed text).fault f → FailsAt text f ⊎ PassesAt text f
by_drops text f [] d a =
    let k = cut (length text) text (omega arith) in
    let e : Ends (Some f) k.there = subst (λ x. Ends x k.there) a k.ends in
    let w = none_dropped most_tokens (lexed text).tokens d in
    inl (record {
      pieces = k.pieces;
      here = e.0;
      after = e.1;
      leads = subst (λ x. Leads k.pieces text x) e.2 k.leads;
      kind = e.3;
      fails = subst (λ (x : Text). piece_at (bytes x) ≡ Err e.3) e.2 e.4;
      is = e.5;
      few = subst (λ (x : Tokens). length x ≤ most_tokens) k.tokens w;
    })
by_drops text f (t ∷ more) d a =
    let k = cut (length text) text (omega arith) in
    let x = nth k.pieces most_tokens text k.there t more k.leads (ap (drop most_tokens) (sym k.tokens) ∙ d) in
    let l : x.here.line ≡ a.0 = token_line _ _ x.kind a.1 (x.is ∙ a.2) in
    inr (record {
      pieces = x.pieces;
      here = x.here;
      after = x.after;
      kind = x.kind;
      size = x.size;
      leads = x.leads;
      stands = x.stands;
      full = x.before;
      is = sym a.3 ∙ ap (fault TooManyTokens) (sym l);
    })

pub faults : (text : Text) (f : Fault) → tokens_of text ≡ Err f → FailsAt text f ⊎ PassesAt text f
faults text f e =
    let l : Lexed = lexed text in
    by_drops text f (drop most_tokens l.tokens) refl (err_answer (drop most_tokens l.tokens) l.fault l.tokens f e)

-- ---- where a place is reached

reached : (text there : Text) (ps : List Piece) → Leads ps text there → Reaches (length text) text there (tokens_in ps text)
reached text there ps l = reaches ps (length text) text there (omega arith) l

-- a step is left where a byte is
stuck_here : (m : ℕ) (c : Placed) (rest : Text) (k : FaultKind) → length (c ∷ rest) ≤ m → piece_at (bytes (c ∷ rest)) ≡ Err k → lexed_from m (c ∷ rest) ≡ stuck k c.line
stuck_here zero c rest k w h = absurd (omega (arith, w))
stuck_here (suc m) c rest k w h = rw h refl

pub fails : (text : Text) (f : Fault) → FailsAt text f → tokens_of text ≡ Err f
fails text f x =
    let found : Tokens = tokens_in x.pieces text in
    let r = reached text (x.here ∷ x.after) x.pieces x.leads in
    let e : lexed text ≡ record { tokens = found; fault = Some (fault x.kind x.here.line) } =
    r.2 ∙ ap (ahead found) (stuck_here r.0 x.here x.after x.kind r.1 x.fails) ∙ ap (λ t. record { tokens = t; fault = Some (fault x.kind x.here.line) }) (append-nil found) in
    ap (at_most most_tokens) e ∙ ap (λ d. answer d (Some (fault x.kind x.here.line)) found) (few_dropped found x.few) ∙ ap (λ g. Err g) (sym x.is)

token_here : (m : ℕ) (c : Placed) (rest : Text) (k : Kind) (n : ℕ) → length (c ∷ rest) ≤ m → piece_at (bytes (c ∷ rest)) ≡ Ok (spelt k n)
    → (l : Lexed) × (lexed_from m (c ∷ rest) ≡ ahead (token c.line k ∷ []) l)
token_here zero c rest k n w h = absurd (omega (arith, w))
token_here (suc m) c rest k n w h = (lexed_from m (drop n (c ∷ rest)), rw h refl)

pub passes : (text : Text) (f : Fault) → PassesAt text f → tokens_of text ≡ Err f
passes text f x =
    let found : Tokens = tokens_in x.pieces text in
    let t : Token = token x.here.line x.kind in
    let r = reached text (x.here ∷ x.after) x.pieces x.leads in
    let h = token_here r.0 x.here x.after x.kind x.size r.1 x.stands in
    let e : lexed text ≡ ahead found (ahead (t ∷ []) h.0) = r.2 ∙ ap (ahead found) h.1 in
    let d : drop most_tokens (found ++ (t ∷ h.0.tokens)) ≡ t ∷ h.0.tokens = ap (λ n. drop n (found ++ (t ∷ h.0.tokens))) (sym x.full) ∙ drop-append_seam found (t ∷ h.0.tokens) in
    ap (at_most most_tokens) e ∙ ap (λ y. answer y h.0.fault (found ++ (t ∷ h.0.tokens))) d ∙ ap (λ g. Err g) (sym x.is)
