-- The use of a macro, and a body one piece on.
use Rattle.std.proofs.Common.{◌≡◌, ℕ, zero, suc, ◌-◌, ◌<◌, List, [], ◌∷◌, false, drop, length, refl, ap, sym, ◌∙◌, arith}
use Rattle.std.specs.Prelude.{Some, None}
use Rattle.vl_pre.specs.declared.pieces.First.{First}
use Rattle.vl_pre.specs.declared.pieces.First.TheVariants.{LineComment, BlockComment, Quote, Backslash, Tick, Plain}
use Rattle.vl_pre.specs.declared.names.Ticked as tick
use Rattle.vl_pre.specs.declared.names.Ticked.TheVariants as v
use Rattle.vl_pre.specs.Bytes.{Text, bytes, name_at}
use Rattle.vl_tree.specs.declared.fault.FaultKind.TheVariants.{UnknownMacro, MacroDepth, BadDirective}
use Rattle.vl_pre.specs.Pieces.{Part, gives, fails, go_on, first}
use Rattle.vl_pre.specs.Directives.{Ticked, no_name, a_directive, a_macro, Macros, ticked}
use Rattle.vl_pre.specs.CleanText.{use_of, expanded, whole_body, body_reading, body_tick}
use Rattle.vl_pre.specs.Calls.Views.{head_of, ticked_of}
use Rattle.vl_pre.proofs.LineLaws.{macro_tick, no_macro_tick}
use Rattle.vl_pre.specs.Calls.Reading.{piece_at, body_piece_at, body_use_at}

pub use_unknown : (depth : ℕ) (m : Macros) (line : ℕ) (name : List ℕ) → m name ≡ None → use_of depth m line name ≡ fails UnknownMacro line
use_unknown zero m line name e = rw e refl
use_unknown (suc depth) m line name e = rw e refl

pub use_too_deep : (depth : ℕ) (m : Macros) (line : ℕ) (name body : List ℕ) → depth ≡ 0 → m name ≡ Some body → use_of depth m line name ≡ fails MacroDepth line
use_too_deep zero m line name body z e = rw e refl
use_too_deep (suc depth) m line name body z e = absurd (omega (arith, z))

pub use_body : (depth : ℕ) (m : Macros) (line : ℕ) (name body : List ℕ) → 0 < depth → m name ≡ Some body
    → use_of depth m line name ≡ whole_body (use_of (depth - 1) m line) line body
use_body zero m line name body some e = absurd (omega (arith, some))
use_body (suc depth) m line name body some e =
    let less : suc depth - 1 ≡ depth = omega arith in
    ap (expanded line (whole_body (use_of depth m line) line)) e ∙ ap (λ d. whole_body (use_of d m line) line body) (sym less)

-- ---- bodies

pub body_more : (expand : List ℕ → Part) (line n : ℕ) (ts : Text) → 0 < n → 0 < length ts → body_reading expand line n ts ≡ go_on (body_piece_at expand line ts) (body_reading expand line (n - 1))
body_more expand line zero ts some left = absurd (omega (arith, some))
body_more expand line (suc m) [] some left = absurd (omega (arith, left))
body_more expand line (suc m) (c ∷ ts) some left = let less : suc m - 1 ≡ m = omega arith in rw less refl

pub body_ended : (expand : List ℕ → Part) (line n : ℕ) (ts : Text) → ts ≡ [] → body_reading expand line n ts ≡ gives [] ts
body_ended expand line zero [] e = refl
body_ended expand line (suc n) [] e = refl
body_ended expand line n (c ∷ ts) e = absurd cc

pub body_use : (expand : List ℕ → Part) (line : ℕ) (ts : Text) (f : First) → 0 < length ts → head_of f ≡ first (bytes ts) → f ≡ Tick → body_piece_at expand line ts ≡ body_use_at expand line ts
body_use expand line [] f some e is = absurd (omega (arith, some))
body_use expand line (c ∷ ts) f some e is = let h = sym e ∙ ap head_of is in rw h refl

pub body_own : (expand : List ℕ → Part) (line : ℕ) (ts : Text) (f : First) → head_of f ≡ first (bytes ts) → (f ≡ Tick → ⊥) → body_piece_at expand line ts ≡ piece_at false (head_of f) ts
body_own expand line [] f e other = refl
body_own expand line (c ∷ ts) Tick e other = absurd (other refl)
body_own expand line (c ∷ ts) LineComment e other = let h = sym e in rw h refl
body_own expand line (c ∷ ts) BlockComment e other = let h = sym e in rw h refl
body_own expand line (c ∷ ts) Quote e other = let h = sym e in rw h refl
body_own expand line (c ∷ ts) Backslash e other = let h = sym e in rw h refl
body_own expand line (c ∷ ts) Plain e other = let h = sym e in rw h refl

no_use : (expand : List ℕ → Part) (line : ℕ) (t : Ticked) (ts : Text) → (t ≡ a_macro → ⊥) → body_tick expand line t ts ≡ fails BadDirective line
no_use expand line no_name ts other = refl
no_use expand line (a_directive d) ts other = refl
no_use expand line a_macro ts other = absurd (other refl)

pub use_missing : (expand : List ℕ → Part) (line : ℕ) (ts us : Text) (name : List ℕ) (t : tick.Ticked) → us ≡ drop 1 ts → name ≡ name_at us → ticked_of t ≡ ticked name → (t ≡ v.Macro → ⊥)
    → body_use_at expand line ts ≡ fails BadDirective line
use_missing expand line ts us name t after is found other =
    let here : name ≡ name_at (drop 1 ts) = is ∙ ap name_at after in
    no_use expand line (ticked (name_at (drop 1 ts))) (drop 1 ts) (λ e. no_macro_tick t (ticked name) found other (ap ticked here ∙ e))

pub use_found : (expand : List ℕ → Part) (line : ℕ) (ts us new : Text) (name : List ℕ) (t : tick.Ticked) → us ≡ drop 1 ts → name ≡ name_at us → ticked_of t ≡ ticked name → t ≡ v.Macro → new ≡ drop (length name) us
    → body_use_at expand line ts ≡ record (expand name) { rest = new }
use_found expand line ts us new name t after is tells macro left =
    let here : name ≡ name_at (drop 1 ts) = is ∙ ap name_at after in
    let found : ticked (name_at (drop 1 ts)) ≡ a_macro = ap ticked (sym here) ∙ macro_tick t (ticked name) tells macro in
    ap (λ t. body_tick expand line t (drop 1 ts)) found
    ∙ (λ i. record (expand (sym here i)) { rest = (ap (λ n. drop (length n) (drop 1 ts)) (sym here) ∙ ap (drop (length name)) (sym after) ∙ sym left) i })
