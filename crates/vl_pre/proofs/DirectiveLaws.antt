-- What directives do, by what their readers say.
use Rattle.std.proofs.Common.{◌≡◌, ℕ, suc, ◌+◌, true, false, List, [], ◌∷◌, ◌++◌, length, reverse, refl, ap, sym, subst, ◌∙◌, arith}
use Rattle.std.specs.Prelude.{Option, Some, None, Result, Ok, Err, codes}
use Rattle.std.specs.List.{prefix_len}
use Rattle.std.proofs.lemmas.List.{reverse-append, reverse-reverse}
use Rattle.vl_tree.specs.declared.fault.StaticFault.{StaticFault}
use Rattle.vl_pre.specs.declared.context.Context as code
use Rattle.vl_pre.specs.Bytes.{Text, bytes, begins, is_white}
use Rattle.vl_tree.specs.declared.fault.FaultKind.TheVariants.{BadDirective}
use Rattle.vl_pre.specs.Pieces.{Part, Fault, fault, and_then, rest_of_line}
use Rattle.vl_pre.specs.Directives.{define, Context, After, name_of, without_blanks, trimmed, whole_by, line_of, define_by, defined, with_macros, directive_step}
use Rattle.vl_pre.specs.Calls.Reading.{HasFault, PartHasFault, Kept, Goes}

-- ---- white space at the end

reverse_last : (front : List ℕ) (b : ℕ) → reverse (front ++ b ∷ []) ≡ b ∷ reverse front
reverse_last front b = reverse-append front (b ∷ [])

pub blank_last : (rest front : List ℕ) (b : ℕ) → rest ≡ front ++ b ∷ [] → is_white b ≡ true → reverse (without_blanks (reverse rest)) ≡ reverse (without_blanks (reverse front))
blank_last rest front b e h =
    let one_more : 1 + prefix_len is_white (reverse front) ≡ suc (prefix_len is_white (reverse front)) = omega arith in
    ap (λ bs. reverse (without_blanks (reverse bs))) e ∙ ap (λ bs. reverse (without_blanks bs)) (reverse_last front b) ∙ rw (h, one_more) refl

pub no_blank_last : (rest front : List ℕ) (b : ℕ) → rest ≡ front ++ b ∷ [] → is_white b ≡ false → reverse (without_blanks (reverse rest)) ≡ rest
no_blank_last rest front b e h =
    let here : reverse (without_blanks (b ∷ reverse front)) ≡ reverse (b ∷ reverse front) = rw h refl in
    ap (λ bs. reverse (without_blanks (reverse bs))) e ∙ ap (λ bs. reverse (without_blanks bs)) (reverse_last front b) ∙ here ∙ ap reverse (sym (reverse_last front b)) ∙ reverse-reverse (front ++ b ∷ []) ∙ sym e

-- ---- one reader after another

pub goes_as : (rest : Text) (context : code.Context) (q r : Result After Fault) (result : Result (Unit {0}) StaticFault) → q ≡ r → Goes rest context r result → Goes rest context q result
goes_as rest context q r result e g = let P : Result After Fault → Type 0 = λ x. Goes rest context x result in subst P (sym e) g

-- ---- the rest of a line

pub line_read : (p : Part) (body : List ℕ) (rest : Text) → Kept [] body rest p → whole_by p.fault p ≡ Ok (body, rest)
line_read p body rest k = ap (λ f. whole_by f p) k.sound ∙ (λ i. Ok (sym k.all i, sym k.left i))

pub line_fault : (p : Part) (o : Option Fault) → PartHasFault p o → HasFault (whole_by p.fault p) o
line_fault p None h = tt
line_fault p (Some f) h = ap (λ x. whole_by x p) h

-- ---- definitions

-- after a NAME that isn't followed by `(`
define_line : (line : ℕ) (context : Context) (ts us : Text) (name : List ℕ) → name_of line ts ≡ Ok (name, us) → begins (codes "(") (bytes us) ≡ false
    → directive_step define line context ts ≡ and_then (line_of true us) (λ (body : List ℕ × Text). Ok (record { context = with_macros (defined name (trimmed body.0) context.macros) context; rest = body.1 }))
define_line line context ts us name named plain =
    ap (λ r. and_then r (λ (n : List ℕ × Text). define_by (begins (codes "(") (bytes n.1)) line context n.0 n.1)) named ∙ ap (λ b. define_by b line context name us) plain

pub define_read : (line : ℕ) (context : Context) (ts us rest : Text) (name body : List ℕ) → name_of line ts ≡ Ok (name, us) → begins (codes "(") (bytes us) ≡ false
    → Kept [] body rest (rest_of_line (length us) true us) → directive_step define line context ts ≡ Ok (record { context = with_macros (defined name (trimmed body) context.macros) context; rest = rest })
define_read line context ts us rest name body named plain kept =
    define_line line context ts us name named plain
    ∙ ap (λ r. and_then r (λ (b : List ℕ × Text). Ok (record { context = with_macros (defined name (trimmed b.0) context.macros) context; rest = b.1 })))
    (line_read (rest_of_line (length us) true us) body rest kept)

pub define_fault : (line : ℕ) (context : Context) (ts us : Text) (name : List ℕ) (o : Option Fault) → name_of line ts ≡ Ok (name, us) → begins (codes "(") (bytes us) ≡ false
    → PartHasFault (rest_of_line (length us) true us) o → HasFault (directive_step define line context ts) o
define_fault line context ts us name None named plain h = tt
define_fault line context ts us name (Some f) named plain h =
    define_line line context ts us name named plain
    ∙ ap (λ r. and_then r (λ (b : List ℕ × Text). Ok (record { context = with_macros (defined name (trimmed b.0) context.macros) context; rest = b.1 })))
    (line_fault (rest_of_line (length us) true us) (Some f) h)

pub define_paren : (line : ℕ) (context : Context) (ts us : Text) (name : List ℕ) → name_of line ts ≡ Ok (name, us) → begins (codes "(") (bytes us) ≡ true
    → directive_step define line context ts ≡ Err (fault BadDirective line)
define_paren line context ts us name named paren =
    ap (λ r. and_then r (λ (n : List ℕ × Text). define_by (begins (codes "(") (bytes n.1)) line context n.0 n.1)) named ∙ ap (λ b. define_by b line context name us) paren
