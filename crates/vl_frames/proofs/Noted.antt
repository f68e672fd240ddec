-- Names that are noted one after another.
use Rattle.std.proofs.Common.{◌≡◌, Bool, true, false, List, [], ◌∷◌, ◌++◌, refl, sym, ap, ◌∙◌}
use Rattle.std.specs.Prelude.{Option, None, if◌then◌else◌, ◌||◌, ◌&&◌, not, bytes_eq}
use Rattle.vl_tree.specs.Syntax as t
use Rattle.vl_value.specs.Paths.{Text}
use Rattle.vl_design.specs.Constants.{Worth}
use Rattle.vl_design.specs.Generate.{Around}
use Rattle.vl_design.specs.Declarations.{is_any_name}
use Rattle.vl_frames.specs.Marks.{around}
use Rattle.vl_frames.specs.Changes.{hidden, genvar_noted, passed, Becomes}
use Rattle.vl_frames.specs.declared.frames.Frames.{Frames}

-- ---- one of two kinds of names after another

known_both : (a b : Bool) (o : Option Worth) → (if b then None else (if a then None else o)) ≡ (if a || b then None else o)
known_both true true o = refl
known_both true false o = refl
known_both false b o = refl

pass_both : (a b c : Bool) → (not b && (not a && c)) ≡ (not (a || b) && c)
pass_both true true c = refl
pass_both true false c = refl
pass_both false b c = refl

note_both : (a b c : Bool) → (b || (a || c)) ≡ ((a || b) || c)
note_both true true c = refl
note_both true false c = refl
note_both false true c = refl
note_both false false c = refl

pub hidden_both : (f g : Text → Bool) (a : Around) → hidden g (hidden f a) ≡ hidden (λ x. f x || g x) a
hidden_both f g a = λ i. record {
  known = λ x. known_both (f x) (g x) (a.known x) i;
  is_genvar = λ x. pass_both (f x) (g x) (a.is_genvar x) i;
}

pub noted_both : (f g : Text → Bool) (a : Around) → genvar_noted g (genvar_noted f a) ≡ genvar_noted (λ x. f x || g x) a
noted_both f g a = λ i. record { known = a.known; is_genvar = λ x. note_both (f x) (g x) (a.is_genvar x) i }

pub passed_both : (f g : Text → Bool) (a : Around) → passed g (passed f a) ≡ passed (λ x. f x || g x) a
passed_both f g a = λ i. record { known = a.known; is_genvar = λ x. pass_both (f x) (g x) (a.is_genvar x) i }

-- ---- what was noted, and what is left

-- the names of one element and of those behind it
abbrev Splits : (Text → Bool) → (Text → Bool) → (Text → Bool) → Type 0
Splits all f rest = all ≡ (λ x. f x || rest x)

pub hidden_on : (was now : Frames) (f rest left : Text → Bool) (all : Around) → Splits left f rest
    → Becomes was now (hidden f (around was)) → hidden left (around was) ≡ all → hidden rest (around now) ≡ all
hidden_on was now f rest left all s b h =
    ap (hidden rest) b.sight ∙ hidden_both f rest (around was) ∙ ap (λ y. hidden y (around was)) (sym s) ∙ h

pub noted_on : (was now : Frames) (f rest left : Text → Bool) (all : Around) → Splits left f rest
    → Becomes was now (genvar_noted f (around was)) → genvar_noted left (around was) ≡ all → genvar_noted rest (around now) ≡ all
noted_on was now f rest left all s b h =
    ap (genvar_noted rest) b.sight ∙ noted_both f rest (around was) ∙ ap (λ y. genvar_noted y (around was)) (sym s) ∙ h

pub passed_on : (was now : Frames) (f rest left : Text → Bool) (all : Around) → Splits left f rest
    → Becomes was now (passed f (around was)) → passed left (around was) ≡ all → passed rest (around now) ≡ all
passed_on was now f rest left all s b h =
    ap (passed rest) b.sight ∙ passed_both f rest (around was) ∙ ap (λ y. passed y (around was)) (sym s) ∙ h

-- names of one list after another
pub or_on : (a b c : Bool) → ((a || b) || c) ≡ (a || (b || c))
or_on true b c = refl
or_on false b c = refl

pub any_joined : (x : Text) (ns ms : List t.Name) → is_any_name x (ns ++ ms) ≡ (is_any_name x ns || is_any_name x ms)
any_joined x [] ms = refl
any_joined x (n ∷ ns) ms = ap (λ b. bytes_eq n.text x || b) (any_joined x ns ms) ∙ sym (or_on (bytes_eq n.text x) (is_any_name x ns) (is_any_name x ms))

-- nothing is left
pub hidden_end : (now : Frames) (left : Text → Bool) (all : Around) → left ≡ (λ x. false) → hidden left (around now) ≡ all → around now ≡ all
hidden_end now left all e h = ap (λ f. hidden f (around now)) (sym e) ∙ h

pub noted_end : (now : Frames) (left : Text → Bool) (all : Around) → left ≡ (λ x. false) → genvar_noted left (around now) ≡ all → around now ≡ all
noted_end now left all e h = ap (λ f. genvar_noted f (around now)) (sym e) ∙ h

pub passed_end : (now : Frames) (left : Text → Bool) (all : Around) → left ≡ (λ x. false) → passed left (around now) ≡ all → around now ≡ all
passed_end now left all e h = ap (λ f. passed f (around now)) (sym e) ∙ h
