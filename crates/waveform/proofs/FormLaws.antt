-- The lines of a cycle need of a variable its width, and whether it is a clock's name.
use Rattle.std.proofs.Common.{◌≡◌, ℕ, ◌+◌, ◌<◌, ◌≤◌, Bool, List, [], ◌∷◌, ◌++◌, length, take, drop, map, get_or, refl, sym, ap, subst, ◌∙◌, arith, ◌*◌}
use Rattle.std.specs.Prelude.{if◌then◌else◌, ◌==◌, ◌||◌}
use Rattle.std.specs.List.{All}
use Rattle.std.proofs.lemmas.List.{map-append, take_more, take_all, get_or_read}
use Rattle.std.proofs.lemmas.List.Elements.{All-push}
use Rattle.dt_core.specs.declared.limits.TheConstants.{MAX_WIDTH}
use Rattle.netlist.specs.Design.{Flat}
use Rattle.netlist.specs.Fits.{IsWellFormed}
use Rattle.netlist.specs.declared.design.Signal.{Signal}
use Rattle.design_names.specs.Variables.{Variable, Scope, variables_of}
use Rattle.design_names.specs.Shown.{flat_scope, flat_order, variable_at, variable_of, no_signal}
use Rattle.design_names.specs.Named.{Named, names_of}
use Rattle.design_names.specs.Outline.{EntryFits}
use Rattle.design_names.proofs.ShownLaws.{all_shown, order_there, outline_fits}
use Rattle.waveform.specs.Vcd.{Line, time, value, dumpvars, end, lines_text, all_values, changes, edges, has_clock, rise, risen, first_lines, later_lines}
use Rattle.waveform.specs.Cycle.{cycle_lines, unnamed, plain_variable, form_variable, WidthsFit}
use Rattle.waveform.specs.Writer.{Holds}
use Rattle.waveform.specs.declared.form.Form.{Form}
use Rattle.waveform.specs.declared.progress.Progress.{Progress}
use Rattle.waveform.specs.declared.progress.Progress.TheVariants as progress

-- ---- no names are needed

all_unnamed : (n : ℕ) (xs : List Variable) (vs : List ℕ) → all_values n (map unnamed xs) vs ≡ all_values n xs vs
all_unnamed n [] vs = refl
all_unnamed n (x ∷ xs) [] = refl
all_unnamed n (x ∷ xs) (v ∷ vs) = ap (λ (ls : List Line). value x.width n v ∷ ls) (all_unnamed (n + 1) xs vs)

changes_unnamed : (n : ℕ) (xs : List Variable) (olds vs : List ℕ) → changes n (map unnamed xs) olds vs ≡ changes n xs olds vs
changes_unnamed n [] olds vs = refl
changes_unnamed n (x ∷ xs) [] vs = refl
changes_unnamed n (x ∷ xs) (old ∷ olds) [] = refl
changes_unnamed n (x ∷ xs) (old ∷ olds) (v ∷ vs) =
    ap (λ (ls : List Line). if old == v then ls else value x.width n v ∷ ls) (changes_unnamed (n + 1) xs olds vs)

edges_unnamed : (n : ℕ) (xs : List Variable) → edges n (map unnamed xs) ≡ edges n xs
edges_unnamed n [] = refl
edges_unnamed n (x ∷ xs) = ap (λ (ls : List Line). if x.clock then value x.width n 1 ∷ ls else ls) (edges_unnamed (n + 1) xs)

clock_unnamed : (xs : List Variable) → has_clock (map unnamed xs) ≡ has_clock xs
clock_unnamed [] = refl
clock_unnamed (x ∷ xs) = ap (λ (b : Bool). x.clock || b) (clock_unnamed xs)

risen_unnamed : (xs : List Variable) (vs : List ℕ) → risen (map unnamed xs) vs ≡ risen xs vs
risen_unnamed [] vs = refl
risen_unnamed (x ∷ xs) [] = refl
risen_unnamed (x ∷ xs) (v ∷ vs) = ap (λ (ws : List ℕ). (if x.clock then 1 else v) ∷ ws) (risen_unnamed xs vs)

rise_unnamed : (xs : List Variable) (cycle : ℕ) → rise (map unnamed xs) cycle ≡ rise xs cycle
rise_unnamed xs cycle =
    ap (λ (b : Bool). if b then time (2 * cycle + 1) ∷ edges 0 (map unnamed xs) else []) (clock_unnamed xs)
    ∙ ap (λ (ls : List Line). if has_clock xs then time (2 * cycle + 1) ∷ ls else []) (edges_unnamed 0 xs)

first_unnamed : (xs : List Variable) (cycle : ℕ) (vs : List ℕ) → first_lines (map unnamed xs) cycle vs ≡ first_lines xs cycle vs
first_unnamed xs cycle vs =
    ap (λ (ls : List Line). time (2 * cycle) ∷ dumpvars ∷ (ls ++ (end ∷ rise (map unnamed xs) cycle))) (all_unnamed 0 xs vs)
    ∙ ap (λ (ls : List Line). time (2 * cycle) ∷ dumpvars ∷ (all_values 0 xs vs ++ (end ∷ ls))) (rise_unnamed xs cycle)

later_unnamed : (xs : List Variable) (cycle : ℕ) (last vs : List ℕ)
    → later_lines (map unnamed xs) cycle last vs ≡ later_lines xs cycle last vs
later_unnamed xs cycle last vs =
    ap (λ (ws : List ℕ). time (2 * cycle) ∷ (changes 0 (map unnamed xs) ws vs ++ rise (map unnamed xs) cycle)) (risen_unnamed xs last)
    ∙ ap (λ (ls : List Line). time (2 * cycle) ∷ (ls ++ rise (map unnamed xs) cycle)) (changes_unnamed 0 xs (risen xs last) vs)
    ∙ ap (λ (ls : List Line). time (2 * cycle) ∷ (changes 0 xs (risen xs last) vs ++ ls)) (rise_unnamed xs cycle)

lines_unnamed : (p : Progress) (xs : List Variable) (cycle : ℕ) (last vs : List ℕ)
    → cycle_lines p (map unnamed xs) cycle last vs ≡ cycle_lines p xs cycle last vs
lines_unnamed progress.Nothing xs cycle last vs = first_unnamed xs cycle vs
lines_unnamed progress.Header xs cycle last vs = first_unnamed xs cycle vs
lines_unnamed progress.Cycles xs cycle last vs = later_unnamed xs cycle last vs

map_twice : (f : Flat) (ks : List ℕ) → map (plain_variable f.signals) ks ≡ map unnamed (map (variable_at f) ks)
map_twice f [] = refl
map_twice f (k ∷ ks) = ap (λ (xs : List Variable). unnamed (variable_at f k) ∷ xs) (map_twice f ks)

-- ---- what was pushed are the lines of the design's variables

pub lines_are : (f : Flat) (text start : List ℕ) (p q : Progress) (forms : List Form) (n : ℕ) (last kept values : List ℕ)
    → text ≡ start ++ lines_text (cycle_lines p (map form_variable forms) n last values) → start ≡ [] → p ≡ q → last ≡ kept
    → map form_variable forms ≡ map (plain_variable f.signals) (flat_order f)
    → text ≡ lines_text (cycle_lines q (variables_of (flat_scope f)) n kept values)
lines_are f text start p q forms n last kept values e none same old formed =
    e ∙ ap (λ (s : List ℕ). s ++ lines_text (cycle_lines p (map form_variable forms) n last values)) none
    ∙ ap (λ (x : Progress). lines_text (cycle_lines x (map form_variable forms) n last values)) same
    ∙ ap (λ (x : List ℕ). lines_text (cycle_lines q (map form_variable forms) n x values)) old
    ∙ ap (λ (x : List Variable). lines_text (cycle_lines q x n kept values))
    (formed ∙ map_twice f (flat_order f) ∙ sym (ap (map unnamed) (all_shown f)))
    ∙ ap lines_text (lines_unnamed q (variables_of (flat_scope f)) n kept values)

-- ---- forms, one after another

pub record Formed (ss : List Signal) (shown : List ℕ) (forms : List Form) (n : ℕ) : Type 0 where
  pub formed : map form_variable forms ≡ map (plain_variable ss) (take n shown)
  pub widths : WidthsFit forms

pub formed_none : (ss : List Signal) (shown : List ℕ) (forms : List Form) → forms ≡ [] → Formed ss shown forms 0
formed_none ss shown forms e = record {
  formed = ap (λ (xs : List Form). map form_variable xs) e;
  widths = subst WidthsFit (sym e) (λ i d h. absurd (omega arith));
}

pub formed_more : (ss : List Signal) (shown : List ℕ) (forms now : List Form) (n : ℕ) (x : Form) → n < length shown
    → now ≡ forms ++ x ∷ [] → form_variable x ≡ plain_variable ss (get_or shown n 0) → x.width ≤ MAX_WIDTH
    → Formed ss shown forms n → Formed ss shown now (n + 1)
formed_more ss shown forms now n x less pushed form width here = record {
  formed = ap (λ (xs : List Form). map form_variable xs) pushed ∙ map-append form_variable forms (x ∷ [])
      ∙ ap (λ (vs : List Variable). vs ++ form_variable x ∷ []) here.formed
      ∙ ap (λ (v : Variable). map (plain_variable ss) (take n shown) ++ v ∷ []) form
      ∙ sym (map-append (plain_variable ss) (take n shown) (get_or shown n 0 ∷ []))
      ∙ ap (λ (ks : List ℕ). map (plain_variable ss) ks) (sym (take_more shown n 0 less));
  widths = subst WidthsFit (sym pushed) (All-push (λ (y : Form). y.width ≤ MAX_WIDTH) forms x here.widths width);
}

-- the form of a signal as it is read
pub formed_read : (ss : List Signal) (shown : List ℕ) (forms now : List Form) (n : ℕ) (s : Signal) (x : Form) → n < length shown
    → All (λ k. k < length ss) shown → All (λ (y : Signal). y.width ≤ MAX_WIDTH) ss → s ≡ get_or ss (get_or shown n 0) s
    → form_variable x ≡ unnamed (variable_of s) → x.width ≡ s.width → now ≡ forms ++ x ∷ []
    → Formed ss shown forms n → Formed ss shown now (n + 1)
formed_read ss shown forms now n s x less there widths is form width pushed here =
    let k : ℕ = get_or shown n 0 in
    let low : k < length ss = there n 0 less in
    let read : s ≡ get_or ss k no_signal = get_or_read ss k s low is no_signal in
    let fits : (get_or ss k s).width ≤ MAX_WIDTH = widths k s low in
    let same : s.width ≡ (get_or ss k s).width = ap (λ (y : Signal). y.width) is in
    formed_more ss shown forms now n x less pushed (form ∙ ap (λ (y : Signal). unnamed (variable_of y)) read)
    (omega (arith, width, same, fits)) here

pub formed_all : (ss : List Signal) (shown : List ℕ) (forms : List Form) (n : ℕ) → length shown ≤ n → Formed ss shown forms n
    → map form_variable forms ≡ map (plain_variable ss) shown
formed_all ss shown forms n all here =
    here.formed ∙ ap (λ (ks : List ℕ). map (plain_variable ss) ks) (take_all n shown all)

-- ---- a writer's names and forms

pub shown_there : (f : Flat) (ss : List Signal) (names : Named) (xs : List ℕ) → ss ≡ f.signals → names ≡ names_of f → xs ≡ names.shown
    → All (λ k. k < length ss) xs
shown_there f ss names xs same e is =
    subst (λ (s : List Signal). All (λ k. k < length s) xs) (sym same)
    (subst (All (λ k. k < length f.signals)) (sym (is ∙ ap (λ (n : Named). n.shown) e)) (order_there f))

pub widths_fit : (f : Flat) (ss : List Signal) → IsWellFormed f → ss ≡ f.signals → All (λ (s : Signal). s.width ≤ MAX_WIDTH) ss
widths_fit f ss w same =
    subst (All (λ (s : Signal). s.width ≤ MAX_WIDTH)) (sym same) (λ k d h. (w.signals.each k d h).1.1)

pub holds_new : (f : Flat) (ss : List Signal) (names : Named) (forms : List Form) (last xs : List ℕ) → IsWellFormed f → ss ≡ f.signals
    → names ≡ names_of f → xs ≡ names.shown → map form_variable forms ≡ map (plain_variable ss) xs → WidthsFit forms
    → length last ≡ length forms → Holds f names forms last
holds_new f ss names forms last xs w same e is formed widths room = record {
  named = e;
  there = subst (λ (n : Named). All (EntryFits f) n.outline) (sym e) (outline_fits f w);
  formed = formed ∙ ap (λ (s : List Signal). map (plain_variable s) xs) same
      ∙ ap (map (plain_variable f.signals)) (is ∙ ap (λ (n : Named). n.shown) e);
  widths = widths;
  room = room;
}
