-- The text of a window, one cycle longer, and what is said of it where it was written.
use Rattle.std.proofs.Common.{◌≡◌, ℕ, suc, ◌+◌, ◌≤◌, List, [], ◌∷◌, ◌++◌, length, refl, sym, ap, subst, ◌∙◌, append-nil, append_assoc, arith}
use Rattle.std.specs.Prelude.{Option, Some, None, Result, Ok, Err}
use Rattle.std.specs.Io.KnownBytes.{Appends, Keeps}
use Rattle.dt_core.specs.Causes.{Rose, AppendsPart}
use Rattle.design_names.specs.Variables.{Variable, Scope, variables_of}
use Rattle.waveform.specs.Vcd.{Line, header_text, lines_text, first_lines, later_lines, later, window_lines, vcd_text}
use Rattle.waveform.specs.Writer.{last_of, IsAfter}
use Rattle.waveform.specs.Writes.{WritesText, WritesCycle}
use Rattle.waveform.specs.Cycle.{cycle_lines}
use Rattle.waveform.specs.declared.progress.Progress.{Progress}
use Rattle.waveform.specs.declared.progress.Progress.TheVariants as progress
use Rattle.waveform.specs.declared.fault.VcdFault.{VcdFault}
use Rattle.waveform.specs.declared.fault.VcdFault.TheVariants as fault
use Rattle.waveform.proofs.Pushes.{lines_text-append}

-- ---- one cycle more

later_grows : (variables : List Variable) (cycle : ℕ) (last vs : List ℕ) (cycles : List (List ℕ))
    → later variables cycle last (cycles ++ vs ∷ []) ≡ later variables cycle last cycles ++ later_lines variables (cycle + length cycles) (last_of last cycles) vs
later_grows variables cycle last vs [] =
    let none : cycle ≡ cycle + 0 = omega arith in
    append-nil (later_lines variables cycle last vs) ∙ ap (λ (n : ℕ). later_lines variables n last vs) none
later_grows variables cycle last vs (ws ∷ cycles) =
    let one : cycle + 1 + length cycles ≡ cycle + suc (length cycles) = omega arith in
    ap (λ (ls : List Line). later_lines variables cycle last ws ++ ls) (later_grows variables (cycle + 1) ws vs cycles)
    ∙ sym (append_assoc (later_lines variables cycle last ws) (later variables (cycle + 1) ws cycles) (later_lines variables (cycle + 1 + length cycles) (last_of ws cycles) vs))
    ∙ ap (λ (n : ℕ). (later_lines variables cycle last ws ++ later variables (cycle + 1) ws cycles) ++ later_lines variables n (last_of ws cycles) vs) one

window_grows : (p : Progress) (last : List ℕ) (variables : List Variable) (first cycle : ℕ) (cycles : List (List ℕ)) (vs : List ℕ) → IsAfter p last cycles → cycle ≡ first + length cycles
    → window_lines variables first (cycles ++ vs ∷ []) ≡ window_lines variables first cycles ++ cycle_lines p variables cycle last vs
window_grows p last variables first cycle [] vs h e =
    let none : first ≡ cycle = omega arith in
    append-nil (first_lines variables first vs) ∙ ap (λ (n : ℕ). first_lines variables n vs) none
    ∙ ap (λ (q : Progress). cycle_lines q variables cycle last vs) (sym h)
window_grows p last variables first cycle (ws ∷ cycles) vs h e =
    let one : first + 1 + length cycles ≡ cycle = omega arith in
    ap (λ (ls : List Line). first_lines variables first ws ++ ls) (later_grows variables (first + 1) ws vs cycles)
    ∙ sym (append_assoc (first_lines variables first ws) (later variables (first + 1) ws cycles) (later_lines variables (first + 1 + length cycles) (last_of ws cycles) vs))
    ∙ ap (λ (n : ℕ). window_lines variables first (ws ∷ cycles) ++ later_lines variables n (last_of ws cycles) vs) one
    ∙ ap (λ (xs : List ℕ). window_lines variables first (ws ∷ cycles) ++ later_lines variables cycle xs vs) (sym h.1)
    ∙ ap (λ (q : Progress). window_lines variables first (ws ∷ cycles) ++ cycle_lines q variables cycle last vs) (sym h.0)

pub text_grows : (p : Progress) (last : List ℕ) (top : Scope) (first cycle : ℕ) (cycles : List (List ℕ)) (vs : List ℕ) → IsAfter p last cycles → cycle ≡ first + length cycles
    → vcd_text top first (cycles ++ vs ∷ []) ≡ vcd_text top first cycles ++ lines_text (cycle_lines p (variables_of top) cycle last vs)
text_grows p last top first cycle cycles vs h e =
    ap (λ (ls : List Line). header_text top ++ lines_text ls) (window_grows p last (variables_of top) first cycle cycles vs h e)
    ∙ ap (λ (xs : List ℕ). header_text top ++ xs) (lines_text-append (window_lines (variables_of top) first cycles) (cycle_lines p (variables_of top) cycle last vs))
    ∙ sym (append_assoc (header_text top) (lines_text (window_lines (variables_of top) first cycles)) (lines_text (cycle_lines p (variables_of top) cycle last vs)))

-- the values of the last cycle are those that the writer keeps
last_more : (ws vs : List ℕ) (cycles : List (List ℕ)) → last_of ws (cycles ++ vs ∷ []) ≡ vs
last_more ws vs [] = refl
last_more ws vs (us ∷ cycles) = last_more us vs cycles

pub written_more : (p : Progress) (last : List ℕ) (cycles : List (List ℕ)) (vs : List ℕ) → p ≡ progress.Cycles → last ≡ vs
    → IsAfter p last (cycles ++ vs ∷ [])
written_more p last [] vs a b = (a, b)
written_more p last (ws ∷ cycles) vs a b = (a, b ∙ sym (last_more ws vs cycles))

-- ---- what was written

append_none : (held : Option (List ℕ)) → Appends held held []
append_none None = tt
append_none (Some xs) = sym (append-nil xs)

keep_all : (held : Option (List ℕ)) → Keeps held held
keep_all None = tt
keep_all (Some xs) = refl

-- nothing was written, out of memory
pub none_written : (held : Option (List ℕ)) (faults : ℕ) (text : List ℕ) → WritesText held held faults faults text (Err fault.Memory)
none_written held faults text = record { whole = tt; kept = tt; part = (0, append_none held); later = omega arith; cause = (keep_all held, refl) }

-- a front was written, and the sink failed
pub part_written : (old new : Option (List ℕ)) (before now : ℕ) (text : List ℕ) → AppendsPart old new text → before ≤ now → Rose before now
    → WritesText old new before now text (Err fault.Write)
part_written old new before now text p l r = record { whole = tt; kept = tt; part = p; later = l; cause = r }

-- all was written
pub all_written : (old new : Option (List ℕ)) (before now : ℕ) (text : List ℕ) → Appends old new text → AppendsPart old new text → now ≡ before
    → WritesText old new before now text (Ok tt)
all_written old new before now text w p k = record { whole = w; kept = k; part = p; later = omega (arith, k); cause = tt }

-- the header is the text of a window of no cycle
pub header_written : (top : Scope) (first : ℕ) (old new : Option (List ℕ)) (before now : ℕ) (result : Result (Unit {0}) VcdFault)
    → WritesText old new before now (header_text top) result → WritesText old new before now (vcd_text top first []) result
header_written top first old new before now result h = subst (λ (text : List ℕ). WritesText old new before now text result) (sym (append-nil (header_text top))) h

-- the lines of a cycle are what the text of the window grows by
pub cycle_written : (p : Progress) (last : List ℕ) (top : Scope) (first cycle : ℕ) (cycles : List (List ℕ)) (vs : List ℕ)
    (old new : Option (List ℕ)) (before now : ℕ) (result : Result (Unit {0}) VcdFault) → IsAfter p last cycles
    → cycle ≡ first + length cycles
    → WritesText old new before now (lines_text (cycle_lines p (variables_of top) cycle last vs)) result
    → WritesCycle top first cycles vs old new before now result
cycle_written p last top first cycle cycles vs old new before now result h e t = record {
  piece = lines_text (cycle_lines p (variables_of top) cycle last vs);
  grows = text_grows p last top first cycle cycles vs h e;
  writes = t;
}

-- one cycle more is a piece more, whatever writer there is
pub one_more : (top : Scope) (first : ℕ) (cycles : List (List ℕ)) (vs : List ℕ)
    → (piece : List ℕ) × (vcd_text top first (cycles ++ vs ∷ []) ≡ vcd_text top first cycles ++ piece)
one_more top first [] vs = (
  lines_text (cycle_lines progress.Header (variables_of top) (first + 0) [] vs),
  text_grows progress.Header [] top first (first + 0) [] vs refl refl,
)
one_more top first (ws ∷ cycles) vs = (
  lines_text (cycle_lines progress.Cycles (variables_of top) (first + length (ws ∷ cycles)) (last_of ws cycles) vs),
  text_grows progress.Cycles (last_of ws cycles) top first (first + length (ws ∷ cycles)) (ws ∷ cycles) vs (refl, refl) refl,
)
