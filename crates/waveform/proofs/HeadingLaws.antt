-- The lines of a design's outline are the text of its tree of scopes.
use Rattle.std.proofs.Common.{◌≡◌, ℕ, suc, ◌+◌, ◌<◌, ◌≤◌, List, [], ◌∷◌, ◌++◌, length, drop, map, get_or, codes, refl, sym, ap, subst, ◌∙◌, arith, append_assoc, append-nil, length-append}
use Rattle.std.specs.List.{All}
use Rattle.std.proofs.lemmas.List.{length-map, drop_more}
use Rattle.netlist.specs.Design.{Flat}
use Rattle.netlist.specs.Fits.{IsWellFormed}
use Rattle.design_names.specs.Variables.{Variable, Scope, variables_of, variables_below}
use Rattle.design_names.specs.Tree.{Branch, branch, Branches, no_branches, next_branch, flat_tree, signals_in}
use Rattle.design_names.specs.Shown.{named, all_named, is_instance, scope_at, variable_at, flat_scope}
use Rattle.design_names.specs.Outline.{outline, outlines, flat_outline}
use Rattle.design_names.specs.declared.outline.Entry.{Entry}
use Rattle.design_names.specs.declared.outline.Entry.TheVariants as entry
use Rattle.waveform.specs.Vcd.{scope_word, variable_line, variable_lines, scope_text, scopes_text}
use Rattle.waveform.specs.Heading.{entry_text, number_after, entries_text}

-- the signals of a scope
signals_first : (f : Flat) (n : ℕ) (ks : List ℕ) (rest : List Entry)
    → entries_text f n (map entry.Signal ks ++ rest)
    ≡ variable_lines n (map (variable_at f) ks) ++ entries_text f (n + length ks) rest
signals_first f n [] rest = let e : n ≡ n + 0 = omega arith in ap (λ (m : ℕ). entries_text f m rest) e
signals_first f n (k ∷ ks) rest =
    let e : n + 1 + length ks ≡ n + suc (length ks) = omega arith in
    ap (λ (xs : List ℕ). variable_line n (variable_at f k) ++ xs) (signals_first f (n + 1) ks rest)
    ∙ sym (append_assoc (variable_line n (variable_at f k)) (variable_lines (n + 1) (map (variable_at f) ks))
    (entries_text f (n + 1 + length ks) rest))
    ∙ ap (λ (m : ℕ). variable_lines n (map (variable_at f) (k ∷ ks)) ++ entries_text f m rest) e

regroup : (w x e v s u r : List ℕ) → (w ++ (x ++ e)) ++ (v ++ (s ++ (u ++ r))) ≡ (w ++ (x ++ (e ++ (v ++ (s ++ u))))) ++ r
regroup w x e v s u r = simp append_assoc

inside : (a b c d : List Entry) → (a ++ (b ++ c)) ++ d ≡ a ++ (b ++ (c ++ d))
inside a b c d = simp append_assoc

mutual
  scope_first : (f : Flat) (n : ℕ) (b : Branch) (rest : List Entry)
      → entries_text f n (outline f b ++ rest)
      ≡ scope_text n (named f b) ++ entries_text f (n + length (variables_of (named f b))) rest
  scope_first f n (branch k below) rest =
      let ks : List ℕ = signals_in f k in
      let vs : List Variable = map (variable_at f) ks in
      let w : List ℕ = scope_word (is_instance (scope_at f k).kind) in
      let x : List ℕ = (scope_at f k).name in
      let e : List ℕ = codes " $end\n" in
      let u : List ℕ = codes "$upscope $end\n" in
      let more : ℕ = length (variables_below (all_named f below)) in
      let own : length ks ≡ length vs = sym (length-map ks (variable_at f)) in
      let count : n + length vs + more ≡ n + length (vs ++ variables_below (all_named f below)) =
      omega (arith, length-append vs (variables_below (all_named f below))) in
      ap (λ (xs : List Entry). (w ++ (x ++ e)) ++ entries_text f n xs)
      (inside (map entry.Signal ks) (outlines f below) (entry.End ∷ []) rest)
      ∙ ap (λ (xs : List ℕ). (w ++ (x ++ e)) ++ xs) (signals_first f n ks (outlines f below ++ (entry.End ∷ rest)))
      ∙ ap (λ (m : ℕ). (w ++ (x ++ e)) ++ (variable_lines n vs ++ entries_text f (n + m) (outlines f below ++ (entry.End ∷ rest)))) own
      ∙ ap (λ (xs : List ℕ). (w ++ (x ++ e)) ++ (variable_lines n vs ++ xs)) (scopes_first f (n + length vs) below (entry.End ∷ rest))
      ∙ ap (λ (m : ℕ). (w ++ (x ++ e)) ++ (variable_lines n vs ++ (scopes_text (n + length vs) (all_named f below)
      ++ (u ++ entries_text f m rest)))) count
      ∙ regroup w x e (variable_lines n vs) (scopes_text (n + length vs) (all_named f below)) u
      (entries_text f (n + length (vs ++ variables_below (all_named f below))) rest)

  scopes_first : (f : Flat) (n : ℕ) (bs : Branches) (rest : List Entry)
      → entries_text f n (outlines f bs ++ rest)
      ≡ scopes_text n (all_named f bs) ++ entries_text f (n + length (variables_below (all_named f bs))) rest
  scopes_first f n no_branches rest = let e : n ≡ n + 0 = omega arith in ap (λ (m : ℕ). entries_text f m rest) e
  scopes_first f n (next_branch b bs) rest =
      let here : ℕ = length (variables_of (named f b)) in
      let count : n + here + length (variables_below (all_named f bs))
      ≡ n + length (variables_of (named f b) ++ variables_below (all_named f bs)) =
      omega (arith, length-append (variables_of (named f b)) (variables_below (all_named f bs))) in
      ap (λ (xs : List Entry). entries_text f n xs) (append_assoc (outline f b) (outlines f bs) rest)
      ∙ scope_first f n b (outlines f bs ++ rest)
      ∙ ap (λ (xs : List ℕ). scope_text n (named f b) ++ xs) (scopes_first f (n + here) bs rest)
      ∙ sym (append_assoc (scope_text n (named f b)) (scopes_text (n + here) (all_named f bs))
      (entries_text f (n + here + length (variables_below (all_named f bs))) rest))
      ∙ ap (λ (m : ℕ). (scope_text n (named f b) ++ scopes_text (n + here) (all_named f bs)) ++ entries_text f m rest) count

pub outline_text : (f : Flat) → entries_text f 0 (flat_outline f) ≡ scope_text 0 (flat_scope f)
outline_text f =
    ap (λ (xs : List Entry). entries_text f 0 xs) (sym (append-nil (flat_outline f)))
    ∙ scope_first f 0 (flat_tree f) [] ∙ append-nil (scope_text 0 (flat_scope f))

-- ---- entries, one after another

-- what was pushed, and the lines of what is left; no more variables than entries
pub record Headed (f : Flat) (old text : List ℕ) (outline : List Entry) (k n : ℕ) : Type 0 where
  pub few : n ≤ k
  pub whole : text ++ entries_text f n (drop k outline) ≡ old ++ entries_text f 0 outline

after_few : (n : ℕ) (x : Entry) → number_after n x ≤ n + 1
after_few n (entry.Scope k) = omega arith
after_few n (entry.Signal k) = omega arith
after_few n entry.End = omega arith

pub headed_more : (f : Flat) (old text now : List ℕ) (outline : List Entry) (k n next : ℕ) (x : Entry) → k < length outline
    → x ≡ get_or outline k x → now ≡ text ++ entry_text f n x → next ≡ number_after n x → Headed f old text outline k n
    → Headed f old now outline (k + 1) next
headed_more f old text now outline k n next x less is pushed number here = record {
  few = omega (arith, number, after_few n x, here.few);
  whole = ap (λ (t : List ℕ). t ++ entries_text f next (drop (k + 1) outline)) pushed
      ∙ ap (λ (m : ℕ). (text ++ entry_text f n x) ++ entries_text f m (drop (k + 1) outline)) number
      ∙ append_assoc text (entry_text f n x) (entries_text f (number_after n x) (drop (k + 1) outline))
      ∙ ap (λ (xs : List Entry). text ++ entries_text f n xs)
      (sym (drop_more outline k x less ∙ ap (λ (y : Entry). y ∷ drop (k + 1) outline) (sym is)))
      ∙ here.whole;
}
