-- Steps added to runs.
use Rattle.std.proofs.Common.{◌≡◌, Bool, true, false, List, [], ◌∷◌, ◌++◌, sym, ap, ◌∙◌, append-nil, append_assoc}
use Rattle.step_program.specs.Running.{Grown, run_steps, all_steps}
use Rattle.step_program.specs.declared.runs.Run.{Run}
use Rattle.step_program.specs.declared.step.Step.{Step}

all_last : (runs : List Run) (r : Run) → all_steps (runs ++ r ∷ []) ≡ all_steps runs ++ run_steps r
all_last [] r = append-nil (run_steps r)
all_last (x ∷ xs) r =
    ap (λ s. run_steps x ++ s) (all_last xs r) ∙ sym (append_assoc (run_steps x) (all_steps xs) (run_steps r))

grown_true : (b : Bool) (old new : List Step) (s : Step) → b ≡ true → Grown b old s new → new ≡ old ++ s ∷ []
grown_true true old new s e h = h
grown_true false old new s e h = absurd cc

grown_false : (b : Bool) (old new : List Step) (s : Step) → b ≡ false → Grown b old s new → new ≡ old
grown_false true old new s e h = absurd cc
grown_false false old new s e h = h

-- to the last run
pub added_in : (runs now : List Run) (last grown : Run) (s : Step) (b : Bool) → now ≡ runs ++ grown ∷ [] → b ≡ true
    → Grown b (run_steps last) s (run_steps grown) → all_steps now ≡ all_steps runs ++ (run_steps last ++ s ∷ [])
added_in runs now last grown s b e is h =
    ap all_steps e ∙ all_last runs grown
    ∙ ap (λ x. all_steps runs ++ x) (grown_true b (run_steps last) (run_steps grown) s is h)

-- after it, in a run of its own
pub added_after : (runs before now : List Run) (last grown own : Run) (s : Step) (b : Bool) → now ≡ before ++ own ∷ []
    → before ≡ runs ++ grown ∷ [] → b ≡ false → Grown b (run_steps last) s (run_steps grown) → run_steps own ≡ s ∷ []
    → all_steps now ≡ all_steps runs ++ (run_steps last ++ s ∷ [])
added_after runs before now last grown own s b e f is h alone =
    ap all_steps e ∙ all_last before own ∙ ap (λ x. all_steps x ++ run_steps own) f
    ∙ ap (λ x. x ++ run_steps own) (all_last runs grown)
    ∙ ap (λ x. all_steps runs ++ x ++ run_steps own) (grown_false b (run_steps last) (run_steps grown) s is h)
    ∙ ap (λ x. all_steps runs ++ run_steps last ++ x) alone ∙ append_assoc (all_steps runs) (run_steps last) (s ∷ [])

-- where the last run was taken off
pub added_last : (old rest : List Run) (last : Run) (s : Step) → old ≡ rest ++ last ∷ []
    → all_steps rest ++ (run_steps last ++ s ∷ []) ≡ all_steps old ++ s ∷ []
added_last old rest last s e =
    sym (append_assoc (all_steps rest) (run_steps last) (s ∷ [])) ∙ ap (λ x. x ++ s ∷ []) (sym (ap all_steps e ∙ all_last rest last))
