-- What words ask for is within the limits.
use Rattle.std.proofs.Common.{◌≡◌, ℕ, ◌≤◌, true, List, [], ◌∷◌, length, refl, sym, subst, arith}
use Rattle.std.specs.Prelude.{◌&&◌, nat_le}
use Rattle.std.proofs.lemmas.Bool.{and_parts}
use Rattle.std.proofs.lemmas.Bool.Decides.{nat_tests}
use Rattle.dt_core.specs.declared.limits.TheConstants.{MAX_FILES, MAX_LAG, DEFAULT_LAG}
use Rattle.talk.specs.declared.options.Command.{Command}
use Rattle.talk.specs.declared.options.Command.TheVariants as c
use Rattle.talk.specs.declared.options.Key.TheVariants as k
use Rattle.talk.specs.Words.{Word, Setting, set_to, values_of, AllFit, is_decimal, decimal_of, is_within, first_number, number_or, chosen, job_by, IsWithinLimits}
use Rattle.talk.specs.Laws.{JobsAreWithinLimits}

-- the first lag of settings that fit is in its range
first_lag : (command : Command) (sets : List Setting) (v : List ℕ) (vs : List (List ℕ)) → AllFit command sets → values_of k.Lag sets ≡ v ∷ vs
    → is_within 0 MAX_LAG v ≡ true
first_lag command [] v vs f e = absurd cc
first_lag command (set_to k.Lag value ∷ sets) v vs f e = let s : value ≡ v = cc in subst (λ x. is_within 0 MAX_LAG x ≡ true) s f.1
first_lag command (set_to k.Top value ∷ sets) v vs f e = first_lag command sets v vs f.2 e

-- so is the lag, set or not
lag_within : (values : List (List ℕ)) → ((v : List ℕ) (vs : List (List ℕ)) → values ≡ v ∷ vs → is_within 0 MAX_LAG v ≡ true)
    → number_or DEFAULT_LAG (first_number values) ≤ MAX_LAG
lag_within [] h = omega arith
lag_within (v ∷ vs) h =
    let p = and_parts (is_decimal v) (nat_le 0 (decimal_of v) && nat_le (decimal_of v) MAX_LAG) (h v vs refl) in
    let q = and_parts (nat_le 0 (decimal_of v)) (nat_le (decimal_of v) MAX_LAG) p.1 in
    grind (arith, nat_tests, q.1)

line_within : (command : Command) (sets : List Setting) (files : List Word) → AllFit command sets → 1 ≤ length files → length files ≤ MAX_FILES
    → IsWithinLimits (job_by command (chosen sets) files)
line_within c.Sim sets files f some few = (lag_within (values_of k.Lag sets) (λ v vs e. first_lag c.Sim sets v vs f e), some, few)

pub jobs_are_within : JobsAreWithinLimits
jobs_are_within words job a =
    subst IsWithinLimits (sym a.job_is) (line_within a.line.command a.line.settings a.line.files a.allowed.fits a.allowed.some a.allowed.few)
