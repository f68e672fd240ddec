-- The file words at the end of a line.
use Rattle.std.proofs.Common.{◌≡◌, ℕ, suc, ◌+◌, ◌≤◌, List, [], ◌∷◌, ◌++◌, length, Bool, true, false, refl, ap, ◌∙◌, arith}
use Rattle.std.specs.Prelude.{not, ◌&&◌, nat_lt}
use Rattle.std.proofs.lemmas.Bool.{false≢true, lt-ltb, le-ltb, ltb-true, and_parts}
use Rattle.dt_core.specs.declared.limits.TheConstants.{MAX_FILES}
use Rattle.talk.specs.Words.{Word, AllFiles, is_file_word}
use Rattle.talk.specs.Reading.{files_from}

-- no more are counted where there are as many as there may be
pub files_full : (n : ℕ) (ws : List Word) → MAX_FILES ≤ n → files_from n ws ≡ n
files_full n [] l = refl
files_full n (w ∷ ws) l = rw (le-ltb n MAX_FILES l) refl

-- file words are counted, and then what follows
pub files_count : (n : ℕ) (fs ws : List Word) → AllFiles fs → n + length fs ≤ MAX_FILES → files_from n (fs ++ ws) ≡ files_from (n + length fs) ws
files_count n [] ws f l = ap (λ m. files_from m ws) (omega arith)
files_count n (w ∷ fs) ws f l =
    let b : nat_lt n MAX_FILES ≡ true = lt-ltb n MAX_FILES (omega (arith, l)) in
    let step : files_from n (w ∷ (fs ++ ws)) ≡ files_from (n + 1) (fs ++ ws) = rw b (rw f.0 refl) in
    step ∙ files_count (n + 1) fs ws f.1 (omega (arith, l)) ∙ ap (λ m. files_from m ws) (omega arith)

-- where the count ends
abbrev pub files_end : ℕ → List Word → Bool
files_end n [] = true
files_end n (w ∷ ws) = not (nat_lt n MAX_FILES && is_file_word w)

-- words as the file words at their head, and the rest
pub record Files (n : ℕ) (ws : List Word) : Type 0 where
  pub files : List Word
  pub rest : List Word
  pub words_are : ws ≡ files ++ rest
  pub all : AllFiles files
  pub few : n + length files ≤ MAX_FILES
  pub ends : files_end (n + length files) rest ≡ true

no_files : (n : ℕ) (ws : List Word) → n ≤ MAX_FILES → files_end n ws ≡ true → Files n ws
no_files n ws l e = record {
  files = [];
  rest = ws;
  words_are = refl;
  all = tt;
  few = omega (arith, l);
  ends = ap (λ m. files_end m ws) (let z : n + 0 ≡ n = omega arith in z) ∙ e;
}

next_files : (n : ℕ) (w : Word) (ws : List Word) (b : Bool) → (nat_lt n MAX_FILES && is_file_word w) ≡ b → n ≤ MAX_FILES → (n + 1 ≤ MAX_FILES → Files (n + 1) ws) → Files n (w ∷ ws)
next_files n w ws false e l next = no_files n (w ∷ ws) l (ap not e)
next_files n w ws true e l next =
    let p = and_parts (nat_lt n MAX_FILES) (is_file_word w) e in
    let below = ltb-true n MAX_FILES p.0 in
    let f = next (omega (arith, below)) in
    record {
      files = w ∷ f.files;
      rest = f.rest;
      words_are = ap (λ x. w ∷ x) f.words_are;
      all = (p.1, f.all);
      few = omega (arith, f.few);
      ends = ap (λ m. files_end m f.rest) (let z : n + suc (length f.files) ≡ n + 1 + length f.files = omega arith in z) ∙ f.ends;
    }

pub files_of_words : (n : ℕ) (ws : List Word) → n ≤ MAX_FILES → Files n ws
files_of_words n [] l = no_files n [] l refl
files_of_words n (w ∷ ws) l = next_files n w ws (nat_lt n MAX_FILES && is_file_word w) refl l (λ m. files_of_words (n + 1) ws m)

stay : (b : Bool) (n : ℕ) (w : Word) (ws : List Word) → (nat_lt n MAX_FILES && is_file_word w) ≡ b → not b ≡ true → files_from n (w ∷ ws) ≡ n
stay true n w ws e f = absurd (false≢true f)
stay false n w ws e f = rw e refl

-- the count stays where the files end
pub files_stay : (n : ℕ) (w : Word) (ws : List Word) → files_end n (w ∷ ws) ≡ true → files_from n (w ∷ ws) ≡ n
files_stay n w ws e = stay (nat_lt n MAX_FILES && is_file_word w) n w ws refl e
