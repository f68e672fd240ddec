-- What is read is what the words ask for, or the number of words before the first bad one.
use Rattle.std.proofs.Common.{◌≡◌, ℕ, suc, ◌+◌, ◌<◌, ◌≤◌, List, [], ◌∷◌, ◌++◌, map, length, take, drop, get_or, Bool, true, false, refl, sym, ap, subst, ◌∙◌, arith, inl, inr, append-nil, append_assoc, length-append, take-append-drop}
use Rattle.std.specs.Prelude.{not, ◌==◌, nat_lt, Option, Some, None, is_some, bytes_eq, codes, ◌⊎◌}
use Rattle.std.proofs.Math.Seq.{take-append-add}
use Rattle.std.proofs.lemmas.Bool.{false≢true, le-ltb, lt-ltb, not-true, and_parts, cases_lt, cases_order}
use Rattle.std.proofs.lemmas.List.{drop_at, take_at, take-take, length-map}
use Rattle.std.proofs.lemmas.Slice.Eq.{bytes_eq-Decides}
use Rattle.dt_core.specs.declared.limits.TheConstants.{MAX_FILES}
use Rattle.talk.specs.declared.options.Command.{Command}
use Rattle.talk.specs.declared.options.Command.TheVariants as c
use Rattle.talk.specs.declared.options.Key.{Key}
use Rattle.talk.specs.declared.options.Key.TheVariants as k
use Rattle.talk.specs.Words.{Word, Setting, setting_word, values_of, has_equals, is_file_word, AllFiles, word_of, Line, IsAllowed, Settings, chosen, Job, job_by, Asks, IsLine, Begins, IsFirstBad}
use Rattle.talk.specs.Laws.{OneJob, OneNumber, BadIsNoLine}
use Rattle.talk.specs.Reading.{Read, allowed, bad, read, files_of, files_from, options_from, after_options, after_command, command_of, set, to_files, stopped}
use Rattle.talk.proofs.FileLaws.{files_count, files_stay, files_end, files_of_words}
use Rattle.talk.proofs.OptionLaws.{Follow, options_walk, options_end, options_of_words}

-- ---- commands

command_is : (command : Command) → command_of (word_of command) ≡ Some command
command_is c.Sim = refl

command_by : (w : Word) (b : Bool) → bytes_eq w (codes "sim") ≡ b → (command_of w ≡ None) ⊎ ((command : Command) × (w ≡ word_of command))
command_by w true e = inr (c.Sim, (bytes_eq-Decides w (codes "sim")).0 e)
command_by w false e = inl (rw e refl)

-- ---- what is read of a command, settings and more words

read_sets : (command : Command) (sets : List Setting) (rest : List Word) → Follow command None None sets
    → read (word_of command ∷ (map setting_word sets ++ rest)) ≡ after_options command (map setting_word sets ++ rest) (options_from command (chosen sets) (length sets) rest)
read_sets command sets rest f =
    let ws = map setting_word sets ++ rest in
    let z : 0 + length sets ≡ length sets = omega arith in
    ap (λ o. after_command o ws) (command_is command)
    ∙ ap (after_options command ws) (options_walk command None None 0 sets rest f ∙ ap (λ m. options_from command (chosen sets) m rest) z)

read_files : (command : Command) (sets : List Setting) (w : Word) (more : List Word) → Follow command None None sets → has_equals w ≡ false
    → read (word_of command ∷ (map setting_word sets ++ w ∷ more)) ≡ files_of command (chosen sets) (length sets) (w ∷ more)
read_files command sets w more f h =
    let go : options_from command (chosen sets) (length sets) (w ∷ more) ≡ to_files (chosen sets) (length sets) = rw h refl in
    read_sets command sets (w ∷ more) f ∙ ap (after_options command (map setting_word sets ++ w ∷ more)) go
    ∙ ap (files_of command (chosen sets) (length sets)) (drop_at (map setting_word sets) (w ∷ more) (length sets) (length-map sets setting_word))

-- all words are files
files_all : (command : Command) (s : Settings) (n : ℕ) (files : List Word) → AllFiles files → length files ≤ MAX_FILES → files_of command s n files ≡ allowed (job_by command s files)
files_all command s n files a l =
    let few : 0 + length files ≤ MAX_FILES = omega (arith, l) in
    let z : 0 + length files ≡ length files = omega arith in
    let k : files_from 0 files ≡ length files = ap (files_from 0) (sym (append-nil files)) ∙ files_count 0 files [] a few ∙ z in
    let b : nat_lt (files_from 0 files) (length files) ≡ false = ap (λ m. nat_lt m (length files)) k ∙ le-ltb (length files) (length files) (omega arith) in
    rw b refl

-- a word after some files is none
files_bad : (command : Command) (s : Settings) (n : ℕ) (files : List Word) (v : Word) (more : List Word) → AllFiles files → length files ≤ MAX_FILES
    → files_end (length files) (v ∷ more) ≡ true → files_of command s n (files ++ v ∷ more) ≡ bad (1 + n + length files)
files_bad command s n files v more a l e =
    let few : 0 + length files ≤ MAX_FILES = omega (arith, l) in
    let z : 0 + length files ≡ length files = omega arith in
    let k : files_from 0 (files ++ v ∷ more) ≡ length files =
    files_count 0 files (v ∷ more) a few ∙ ap (λ m. files_from m (v ∷ more)) z ∙ files_stay (length files) v more e in
    let less : length files < length (files ++ v ∷ more) = omega (arith, length-append files (v ∷ more)) in
    let b : nat_lt (files_from 0 (files ++ v ∷ more)) (length (files ++ v ∷ more)) ≡ true =
    ap (λ m. nat_lt m (length (files ++ v ∷ more))) k ∙ lt-ltb (length files) (length (files ++ v ∷ more)) less in
    rw b (ap (λ m. bad (1 + n + m)) k)

file_is : (w : Word) → is_file_word w ≡ true → has_equals w ≡ false
file_is w e = not-true (has_equals w) (and_parts (not (length w == 0)) (not (has_equals w)) e).1

-- a word after settings and files is bad, whatever follows
read_bad_file : (command : Command) (sets : List Setting) (files : List Word) (v : Word) (more : List Word) → Follow command None None sets
    → (length files ≡ 0 → has_equals v ≡ false) → AllFiles files → length files ≤ MAX_FILES → files_end (length files) (v ∷ more) ≡ true
    → read (word_of command ∷ (map setting_word sets ++ (files ++ v ∷ more))) ≡ bad (1 + length sets + length files)
read_bad_file command sets [] v more f h a l e = read_files command sets v more f (h refl) ∙ files_bad command (chosen sets) (length sets) [] v more a l e
read_bad_file command sets (g ∷ files) v more f h a l e =
    read_files command sets g (files ++ v ∷ more) f (file_is g a.0) ∙ files_bad command (chosen sets) (length sets) (g ∷ files) v more a l e

-- ---- an allowed line is read as its job

follow_of : (l : Line) → IsAllowed l → Follow l.command None None l.settings
follow_of l a = record {
  fits = a.fits;
  lags = omega (arith, a.once k.Lag);
  tops = omega (arith, a.once k.Top);
}

read_line : (command : Command) (sets : List Setting) (files : List Word) → Follow command None None sets → AllFiles files → 1 ≤ length files → length files ≤ MAX_FILES
    → read (word_of command ∷ (map setting_word sets ++ files)) ≡ allowed (job_by command (chosen sets) files)
read_line command sets [] f a some few = absurd (omega (arith, some))
read_line command sets (g ∷ files) f a some few =
    read_files command sets g files f (file_is g a.0) ∙ files_all command (chosen sets) (length sets) (g ∷ files) a few

pub asks_read : (words : List Word) (job : Job) → Asks words job → read words ≡ allowed job
asks_read words job a =
    let l = a.line in
    ap read a.words_are ∙ read_line l.command l.settings l.files (follow_of l a.allowed) a.allowed.files a.allowed.some a.allowed.few ∙ ap allowed (sym a.job_is)

abbrev IsAllowedRead : Read → Type 0
IsAllowedRead (allowed job) = Unit {0}
IsAllowedRead (bad n) = ⊥

not_bad : (words : List Word) (n : ℕ) → read words ≡ bad n → IsLine words → ⊥
not_bad words n e l = subst IsAllowedRead (sym (asks_read words l.0 l.1) ∙ e) tt

-- ---- what begins a line

once_of : (command : Command) (sets : List Setting) → Follow command None None sets → (key : Key) → length (values_of key sets) ≤ 1
once_of command sets f k.Lag = omega (arith, f.lags)
once_of command sets f k.Top = omega (arith, f.tops)

allowed_of : (command : Command) (sets : List Setting) (files : List Word) → Follow command None None sets → AllFiles files → 1 ≤ length files → length files ≤ MAX_FILES
    → IsAllowed (record { command = command; settings = sets; files = files })
allowed_of command sets files f a some few = record { fits = f.fits; once = once_of command sets f; files = a; some = some; few = few }

line_asks : (command : Command) (sets : List Setting) (files : List Word) → Follow command None None sets → AllFiles files → 1 ≤ length files → length files ≤ MAX_FILES
    → Asks (word_of command ∷ (map setting_word sets ++ files)) (job_by command (chosen sets) files)
line_asks command sets files f a some few = record {
  line = record { command = command; settings = sets; files = files };
  allowed = allowed_of command sets files f a some few;
  words_are = refl;
  job_is = refl;
}

-- a file word
abbrev some_file : Word
some_file = codes "a"

begins_files : (command : Command) (sets : List Setting) (files : List Word) → Follow command None None sets → AllFiles files → length files ≤ MAX_FILES
    → Begins (word_of command ∷ (map setting_word sets ++ files))
begins_files command sets [] f a few =
    let e : word_of command ∷ (map setting_word sets ++ some_file ∷ []) ≡ word_of command ∷ ((map setting_word sets ++ []) ++ some_file ∷ []) =
    ap (λ x. word_of command ∷ (x ++ some_file ∷ [])) (sym (append-nil (map setting_word sets))) in (
      some_file ∷ [],
      (
        job_by command (chosen sets) (some_file ∷ []),
        subst (λ ws. Asks ws (job_by command (chosen sets) (some_file ∷ []))) e (line_asks command sets (some_file ∷ []) f (refl, tt) (omega arith) (omega arith)),
      ),
    )
begins_files command sets (g ∷ files) f a few =
    let ws = word_of command ∷ (map setting_word sets ++ g ∷ files) in (
      [],
      (
        job_by command (chosen sets) (g ∷ files),
        subst (λ x. Asks x (job_by command (chosen sets) (g ∷ files))) (sym (append-nil ws)) (line_asks command sets (g ∷ files) f a (omega arith) few),
      ),
    )

begins_none : Begins []
begins_none = (
  codes "sim" ∷ some_file ∷ [],
  (
    job_by c.Sim (chosen []) (some_file ∷ []),
    line_asks c.Sim [] (some_file ∷ []) (record { fits = tt; lags = omega arith; tops = omega arith }) (refl, tt) (omega arith) (omega arith),
  ),
)

-- ---- the first bad word

take_all_of : (p : List Word) (n : ℕ) → n ≡ length p → take n p ≡ p
take_all_of p n l = ap (take n) (sym (append-nil p)) ∙ take_at p [] n (sym l)

-- a word is missing
bad_end : (p : List Word) (n : ℕ) → Begins p → read p ≡ bad n → n ≡ length p → IsFirstBad p (n + 1)
bad_end p n g e l = record {
  before = n;
  number_is = refl;
  within = omega (arith, l);
  good = subst Begins (sym (take_all_of p n l)) g;
  bad = λ less _. absurd (omega (arith, l, less));
  missing = λ _ line. not_bad p n e line;
}

-- a word is bad, whatever follows it
bad_at : (p : List Word) (w : Word) (back : List Word) (n : ℕ) → Begins p → ((more : List Word) → read (p ++ w ∷ more) ≡ bad n) → n ≡ length p → IsFirstBad (p ++ w ∷ back) (n + 1)
bad_at p w back n g e l =
    let long = length-append p (w ∷ back) in
    let one : take (n + 1) (p ++ w ∷ back) ≡ p ++ w ∷ [] = ap (λ m. take (m + 1) (p ++ w ∷ back)) l ∙ take-append-add p (w ∷ back) 1 in
    record {
      before = n;
      number_is = refl;
      within = omega (arith, l, long);
      good = subst Begins (sym (take_at p (w ∷ back) n (sym l))) g;
      bad = λ _ b. not_bad (p ++ w ∷ b.0) n (e b.0) (b.1.0, subst (λ x. Asks x b.1.0) (ap (λ x. x ++ b.0) one ∙ append_assoc p (w ∷ []) b.0) b.1.1);
      missing = λ same _. absurd (omega (arith, l, long, same));
    }

-- ---- every list of words

abbrev pub IsAnswer : List Word → Read → Type 0
IsAnswer words (allowed job) = Asks words job
IsAnswer words (bad n) = IsFirstBad words (n + 1)

none_set_is : {A : Type 0} (o : Option A) → not (is_some o) ≡ true → o ≡ None
none_set_is None e = refl
none_set_is (Some a) e = absurd (false≢true e)

-- after settings, a word that is no file and sets nothing
sound_setting : (command : Command) (sets : List Setting) (w : Word) (back : List Word) → Follow command None None sets → options_end command (chosen sets) (w ∷ back) ≡ true
    → has_equals w ≡ true → IsAnswer (word_of command ∷ (map setting_word sets ++ w ∷ back)) (read (word_of command ∷ (map setting_word sets ++ w ∷ back)))
sound_setting command sets w back f ends h =
    let none : set command (chosen sets) w ≡ None = none_set_is (set command (chosen sets) w) ends in
    let go : (more : List Word) → options_from command (chosen sets) (length sets) (w ∷ more) ≡ stopped (length sets) = λ more. rw h (rw none refl) in
    let all : (more : List Word) → read (word_of command ∷ (map setting_word sets ++ w ∷ more)) ≡ bad (1 + length sets) =
    λ more. read_sets command sets (w ∷ more) f ∙ ap (after_options command (map setting_word sets ++ w ∷ more)) (go more) in
    let p = word_of command ∷ map setting_word sets in
    let g : Begins p = subst (λ x. Begins (word_of command ∷ x)) (append-nil (map setting_word sets)) (begins_files command sets [] f tt (omega arith)) in
    subst (IsAnswer (word_of command ∷ (map setting_word sets ++ w ∷ back))) (sym (all back))
    (bad_at p w back (1 + length sets) g all (omega (arith, length-map sets setting_word)))

first_of_none : (files : List Word) (w v : Word) (back rest : List Word) → length files ≡ 0 → w ∷ back ≡ files ++ v ∷ rest → has_equals w ≡ false → has_equals v ≡ false
first_of_none [] w v back rest z is h = ap has_equals (ap (λ l. get_or l 0 v) (sym is)) ∙ h
first_of_none (g ∷ files) w v back rest z is h = absurd (omega (arith, z))

sound_files : (command : Command) (sets : List Setting) (w : Word) (back files rest : List Word) → Follow command None None sets → has_equals w ≡ false → w ∷ back ≡ files ++ rest
    → AllFiles files → length files ≤ MAX_FILES → files_end (length files) rest ≡ true
    → IsAnswer (word_of command ∷ (map setting_word sets ++ (files ++ rest))) (read (word_of command ∷ (map setting_word sets ++ (files ++ rest))))
sound_files command sets w back files [] f h is a few ends =
    let e : files ++ [] ≡ files = append-nil files in
    let long : length files ≡ suc (length back) = ap length (sym e) ∙ ap length (sym is) in
    let some : 1 ≤ length files = omega (arith, long) in
    subst (λ x. IsAnswer (word_of command ∷ (map setting_word sets ++ x)) (read (word_of command ∷ (map setting_word sets ++ x)))) (sym e)
    (subst (IsAnswer (word_of command ∷ (map setting_word sets ++ files))) (sym (read_line command sets files f a some few)) (line_asks command sets files f a some few))
sound_files command sets w back files (v ∷ rest) f h is a few ends =
    let first : length files ≡ 0 → has_equals v ≡ false = λ z. first_of_none files w v back rest z is h in
    let p = word_of command ∷ (map setting_word sets ++ files) in
    let all : (more : List Word) → read (p ++ v ∷ more) ≡ bad (1 + length sets + length files) =
    λ more. ap (λ x. read (word_of command ∷ x)) (append_assoc (map setting_word sets) files (v ∷ more)) ∙ read_bad_file command sets files v more f first a few ends in
    let long : 1 + length sets + length files ≡ length p = omega (arith, length-append (map setting_word sets) files, length-map sets setting_word) in
    subst (λ x. IsAnswer (word_of command ∷ x) (read (word_of command ∷ x))) (append_assoc (map setting_word sets) files (v ∷ rest))
    (subst (IsAnswer (p ++ v ∷ rest)) (sym (all rest)) (bad_at p v rest (1 + length sets + length files) (begins_files command sets files f a few) all long))

sound_word : (command : Command) (sets : List Setting) (w : Word) (back : List Word) (b : Bool) → Follow command None None sets → options_end command (chosen sets) (w ∷ back) ≡ true
    → has_equals w ≡ b → IsAnswer (word_of command ∷ (map setting_word sets ++ w ∷ back)) (read (word_of command ∷ (map setting_word sets ++ w ∷ back)))
sound_word command sets w back true f ends h = sound_setting command sets w back f ends h
sound_word command sets w back false f ends h =
    let o = files_of_words 0 (w ∷ back) (omega arith) in
    let z : 0 + length o.files ≡ length o.files = omega arith in
    subst (λ x. IsAnswer (word_of command ∷ (map setting_word sets ++ x)) (read (word_of command ∷ (map setting_word sets ++ x)))) (sym o.words_are)
    (sound_files command sets w back o.files o.rest f h o.words_are o.all (omega (arith, o.few)) (ap (λ m. files_end m o.rest) (sym z) ∙ o.ends))

sound_rest : (command : Command) (sets : List Setting) (rest : List Word) → Follow command None None sets → options_end command (chosen sets) rest ≡ true
    → IsAnswer (word_of command ∷ (map setting_word sets ++ rest)) (read (word_of command ∷ (map setting_word sets ++ rest)))
sound_rest command sets [] f ends =
    let p = word_of command ∷ (map setting_word sets ++ []) in
    let e : read p ≡ bad (1 + length sets) = read_sets command sets [] f in
    let long : 1 + length sets ≡ length p = omega (arith, length-append (map setting_word sets) [], length-map sets setting_word) in
    subst (IsAnswer p) (sym e) (bad_end p (1 + length sets) (begins_files command sets [] f tt (omega arith)) e long)
sound_rest command sets (w ∷ back) f ends = sound_word command sets w back (has_equals w) f ends refl

sound_command : (command : Command) (ws : List Word) → IsAnswer (word_of command ∷ ws) (read (word_of command ∷ ws))
sound_command command ws =
    let o = options_of_words command None None ws in
    subst (λ x. IsAnswer (word_of command ∷ x) (read (word_of command ∷ x))) (sym o.words_are) (sound_rest command o.sets o.rest o.follow o.ends)

sound_by : (w : Word) (ws : List Word) → (command_of w ≡ None) ⊎ ((command : Command) × (w ≡ word_of command)) → IsAnswer (w ∷ ws) (read (w ∷ ws))
sound_by w ws (inl none) =
    let all : (more : List Word) → read (w ∷ more) ≡ bad 0 = λ more. ap (λ o. after_command o more) none in
    subst (IsAnswer (w ∷ ws)) (sym (all ws)) (bad_at [] w ws 0 begins_none all refl)
sound_by w ws (inr found) = subst (λ x. IsAnswer (x ∷ ws) (read (x ∷ ws))) (sym found.1) (sound_command found.0 ws)

sound : (words : List Word) → IsAnswer words (read words)
sound [] = bad_end [] 0 begins_none refl refl
sound (w ∷ ws) = sound_by w ws (command_by w (bytes_eq w (codes "sim")) refl)

-- what is read is the answer
pub answer_is : (words : List Word) (r : Read) → read words ≡ r → IsAnswer words r
answer_is words r e = subst (IsAnswer words) e (sound words)

-- ---- laws

-- the job of a value that was read
abbrev job_in : Job → Read → Job
job_in default (allowed job) = job
job_in default (bad n) = default

-- words ask for one job at most
pub one_job : OneJob
one_job words a b p q = ap (job_in a) (sym (asks_read words a p) ∙ asks_read words b q)

-- what begins with the front of a line begins a line
begins_front : (words : List Word) (m n : ℕ) → m ≤ n → Begins (take n words) → Begins (take m words)
begins_front words m n l b =
    let front = take n words in
    let e : front ++ b.0 ≡ take m words ++ (drop m front ++ b.0) =
    ap (λ x. x ++ b.0) (sym (take-append-drop m front) ∙ ap (λ x. x ++ drop m front) (take-take m n words l)) ∙ append_assoc (take m words) (drop m front) b.0 in
    (drop m front ++ b.0, (b.1.0, subst (λ x. Asks x b.1.0) e b.1.1))

-- a line begins with each of its fronts
line_front : (words : List Word) (n : ℕ) → IsLine words → Begins (take n words)
line_front words n l = (drop n words, (l.0, subst (λ x. Asks x l.0) (sym (take-append-drop n words)) l.1))

-- bad words are no line
bad_no_line : (words : List Word) (number : ℕ) (b : IsFirstBad words number) → ((b.before < length words) ⊎ (length words ≤ b.before)) → IsLine words → ⊥
bad_no_line words number b (inl less) l = b.bad less (line_front words (b.before + 1) l)
bad_no_line words number b (inr all) l = b.missing (omega (arith, all, b.within)) l

pub bad_is_no_line : BadIsNoLine
bad_is_no_line words number b l = bad_no_line words number b (cases_lt b.before (length words)) l

-- no first bad word stands before another
not_before : (words : List Word) (m n : ℕ) (a : IsFirstBad words m) (b : IsFirstBad words n) → a.before < b.before → ⊥
not_before words m n a b less = a.bad (omega (arith, less, b.within)) (begins_front words (a.before + 1) b.before (omega (arith, less)) b.good)

same_number : (words : List Word) (m n : ℕ) (a : IsFirstBad words m) (b : IsFirstBad words n) → ((a.before ≡ b.before) ⊎ ((a.before < b.before) ⊎ (b.before < a.before))) → m ≡ n
same_number words m n a b (inl e) = a.number_is ∙ ap (λ x. x + 1) e ∙ sym b.number_is
same_number words m n a b (inr (inl less)) = absurd (not_before words m n a b less)
same_number words m n a b (inr (inr less)) = absurd (not_before words n m b a less)

-- one word is the first bad one
pub one_number : OneNumber
one_number words m n a b = same_number words m n a b (cases_order a.before b.before)
