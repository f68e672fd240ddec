-- The words of a command line: which lines are allowed, what each asks for, and which word is the first that no line
-- has. Commands and options are rows of tables. This project's own.
use Rattle.std.specs.Prelude.{ℕ, ◌*◌, ◌+◌, ◌-◌, ◌==◌, ◌≡◌, ◌≤◌, ◌<◌, Bool, true, false, IsTrue, not, ◌&&◌, ◌||◌, if◌then◌else◌, nat_le, List, [], ◌∷◌, ◌++◌, map, length, take, fold, codes, Option, Some, None}
use Rattle.std.specs.List.{list_any, list_all}
use Rattle.std.specs.Char.{is_ascii_digit, is_ascii_alphabetic}
use Rattle.dt_core.specs.declared.limits.TheConstants.{MAX_FILES, MAX_NAME, MAX_LAG, DEFAULT_LAG}
use Rattle.talk.specs.declared.options.Command.{Command}
use Rattle.talk.specs.declared.options.Command.TheVariants as c
use Rattle.talk.specs.declared.options.Key.{Key}
use Rattle.talk.specs.declared.options.Key.TheVariants as k

-- a word is its bytes
abbrev pub Word : Type 0
Word = List ℕ

-- ---- numbers and names

-- a decimal without sign and without a leading zero, `0` aside
abbrev pub is_decimal : List ℕ → Bool
is_decimal [] = false
is_decimal (d ∷ ds) = list_all is_ascii_digit (d ∷ ds) && (not (d == 48) || (length ds == 0))

abbrev pub decimal_of : List ℕ → ℕ
decimal_of ds = fold (λ n d. 10 * n + (d - 48)) 0 ds

abbrev pub some_when : Bool → ℕ → Option ℕ
some_when true n = Some n
some_when false n = None

-- a decimal in a range
abbrev pub is_within : ℕ → ℕ → List ℕ → Bool
is_within low high ds = is_decimal ds && (nat_le low (decimal_of ds) && nat_le (decimal_of ds) high)

-- the number of a decimal in a range
abbrev pub number_within : ℕ → ℕ → List ℕ → Option ℕ
number_within low high ds = some_when (is_within low high ds) (decimal_of ds)

-- a letter or `_`
abbrev pub begins_name : ℕ → Bool
begins_name b = is_ascii_alphabetic b || b == 95

-- a letter, a digit, `_` or `$`
abbrev pub is_in_name : ℕ → Bool
is_in_name b = begins_name b || is_ascii_digit b || b == 36

-- a simple name of the language, within the limit of names; a keyword is one here, since an escaped name may be spelt
-- like it
abbrev pub is_name : List ℕ → Bool
is_name [] = false
is_name (b ∷ bs) = begins_name b && nat_le (length (b ∷ bs)) MAX_NAME && list_all is_in_name bs

-- ---- the tables

-- the word of a command
abbrev pub word_of : Command → Word
word_of c.Sim = codes "sim"

-- the options of a command
abbrev pub options_of : Command → List Key
options_of c.Sim = k.Lag ∷ k.Top ∷ []

-- what stands before an option's value
abbrev pub head_of : Key → Word
head_of k.Lag = codes "lag="
head_of k.Top = codes "top="

-- whether an option takes a value: a lag is a decimal from 0 to the greatest one, a top is a name
abbrev pub takes : Key → List ℕ → Bool
takes k.Lag value = is_within 0 MAX_LAG value
takes k.Top value = is_name value

-- an option's place in the table, by which options are told apart
abbrev pub place_of : Key → ℕ
place_of k.Lag = 0
place_of k.Top = 1

-- whether an option is among some
abbrev pub has : List Key → Key → Bool
has keys key = list_any (λ one. place_of one == place_of key) keys

-- ---- what stands in a line

-- an option that is set to a value
pub data Setting : Type 0 where
  set_to : Key → List ℕ → Setting

-- its word, `lag=4` or the like
abbrev pub setting_word : Setting → Word
setting_word (set_to key value) = head_of key ++ value

-- the values to which an option is set
abbrev pub values_of : Key → List Setting → List (List ℕ)
values_of key [] = []
values_of key (set_to other value ∷ sets) =
    if place_of other == place_of key then value ∷ values_of key sets else values_of key sets

-- each is an option of the command, with a value that it takes
abbrev pub AllFit : Command → List Setting → Type 0
AllFit command [] = Unit {0}
AllFit command (set_to key value ∷ sets) =
    IsTrue (has (options_of command) key) × IsTrue (takes key value) × AllFit command sets

abbrev pub has_equals : Word → Bool
has_equals word = list_any (λ b. b == 61) word

-- a file word isn't empty and has no `=`
abbrev pub is_file_word : Word → Bool
is_file_word word = not (length word == 0) && not (has_equals word)

abbrev pub AllFiles : List Word → Type 0
AllFiles [] = Unit {0}
AllFiles (w ∷ ws) = IsTrue (is_file_word w) × AllFiles ws

-- ---- lines

-- a command, its settings and its files
pub record Line : Type 0 where
  pub command : Command
  pub settings : List Setting
  pub files : List Word

-- the words of a line: the command, the settings in any order, and then the files
abbrev pub words_of : Line → List Word
words_of l = word_of l.command ∷ (map setting_word l.settings ++ l.files)

-- an allowed line: each setting fits the command, each option stands at most once, and there is a file word, and not
-- too many
pub record IsAllowed (l : Line) : Type 0 where
  pub fits : AllFit l.command l.settings
  pub once : (key : Key) → length (values_of key l.settings) ≤ 1
  pub files : AllFiles l.files
  pub some : 1 ≤ length l.files
  pub few : length l.files ≤ MAX_FILES

-- ---- what a line asks for

-- what the options are set to
pub record Settings : Type 0 where
  pub lag : Option ℕ
  pub top : Option (List ℕ)

abbrev pub settings : Option ℕ → Option (List ℕ) → Settings
settings lag top = record { lag = lag; top = top }

-- the number of the first value, and that value
abbrev pub first_number : List (List ℕ) → Option ℕ
first_number [] = None
first_number (v ∷ vs) = Some (decimal_of v)

abbrev pub first_value : List (List ℕ) → Option (List ℕ)
first_value [] = None
first_value (v ∷ vs) = Some v

abbrev pub chosen : List Setting → Settings
chosen sets = settings (first_number (values_of k.Lag sets)) (first_value (values_of k.Top sets))

-- a number, or what it is where it isn't set
abbrev pub number_or : ℕ → Option ℕ → ℕ
number_or default None = default
number_or default (Some n) = n

-- a job, a variant for each command: `sim` with its lag, the name of the top module, if one is set, and its files
pub data Job : Type 0 where
  sim : ℕ → Option (List ℕ) → List Word → Job

-- how many cycles before the failure its window begins
abbrev pub lag_of : Job → ℕ
lag_of (sim lag top files) = lag

-- the name of the top module, if one is set
abbrev pub top_of : Job → Option (List ℕ)
top_of (sim lag top files) = top

-- its files
abbrev pub files_of : Job → List Word
files_of (sim lag top files) = files

-- a job's lag and its files are within their limits
abbrev pub IsWithinLimits : Job → Type 0
IsWithinLimits (sim lag top files) = (lag ≤ MAX_LAG) × (1 ≤ length files) × (length files ≤ MAX_FILES)

-- the job of a command with settings and files
abbrev pub job_by : Command → Settings → List Word → Job
job_by c.Sim s files = sim (number_or DEFAULT_LAG s.lag) s.top files

abbrev pub job_of : Line → Job
job_of l = job_by l.command (chosen l.settings) l.files

-- ---- words

-- the words are those of an allowed line, which asks for this job
pub record Asks (words : List Word) (job : Job) : Type 0 where
  pub line : Line
  pub allowed : IsAllowed line
  pub words_are : words ≡ words_of line
  pub job_is : job ≡ job_of line

-- the words are an allowed line
abbrev pub IsLine : List Word → Type 0
IsLine words = (job : Job) × Asks words job

-- some allowed line begins with these words
abbrev pub Begins : List Word → Type 0
Begins words = (more : List Word) × IsLine (words ++ more)

-- the words before the one of this number, from 1, begin an allowed line, and with it they begin none; or all words
-- begin an allowed line without being one, and the number is that of the word that is missing
pub record IsFirstBad (words : List Word) (number : ℕ) : Type 0 where
  pub before : ℕ
  pub number_is : number ≡ before + 1
  pub within : before ≤ length words
  pub good : Begins (take before words)
  pub bad : before < length words → Begins (take (before + 1) words) → ⊥
  pub missing : before ≡ length words → IsLine words → ⊥
