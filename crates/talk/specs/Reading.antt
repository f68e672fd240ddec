-- How a reader goes over words, one after another. `Words` has the grammar of lines, and the laws tie the two.
-- This project's own.
use Rattle.std.specs.Prelude.{ℕ, ◌+◌, ◌&&◌, if◌then◌else◌, nat_lt, List, [], ◌∷◌, length, take, drop, bytes_eq, codes, Option, Some, None}
use Rattle.dt_core.specs.declared.limits.TheConstants.{MAX_FILES, MAX_LAG}
use Rattle.talk.specs.declared.options.Command.{Command}
use Rattle.talk.specs.declared.options.Command.TheVariants as c
use Rattle.talk.specs.declared.options.Key.{Key}
use Rattle.talk.specs.declared.options.Key.TheVariants as k
use Rattle.talk.specs.declared.options.Settings as code
use Rattle.talk.specs.Words.{Word, Setting, set_to, Settings, settings, Job, job_by, options_of, has, is_file_word, has_equals, number_within, is_name}
use Rattle.talk.specs.Plain.{plain}

-- what the settings of the code are
abbrev pub seen : code.Settings → Settings
seen s = settings s.lag (plain s.top)

-- ---- options

-- the command of a word
abbrev pub command_of : Word → Option Command
command_of word = if bytes_eq word (codes "sim") then Some c.Sim else None

-- the option that a word sets, and its value
abbrev pub setting_of : Word → Option Setting
setting_of word =
    if bytes_eq (take 4 word) (codes "lag=") then Some (set_to k.Lag (drop 4 word))
    else (if bytes_eq (take 4 word) (codes "top=") then Some (set_to k.Top (drop 4 word)) else None)

abbrev pub none_set : Settings
none_set = settings None None

-- how many options are set
abbrev pub counted : {A : Type 0} → Option A → ℕ
counted None = 0
counted (Some a) = 1

abbrev pub count_set : Settings → ℕ
count_set s = counted s.lag + counted s.top

-- with this lag, if there is one
abbrev pub with_lag : Option ℕ → Option (List ℕ) → Option Settings
with_lag None top = None
with_lag (Some n) top = Some (settings (Some n) top)

-- with a lag, where none is set and the value is one
abbrev pub lag_after : Option ℕ → Option (List ℕ) → List ℕ → Option Settings
lag_after None top value = with_lag (number_within 0 MAX_LAG value) top
lag_after (Some n) top value = None

abbrev pub set_lag : Settings → List ℕ → Option Settings
set_lag s value = lag_after s.lag s.top value

-- with the name of the top module, where none is set and the value is one
abbrev pub top_after : Option ℕ → Option (List ℕ) → List ℕ → Option Settings
top_after lag None value = if is_name value then Some (settings lag (Some value)) else None
top_after lag (Some v) value = None

abbrev pub set_top : Settings → List ℕ → Option Settings
set_top s value = top_after s.lag s.top value

abbrev pub set_key : Key → Settings → List ℕ → Option Settings
set_key k.Lag s value = set_lag s value
set_key k.Top s value = set_top s value

-- with a setting, where the command has the option
abbrev pub set_by : Command → Settings → Option Setting → Option Settings
set_by command s None = None
set_by command s (Some (set_to key value)) = if has (options_of command) key then set_key key s value else None

-- with the option that a word sets
abbrev pub set : Command → Settings → Word → Option Settings
set command s word = set_by command s (setting_of word)

-- where the options end: before the files, after so many words; or at the first bad word, with so many before it
pub data Walk : Type 0 where
  to_files : Settings → ℕ → Walk
  stopped : ℕ → Walk

-- the options from here, after so many words
abbrev pub options_from : Command → Settings → ℕ → List Word → Walk
options_from command s n [] = stopped n
options_from command s n (w ∷ ws) =
    if has_equals w
    then (elim (set command s w) [ None ↦ stopped n | Some t ↦ options_from command t (n + 1) ws ])
    else to_files s n

-- ---- files

-- how many words may be files, the first n being some
abbrev pub files_from : ℕ → List Word → ℕ
files_from n [] = n
files_from n (w ∷ ws) = if nat_lt n MAX_FILES && is_file_word w then files_from (n + 1) ws else n

-- ---- all words

-- a job, or the number of words before the first bad one
pub data Read : Type 0 where
  allowed : Job → Read
  bad : ℕ → Read

abbrev pub files_of : Command → Settings → ℕ → List Word → Read
files_of command s n files =
    if nat_lt (files_from 0 files) (length files) then bad (1 + n + files_from 0 files)
    else allowed (job_by command s files)

abbrev pub after_options : Command → List Word → Walk → Read
after_options command ws (stopped n) = bad (1 + n)
after_options command ws (to_files s n) = files_of command s n (drop n ws)

abbrev pub read_rest : Command → List Word → Read
read_rest command ws = after_options command ws (options_from command none_set 0 ws)

abbrev pub after_command : Option Command → List Word → Read
after_command None ws = bad 0
after_command (Some command) ws = read_rest command ws

abbrev pub read : List Word → Read
read [] = bad 0
read (w ∷ ws) = after_command (command_of w) ws
