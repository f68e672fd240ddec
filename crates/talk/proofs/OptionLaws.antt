-- The options of a line.
use Rattle.std.proofs.Common.{◌≡◌, ℕ, suc, ◌+◌, ◌≤◌, List, [], ◌∷◌, ◌++◌, map, length, take, drop, Bool, true, false, refl, sym, ap, ◌∙◌, arith, take-append-drop}
use Rattle.std.specs.Prelude.{not, Option, Some, None, is_some, bytes_eq, codes}
use Rattle.std.proofs.lemmas.Slice.Eq.{bytes_eq-Decides}
use Rattle.talk.specs.declared.options.Command.{Command}
use Rattle.talk.specs.declared.options.Key.TheVariants as k
use Rattle.talk.specs.Words.{Word, Setting, set_to, setting_word, values_of, AllFit, head_of, has, options_of, takes, decimal_of, has_equals, settings, Settings, first_number, first_value}
use Rattle.talk.specs.Reading.{set, options_from, counted}

-- a number that is set stays, and else is the first of the values
abbrev pub number_after : Option ℕ → List (List ℕ) → Option ℕ
number_after (Some n) vs = Some n
number_after None vs = first_number vs

abbrev pub value_after : Option (List ℕ) → List (List ℕ) → Option (List ℕ)
value_after (Some v) vs = Some v
value_after None vs = first_value vs

-- what is set after some settings
abbrev pub after : Option ℕ → Option (List ℕ) → List Setting → Settings
after lag top sets = settings (number_after lag (values_of k.Lag sets)) (value_after top (values_of k.Top sets))

-- settings that may follow
pub record Follow (command : Command) (lag : Option ℕ) (top : Option (List ℕ)) (sets : List Setting) : Type 0 where
  pub fits : AllFit command sets
  pub lags : counted lag + length (values_of k.Lag sets) ≤ 1
  pub tops : counted top + length (values_of k.Top sets) ≤ 1

-- a word that sets the lag, where none is set
set_lag_word : (command : Command) (top : Option (List ℕ)) (v : List ℕ) → has (options_of command) k.Lag ≡ true → takes k.Lag v ≡ true
    → set command (settings None top) (head_of k.Lag ++ v) ≡ Some (settings (Some (decimal_of v)) top)
set_lag_word command top v h t = rw h (rw t refl)

-- a word that sets the top module, where none is set
set_top_word : (command : Command) (lag : Option ℕ) (v : List ℕ) → has (options_of command) k.Top ≡ true → takes k.Top v ≡ true
    → set command (settings lag None) (head_of k.Top ++ v) ≡ Some (settings lag (Some v))
set_top_word command lag v h t = rw h (rw t refl)

nothing_after : (lag : Option ℕ) (top : Option (List ℕ)) → after lag top [] ≡ settings lag top
nothing_after None None = refl
nothing_after None (Some v) = refl
nothing_after (Some n) None = refl
nothing_after (Some n) (Some v) = refl

option_step : (command : Command) (s t : Settings) (n : ℕ) (w : Word) (ws : List Word) → has_equals w ≡ true → set command s w ≡ Some t
    → options_from command s n (w ∷ ws) ≡ options_from command t (n + 1) ws
option_step command s t n w ws h e = rw h (rw e refl)

-- the words of settings are read as these settings
pub options_walk : (command : Command) (lag : Option ℕ) (top : Option (List ℕ)) (n : ℕ) (sets : List Setting) (ws : List Word) → Follow command lag top sets
    → options_from command (settings lag top) n (map setting_word sets ++ ws) ≡ options_from command (after lag top sets) (n + length sets) ws
options_walk command lag top n [] ws f =
    let z : n ≡ n + 0 = omega arith in
    ap (λ m. options_from command (settings lag top) m ws) z ∙ ap (λ s. options_from command s (n + 0) ws) (sym (nothing_after lag top))
options_walk command (Some d) top n (set_to k.Lag v ∷ sets) ws f = absurd (omega (arith, f.lags))
options_walk command None top n (set_to k.Lag v ∷ sets) ws f =
    let z : n + 1 + length sets ≡ n + suc (length sets) = omega arith in
    option_step command (settings None top) (settings (Some (decimal_of v)) top) n (head_of k.Lag ++ v) (map setting_word sets ++ ws) refl (set_lag_word command top v f.fits.0 f.fits.1)
    ∙ options_walk command (Some (decimal_of v)) top (n + 1) sets ws (record { fits = f.fits.2; lags = omega (arith, f.lags); tops = f.tops })
    ∙ ap (λ m. options_from command (after (Some (decimal_of v)) top sets) m ws) z
options_walk command lag (Some d) n (set_to k.Top v ∷ sets) ws f = absurd (omega (arith, f.tops))
options_walk command lag None n (set_to k.Top v ∷ sets) ws f =
    let z : n + 1 + length sets ≡ n + suc (length sets) = omega arith in
    option_step command (settings lag None) (settings lag (Some v)) n (head_of k.Top ++ v) (map setting_word sets ++ ws) refl (set_top_word command lag v f.fits.0 f.fits.1)
    ∙ options_walk command lag (Some v) (n + 1) sets ws (record { fits = f.fits.2; lags = f.lags; tops = omega (arith, f.tops) })
    ∙ ap (λ m. options_from command (after lag (Some v) sets) m ws) z

-- ---- which settings stand at the head of words

-- no further option is set
abbrev pub options_end : Command → Settings → List Word → Bool
options_end command s [] = true
options_end command s (w ∷ ws) = not (is_some (set command s w))

-- words as the settings at their head, and the rest
pub record Options (command : Command) (lag : Option ℕ) (top : Option (List ℕ)) (ws : List Word) : Type 0 where
  pub sets : List Setting
  pub rest : List Word
  pub words_are : ws ≡ map setting_word sets ++ rest
  pub follow : Follow command lag top sets
  pub ends : options_end command (after lag top sets) rest ≡ true

none_counted : {A : Type 0} (o : Option A) → counted o + 0 ≤ 1
none_counted None = omega arith
none_counted (Some a) = omega arith

no_options : (command : Command) (lag : Option ℕ) (top : Option (List ℕ)) (ws : List Word) → options_end command (settings lag top) ws ≡ true → Options command lag top ws
no_options command lag top ws e = record {
  sets = [];
  rest = ws;
  words_are = refl;
  follow = record { fits = tt; lags = none_counted lag; tops = none_counted top };
  ends = ap (λ s. options_end command s ws) (nothing_after lag top) ∙ e;
}

-- the word of a setting
word_is : (w : Word) (head : Word) → bytes_eq (take 4 w) head ≡ true → w ≡ head ++ drop 4 w
word_is w head e = sym (take-append-drop 4 w) ∙ ap (λ (x : List ℕ). x ++ drop 4 w) ((bytes_eq-Decides (take 4 w) head).0 e)

-- one more lag
lag_first : (command : Command) (top : Option (List ℕ)) (w : Word) (ws : List Word) → w ≡ head_of k.Lag ++ drop 4 w
    → has (options_of command) k.Lag ≡ true → takes k.Lag (drop 4 w) ≡ true → Options command (Some (decimal_of (drop 4 w))) top ws → Options command None top (w ∷ ws)
lag_first command top w ws e h t o = record {
  sets = set_to k.Lag (drop 4 w) ∷ o.sets;
  rest = o.rest;
  words_are = λ i. e i ∷ o.words_are i;
  follow = record { fits = (h, t, o.follow.fits); lags = omega (arith, o.follow.lags); tops = o.follow.tops };
  ends = o.ends;
}

top_first : (command : Command) (lag : Option ℕ) (w : Word) (ws : List Word) → w ≡ head_of k.Top ++ drop 4 w
    → has (options_of command) k.Top ≡ true → takes k.Top (drop 4 w) ≡ true → Options command lag (Some (drop 4 w)) ws → Options command lag None (w ∷ ws)
top_first command lag w ws e h t o = record {
  sets = set_to k.Top (drop 4 w) ∷ o.sets;
  rest = o.rest;
  words_are = λ i. e i ∷ o.words_are i;
  follow = record { fits = (h, t, o.follow.fits); lags = o.follow.lags; tops = omega (arith, o.follow.tops) };
  ends = o.ends;
}

stops_by : (command : Command) (s : Settings) (w : Word) (ws : List Word) → set command s w ≡ None → options_end command s (w ∷ ws) ≡ true
stops_by command s w ws e = rw e refl

-- by whether the command has the option, and takes the value
lag_by : (command : Command) (lag : Option ℕ) (top : Option (List ℕ)) (w : Word) (ws : List Word) (a b : Bool) → bytes_eq (take 4 w) (codes "lag=") ≡ true
    → has (options_of command) k.Lag ≡ a → takes k.Lag (drop 4 w) ≡ b
    → ((l : Option ℕ) (t : Option (List ℕ)) → Options command l t ws) → Options command lag top (w ∷ ws)
lag_by command lag top w ws false b e h t next = no_options command lag top (w ∷ ws) (stops_by command (settings lag top) w ws (rw e (rw h refl)))
lag_by command (Some d) top w ws true b e h t next = no_options command (Some d) top (w ∷ ws) (stops_by command (settings (Some d) top) w ws (rw e (rw h refl)))
lag_by command None top w ws true false e h t next = no_options command None top (w ∷ ws) (stops_by command (settings None top) w ws (rw e (rw h (rw t refl))))
lag_by command None top w ws true true e h t next = lag_first command top w ws (word_is w (codes "lag=") e) h t (next (Some (decimal_of (drop 4 w))) top)

top_by : (command : Command) (lag : Option ℕ) (top : Option (List ℕ)) (w : Word) (ws : List Word) (a b : Bool) → bytes_eq (take 4 w) (codes "lag=") ≡ false
    → bytes_eq (take 4 w) (codes "top=") ≡ true → has (options_of command) k.Top ≡ a → takes k.Top (drop 4 w) ≡ b
    → ((l : Option ℕ) (t : Option (List ℕ)) → Options command l t ws) → Options command lag top (w ∷ ws)
top_by command lag top w ws false b n e h t next = no_options command lag top (w ∷ ws) (stops_by command (settings lag top) w ws (rw n (rw e (rw h refl))))
top_by command lag (Some d) w ws true b n e h t next = no_options command lag (Some d) (w ∷ ws) (stops_by command (settings lag (Some d)) w ws (rw n (rw e (rw h refl))))
top_by command lag None w ws true false n e h t next = no_options command lag None (w ∷ ws) (stops_by command (settings lag None) w ws (rw n (rw e (rw h (rw t refl)))))
top_by command lag None w ws true true n e h t next = top_first command lag w ws (word_is w (codes "top=") e) h t (next lag (Some (drop 4 w)))

-- by what stands before the value
word_by : (command : Command) (lag : Option ℕ) (top : Option (List ℕ)) (w : Word) (ws : List Word) (a b : Bool) → bytes_eq (take 4 w) (codes "lag=") ≡ a
    → bytes_eq (take 4 w) (codes "top=") ≡ b → ((l : Option ℕ) (t : Option (List ℕ)) → Options command l t ws) → Options command lag top (w ∷ ws)
word_by command lag top w ws true b e f next = lag_by command lag top w ws (has (options_of command) k.Lag) (takes k.Lag (drop 4 w)) e refl refl next
word_by command lag top w ws false true e f next = top_by command lag top w ws (has (options_of command) k.Top) (takes k.Top (drop 4 w)) e f refl refl next
word_by command lag top w ws false false e f next = no_options command lag top (w ∷ ws) (stops_by command (settings lag top) w ws (rw e (rw f refl)))

pub options_of_words : (command : Command) (lag : Option ℕ) (top : Option (List ℕ)) (ws : List Word) → Options command lag top ws
options_of_words command lag top [] = no_options command lag top [] refl
options_of_words command lag top (w ∷ ws) =
    word_by command lag top w ws (bytes_eq (take 4 w) (codes "lag=")) (bytes_eq (take 4 w) (codes "top=")) refl refl (λ l t. options_of_words command l t ws)
