-- Files that are loaded one after another.
use Rattle.std.proofs.Common.{◌≡◌, ℕ, zero, suc, ◌+◌, ◌*◌, ◌≤◌, ◌<◌, Bool, true, false, IsTrue, List, [], ◌∷◌, ◌++◌, length, map, take, drop, refl, sym, ap, subst, ◌∙◌, arith, append-nil, append_assoc, length-append, Bor}
use Rattle.std.proofs.Math.Seq.{drop-cons, take-length}
use Rattle.std.proofs.lemmas.List.{take_more, take-append-drop, map-append}
use Rattle.std.specs.Prelude.{Some, Ok, slice_index_or}
use Rattle.dt_core.specs.declared.limits.TheConstants.{MAX_FILE}
use Rattle.dessert.specs.Outside.{FilesAt}
use Rattle.dessert.specs.Answer.{Loaded, HasFailed, IsTooLong}
use Rattle.talk.specs.Plain.{named}
use Rattle.dessert.specs.Sources.{ends_line, closed, design_text, line_count}
use Rattle.dessert.specs.Calls.Loading.{LoadsOne, IsLoaded, IsFront}

-- a file is closed by one byte at most
closed_by : (file : List ℕ) (b : Bool) → ends_line file ≡ b → length (closed file) ≤ suc (length file)
closed_by file true e = rw e (omega arith)
closed_by file false e = let l = length-append file (10 ∷ []) in rw e (omega (arith, l))

-- one file more
text_more : (files : List (List ℕ)) (file : List ℕ) → design_text (files ++ file ∷ []) ≡ design_text files ++ closed file
text_more [] file = append-nil (closed file)
text_more (f ∷ files) file = ap (λ (t : List ℕ). closed f ++ t) (text_more files file) ∙ sym (append_assoc (closed f) (design_text files) (closed file))

-- the names before one, and those after it
split_at : (names : List (List ℕ)) (i : ℕ) → i < length names → names ≡ take i names ++ slice_index_or names i [] ∷ drop (suc i) names
split_at names i h = sym (take-append-drop i names) ∙ ap (λ (x : List (List ℕ)). take i names ++ x) (drop-cons names i [] h)

-- why a file was not loaded, where the files before it left all as it was
pub failed_since : (shelf seen now : FilesAt) (name : List ℕ) → seen ≡ shelf → HasFailed seen now name → HasFailed shelf now name
failed_since shelf seen now name same h = subst (λ (x : FilesAt). HasFailed x now name) same h

pub long_since : (shelf seen now : FilesAt) (name : List ℕ) → seen ≡ shelf → IsTooLong seen now name → IsTooLong shelf now name
long_since shelf seen now name same h = subst (λ (x : FilesAt). IsTooLong x now name) same h

module _ (shelf : FilesAt) where
  loaded_more : (names files : List (List ℕ)) (name file : List ℕ) → Loaded shelf names files → (IsTrue shelf.told → shelf.content name ≡ Some file) → length file ≤ MAX_FILE
      → Loaded shelf (names ++ name ∷ []) (files ++ file ∷ [])
  loaded_more [] [] name file l t n = (t, n, tt)
  loaded_more [] (f ∷ files) name file l t n = absurd l
  loaded_more (x ∷ names) [] name file l t n = absurd l
  loaded_more (x ∷ names) (f ∷ files) name file l t n = (l.0, l.1, loaded_more names files name file l.2 t n)

  module _ (names : List (List ℕ)) where
    -- the first i files were loaded, and this is their text
    pub record Front (i : ℕ) (text counts : List ℕ) : Type 0 where
      pub files : List (List ℕ)
      pub loaded : Loaded shelf (take i names) files
      pub text_is : text ≡ design_text files
      pub counts_are : counts ≡ map line_count files
      pub short : length text ≤ (MAX_FILE + 1) * i

    pub none_yet : Front 0 [] []
    none_yet = record { files = []; loaded = tt; text_is = refl; counts_are = refl; short = omega arith }

    -- the next file was loaded
    pub one_more : (i : ℕ) (name text new counts : List ℕ) (seen now : FilesAt) (count : ℕ) → seen ≡ shelf → i < length names → name ≡ slice_index_or names i [] → Front i text counts
        → LoadsOne seen now name text new (Ok count) → Front (i + 1) new (counts ++ count ∷ [])
    one_more i name text new counts seen now count same h e f loads =
        let l = subst (λ (x : FilesAt). LoadsOne x now name text new (Ok count)) same loads in
        let file = l.0 in
        let n = length-append text (closed file) in
        let c = closed_by file (ends_line file) refl in
        let s = ap (λ (x : List ℕ). length x) l.1 in
        record {
          files = f.files ++ file ∷ [];
          loaded = subst (λ (x : List (List ℕ)). Loaded shelf x (f.files ++ file ∷ [])) (sym (take_more names i [] h))
              (loaded_more (take i names) f.files (slice_index_or names i []) file f.loaded (λ t. ap shelf.content (sym e) ∙ l.4 t) l.3);
          text_is = l.1 ∙ ap (λ (x : List ℕ). x ++ closed file) f.text_is ∙ sym (text_more f.files file);
          counts_are = (λ k. f.counts_are k ++ l.2 k ∷ []) ∙ sym (map-append line_count f.files (file ∷ []));
          short = omega (arith, n, c, s, f.short, l.3);
        }

    -- all files were loaded
    pub all_loaded : (i : ℕ) (text counts : List ℕ) → i ≡ length names → Front i text counts → IsLoaded shelf names text counts
    all_loaded i text counts e f = record {
      files = f.files;
      loaded = subst (λ (x : List (List ℕ)). Loaded shelf x f.files) (ap (λ (k : ℕ). take k names) e ∙ take-length names) f.loaded;
      text_is = f.text_is;
      counts_are = f.counts_are;
      short = omega (arith, f.short, e);
    }

    -- all files before the next one were loaded
    pub front_loaded : (i : ℕ) (name text counts : List ℕ) → i < length names → name ≡ slice_index_or names i [] → Front i text counts → IsFront shelf names name
    front_loaded i name text counts h e f = record {
      before = take i names;
      after = drop (suc i) names;
      files = f.files;
      names_are = subst (λ (x : List ℕ). names ≡ take i names ++ x ∷ drop (suc i) names) (sym e) (split_at names i h);
      loaded = f.loaded;
    }

-- a name without its borrow
pub named_at : (ns : List (Bor (List ℕ))) (i : ℕ) (d : Bor (List ℕ)) → d.now ≡ [] → (slice_index_or ns i d).now ≡ slice_index_or (named ns) i []
named_at [] i d e = e
named_at (n ∷ ns) zero d e = refl
named_at (n ∷ ns) (suc i) d e = named_at ns i d e

pub named_length : (ns : List (Bor (List ℕ))) → length (named ns) ≡ length ns
named_length [] = refl
named_length (n ∷ ns) = ap suc (named_length ns)
