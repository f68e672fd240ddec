-- Looking up by path, and numbering, undo one another.
use Rattle.std.proofs.Common.{◌≡◌, ℕ, zero, suc, ◌<◌, Bool, true, false, if◌then◌else◌, List, [], ◌∷◌, length, map, refl, sym, ap, subst, ◌∙◌, arith}
use Rattle.std.specs.Prelude.{Some, None, slice_get, slice_index, slice_index_or}
use Rattle.std.proofs.lemmas.List.{get_or-map, length-map}
use Rattle.std.proofs.lemmas.Option.{slice_get_within, get_or_from_slice_get}
use Rattle.netlist.specs.Values.{Values}
use Rattle.vl_value.specs.Paths.{Path, same_path}
use Rattle.vl_value.specs.Reads.{up_to}
use Rattle.vl_design.specs.Design.{Design, Signal, Memory}
use Rattle.vl_process.specs.Statement.{Store}
use Rattle.vl_process.specs.Settling.{Fits, AllFit, MemoriesFit, signal_width, word_count, number_at, words_at, by_path, by_number}
use Rattle.vl_store.specs.Stores.{PathsAreDistinct, IsLookedUp}
use Rattle.vl_store.proofs.Paths.{path_itself}
use Rattle.vl_store.proofs.Lists.{count_up, number_up, listed}

pub is_false : (b : Bool) → (b ≡ true → ⊥) → b ≡ false
is_false true h = absurd (h refl)
is_false false h = refl

-- ---- by path

pub number_there : (xs : List Signal) (ns : List ℕ) (t : ℕ) (x : Signal) → length ns ≡ length xs → slice_get xs t ≡ Some x
    → ((i : ℕ) (y : Signal) → i < t → slice_get xs i ≡ Some y → same_path y.path x.path ≡ true → ⊥)
    → number_at xs ns x.path ≡ Some (slice_index ns t)
number_there [] ns t x count at before = absurd cc
number_there (y ∷ ys) [] t x count at before = absurd (omega (arith, count))
number_there (y ∷ ys) (n ∷ ns) zero x count at before =
    let same : y ≡ x = cc in
    ap (λ b. if b then Some n else number_at ys ns x.path)
    (ap (λ (s : Signal). same_path s.path x.path) same ∙ path_itself x.path)
number_there (y ∷ ys) (n ∷ ns) (suc t) x count at before =
    ap (λ b. if b then Some n else number_at ys ns x.path)
    (is_false (same_path y.path x.path) (before 0 y (omega arith) refl))
    ∙ number_there ys ns t x (omega (arith, count)) at (λ i z l there e. before (suc i) z (omega (arith, l)) there e)

pub none_there : (xs : List Signal) (ns : List ℕ) (p : Path)
    → ((i : ℕ) (y : Signal) → slice_get xs i ≡ Some y → same_path y.path p ≡ true → ⊥) → number_at xs ns p ≡ None
none_there [] ns p away = refl
none_there (y ∷ ys) [] p away = refl
none_there (y ∷ ys) (n ∷ ns) p away =
    ap (λ b. if b then Some n else number_at ys ns p) (is_false (same_path y.path p) (away 0 y refl))
    ∙ none_there ys ns p (λ i z at e. away (suc i) z at e)

words_there : (xs : List Memory) (ns : List (List ℕ)) (t : ℕ) (x : Memory) → length ns ≡ length xs → slice_get xs t ≡ Some x
    → ((i : ℕ) (y : Memory) → i < t → slice_get xs i ≡ Some y → same_path y.path x.path ≡ true → ⊥)
    → words_at xs ns x.path ≡ slice_index_or ns t []
words_there [] ns t x count at before = absurd cc
words_there (y ∷ ys) [] t x count at before = absurd (omega (arith, count))
words_there (y ∷ ys) (n ∷ ns) zero x count at before =
    let same : y ≡ x = cc in
    ap (λ b. if b then n else words_at ys ns x.path)
    (ap (λ (s : Memory). same_path s.path x.path) same ∙ path_itself x.path)
words_there (y ∷ ys) (n ∷ ns) (suc t) x count at before =
    ap (λ b. if b then n else words_at ys ns x.path)
    (is_false (same_path y.path x.path) (before 0 y (omega arith) refl))
    ∙ words_there ys ns t x (omega (arith, count)) at (λ i z l there e. before (suc i) z (omega (arith, l)) there e)

-- ---- counts

pub count_fit : (ws ns : List ℕ) → AllFit ws ns → length ns ≡ length ws
count_fit [] [] f = refl
count_fit [] (n ∷ ns) f = absurd f
count_fit (w ∷ ws) [] f = absurd f
count_fit (w ∷ ws) (n ∷ ns) f = ap suc (count_fit ws ns f.1)

memory_count : (ys : List Memory) (ns : List (List ℕ)) → MemoriesFit ys ns → length ns ≡ length ys
memory_count [] [] f = refl
memory_count [] (n ∷ ns) f = absurd f
memory_count (y ∷ ys) [] f = absurd f
memory_count (y ∷ ys) (n ∷ ns) f = ap suc (memory_count ys ns f.1)

word_counts : (ys : List Memory) (ns : List (List ℕ)) (t : ℕ) (y : Memory) → MemoriesFit ys ns → slice_get ys t ≡ Some y
    → length (slice_index_or ns t []) ≡ word_count y
word_counts [] [] t y f at = absurd cc
word_counts [] (n ∷ ns) t y f at = absurd f
word_counts (z ∷ zs) [] t y f at = absurd f
word_counts (z ∷ zs) (n ∷ ns) zero y f at =
    let same : z ≡ y = cc in
    subst (λ (s : Memory). length n ≡ word_count s) same f.0.0
word_counts (z ∷ zs) (n ∷ ns) (suc t) y f at = word_counts zs ns t y f.1 at

-- as many numbers as signals, as many lists of words as memories, as many words as each has
pub record HasCounts (d : Design) (v : Values) : Type 0 where
  pub signals : length v.signals ≡ length d.signals
  pub memories : length v.memories ≡ length d.memories
  pub words : (t : ℕ) (y : Memory) → slice_get d.memories t ≡ Some y → length (slice_index_or v.memories t []) ≡ word_count y

pub counts_fit : (d : Design) (v : Values) → Fits d v → HasCounts d v
counts_fit d v f = record {
  signals = count_fit (map signal_width d.signals) v.signals f.signals ∙ length-map d.signals signal_width;
  memories = memory_count d.memories v.memories f.memories;
  words = λ t y at. word_counts d.memories v.memories t y f.memories at;
}

-- ---- what is looked up

pub signal_looked_up : (d : Design) (v : Values) (t : ℕ) (x : Signal) → PathsAreDistinct d → HasCounts d v
    → slice_get d.signals t ≡ Some x → by_path d v x.path 0 ≡ slice_index v.signals t
signal_looked_up d v t x apart counts at =
    ap (λ o. elim o [ Some n ↦ n | None ↦ slice_index (words_at d.memories v.memories x.path) 0 ])
    (number_there d.signals v.signals t x counts.signals at (λ i y l there e.
    let same : i ≡ t = apart.signals i t y x there at e in omega (arith, l, same)))

pub word_looked_up : (d : Design) (v : Values) (t k : ℕ) (y : Memory) → PathsAreDistinct d → HasCounts d v
    → slice_get d.memories t ≡ Some y → by_path d v y.path k ≡ slice_index (slice_index_or v.memories t []) k
word_looked_up d v t k y apart counts at =
    ap (λ o. elim o [ Some n ↦ n | None ↦ slice_index (words_at d.memories v.memories y.path) k ])
    (none_there d.signals v.signals y.path (λ i x there e. (apart.apart i t x y there at).0 e))
    ∙ ap (λ ns. slice_index ns k) (words_there d.memories v.memories t y counts.memories at (λ i z l there e.
    let same : i ≡ t = apart.memories i t z y there at e in omega (arith, l, same)))

-- values of a store whose signals and words are these
pub numbered_as : (d : Design) (m : Store) (v : Values) → HasCounts d v
    → ((t : ℕ) (x : Signal) → slice_get d.signals t ≡ Some x → m x.path 0 ≡ slice_index v.signals t)
    → ((t k : ℕ) (y : Memory) → slice_get d.memories t ≡ Some y → k < word_count y
    → m y.path k ≡ slice_index (slice_index_or v.memories t []) k)
    → by_number d m ≡ v
numbered_as d m v counts signals words =
    let first : map (λ (x : Signal). m x.path 0) d.signals ≡ v.signals =
    listed 0 (λ (x : Signal). m x.path 0) d.signals v.signals counts.signals signals in
    let second : map (λ (y : Memory). map (m y.path) (up_to (word_count y))) d.memories ≡ v.memories =
    listed [] (λ (y : Memory). map (m y.path) (up_to (word_count y))) d.memories v.memories counts.memories (λ t y at.
    listed 0 (m y.path) (up_to (word_count y)) (slice_index_or v.memories t [])
    (counts.words t y at ∙ sym (count_up (word_count y))) (λ k j there.
    let l : k < word_count y = subst (λ n. k < n) (count_up (word_count y)) (slice_get_within (up_to (word_count y)) k j there) in
    let numbers : Some j ≡ Some k = sym there ∙ number_up (word_count y) k l in
    let same : j ≡ k = cc in
    ap (m y.path) same ∙ words t k y at l)) in
    ap (λ (ns : List ℕ). record { signals = ns; memories = map (λ (y : Memory). map (m y.path) (up_to (word_count y))) d.memories }) first
    ∙ ap (λ (ms : List (List ℕ)). record { signals = v.signals; memories = ms }) second

pub looked_up : (d : Design) (v : Values) → PathsAreDistinct d → Fits d v → IsLookedUp d v
looked_up d v apart fits =
    let counts = counts_fit d v fits in
    record {
      signal = λ t x at. signal_looked_up d v t x apart counts at;
      word = λ t k y at. word_looked_up d v t k y apart counts at;
      returned = numbered_as d (by_path d v) v counts (λ t x at. signal_looked_up d v t x apart counts at)
          (λ t k y at l. word_looked_up d v t k y apart counts at);
    }

-- ---- and back

pub counts_numbered : (d : Design) (m : Store) → HasCounts d (by_number d m)
counts_numbered d m = record {
  signals = length-map d.signals (λ (x : Signal). m x.path 0);
  memories = length-map d.memories (λ (y : Memory). map (m y.path) (up_to (word_count y)));
  words = λ t y at.
      ap length (get_or-map (λ (z : Memory). map (m z.path) (up_to (word_count z))) d.memories t y []
      (slice_get_within d.memories t y at)
      ∙ ap (λ (z : Memory). map (m z.path) (up_to (word_count z))) (get_or_from_slice_get d.memories t y y at))
      ∙ length-map (up_to (word_count y)) (m y.path) ∙ count_up (word_count y);
}

pub signal_again : (d : Design) (m : Store) (t : ℕ) (x : Signal) → PathsAreDistinct d → slice_get d.signals t ≡ Some x
    → by_path d (by_number d m) x.path 0 ≡ m x.path 0
signal_again d m t x apart at = signal_looked_up d (by_number d m) t x apart (counts_numbered d m) at
    ∙ get_or-map (λ (z : Signal). m z.path 0) d.signals t x 0 (slice_get_within d.signals t x at)
    ∙ ap (λ (z : Signal). m z.path 0) (get_or_from_slice_get d.signals t x x at)

pub word_again : (d : Design) (m : Store) (t k : ℕ) (y : Memory) → PathsAreDistinct d → slice_get d.memories t ≡ Some y
    → k < word_count y → by_path d (by_number d m) y.path k ≡ m y.path k
word_again d m t k y apart at l =
    let there = get_or-map (λ (z : Memory). map (m z.path) (up_to (word_count z))) d.memories t y []
    (slice_get_within d.memories t y at)
    ∙ ap (λ (z : Memory). map (m z.path) (up_to (word_count z))) (get_or_from_slice_get d.memories t y y at) in
    let inside : k < length (up_to (word_count y)) = subst (λ n. k < n) (sym (count_up (word_count y))) l in
    word_looked_up d (by_number d m) t k y apart (counts_numbered d m) at
    ∙ ap (λ ns. slice_index ns k) there
    ∙ get_or-map (m y.path) (up_to (word_count y)) k k 0 inside
    ∙ ap (m y.path) (get_or_from_slice_get (up_to (word_count y)) k k k (number_up (word_count y) k l))
