-- What a write does to the values, and writes in order.
use Rattle.std.proofs.Common.{◌≡◌, ℕ, ◌==◌, ◌<◌, inl, inr, Bool, true, false, ◌&&◌, if◌then◌else◌, List, [], ◌∷◌, length, map, refl, sym, ap, subst, ◌∙◌, arith, get_or-set_other, get_or-set_same, length-set}
use Rattle.std.specs.Prelude.{pos, Some, slice_get, slice_index, slice_index_or, slice_set}
use Rattle.std.proofs.lemmas.Bool.{cases_eq, eqb-true, eq-eqb}
use Rattle.std.proofs.lemmas.Option.{slice_get_within}
use Rattle.bit_ops.specs.Operators.{insert}
use Rattle.netlist.specs.Values.{Values}
use Rattle.vl_value.specs.Paths.{Path, same_path}
use Rattle.vl_value.specs.Reads.{up_to}
use Rattle.vl_design.specs.Design.{Design, Signal, Memory}
use Rattle.vl_process.specs.Statement.{Store, Write, is_word, stored, all_stored}
use Rattle.vl_process.specs.Settling.{word_count, by_path, by_number}
use Rattle.vl_store.specs.Stores.{PathsAreDistinct, written, all_written, StoreLaw}
use Rattle.vl_store.proofs.Paths.{path_itself, both_true}
use Rattle.vl_store.proofs.Lists.{listed_alike, count_up, number_up}
use Rattle.vl_store.proofs.Numbers.{is_false, HasCounts, counts_fit, signal_looked_up, word_looked_up, numbered_as, looked_up, signal_again, word_again}

-- what the write puts over a number
abbrev put : Write → ℕ → ℕ
put w n = insert w.spot.whole w.spot.low w.spot.width w.value n

-- ---- one word: where the write goes there, and where it doesn't

hit : (w : Write) (m : Store) (p : Path) (k : ℕ) → w.spot.path ≡ p → w.spot.word ≡ pos k → stored w m p k ≡ put w (m p k)
hit w m p k path word = ap (λ b. if b then put w (m p k) else m p k)
    (both_true (same_path w.spot.path p) (is_word w.spot.word k) (ap (λ q. same_path q p) path ∙ path_itself p)
    (ap (λ z. is_word z k) word ∙ eq-eqb k k refl))

missed_path : (w : Write) (m : Store) (p : Path) (k : ℕ) → (same_path w.spot.path p ≡ true → ⊥) → stored w m p k ≡ m p k
missed_path w m p k away = ap (λ b. if b && is_word w.spot.word k then put w (m p k) else m p k)
    (is_false (same_path w.spot.path p) away)

second_false : (a b : Bool) → b ≡ false → (a && b) ≡ false
second_false true b h = h
second_false false b h = refl

missed_word : (w : Write) (m : Store) (p : Path) (k j : ℕ) → w.spot.word ≡ pos j → (j ≡ k → ⊥) → stored w m p k ≡ m p k
missed_word w m p k j word away = ap (λ b. if b then put w (m p k) else m p k)
    (second_false (same_path w.spot.path p) (is_word w.spot.word k) (ap (λ z. is_word z k) word
    ∙ is_false (j == k) (λ e. away (eqb-true j k e))))

-- ---- a write to a signal

signal_counts : (d : Design) (v : Values) (t n : ℕ) → HasCounts d v
    → HasCounts d (record { signals = slice_set v.signals t n; memories = v.memories })
signal_counts d v t n c = record {
  signals = length-set v.signals t n ∙ c.signals;
  memories = c.memories;
  words = c.words;
}

signal_written : (d : Design) (v : Values) (w : Write) (t : ℕ) (x : Signal) → PathsAreDistinct d → HasCounts d v
    → slice_get d.signals t ≡ Some x → w.spot.path ≡ x.path → w.spot.word ≡ pos 0
    → written d w v ≡ record { signals = slice_set v.signals t (put w (slice_index v.signals t)); memories = v.memories }
signal_written d v w t x apart c at path word =
    let n : ℕ = put w (slice_index v.signals t) in
    let there : t < length v.signals = omega (arith, slice_get_within d.signals t x at, c.signals) in
    numbered_as d (stored w (by_path d v)) (record { signals = slice_set v.signals t n; memories = v.memories })
    (signal_counts d v t n c)
    (λ i y at_y. elim (cases_eq i t) [
      | inl same ↦
          let objects : Some y ≡ Some x = sym at_y ∙ ap (slice_get d.signals) same ∙ at in
          let own : x ≡ y = cc in
          hit w (by_path d v) y.path 0 (path ∙ ap (λ (s : Signal). s.path) own) word
          ∙ ap (put w) (signal_looked_up d v i y apart c at_y ∙ ap (slice_index v.signals) same)
          ∙ sym (ap (slice_index (slice_set v.signals t n)) same ∙ get_or-set_same v.signals t n 0 there)
      | inr other ↦ missed_path w (by_path d v) y.path 0 (λ e. other (sym (apart.signals t i x y at at_y
          (ap (λ q. same_path q y.path) (sym path) ∙ e))))
          ∙ signal_looked_up d v i y apart c at_y ∙ sym (get_or-set_other v.signals t i n 0 other)
    ])
    (λ i k y at_y l. missed_path w (by_path d v) y.path k (λ e. (apart.apart t i x y at at_y).0
    (ap (λ q. same_path q y.path) (sym path) ∙ e)) ∙ word_looked_up d v i k y apart c at_y)

-- ---- a write to a word of a memory

word_counts_kept : (d : Design) (v : Values) (t : ℕ) (ns : List ℕ) → length ns ≡ length (slice_index_or v.memories t [])
    → t < length v.memories → HasCounts d v
    → HasCounts d (record { signals = v.signals; memories = slice_set v.memories t ns })
word_counts_kept d v t ns long there c = record {
  signals = c.signals;
  memories = length-set v.memories t ns ∙ c.memories;
  words = λ i y at. elim (cases_eq i t) [
    | inl same ↦ ap (λ j. length (slice_index_or (slice_set v.memories t ns) j [])) same
        ∙ ap length (get_or-set_same v.memories t ns [] there) ∙ long
        ∙ ap (λ j. length (slice_index_or v.memories j [])) (sym same) ∙ c.words i y at
    | inr other ↦ ap length (get_or-set_other v.memories t i ns [] other) ∙ c.words i y at
  ];
}

word_written : (d : Design) (v : Values) (w : Write) (t k : ℕ) (y : Memory) → PathsAreDistinct d → HasCounts d v
    → slice_get d.memories t ≡ Some y → w.spot.path ≡ y.path → w.spot.word ≡ pos k → k < word_count y
    → written d w v ≡ record {
      signals = v.signals;
      memories = slice_set v.memories t (slice_set (slice_index_or v.memories t []) k
          (put w (slice_index (slice_index_or v.memories t []) k)));
    }
word_written d v w t k y apart c at path word l =
    let own : List ℕ = slice_index_or v.memories t [] in
    let n : ℕ = put w (slice_index own k) in
    let ns : List ℕ = slice_set own k n in
    let there : t < length v.memories = omega (arith, slice_get_within d.memories t y at, c.memories) in
    let inside : k < length own = omega (arith, c.words t y at, l) in
    numbered_as d (stored w (by_path d v)) (record { signals = v.signals; memories = slice_set v.memories t ns })
    (word_counts_kept d v t ns (length-set own k n) there c)
    (λ i x at_x. missed_path w (by_path d v) x.path 0 (λ e. (apart.apart i t x y at_x at).1
    (ap (λ q. same_path q x.path) (sym path) ∙ e))
    ∙ signal_looked_up d v i x apart c at_x)
    (λ i j z at_z m. elim (cases_eq i t) [
      | inr other ↦ missed_path w (by_path d v) z.path j (λ e. other (sym (apart.memories t i y z at at_z
          (ap (λ q. same_path q z.path) (sym path) ∙ e))))
          ∙ word_looked_up d v i j z apart c at_z
          ∙ ap (λ o. slice_index o j) (sym (get_or-set_other v.memories t i ns [] other))
      | inl same ↦
          let objects : Some z ≡ Some y = sym at_z ∙ ap (slice_get d.memories) same ∙ at in
          let one : y ≡ z = cc in
          let now : slice_index_or (slice_set v.memories t ns) i [] ≡ ns =
          ap (λ q. slice_index_or (slice_set v.memories t ns) q []) same ∙ get_or-set_same v.memories t ns [] there in
          let before : by_path d v z.path j ≡ slice_index own j =
          word_looked_up d v i j z apart c at_z ∙ ap (λ q. slice_index (slice_index_or v.memories q []) j) same in
          elim (cases_eq j k) [
            | inl equal ↦ hit w (by_path d v) z.path j (path ∙ ap (λ (s : Memory). s.path) one) (word ∙ ap pos (sym equal))
                ∙ ap (put w) (before ∙ ap (slice_index own) equal)
                ∙ sym (ap (λ o. slice_index o j) now ∙ ap (slice_index ns) equal ∙ get_or-set_same own k n 0 inside)
            | inr differs ↦ missed_word w (by_path d v) z.path j k word (λ e. differs (sym e)) ∙ before
                ∙ sym (ap (λ o. slice_index o j) now ∙ get_or-set_other own k j n 0 differs)
          ]
    ])

-- ---- writes in order

written_alike : (d : Design) (w : Write) (m : Store) → PathsAreDistinct d → by_number d (stored w m) ≡ written d w (by_number d m)
written_alike d w m apart =
    let again : Store = by_path d (by_number d m) in
    let signals : map (λ (x : Signal). stored w m x.path 0) d.signals ≡ map (λ (x : Signal). stored w again x.path 0) d.signals =
    listed_alike (λ (x : Signal). stored w m x.path 0) (λ (x : Signal). stored w again x.path 0) d.signals (λ t x at.
    ap (λ n. if same_path w.spot.path x.path && is_word w.spot.word 0 then put w n else n)
    (sym (signal_again d m t x apart at))) in
    let memories : map (λ (y : Memory). map (stored w m y.path) (up_to (word_count y))) d.memories
    ≡ map (λ (y : Memory). map (stored w again y.path) (up_to (word_count y))) d.memories =
    listed_alike (λ (y : Memory). map (stored w m y.path) (up_to (word_count y)))
    (λ (y : Memory). map (stored w again y.path) (up_to (word_count y))) d.memories (λ t y at.
    listed_alike (stored w m y.path) (stored w again y.path) (up_to (word_count y)) (λ k j there.
    let l : k < word_count y = subst (λ n. k < n) (count_up (word_count y)) (slice_get_within (up_to (word_count y)) k j there) in
    let numbers : Some j ≡ Some k = sym there ∙ number_up (word_count y) k l in
    let same : k ≡ j = cc in
    ap (λ n. if same_path w.spot.path y.path && is_word w.spot.word j then put w n else n)
    (sym (word_again d m t j y apart at (subst (λ q. q < word_count y) same l))))) in
    ap (λ (ns : List ℕ). record {
      signals = ns;
      memories = map (λ (y : Memory). map (stored w m y.path) (up_to (word_count y))) d.memories;
    }) signals
    ∙ ap (λ (ms : List (List ℕ)). record {
      signals = map (λ (x : Signal). stored w again x.path 0) d.signals;
      memories = ms;
    }) memories

in_order : (d : Design) (ws : List Write) (m : Store) → PathsAreDistinct d
    → by_number d (all_stored ws m) ≡ all_written d ws (by_number d m)
in_order d [] m apart = refl
in_order d (w ∷ ws) m apart =
    in_order d ws (stored w m) apart ∙ ap (all_written d ws) (written_alike d w m apart)

pub stores_are : StoreLaw
stores_are = record {
  looked_up = looked_up;
  written_to = λ d v w apart fits. record {
    signal = λ t x at path word. signal_written d v w t x apart (counts_fit d v fits) at path word;
    word = λ t k y at path word l. word_written d v w t k y apart (counts_fit d v fits) at path word l;
  };
  in_order = in_order;
}
