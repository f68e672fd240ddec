-- Words of memories, one memory after another.
use Rattle.std.proofs.Common.{◌≡◌, ℕ, zero, suc, ◌+◌, ◌<◌, List, [], ◌∷◌, ◌++◌, length, take, drop, get_or, refl, sym, ap, ◌∙◌, subst, append_assoc, Vec, Global, arith}
use Rattle.std.specs.Prelude.{map, is_some, if◌then◌else◌}
use Rattle.std.proofs.lemmas.List.{take_more, map-append, get_or-map}
use Rattle.std.proofs.Math.Seq.{drop-cons}
use Rattle.netlist.specs.Plain.{PlainMemory}
use Rattle.netlist.specs.Run.{all_words}
use Rattle.step_program.specs.Values.{contents}
use Rattle.step_program.specs.declared.words.MemoryWords.{MemoryWords}
use Rattle.held_state.specs.Kept.{IsKept, AllKept, state_words}
use Rattle.held_state.specs.States.{WordsFit, MemoriesFit}
use Rattle.held_state.proofs.Words.{kept_pushed}

pub one_more : (k : ℕ) → suc k ≡ k + 1
one_more k = omega arith

pub dropped : {X : Type 0} (xs : List X) (k : ℕ) (x : X) → k < length xs → x ≡ get_or xs k x
    → drop k xs ≡ x ∷ drop (k + 1) xs
dropped {X} xs k x l is =
    drop-cons xs k x l ∙ ap (λ j. get_or xs k x ∷ drop j xs) (one_more k)
    ∙ ap (λ (y : X). y ∷ drop (k + 1) xs) (sym is)

taken : {X : Type 0} (xs : List X) (k : ℕ) (x : X) → k < length xs → x ≡ get_or xs k x
    → take (k + 1) xs ≡ take k xs ++ x ∷ []
taken {X} xs k x l is = take_more xs k x l ∙ ap (λ (y : X). take k xs ++ y ∷ []) (sym is)

-- ---- the first words

pub record FirstOf (ms : List PlainMemory) (ws : List MemoryWords) (k : ℕ) : Type 0 where
  pub kept : AllKept (take k ms) ws
  pub same : map contents ws ≡ map (λ (m : PlainMemory). m.words) (take k ms)

pub first_more : (ms : List PlainMemory) (ws all : List MemoryWords) (k : ℕ) (m : PlainMemory) (w : MemoryWords)
    → k < length ms → m ≡ get_or ms k m → all ≡ ws ++ w ∷ [] → FirstOf ms ws k → IsKept m w → contents w ≡ m.words
    → FirstOf ms all (k + 1)
first_more ms ws all k m w l is pushed h one same =
    let e : take (k + 1) ms ≡ take k ms ++ m ∷ [] = taken ms k m l is in
    record {
      kept = subst (λ (out : List MemoryWords). AllKept (take (k + 1) ms) out) (sym pushed)
          (subst (λ (ns : List PlainMemory). AllKept ns (ws ++ w ∷ [])) (sym e)
          (kept_pushed (take k ms) ws m w h.kept one));
      same = ap (map contents) pushed ∙ map-append contents ws (w ∷ [])
          ∙ ap (λ (out : List (List ℕ)). out ++ contents w ∷ []) h.same
          ∙ ap (λ (x : List ℕ). map (λ (n : PlainMemory). n.words) (take k ms) ++ x ∷ []) same
          ∙ sym (map-append (λ (n : PlainMemory). n.words) (take k ms) (m ∷ []))
          ∙ ap (map (λ (n : PlainMemory). n.words)) (sym e);
    }

-- ---- the words of a state

pub fit_count : (ms : List PlainMemory) (ss : List (List ℕ)) → MemoriesFit ms ss → length ss ≡ length ms
fit_count [] [] h = refl
fit_count [] (s ∷ ss) h = absurd h
fit_count (m ∷ ms) [] h = absurd h
fit_count (m ∷ ms) (s ∷ ss) h = ap suc (fit_count ms ss h.1)

pub fit_at : (ms : List PlainMemory) (ss : List (List ℕ)) (k : ℕ) (m : PlainMemory) (s : List ℕ) → MemoriesFit ms ss
    → k < length ms → m ≡ get_or ms k m → s ≡ get_or ss k s → WordsFit (is_some m.writer) m s
fit_at [] ss k m s h l is there = absurd (omega (arith, l))
fit_at (n ∷ ms) [] k m s h l is there = absurd h
fit_at (n ∷ ms) (v ∷ ss) zero m s h l is there =
    subst (λ (x : PlainMemory). WordsFit (is_some x.writer) x s) (sym is)
    (subst (λ x. WordsFit (is_some n.writer) n x) (sym there) h.0)
fit_at (n ∷ ms) (v ∷ ss) (suc k) m s h l is there = fit_at ms ss k m s h.1 (omega (arith, l)) is there

pub record WordsOf (ms : List PlainMemory) (ss : List (List ℕ)) (ws : List MemoryWords) (k : ℕ) : Type 0 where
  pub kept : AllKept (take k ms) ws
  pub same : map contents ws ++ all_words (drop k ms) (drop k ss) ≡ all_words ms ss

pub words_more : (ms : List PlainMemory) (ss : List (List ℕ)) (ws all : List MemoryWords) (k : ℕ) (m : PlainMemory)
    (s : List ℕ) (w : MemoryWords) → k < length ms → length ss ≡ length ms → m ≡ get_or ms k m → s ≡ get_or ss k s
    → all ≡ ws ++ w ∷ [] → WordsOf ms ss ws k → IsKept m w
    → contents w ≡ (if is_some m.writer then s else m.words) → WordsOf ms ss all (k + 1)
words_more ms ss ws all k m s w l count is there pushed h one same =
    let e : take (k + 1) ms ≡ take k ms ++ m ∷ [] = taken ms k m l is in
    let d : drop k ms ≡ m ∷ drop (k + 1) ms = dropped ms k m l is in
    let g : drop k ss ≡ s ∷ drop (k + 1) ss = dropped ss k s (omega (arith, l, count)) there in
    let rest : List (List ℕ) = all_words (drop (k + 1) ms) (drop (k + 1) ss) in
    record {
      kept = subst (λ (out : List MemoryWords). AllKept (take (k + 1) ms) out) (sym pushed)
          (subst (λ (ns : List PlainMemory). AllKept ns (ws ++ w ∷ [])) (sym e)
          (kept_pushed (take k ms) ws m w h.kept one));
      same = ap (λ (out : List MemoryWords). map contents out ++ rest) pushed
          ∙ ap (λ (out : List (List ℕ)). out ++ rest) (map-append contents ws (w ∷ []))
          ∙ append_assoc (map contents ws) (contents w ∷ []) rest
          ∙ ap (λ (x : List ℕ). map contents ws ++ x ∷ rest) same
          ∙ sym (ap (λ (ns : List PlainMemory). map contents ws ++ all_words ns (drop k ss)) d
          ∙ ap (λ (ts : List (List ℕ)). map contents ws ++ all_words (m ∷ drop (k + 1) ms) ts) g) ∙ h.same;
    }

-- ---- the state's words

pub record StateOf (ms : List PlainMemory) (ws : List MemoryWords) (out : List (List ℕ)) (k : ℕ) : Type 0 where
  pub same : out ++ state_words (drop k ms) (map contents (drop k ws)) ≡ state_words ms (map contents ws)

pub state_more : (ms : List PlainMemory) (ws : List MemoryWords) (out all : List (List ℕ)) (k : ℕ) (m : PlainMemory)
    (w : MemoryWords) (x : List ℕ) → k < length ms → length ws ≡ length ms → m ≡ get_or ms k m → w ≡ get_or ws k w
    → all ≡ out ++ x ∷ [] → StateOf ms ws out k → x ≡ (if is_some m.writer then contents w else [])
    → StateOf ms ws all (k + 1)
state_more ms ws out all k m w x l count is there pushed h same =
    let d : drop k ms ≡ m ∷ drop (k + 1) ms = dropped ms k m l is in
    let g : drop k ws ≡ w ∷ drop (k + 1) ws = dropped ws k w (omega (arith, l, count)) there in
    let rest : List (List ℕ) = state_words (drop (k + 1) ms) (map contents (drop (k + 1) ws)) in
    record {
      same = ap (λ (o : List (List ℕ)). o ++ rest) pushed ∙ append_assoc out (x ∷ []) rest
          ∙ ap (λ (y : List ℕ). out ++ y ∷ rest) same
          ∙ sym (ap (λ (ns : List PlainMemory). out ++ state_words ns (map contents (drop k ws))) d
          ∙ ap (λ (vs : List MemoryWords). out ++ state_words (m ∷ drop (k + 1) ms) (map contents vs)) g) ∙ h.same;
    }

-- a list of vectors as a list of lists
pub state_item : (state : List (Vec ℕ Global)) (k : ℕ) (v : Vec ℕ Global) → k < length state → v ≡ get_or state k v
    → v.items ≡ get_or (map (λ (u : Vec ℕ Global). u.items) state) k v.items
state_item state k v l is =
    ap (λ (u : Vec ℕ Global). u.items) is ∙ sym (get_or-map (λ (u : Vec ℕ Global). u.items) state k v v.items l)
