-- Where all is well outside, the answer is 0, 1 or 9.
use Rattle.std.proofs.Common.{◌≡◌, ℕ, ◌≤◌, List, [], ◌∷◌, ◌++◌, length, Bool, true, false, IsTrue, refl, sym, ap, subst, ◌∙◌, inl, inr, ◌⊎◌, arith, append-nil}
use Rattle.std.specs.Prelude.{Option, Some, None}
use Rattle.std.specs.Io.KnownBytes.{Consumes, IsAtEnd}
use Rattle.vl_tree.specs.Tree.{Module}
use Rattle.vl_front.specs.OneModule.{IsOneModule}
use Rattle.vl_front.proofs.Exclusive.{no_fault, no_lack}
use Rattle.stimulus.specs.declared.refusal.RefusalKind.TheVariants as k
use Rattle.stimulus.specs.declared.refusal.Refusal.{Refusal}
use Rattle.stimulus.specs.Refusals.{is_truncated}
use Rattle.stimulus.specs.Stimulus as text
use Rattle.stimulus_laws.proofs.GluedLaws.{stays_refused}
use Rattle.talk.specs.Words.{Job, Asks}
use Rattle.talk.proofs.WordsLaws.{one_job, bad_is_no_line}
use Rattle.dt_io.specs.Files.{IsLong}
use Rattle.dt_core.specs.declared.limits.TheConstants.{MAX_FILE}
use Rattle.dessert.specs.Outside.{FilesAt, Outside}
use Rattle.dessert.specs.Answer.{Status, quiet, failure, usage, design, input, file, reading, writing, reporting, memory, number, Loaded, Answers}
use Rattle.talk.specs.Words.{top_of, files_of}
use Rattle.dessert.specs.Inputs.{inputs_of}
use Rattle.dessert.specs.Sources.{design_text}
use Rattle.dessert.specs.Outcome.{layers, Design, AreDesign, AreRefused}
use Rattle.dessert.specs.Complete.{AllWell}

-- all that was left was taken
took_whole : (l n : Option (List ℕ)) (whole bytes : List ℕ) → l ≡ Some whole → Consumes l n bytes → IsAtEnd n → bytes ≡ whole
took_whole None n whole bytes e c a = absurd cc
took_whole (Some xs) None whole bytes e c a = absurd c
took_whole (Some xs) (Some ys) whole bytes e c a =
    let s : xs ≡ whole = cc in sym (append-nil bytes) ∙ ap (λ (y : List ℕ). bytes ++ y) (sym a) ∙ sym c ∙ s

-- what was taken is a front of what was left
took_front : (l n : Option (List ℕ)) (whole bytes : List ℕ) → l ≡ Some whole → Consumes l n bytes → (rest : List ℕ) × (whole ≡ bytes ++ rest)
took_front None n whole bytes e c = absurd cc
took_front (Some xs) None whole bytes e c = absurd c
took_front (Some xs) (Some ys) whole bytes e c = (ys, (let s : whole ≡ xs = cc in s ∙ c))

-- a file within the limit isn't too long
not_long : (x : Option (List ℕ)) (bytes : List ℕ) → x ≡ Some bytes → length bytes ≤ MAX_FILE → IsLong x MAX_FILE → ⊥
not_long None bytes e l h = h
not_long (Some xs) bytes e l h = let s : xs ≡ bytes = cc in let k = ap (λ (b : List ℕ). length b) s in absurd (omega (arith, k))

module _ (shelf : FilesAt) (is_told : shelf.told ≡ true) where
  -- files of the same names that were loaded are the same
  pub same_files : (names files others : List (List ℕ)) → Loaded shelf names others → Loaded shelf names files → files ≡ others
  same_files [] [] [] h l = refl
  same_files [] [] (g ∷ others) h l = absurd h
  same_files [] (f ∷ files) others h l = absurd l
  same_files (name ∷ names) [] others h l = absurd l
  same_files (name ∷ names) (f ∷ files) [] h l = absurd h
  same_files (name ∷ names) (f ∷ files) (g ∷ others) h l =
      let s : Some f ≡ Some g = sym (l.0 is_told) ∙ h.0 is_told in
      let e : f ≡ g = cc in
      let r = same_files names files others h.2 l.2 in
      λ i. e i ∷ r i

  -- none of the files that were loaded is too long
  pub none_long : (before : List (List ℕ)) (name : List ℕ) (after files : List (List ℕ)) → Loaded shelf (before ++ name ∷ after) files
      → IsLong (shelf.content name) MAX_FILE → ⊥
  none_long [] name after [] h l = absurd h
  none_long [] name after (g ∷ files) h l = not_long (shelf.content name) g (h.0 is_told) h.1 l
  none_long (b ∷ before) name after [] h l = absurd h
  none_long (b ∷ before) name after (g ∷ files) h l = none_long before name after files h.2 l

module _ (words : List (List ℕ)) (old new : Outside) (w : AllWell words old new) where
  same_job : (other : Job) → Asks words other → other ≡ w.job
  same_job other e = one_job words other w.job e w.asked

  -- the files that a job loads hold the module's text
  is_module : (j : Job) (files : List (List ℕ)) → Asks words j → Loaded old.files (files_of j) files → IsOneModule (design_text files) (top_of j) w.the_module
  is_module j files e l =
      let s = same_job j e in
      let h : Loaded old.files (files_of j) w.files = subst (λ (x : Job). Loaded old.files (files_of x) w.files) (sym s) w.loaded in
      let d : IsOneModule (design_text w.files) (top_of j) w.the_module = subst (λ (x : Job). IsOneModule (design_text w.files) (top_of x) w.the_module) (sym s) w.design in
      subst (λ (x : List (List ℕ)). IsOneModule (design_text x) (top_of j) w.the_module) (sym (same_files old.files w.is_told (files_of j) files w.files h l)) d

  -- an accepted design is the module
  the_top : (j : Job) (files : List (List ℕ)) (d : Design) → Asks words j → Loaded old.files (files_of j) files → AreDesign j files d → d.top ≡ w.the_module
  the_top j files d e l a = sym (a.is_design.only w.the_module (is_module j files e l))

  no_refusal : (j : Job) (files : List (List ℕ)) (h : List ℕ) → Asks words j → Loaded old.files (files_of j) files → AreRefused j files h → ⊥
  no_refusal j files h e l (inl f) = no_fault (design_text files) (top_of j) w.the_module f.0 (is_module j files e l) f.1
  no_refusal j files h e l (inr (inl t)) = no_lack (design_text files) (top_of j) w.the_module t.0 (is_module j files e l) t.1
  no_refusal j files h e l (inr (inr n)) = n.0.none w.the_module (is_module j files e l)

  -- the stimulus isn't refused
  module _ (r : Refusal) (bytes : List ℕ) (top : Module) (e : top ≡ w.the_module) (c : Consumes old.source.left new.source.left bytes)
      (j : text.stimulus (inputs_of top) bytes ≡ text.refused r) where
    refused_there : text.stimulus (inputs_of w.the_module) bytes ≡ text.refused r
    refused_there = subst (λ (x : Module). text.stimulus (inputs_of x) bytes ≡ text.refused r) e j

    no_short : IsAtEnd new.source.left → ⊥
    no_short a =
        let t = took_whole old.source.left new.source.left w.bytes bytes w.left c a in
        let s : text.refused r ≡ text.rows w.rows = sym refused_there ∙ ap (text.stimulus (inputs_of w.the_module)) t ∙ w.stimulus in absurd cc

    no_other : (r.kind ≡ k.Truncated → ⊥) → ⊥
    no_other n =
        let t = took_front old.source.left new.source.left w.bytes bytes w.left c in
        let f = stays_refused (inputs_of w.the_module) bytes t.0 r refused_there n in
        let s : text.refused r ≡ text.rows w.rows = sym f ∙ ap (text.stimulus (inputs_of w.the_module)) (sym t.1) ∙ w.stimulus in absurd cc

    no_input : (b : Bool) → is_truncated r.kind ≡ b → (IsTrue b → IsAtEnd new.source.left) → ⊥
    no_input true t a = no_short (a refl)
    no_input false t a = no_other (λ n. let s : true ≡ false = sym (ap is_truncated n) ∙ t in absurd cc)

  no_file : (before : List (List ℕ)) (name : List ℕ) (after : List (List ℕ)) (job : Job) → Asks words job → files_of job ≡ before ++ name ∷ after → IsLong (old.files.content name) MAX_FILE → ⊥
  no_file before name after job e n l =
      let h : Loaded old.files (files_of job) w.files = subst (λ (x : Job). Loaded old.files (files_of x) w.files) (sym (same_job job e)) w.loaded in
      none_long old.files w.is_told before name after w.files (subst (λ (x : List (List ℕ)). Loaded old.files x w.files) n h) l

  pub ends : (s : Status) → Answers layers words old new s → (number s ≡ 0) ⊎ ((number s ≡ 1) ⊎ (number s ≡ 9))
  ends quiet a = inl refl
  ends failure a = inr (inl refl)
  ends usage a = let b = a.3.1 in absurd (bad_is_no_line words b.bad_word b.is_first_bad (w.job, w.asked))
  ends design a = let b = a.3.1 in absurd (no_refusal b.job b.files a.2 b.asked b.loaded b.refused)
  ends input a =
      let b = a.3.1 in
      absurd (no_input b.judged.0 b.bytes b.the_design.top (the_top b.job b.ready.files b.the_design b.ready.asked b.ready.loaded b.ready.accepted) b.taken b.judged.1 b.short (sym b.judged.2) b.at_end)
  ends file a = let b = a.3.1 in elim b.cause [ inl c ↦ absurd (w.loads c.0.0) | inr c ↦ absurd (no_file b.before b.name b.after b.job b.asked b.names_are (c.0.0 w.is_told).0) ]
  ends reading a = absurd (w.reads a.3.1.rose)
  ends writing a = absurd (w.writes a.3.rose)
  ends reporting a = absurd (w.reports a.0)
  ends memory a = inr (inr refl)
