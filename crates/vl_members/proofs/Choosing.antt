-- Branches of an `if` one after another.
use Rattle.std.proofs.Common.{◌≡◌, refl, sym, ap, ◌∙◌, subst, Bool, true, false, if◌then◌else◌, List, [], ◌++◌}
use Rattle.std.specs.Prelude.{Option, Some, None}
use Rattle.vl_tree.specs.Syntax as t
use Rattle.vl_tree.specs.Syntax.{Place}
use Rattle.vl_value.specs.Meaning.{Meaning, true_of}
use Rattle.vl_design.specs.Limits.{limits}
use Rattle.vl_design.specs.Declarations as d
use Rattle.vl_design.specs.Parameters.{Given}
use Rattle.vl_design.specs.Constants.{value_of}
use Rattle.vl_design.specs.Generate.{Around, behind, is_if}
use Rattle.vl_design.specs.Scopes.{taken, declared_by, block_declared, branch_declared, else_declared}
use Rattle.vl_turns.specs.Turns.{truth_in}
use Rattle.vl_frames.specs.declared.frames.Frames.{Frames}
use Rattle.vl_frames.specs.Marks.{around}
use Rattle.vl_declares.specs.declared.declared.Declared.{Declared}
use Rattle.vl_declares.specs.Plain.{all_plain}
use Rattle.vl_members.specs.Members.{DeclaresBy}
use Rattle.vl_members.proofs.Adding.{inner_if, inner_other}

-- what an item declares is what these branches do, and nothing else is in sight behind it
pub record Chooses (gs : List Given) (a : Around) (i : t.Item) (left : t.GenerateBranches) (last : t.GenerateElse) : Type 0 where
  pub declares : branch_declared limits gs a left (else_declared limits gs a last) ≡ declared_by limits gs a i
  pub sight : a ≡ behind gs a i

pub chooses_all : (gs : List Given) (a : Around) (i : t.Item) (bs : t.GenerateBranches) (e : t.GenerateElse) → i ≡ t.generate_if bs e
    → Chooses gs a i bs e
chooses_all gs a i bs e is = record {
  declares = ap (declared_by limits gs a) (sym is);
  sight = ap (behind gs a) (sym is);
}

-- what is taken, by whether the condition holds
abbrev taken_by : {A : Type 0} → Option Bool → List A → List A → List A
taken_by None here there = []
taken_by (Some true) here there = here
taken_by (Some false) here there = there

by_truth : {A : Type 0} → (y : Bool) (here there : List A) → (if y then here else there) ≡ taken_by (Some y) here there
by_truth true here there = refl
by_truth false here there = refl

is_taken : {A : Type 0} → (v : Option Meaning) (here there : List A) → taken v [] here there ≡ taken_by (truth_in v) here there
is_taken None here there = refl
is_taken (Some m) here there = by_truth (true_of m) here there

module _ (gs : List Given) (a : Around) (i : t.Item) (left rest : t.GenerateBranches) (last : t.GenerateElse) (p : Place) (e : t.Expr) (b : t.GenerateBlock)
    (is : left ≡ t.more_generate_branch p e b rest) (c : Chooses gs a i left last) where
  first : (o : Option Bool) → o ≡ truth_in (value_of a.known e)
      → taken_by o (block_declared limits gs a b) (branch_declared limits gs a rest (else_declared limits gs a last)) ≡ declared_by limits gs a i
  first o h = ap (λ q. taken_by q (block_declared limits gs a b) (branch_declared limits gs a rest (else_declared limits gs a last))) h
      ∙ sym (is_taken (value_of a.known e) (block_declared limits gs a b) (branch_declared limits gs a rest (else_declared limits gs a last)))
      ∙ ap (λ bs. branch_declared limits gs a bs (else_declared limits gs a last)) (sym is) ∙ c.declares

  -- the condition is faulty
  pub none_is : None ≡ truth_in (value_of a.known e) → [] ≡ declared_by limits gs a i
  none_is h = first None h

  -- this branch is taken
  pub here_is : Some true ≡ truth_in (value_of a.known e) → block_declared limits gs a b ≡ declared_by limits gs a i
  here_is h = first (Some true) h

  -- another branch is taken
  pub there_is : Some false ≡ truth_in (value_of a.known e) → Chooses gs a i rest last
  there_is h = record { declares = first (Some false) h; sight = c.sight }

-- what a block declares is what the item does
pub declares_as : (gs : List Given) (i : t.Item) (was now : Frames) (old new : List Declared) (ds : List d.Declared)
    → ds ≡ declared_by limits gs (around was) i → around was ≡ behind gs (around was) i
    → DeclaresBy ds (around was) was now old new
    → DeclaresBy (declared_by limits gs (around was) i) (behind gs (around was) i) was now old new
declares_as gs i was now old new ds e s h = record {
  added = h.added ∙ ap (λ ys. all_plain old ++ ys) e;
  sight = h.sight ∙ s;
  outer = h.outer;
}

-- ---- a block without `begin`, from what stands at its branch

module _ (gs : List Given) (i inner : t.Item) (start was : Frames) (first old : List Declared) (ef : was ≡ start) (ed : old ≡ first)
    (b : block_declared limits gs (around start) (t.single inner) ≡ declared_by limits gs (around start) i)
    (s : around start ≡ behind gs (around start) i) where
  pub inner_taken : (now : Frames) (new : List Declared) → is_if inner ≡ true
      → DeclaresBy (declared_by limits gs (around was) inner) (behind gs (around was) inner) was now old new
      → DeclaresBy (declared_by limits gs (around start) i) (behind gs (around start) i) start now first new
  inner_taken now new is h = declares_as gs i start now first new (block_declared limits gs (around start) (t.single inner)) b s
      (inner_if gs inner start now first new is
      (subst (λ f. DeclaresBy (declared_by limits gs (around f) inner) (behind gs (around f) inner) f now first new) ef
      (subst (λ ds. DeclaresBy (declared_by limits gs (around was) inner) (behind gs (around was) inner) was now ds new) ed h)))

  pub inner_left : is_if inner ≡ false
      → DeclaresBy (declared_by limits gs (around start) i) (behind gs (around start) i) start was first old
  inner_left is = subst (λ f. DeclaresBy (declared_by limits gs (around start) i) (behind gs (around start) i) start f first old) (sym ef)
      (subst (λ ds. DeclaresBy (declared_by limits gs (around start) i) (behind gs (around start) i) start start first ds) (sym ed)
      (declares_as gs i start start first first (block_declared limits gs (around start) (t.single inner)) b s
      (inner_other gs inner start first is)))

-- the last block
pub last_is : (gs : List Given) (a : Around) (i : t.Item) (left : t.GenerateBranches) (last : t.GenerateElse) (b : t.GenerateBlock)
    → left ≡ t.no_generate_branch → last ≡ t.generate_else b → Chooses gs a i left last → block_declared limits gs a b ≡ declared_by limits gs a i
last_is gs a i left last b none e c =
    sym (λ j. branch_declared limits gs a (none j) (else_declared limits gs a (e j))) ∙ c.declares
