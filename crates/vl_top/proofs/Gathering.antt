-- Names that are gathered from one part after another.
use Rattle.std.proofs.Common.{◌≡◌, ℕ, ◌≤◌, Bool, true, false, ◌||◌, List, length, drop, Option, is_some, refl, sym, ap, ◌∙◌}
use Rattle.std.proofs.lemmas.List.{drop_all}
use Rattle.std.specs.Prelude.{OnOk, Result, Ok, Err}
use Rattle.vl_tree.specs.Syntax as t
use Rattle.vl_tree.specs.SyntaxView.{item}
use Rattle.vl_tree.specs.declared.item.GenerateBlock.{GenerateBlock}
use Rattle.vl_tree.specs.declared.item.GenerateBlock.TheVariants as body
use Rattle.vl_tree.specs.declared.item.GenerateBranch.{GenerateBranch}
use Rattle.vl_tree.specs.declared.item.Item.{Item}
use Rattle.vl_design.specs.Walk.{instantiates, some_instantiates, block_instantiates, branches_instantiate, else_instantiates}
use Rattle.vl_views.specs.Blocks.{items_of, block_of, branches_of, else_of}
use Rattle.vl_top.specs.Names.{Gathers}

-- what is in one of three
pub or_on : (a b c : Bool) → ((a || b) || c) ≡ (a || (b || c))
or_on true b c = refl
or_on false b c = refl

pub or_none : (a : Bool) → a ≡ (a || false)
or_none true = refl
or_none false = refl

-- names that were gathered, and those of what is left: one part on
pub one_on : (old new : List ℕ → Option ℕ) (f rest start : List ℕ → Bool)
    → Gathers old new f → ((x : List ℕ) → (is_some (old x) || (f x || rest x)) ≡ start x)
    → (x : List ℕ) → (is_some (new x) || rest x) ≡ start x
one_on old new f rest start g h x = ap (λ b. b || rest x) (g x) ∙ or_on (is_some (old x)) (f x) (rest x) ∙ h x

-- nothing more
pub gathers_none : (old : List ℕ → Option ℕ) → Gathers old old (λ x. false)
gathers_none old x = or_none (is_some (old x))

-- one part and then another
pub gathers_both : (a b c : List ℕ → Option ℕ) (f h : List ℕ → Bool) → Gathers a b f → Gathers b c h → Gathers a c (λ x. f x || h x)
gathers_both a b c f h p q x = q x ∙ ap (λ y. y || h x) (p x) ∙ or_on (is_some (a x)) (f x) (h x)

-- what holds of an Ok
pub on_ok : {A E : Type 0} {P Q : Type 0} (r : Result A E) → (P → Q) → OnOk r P → OnOk r Q
on_ok (Ok a) f p = f p
on_ok (Err e) f p = tt

-- ---- an `if`: branches one after another, and then a last one

pub branch_on : (old new : List ℕ → Option ℕ) (f rest last start : List ℕ → Bool)
    → Gathers old new f → ((x : List ℕ) → (is_some (old x) || ((f x || rest x) || last x)) ≡ start x)
    → (x : List ℕ) → (is_some (new x) || (rest x || last x)) ≡ start x
branch_on old new f rest last start g h =
    one_on old new f (λ x. rest x || last x) start g
    (λ x. ap (λ b. is_some (old x) || b) (sym (or_on (f x) (rest x) (last x))) ∙ h x)

pub ended : (used : List ℕ → Option ℕ) (all : List (GenerateBranch Item)) (k : ℕ) (last : Option (GenerateBlock Item)) (start : List ℕ → Bool)
    → length all ≤ k
    → ((x : List ℕ) → (is_some (used x) || (branches_instantiate x (branches_of (drop k all)) || else_instantiates x (else_of last))) ≡ start x)
    → (x : List ℕ) → (is_some (used x) || else_instantiates x (else_of last)) ≡ start x
ended used all k last start past h x =
    ap (λ bs. is_some (used x) || (branches_instantiate x (branches_of bs) || else_instantiates x (else_of last))) (sym (drop_all k all past)) ∙ h x

-- ---- a block's names are those of what it holds

abbrev pub names_of_item : t.Item → List ℕ → Bool
names_of_item i = λ x. instantiates x i

abbrev pub names_of_items : t.Items → List ℕ → Bool
names_of_items is = λ x. some_instantiates x is

abbrev pub names_of_block : t.GenerateBlock → List ℕ → Bool
names_of_block b = λ x. block_instantiates x b

pub of_single : (b : GenerateBlock Item) (inner got : Item) → b ≡ body.Single inner → got ≡ inner
    → names_of_item (item got) ≡ names_of_block (block_of b)
of_single b inner got e g = λ i x. (ap (λ y. instantiates x (item y)) g ∙ ap (λ y. block_instantiates x (block_of y)) (sym e)) i

pub of_several : (b : GenerateBlock Item) (is got : List Item) → ((x : List ℕ) → some_instantiates x (items_of is) ≡ block_instantiates x (block_of b)) → got ≡ is
    → names_of_items (items_of got) ≡ names_of_block (block_of b)
of_several b is got e g = λ i x. (ap (λ y. some_instantiates x (items_of y)) g ∙ e x) i
