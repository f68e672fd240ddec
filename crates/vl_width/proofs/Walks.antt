-- One element more of what is gone through.
use Rattle.std.proofs.Common.{◌≡◌, refl, sym, ap, ◌∙◌, Bool, false, List, [], ◌∷◌, ◌++◌, Some, None, map, length}
use Rattle.std.specs.Prelude.{Option, ◌==◌}
use Rattle.std.specs.Option.{option_map}
use Rattle.vl_tree.specs.declared.expression.Selected.{Selected}
use Rattle.vl_tree.specs.declared.expression.Expr as code
use Rattle.vl_tree.specs.declared.expression.Link.{Link}
use Rattle.vl_tree.specs.Syntax.{Links, no_link, more_link}
use Rattle.vl_tree.specs.SyntaxView as view
use Rattle.vl_value.specs.Things.{Thing, signal, memory, constant, routine}
use Rattle.vl_value.specs.Constant.{Sight}
use Rattle.vl_value.specs.Meaning as m
use Rattle.vl_value.specs.Meaning.{Meaning}
use Rattle.vl_width.specs.Known.{both, read_known, known, linked, chosen_among}
use Rattle.vl_width.specs.Lists.{links_of}
use Rattle.vl_width.specs.Terms.{branch, meant}
use Rattle.vl_width.specs.declared.known.Branch.{Branch}
use Rattle.vl_width.specs.declared.known.Known.{Known}

-- ---- names

-- a name with a select is none
pub with_selects : (o : Option Thing) (k : Selected code.Expr) (ks : List (Selected code.Expr)) → None ≡ read_known o (view.read_selects (k ∷ ks))
with_selects None k ks = refl
with_selects (Some (signal p sh)) k ks = refl
with_selects (Some (memory p sh first last)) k ks = refl
with_selects (Some (constant w s n)) k ks = refl
with_selects (Some (routine inside p sh shs)) k ks = refl

pub nonempty : (o : Option Thing) (ks : List (Selected code.Expr)) (b : Bool) → b ≡ (length ks == 0) → b ≡ false → None ≡ read_known o (view.read_selects ks)
nonempty o [] b e h = absurd cc
nonempty o (k ∷ ks) b e h = with_selects o k ks

-- ---- operators

-- from an operand that is none on all is none
pub linked_none : (s : Sight) (ls : Links) → None ≡ linked s ls None
linked_none s no_link = refl
linked_none s (more_link f p e ls) = linked_none s ls

pub linked_unknown : (s : Sight) (ls : Links) (o : Option Known) → ((k : Known) → o ≡ Some k → ⊥) → None ≡ linked s ls (option_map meant o)
linked_unknown s ls None h = linked_none s ls
linked_unknown s ls (Some k) h = absurd (h k refl)

-- so is an operand that is none
pub link_none : (s : Sight) (l : Link code.Expr) (ls : List (Link code.Expr)) (a : Meaning) → None ≡ known s (view.expr l.operand)
    → None ≡ linked s (links_of (l ∷ ls)) (Some a)
link_none s l ls a h = linked_none s (links_of ls) ∙ ap (λ o. linked s (links_of ls) (both (m.binary_of l.operator) (Some a) o)) h

-- ---- choices

one_branch : (xs : List Branch) (x : Branch) (b : Meaning)
    → chosen_among (map branch (xs ++ x ∷ [])) b ≡ chosen_among (map branch xs) (m.choice (meant x.condition) (meant x.value) b)
one_branch [] x b = refl
one_branch (y ∷ xs) x b = ap (m.choice (meant y.condition) (meant y.value)) (one_branch xs x b)

-- the last of the branches that are left is taken
pub popped : (all left : List Branch) (x : Branch) (b r whole : Meaning) → all ≡ left ++ x ∷ []
    → r ≡ m.choice (meant x.condition) (meant x.value) b → chosen_among (map branch all) b ≡ whole
    → chosen_among (map branch left) r ≡ whole
popped all left x b r whole e is h =
    ap (chosen_among (map branch left)) is ∙ sym (one_branch left x b) ∙ ap (λ (l : List Branch). chosen_among (map branch l) b) (sym e) ∙ h
