-- No two scopes that a source asks for have one path, where no scope declares a name twice and nothing fails.
use Rattle.std.proofs.Common.{◌≡◌, ◌≤◌, ◌<◌, ◌+◌, ◌^◌, ◌==◌, ℕ, zero, suc, Bool, true, false, ◌⊎◌, inl, inr, List, [], ◌∷◌, ◌++◌, map, refl, sym, subst, ap, ◌∙◌, arith}
use Rattle.std.specs.Prelude.{Option, Some, None, if◌then◌else◌, bytes_eq}
use Rattle.std.proofs.lemmas.Bool.{eqb-true}
use Rattle.vl_tree.specs.Syntax.{Name, Binds, Instance, Item, Items, GenerateBlock, GenerateBranches, GenerateElse, Module, Source, Loop, Place, parameter, directed, nets, registers, integer, genvar, continuous, always, initial, function, instances, region, generate_loop, generate_if, no_item, more_item, single, several, no_generate_branch, more_generate_branch, no_generate_else, generate_else}
use Rattle.vl_value.specs.Paths.{Text, Path, Step, named, turn, unnamed, same_step, same_turn, same_number}
use Rattle.vl_value.specs.Meaning.{Meaning, true_of}
use Rattle.vl_value.specs.Order.{Found, at}
use Rattle.vl_tree.specs.declared.fault.FaultKind.TheVariants.{Misplaced}
use Rattle.vl_design.specs.Lists.{each_of}
use Rattle.vl_design.specs.Limits.{Limits}
use Rattle.vl_design.specs.Constants.{Known, value_of, needs, nothing_known}
use Rattle.vl_design.specs.Parameters.{Given, no_type, header_needs, header_worth, given_of, binds_faults}
use Rattle.vl_design.specs.Declarations.{Declared, parameter_by, header_ports, port_needs, inner, item_needs}
use Rattle.vl_design.specs.Generate.{Around, behind, in_turn, has_one_genvar, Turns, turns_of, turn_number, constructs_of, constructs, is_if, label_declared, loop_declared, turn_tokens}
use Rattle.vl_design.specs.Scopes.{Scope, Here, Use, Maker, Request, instance_begins, expands, opens, fails, failing, module_at, each_instance, instances_by, misplaced, taken, declared_by, declared, block_declared, branch_declared, else_declared, body_around, block_scope, within, turn_step, item_requests, items_requests, scope_requests, block_requests, branch_requests, else_requests, ports_of, at_entry, module_scope, inside, module_requests, instance_requests, top_use, all_requests}
use Rattle.vl_design.specs.ObjectFaults.{same_names}
use Rattle.vl_scope_paths.proofs.Apart.{Each, each_so, each_joined, each_parted, Between, between_by, Pairwise, pairwise_joined, pairwise_parted}
use Rattle.vl_scope_paths.proofs.Steps.{first_not, second_not, not_so}
use Rattle.vl_scope_paths.proofs.Labels.{UnlikeTexts, label, labels, labels_differ}
use Rattle.vl_scope_paths.proofs.Turns.{turns_differ, turns_fit, unlike_turns}

-- ---- what requests open

-- the scopes, in order
abbrev pub opened : List Request → List Scope
opened [] = []
opened (instance_begins p ∷ rs) = opened rs
opened (expands n ∷ rs) = opened rs
opened (opens s ∷ rs) = s ∷ opened rs
opened (fails f ∷ rs) = opened rs

opened_joined : (xs ys : List Request) → opened (xs ++ ys) ≡ opened xs ++ opened ys
opened_joined [] ys = refl
opened_joined (instance_begins p ∷ xs) ys = opened_joined xs ys
opened_joined (expands n ∷ xs) ys = opened_joined xs ys
opened_joined (opens s ∷ xs) ys = ap (λ ss. s ∷ ss) (opened_joined xs ys)
opened_joined (fails f ∷ xs) ys = opened_joined xs ys

-- it doesn't fail, and a scope declares no name twice
abbrev pub Sound : Request → Type 0
Sound (instance_begins p) = Unit {0}
Sound (expands n) = Unit {0}
Sound (opens s) = same_names [] s.level.declared ≡ []
Sound (fails f) = ⊥

abbrev pub path_of : Scope → Path
path_of s = s.level.path

joined_steps : (p : Path) (x : Step) (more : Path) → (p ++ x ∷ []) ++ more ≡ p ++ x ∷ more
joined_steps [] x more = refl
joined_steps (y ∷ p) x more = ap (λ r. y ∷ r) (joined_steps p x more)

nothing_more : (p : Path) → p ≡ p ++ []
nothing_more [] = refl
nothing_more (x ∷ p) = ap (λ r. x ∷ r) (nothing_more p)

-- ---- steps by labels and by numbers of constructs

abbrev pub Has : List Text → Text → Type 0
Has [] x = ⊥
Has (y ∷ ys) x = (y ≡ x) ⊎ Has ys x

-- of a label among some, or of a construct from the number n on and below m
abbrev pub Keyed : List Text → ℕ → ℕ → Step → Type 0
Keyed ls n m (named x) = Has ls x
Keyed ls n m (turn x z) = Has ls x
Keyed ls n m (unnamed k z) = (n ≤ k) × (k < m)

-- of a label that a scope declares, or of a construct of its
abbrev pub IsOwn : List Text → Step → Type 0
IsOwn ls (named x) = Has ls x
IsOwn ls (turn x z) = Has ls x
IsOwn ls (unnamed k z) = Unit {0}

own_of : (ls : List Text) (n m : ℕ) (x : Step) → Keyed ls n m x → IsOwn ls x
own_of ls n m (named x) h = h
own_of ls n m (turn x z) h = h
own_of ls n m (unnamed k z) h = tt

-- ---- how the paths of two scopes are related

-- from some place on they go on with steps that differ
abbrev pub Parted : Path → Path → Type 0
Parted p r = (q : Path) × ((x : Step) × ((y : Step) × ((xs : Path) × ((ys : Path) × ((p ≡ q ++ x ∷ xs) × ((r ≡ q ++ y ∷ ys) × (same_step x y ≡ false)))))))

-- ---- paths by their first step from a scope on

-- a path goes on from a scope's with a step of which K holds
abbrev pub Begins : Path → (Step → Type 0) → Path → Type 0
Begins p K r = (x : Step) × ((more : Path) × ((r ≡ p ++ x ∷ more) × K x))

begins_so : (p : Path) (K L : Step → Type 0) (go : (x : Step) → K x → L x) (r : Path) → Begins p K r → Begins p L r
begins_so p K L go r (x, (more, (e, k))) = (x, (more, (e, go x k)))

-- the second scope is in the first
abbrev pub Inside : Scope → Scope → Type 0
Inside s r = Begins (path_of s) (IsOwn (labels s.level.declared)) (path_of r)

-- of two scopes that are opened one behind the other
abbrev pub Related : Scope → Scope → Type 0
Related s r = Parted (path_of s) (path_of r) ⊎ Inside s r

begins_part : (p : Path) (K L : Step → Type 0) (go : (x y : Step) → K x → L y → same_step x y ≡ false) (s r : Scope)
    → Begins p K (path_of s) → Begins p L (path_of r) → Related s r
begins_part p K L go s r (x, (xs, (e, k))) (y, (ys, (f, l))) = inl (p, (x, (y, (xs, (ys, (e, (f, go x y k l)))))))

abbrev BeginsAt : Path → (Step → Type 0) → Scope → Type 0
BeginsAt p K s = Begins p K (path_of s)

record Good (p : Path) (K : Step → Type 0) (rs : List Request) : Type 0 where
  begins : Each (BeginsAt p K) (opened rs)
  related : Pairwise Related (opened rs)

good_so : (p : Path) (K L : Step → Type 0) (go : (x : Step) → K x → L x) (rs : List Request) → Good p K rs → Good p L rs
good_so p K L go rs g = record {
  begins = each_so (BeginsAt p K) (BeginsAt p L) (λ s. begins_so p K L go (path_of s)) (opened rs) g.begins;
  related = g.related;
}

good_joined : (p : Path) (K L M : Step → Type 0) (xs ys : List Request) (apart : (x y : Step) → K x → L y → same_step x y ≡ false)
    (left : (x : Step) → K x → M x) (right : (x : Step) → L x → M x) → Good p K xs → Good p L ys → Good p M (xs ++ ys)
good_joined p K L M xs ys apart left right g h = record {
  begins = subst (Each (BeginsAt p M)) (sym (opened_joined xs ys))
      (each_joined (BeginsAt p M) (opened xs) (opened ys) (good_so p K M left xs g).begins (good_so p L M right ys h).begins);
  related = subst (Pairwise Related) (sym (opened_joined xs ys)) (pairwise_joined Related (opened xs) (opened ys) g.related h.related
      (between_by Related (BeginsAt p K) (BeginsAt p L) (begins_part p K L apart) (opened xs) (opened ys) g.begins h.begins));
}

good_failing : (p : Path) (K : Step → Type 0) (fs : List Found) → Good p K (failing fs)
good_failing p K [] = record { begins = tt; related = tt }
good_failing p K (f ∷ fs) = let g = good_failing p K fs in record { begins = g.begins; related = g.related }

past_failing : (p : Path) (K : Step → Type 0) (fs : List Found) (rs : List Request) → Each Sound (failing fs ++ rs)
    → (Each Sound rs → Good p K rs) → Good p K (failing fs ++ rs)
past_failing p K [] rs h go = go h
past_failing p K (f ∷ fs) rs h go = absurd h.0

-- what is in a scope, and the scope
inner_begins : (p : Path) (x : Step) (K : Step → Type 0) (r : Path) → Begins (p ++ x ∷ []) K r → Begins p (λ y. y ≡ x) r
inner_begins p x K r (y, (more, (e, k))) = (x, (y ∷ more, (e ∙ joined_steps p x (y ∷ more), refl)))

good_scope : (p : Path) (x : Step) (ls : List Text) (n m : ℕ) (s : Scope) (rs : List Request) → path_of s ≡ p ++ x ∷ [] → ls ≡ labels s.level.declared
    → Good (p ++ x ∷ []) (Keyed ls n m) rs → Good p (λ y. y ≡ x) (opens s ∷ rs)
good_scope p x ls n m s rs e own g = record {
  begins = (
    (x, ([], (e, refl))),
    each_so (BeginsAt (p ++ x ∷ []) (Keyed ls n m)) (BeginsAt p (λ y. y ≡ x)) (λ r. inner_begins p x (Keyed ls n m) (path_of r)) (opened rs) g.begins,
  );
  related = (
    each_so (BeginsAt (p ++ x ∷ []) (Keyed ls n m)) (Related s) (λ r b. inr (in_scope_of s r (Keyed ls n m) (p ++ x ∷ []) e
        (λ y k. subst (λ w. IsOwn w y) own (own_of ls n m y k)) b)) (opened rs) g.begins,
    g.related,
  );
}
  where
    in_scope_of : (s r : Scope) (K : Step → Type 0) (q : Path) → path_of s ≡ q → ((y : Step) → K y → IsOwn (labels s.level.declared) y)
        → Begins q K (path_of r) → Inside s r
    in_scope_of s r K q e go (y, (more, (f, k))) = (y, (more, (f ∙ ap (λ w. w ++ y ∷ more) (sym e), go y k)))

-- ---- makers of instances

abbrev Under : Path → Path → Type 0
Under p r = (more : Path) × (r ≡ p ++ more)

abbrev UnderAt : Path → Scope → Type 0
UnderAt p s = Under p (path_of s)

pub record Made (p : Path) (rs : List Request) : Type 0 where
  pub under : Each (UnderAt p) (opened rs)
  pub related : Pairwise Related (opened rs)

abbrev pub MakesApart : Maker → Type 0
MakesApart make = (u : Use) (m : Module) → Each Sound (make u m) → Made u.path (make u m)

made_begins : (p : Path) (x : Step) (r : Path) → Under (p ++ x ∷ []) r → Begins p (λ y. y ≡ x) r
made_begins p x r (more, e) = (x, (more, (e ∙ joined_steps p x more, refl)))

good_made : (p : Path) (x : Step) (rs : List Request) → Made (p ++ x ∷ []) rs → Good p (λ y. y ≡ x) rs
good_made p x rs m = record {
  begins = each_so (UnderAt (p ++ x ∷ [])) (BeginsAt p (λ y. y ≡ x)) (λ r. made_begins p x (path_of r)) (opened rs) m.under;
  related = m.related;
}

-- ---- labels and constructs, side by side

has_left : (xs ys : List Text) (x : Text) → Has xs x → Has (xs ++ ys) x
has_left [] ys x h = absurd h
has_left (z ∷ xs) ys x (inl e) = inl e
has_left (z ∷ xs) ys x (inr h) = inr (has_left xs ys x h)

has_right : (xs ys : List Text) (x : Text) → Has ys x → Has (xs ++ ys) x
has_right [] ys x h = h
has_right (z ∷ xs) ys x h = inr (has_right xs ys x h)

pub each_has : (P : Text → Type 0) (xs : List Text) (x : Text) → Each P xs → Has xs x → P x
each_has P [] x h k = absurd k
each_has P (z ∷ xs) x (h, hs) (inl e) = subst P e h
each_has P (z ∷ xs) x (h, hs) (inr k) = each_has P xs x hs k

pub texts_apart : (ls ms : List Text) (x y : Text) → Between UnlikeTexts ls ms → Has ls x → Has ms y → bytes_eq x y ≡ false
texts_apart ls ms x y b h k = each_has (UnlikeTexts x) ms y (each_has (λ z. Each (UnlikeTexts z) ms) ls x b h) k

numbers_apart : (k j m : ℕ) → k < m → m ≤ j → (k == j) ≡ false
numbers_apart k j m l h = not_so (k == j) (λ e. let s : k ≡ j = eqb-true k j e in omega (arith, l, h, s))

keys_apart : (ls ms : List Text) (n m o : ℕ) → Between UnlikeTexts ls ms → (x y : Step) → Keyed ls n m x → Keyed ms m o y → same_step x y ≡ false
keys_apart ls ms n m o b (named x) (named y) h k = texts_apart ls ms x y b h k
keys_apart ls ms n m o b (named x) (turn y z) h k = refl
keys_apart ls ms n m o b (named x) (unnamed j z) h k = refl
keys_apart ls ms n m o b (turn x w) (named y) h k = refl
keys_apart ls ms n m o b (turn x w) (turn y z) h k = first_not (bytes_eq x y) (same_number w z) (texts_apart ls ms x y b h k)
keys_apart ls ms n m o b (turn x w) (unnamed j z) h k = refl
keys_apart ls ms n m o b (unnamed i w) (named y) h k = refl
keys_apart ls ms n m o b (unnamed i w) (turn y z) h k = refl
keys_apart ls ms n m o b (unnamed i w) (unnamed j z) h k = first_not (i == j) (same_turn w z) (numbers_apart i j m h.1 k.0)

keyed_left : (ls ms : List Text) (n m o : ℕ) → m ≤ o → (x : Step) → Keyed ls n m x → Keyed (ls ++ ms) n o x
keyed_left ls ms n m o l (named x) h = has_left ls ms x h
keyed_left ls ms n m o l (turn x z) h = has_left ls ms x h
keyed_left ls ms n m o l (unnamed k z) (h, i) = (h, omega (arith, i, l))

keyed_right : (ls ms : List Text) (n m o : ℕ) → n ≤ m → (x : Step) → Keyed ms m o x → Keyed (ls ++ ms) n o x
keyed_right ls ms n m o l (named x) h = has_right ls ms x h
keyed_right ls ms n m o l (turn x z) h = has_right ls ms x h
keyed_right ls ms n m o l (unnamed k z) (h, i) = (omega (arith, h, l), i)

labels_joined : (xs ys : List Declared) → labels (xs ++ ys) ≡ labels xs ++ labels ys
labels_joined [] ys = refl
labels_joined (x ∷ xs) ys = ap (λ ls. label x ++ ls) (labels_joined xs ys) ∙ onto (label x) (labels xs) (labels ys)
  where
    onto : (a b c : List Text) → a ++ (b ++ c) ≡ (a ++ b) ++ c
    onto [] b c = refl
    onto (z ∷ a) b c = ap (λ r. z ∷ r) (onto a b c)

if_numbers_one : (i : Item) → is_if i ≡ true → constructs_of i ≡ 1
if_numbers_one (generate_if bs e) h = refl
if_numbers_one (parameter p l s r vs) h = absurd cc
if_numbers_one (directed d xs) h = absurd cc
if_numbers_one (nets p s r ns) h = absurd cc
if_numbers_one (registers p s r vs) h = absurd cc
if_numbers_one (integer p vs) h = absurd cc
if_numbers_one (genvar p xs) h = absurd cc
if_numbers_one (continuous p ds) h = absurd cc
if_numbers_one (always p e b) h = absurd cc
if_numbers_one (initial p b) h = absurd cc
if_numbers_one (function f) h = absurd cc
if_numbers_one (instances x ps is) h = absurd cc
if_numbers_one (region p is) h = absurd cc
if_numbers_one (generate_loop p l b) h = absurd cc

-- ---- turns of a loop

abbrev InTurns : ℕ → GenerateBlock → List ℕ → Step → Type 0
InTurns n b [] x = ⊥
InTurns n b (k ∷ ks) x = (x ≡ turn_step n b k) ⊎ InTurns n b ks x

turn_keyed : (n : ℕ) (b : GenerateBlock) (k : ℕ) → Keyed (labels (label_declared b)) n (n + 1) (turn_step n b k)
turn_keyed n (single i) k = (omega arith, omega arith)
turn_keyed n (several p None is) k = (omega arith, omega arith)
turn_keyed n (several p (Some x) is) k = inl refl

any_keyed : (n : ℕ) (b : GenerateBlock) (ks : List ℕ) (x : Step) → InTurns n b ks x → Keyed (labels (label_declared b)) n (n + 1) x
any_keyed n b [] x h = absurd h
any_keyed n b (k ∷ ks) x (inl e) = subst (Keyed (labels (label_declared b)) n (n + 1)) (sym e) (turn_keyed n b k)
any_keyed n b (k ∷ ks) x (inr h) = any_keyed n b ks x h

turns_keyed : (n : ℕ) (b : GenerateBlock) (ts : Turns) (x : Step) → InTurns n b ts.numbers x → Keyed (labels (loop_declared ts b)) n (n + 1) x
turns_keyed n b ts x h = on ts.numbers h
  where
    on : (ks : List ℕ) → InTurns n b ks x → Keyed (labels (elim ks [ [] ↦ [] | k ∷ more ↦ label_declared b ])) n (n + 1) x
    on [] h = absurd h
    on (k ∷ ks) h = any_keyed n b (k ∷ ks) x h

steps_unlike : (n : ℕ) (b : GenerateBlock) (k j : ℕ) → k < 2 ^ 32 → j < 2 ^ 32 → (k ≡ j → ⊥) → same_step (turn_step n b k) (turn_step n b j) ≡ false
steps_unlike n (single i) k j f g never = second_not (n == n) (same_number (turn_number k) (turn_number j)) (unlike_turns k j f g never)
steps_unlike n (several p None is) k j f g never = second_not (n == n) (same_number (turn_number k) (turn_number j)) (unlike_turns k j f g never)
steps_unlike n (several p (Some x) is) k j f g never =
    second_not (bytes_eq x.text x.text) (same_number (turn_number k) (turn_number j)) (unlike_turns k j f g never)

turn_apart : (n : ℕ) (b : GenerateBlock) (k : ℕ) (ks : List ℕ) → k < 2 ^ 32 → Each (λ m. m < 2 ^ 32) ks → Each (λ m. k ≡ m → ⊥) ks
    → (x y : Step) → x ≡ turn_step n b k → InTurns n b ks y → same_step x y ≡ false
turn_apart n b k [] f fs never x y e h = absurd h
turn_apart n b k (j ∷ ks) f (g, gs) (never, nevers) x y e (inl h) = (λ i. same_step (e i) (h i)) ∙ steps_unlike n b k j f g never
turn_apart n b k (j ∷ ks) f (g, gs) (never, nevers) x y e (inr h) = turn_apart n b k ks f gs nevers x y e h

-- ---- items

-- the last of three
last_fine : (xs ys zs : List Declared) → Pairwise UnlikeTexts (labels (xs ++ (ys ++ zs))) → Pairwise UnlikeTexts (labels zs)
last_fine xs ys zs h =
    let a = pairwise_parted UnlikeTexts (labels xs) (labels (ys ++ zs)) (subst (Pairwise UnlikeTexts) (labels_joined xs (ys ++ zs)) h) in
    (pairwise_parted UnlikeTexts (labels ys) (labels zs) (subst (Pairwise UnlikeTexts) (labels_joined ys zs) a.1.0)).1.0

-- what is a scope's by the last of three is
wider : (xs ys zs : List Declared) (x : Step) → IsOwn (labels zs) x → IsOwn (labels (xs ++ (ys ++ zs))) x
wider xs ys zs x h =
    subst (λ w. IsOwn w x) (sym (labels_joined xs (ys ++ zs) ∙ ap (λ w. labels xs ++ w) (labels_joined ys zs))) (right (labels xs) (labels ys) (labels zs) x h)
  where
    right : (a b c : List Text) (x : Step) → IsOwn c x → IsOwn (a ++ (b ++ c)) x
    right a b c (named x) h = has_right a (b ++ c) x (has_right b c x h)
    right a b c (turn x z) h = has_right a (b ++ c) x (has_right b c x h)
    right a b c (unnamed k z) h = tt

abbrev Fine : List Declared → Type 0
Fine ds = Pairwise UnlikeTexts (labels ds)

module _ (make : Maker) (made : MakesApart make) (src : Source) (q : Limits) where
  instances_good : (h : Here) (gs : List Given) (m : Module) (n o : ℕ) (is : List Instance) → Each Sound (each_instance make h gs m is)
      → Fine (map (λ (i : Instance). inner i.name) is)
      → Good h.path (Keyed (labels (map (λ (i : Instance). inner i.name) is)) n o) (each_instance make h gs m is)
  instances_good h gs m n o [] sound fine = record { begins = tt; related = tt }
  instances_good h gs m n o (i ∷ is) sound (fine, fines) =
      let u : Use = record { place = i.name.place; path = h.path ++ named i.name.text ∷ []; given = gs; joined = Some (record { outer = h.levels; binds = i.binds }) } in
      let s = each_parted Sound (make u m) (each_instance make h gs m is) sound in
      good_joined h.path (λ y. y ≡ named i.name.text) (Keyed (labels (map (λ (i : Instance). inner i.name) is)) n o) _ (make u m) (each_instance make h gs m is)
      (λ x y e k. ap (λ w. same_step w y) e ∙ apart y k) (λ x e. subst (Keyed (i.name.text ∷ labels (map (λ (i : Instance). inner i.name) is)) n o) (sym e) (inl refl))
      (keyed_right (i.name.text ∷ []) (labels (map (λ (i : Instance). inner i.name) is)) n n o (omega arith))
      (good_made h.path (named i.name.text) (make u m) (made u m s.0)) (instances_good h gs m n o is s.1 fines)
    where
      apart : (y : Step) → Keyed (labels (map (λ (i : Instance). inner i.name) is)) n o y → same_step (named i.name.text) y ≡ false
      apart (named y) k = each_has (UnlikeTexts i.name.text) (labels (map (λ (i : Instance). inner i.name) is)) y fine k
      apart (turn y z) k = refl
      apart (unnamed j z) k = refl

  -- a turn of a loop, and a loop that has a genvar or none
  abbrev turn_requests : Here → ℕ → Around → Loop → GenerateBlock → ℕ → List Request
  turn_requests h n a l b k =
      expands (turn_tokens b) ∷ scope_requests make src q h (turn_step n b k) (Some (l.variable.text, k)) (in_turn l.variable.text k a) b

  abbrev loop_requests : Here → ℕ → Around → Place → Loop → GenerateBlock → Bool → List Request
  loop_requests h n a p l b is = if is then each_of (turn_requests h n a l b) (turns_of q p a l).numbers ++ failing (turns_of q p a l).faults
      else fails (at p Misplaced) ∷ []

  -- an item that stands directly as a branch, an `if` or not
  abbrev single_requests : Here → ℕ → Around → Item → Bool → List Request
  single_requests h n a i is = if is then item_requests make src q h n a i
      else scope_requests make src q h (unnamed n None) None a (single i)

  no_failing : (fs : List Found) → Each Sound (failing fs) → fs ≡ []
  no_failing [] h = refl
  no_failing (f ∷ fs) h = absurd h.0

  past_tokens : (p : Path) (K : Step → Type 0) (n : ℕ) (rs : List Request) → Good p K rs → Good p K (expands n ∷ rs)
  past_tokens p K n rs g = record { begins = g.begins; related = g.related }

  turns_good : (h : Here) (n : ℕ) (a : Around) (l : Loop) (b : GenerateBlock)
      (go : (k : ℕ) → Each Sound (scope_requests make src q h (turn_step n b k) (Some (l.variable.text, k)) (in_turn l.variable.text k a) b)
      → Good h.path (λ y. y ≡ turn_step n b k) (scope_requests make src q h (turn_step n b k) (Some (l.variable.text, k)) (in_turn l.variable.text k a) b))
      (ks : List ℕ) → Each Sound (each_of (turn_requests h n a l b) ks) → Each (λ m. m < 2 ^ 32) ks → Pairwise (λ m o. m ≡ o → ⊥) ks
      → Good h.path (InTurns n b ks) (each_of (turn_requests h n a l b) ks)
  turns_good h n a l b go [] sound fit differ = record { begins = tt; related = tt }
  turns_good h n a l b go (k ∷ ks) sound (fit, fits) (never, nevers) =
      let s = each_parted Sound (turn_requests h n a l b k) (each_of (turn_requests h n a l b) ks) sound in
      good_joined h.path (λ y. y ≡ turn_step n b k) (InTurns n b ks) (InTurns n b (k ∷ ks)) (turn_requests h n a l b k) (each_of (turn_requests h n a l b) ks)
      (turn_apart n b k ks fit fits never) (λ x. inl) (λ x. inr)
      (past_tokens h.path (λ y. y ≡ turn_step n b k) (turn_tokens b) _ (go k s.0.1)) (turns_good h n a l b go ks s.1 fits nevers)

  loop_good : (h : Here) (n : ℕ) (a : Around) (p : Place) (l : Loop) (b : GenerateBlock) (is : Bool)
      (go : (k : ℕ) → Each Sound (scope_requests make src q h (turn_step n b k) (Some (l.variable.text, k)) (in_turn l.variable.text k a) b)
      → Good h.path (λ y. y ≡ turn_step n b k) (scope_requests make src q h (turn_step n b k) (Some (l.variable.text, k)) (in_turn l.variable.text k a) b))
      → Each Sound (loop_requests h n a p l b is)
      → Good h.path (Keyed (labels (if is then loop_declared (turns_of q p a l) b else [])) n (n + 1)) (loop_requests h n a p l b is)
  loop_good h n a p l b false go sound = absurd sound.0
  loop_good h n a p l b true go sound =
      let ts : Turns = turns_of q p a l in
      let s = each_parted Sound (each_of (turn_requests h n a l b) ts.numbers) (failing ts.faults) sound in
      let g = turns_good h n a l b go ts.numbers s.0 (turns_fit p a l q) (turns_differ p a l q (no_failing ts.faults s.1)) in
      good_joined h.path (InTurns n b ts.numbers) (λ y. ⊥) (Keyed (labels (loop_declared ts b)) n (n + 1))
      (each_of (turn_requests h n a l b) ts.numbers) (failing ts.faults) (λ x y k none. absurd none) (turns_keyed n b ts) (λ x none. absurd none)
      g (good_failing h.path (λ y. ⊥) ts.faults)

  of_module : (h : Here) (k : Known) (x : Name) (m : Option Module) (ps : Option (Option Binds)) (is : List Instance) (n o : ℕ)
      → Each Sound (instances_by make h k x m ps is) → Fine (map (λ (i : Instance). inner i.name) is)
      → Good h.path (Keyed (labels (map (λ (i : Instance). inner i.name) is)) n o) (instances_by make h k x m ps is)
  of_module h k x None ps is n o sound fine = absurd sound.0
  of_module h k x (Some m) ps is n o sound fine =
      past_failing h.path _ (binds_faults k m ps) (each_instance make h (given_of k m ps) m is) sound
      (λ s. instances_good h (given_of k m ps) m n o is s fine)

  by_taken : (p : Path) (n o : ℕ) (v : Option Meaning) (fs : List Found) (here there : List Request) (dh dt : List Declared)
      → Each Sound (taken v (failing fs) here there) → Fine (taken v [] dh dt)
      → (Each Sound here → Fine dh → Good p (Keyed (labels dh) n o) here) → (Each Sound there → Fine dt → Good p (Keyed (labels dt) n o) there)
      → Good p (Keyed (labels (taken v [] dh dt)) n o) (taken v (failing fs) here there)
  by_taken p n o None fs here there dh dt sound fine go on = good_failing p _ fs
  by_taken p n o (Some m) fs here there dh dt sound fine go on = by_truth (true_of m) sound fine
    where
      by_truth : (b : Bool) → Each Sound (if b then here else there) → Fine (if b then dh else dt)
          → Good p (Keyed (labels (if b then dh else dt)) n o) (if b then here else there)
      by_truth true s f = go s f
      by_truth false s f = on s f

  of_single : (h : Here) (n : ℕ) (a : Around) (i : Item) (is : Bool) → (is ≡ true → constructs_of i ≡ 1)
      → Each Sound (single_requests h n a i is) → Fine (if is then declared_by q h.given a i else [])
      → (Each Sound (item_requests make src q h n a i) → Fine (declared_by q h.given a i)
      → Good h.path (Keyed (labels (declared_by q h.given a i)) n (n + constructs_of i)) (item_requests make src q h n a i))
      → (Each Sound (scope_requests make src q h (unnamed n None) None a (single i))
      → Good h.path (λ y. y ≡ unnamed n None) (scope_requests make src q h (unnamed n None) None a (single i)))
      → Good h.path (Keyed (labels (if is then declared_by q h.given a i else [])) n (n + 1)) (single_requests h n a i is)
  of_single h n a i true one sound fine own block =
      subst (λ w. Good h.path (Keyed (labels (declared_by q h.given a i)) n (n + w)) (item_requests make src q h n a i)) (one refl) (own sound fine)
  of_single h n a i false one sound fine own block =
      good_so h.path (λ y. y ≡ unnamed n None) (Keyed [] n (n + 1)) (λ x e. subst (Keyed [] n (n + 1)) (sym e) (omega arith, omega arith))
      (scope_requests make src q h (unnamed n None) None a (single i)) (block sound)

  -- the scope of a block of one item, and of several
  single_good : (h : Here) (x : Step) (t : Option (Text × ℕ)) (a : Around) (i : Item)
      (go : (g : Here) (c : Around) → Each Sound (item_requests make src q g 1 c i) → Fine (declared_by q g.given c i)
      → Good g.path (Keyed (labels (declared_by q g.given c i)) 1 (1 + constructs_of i)) (item_requests make src q g 1 c i))
      → Each Sound (scope_requests make src q h x t a (single i)) → Good h.path (λ y. y ≡ x) (scope_requests make src q h x t a (single i))
  single_good h x t a i go (clean, rest) =
      let s : Scope = block_scope q h x t a (single i) in
      good_scope h.path x (labels (declared_by q [] (body_around (single i) a) i)) 1 (1 + constructs_of i) s
      (item_requests make src q (within s) 1 (body_around (single i) a) i) refl refl
      (go (within s) (body_around (single i) a) rest (labels_differ s.level.declared clean))

  several_good : (h : Here) (x : Step) (t : Option (Text × ℕ)) (a : Around) (p : Place) (y : Option Name) (is : Items)
      (go : (g : Here) (c : Around) → Each Sound (items_requests make src q g 1 c is) → Fine (declared q g.given c is)
      → Good g.path (Keyed (labels (declared q g.given c is)) 1 (1 + constructs is)) (items_requests make src q g 1 c is))
      → Each Sound (scope_requests make src q h x t a (several p y is)) → Good h.path (λ z. z ≡ x) (scope_requests make src q h x t a (several p y is))
  several_good h x t a p y is go (clean, rest) =
      let s : Scope = block_scope q h x t a (several p y is) in
      good_scope h.path x (labels (declared q [] (body_around (several p y is) a) is)) 1 (1 + constructs is) s
      (items_requests make src q (within s) 1 (body_around (several p y is) a) is) refl refl
      (go (within s) (body_around (several p y is) a) rest (labels_differ s.level.declared clean))

  -- an item that makes no scope
  abbrev own_faults : Here → Around → Item → List Found
  own_faults h a i = misplaced h.in_block i ++ item_needs h.given a.known i

  mutual
    item_good : (h : Here) (n : ℕ) (a : Around) (i : Item) → Each Sound (item_requests make src q h n a i) → Fine (declared_by q h.given a i)
        → Good h.path (Keyed (labels (declared_by q h.given a i)) n (n + constructs_of i)) (item_requests make src q h n a i)
    item_good h n a (instances x ps is) sound fine = of_module h a.known x (module_at src x.text) ps is n (n + 0) sound fine
    item_good h n a (region p is) sound fine = items_good h n a is sound fine
    item_good h n a (generate_loop p l b) sound fine = loop_good h n a p l b (has_one_genvar a l)
        (λ k. scope_good h (turn_step n b k) (Some (l.variable.text, k)) (in_turn l.variable.text k a) b) sound
    item_good h n a (generate_if bs e) sound fine =
        branches_good h n a bs (else_requests make src q h n a e) (else_declared q h.given a e) (else_good h n a e) sound fine
    item_good h n a (parameter p l s r vs) sound fine = good_failing h.path _ (own_faults h a (parameter p l s r vs))
    item_good h n a (directed d xs) sound fine = good_failing h.path _ (own_faults h a (directed d xs))
    item_good h n a (nets p s r ns) sound fine = good_failing h.path _ (own_faults h a (nets p s r ns))
    item_good h n a (registers p s r vs) sound fine = good_failing h.path _ (own_faults h a (registers p s r vs))
    item_good h n a (integer p vs) sound fine = good_failing h.path _ (own_faults h a (integer p vs))
    item_good h n a (genvar p xs) sound fine = good_failing h.path _ (own_faults h a (genvar p xs))
    item_good h n a (continuous p ds) sound fine = good_failing h.path _ (own_faults h a (continuous p ds))
    item_good h n a (always p e b) sound fine = good_failing h.path _ (own_faults h a (always p e b))
    item_good h n a (initial p b) sound fine = good_failing h.path _ (own_faults h a (initial p b))
    item_good h n a (function f) sound fine = good_failing h.path _ (own_faults h a (function f))

    items_good : (h : Here) (n : ℕ) (a : Around) (is : Items) → Each Sound (items_requests make src q h n a is) → Fine (declared q h.given a is)
        → Good h.path (Keyed (labels (declared q h.given a is)) n (n + constructs is)) (items_requests make src q h n a is)
    items_good h n a no_item sound fine = record { begins = tt; related = tt }
    items_good h n a (more_item i is) sound fine =
        let s = each_parted Sound (item_requests make src q h n a i) (items_requests make src q h (n + constructs_of i) (behind h.given a i) is) sound in
        let ls : List Text = labels (declared_by q h.given a i) in
        let ms : List Text = labels (declared q h.given (behind h.given a i) is) in
        let j = labels_joined (declared_by q h.given a i) (declared q h.given (behind h.given a i) is) in
        let f = pairwise_parted UnlikeTexts ls ms (subst (Pairwise UnlikeTexts) j fine) in
        subst (λ w. Good h.path (Keyed w n (n + (constructs_of i + constructs is))) (items_requests make src q h n a (more_item i is))) (sym j)
        (good_joined h.path (Keyed ls n (n + constructs_of i)) (Keyed ms (n + constructs_of i) ((n + constructs_of i) + constructs is))
        (Keyed (ls ++ ms) n (n + (constructs_of i + constructs is)))
        (item_requests make src q h n a i) (items_requests make src q h (n + constructs_of i) (behind h.given a i) is)
        (keys_apart ls ms n (n + constructs_of i) ((n + constructs_of i) + constructs is) f.1.1)
        (keyed_left ls ms n (n + constructs_of i) (n + (constructs_of i + constructs is)) (omega arith))
        (λ x k. keyed_right ls ms n (n + constructs_of i) (n + (constructs_of i + constructs is)) (omega arith) x
        (subst (λ w. Keyed ms (n + constructs_of i) w x) (omega arith) k))
        (item_good h n a i s.0 f.0) (items_good h (n + constructs_of i) (behind h.given a i) is s.1 f.1.0))

    -- the scope of a block
    scope_good : (h : Here) (x : Step) (t : Option (Text × ℕ)) (a : Around) (b : GenerateBlock) → Each Sound (scope_requests make src q h x t a b)
        → Good h.path (λ y. y ≡ x) (scope_requests make src q h x t a b)
    scope_good h x t a (single i) sound = single_good h x t a i (λ g c. item_good g 1 c i) sound
    scope_good h x t a (several p y is) sound = several_good h x t a p y is (λ g c. items_good g 1 c is) sound

    -- a branch that is taken
    block_good : (h : Here) (n : ℕ) (a : Around) (b : GenerateBlock) → Each Sound (block_requests make src q h n a b) → Fine (block_declared q h.given a b)
        → Good h.path (Keyed (labels (block_declared q h.given a b)) n (n + 1)) (block_requests make src q h n a b)
    block_good h n a (single i) sound fine =
        of_single h n a i (is_if i) (if_numbers_one i) sound fine (item_good h n a i) (single_good h (unnamed n None) None a i (λ g c. item_good g 1 c i))
    block_good h n a (several p None is) sound fine =
        good_so h.path (λ y. y ≡ unnamed n None) (Keyed [] n (n + 1))
        (λ x e. subst (Keyed [] n (n + 1)) (sym e) (omega arith, omega arith)) (block_requests make src q h n a (several p None is))
        (several_good h (unnamed n None) None a p None is (λ g c. items_good g 1 c is) sound)
    block_good h n a (several p (Some y) is) sound fine =
        good_so h.path (λ z. z ≡ named y.text) (Keyed (y.text ∷ []) n (n + 1))
        (λ x e. subst (Keyed (y.text ∷ []) n (n + 1)) (sym e) (inl refl)) (block_requests make src q h n a (several p (Some y) is))
        (several_good h (named y.text) None a p (Some y) is (λ g c. items_good g 1 c is) sound)

    branches_good : (h : Here) (n : ℕ) (a : Around) (bs : GenerateBranches) (last : List Request) (ds : List Declared)
        → (Each Sound last → Fine ds → Good h.path (Keyed (labels ds) n (n + 1)) last)
        → Each Sound (branch_requests make src q h n a bs last) → Fine (branch_declared q h.given a bs ds)
        → Good h.path (Keyed (labels (branch_declared q h.given a bs ds)) n (n + 1)) (branch_requests make src q h n a bs last)
    branches_good h n a no_generate_branch last ds go sound fine = go sound fine
    branches_good h n a (more_generate_branch p c b bs) last ds go sound fine =
        by_taken h.path n (n + 1) (value_of a.known c) (needs a.known c) (block_requests make src q h n a b)
        (branch_requests make src q h n a bs last) (block_declared q h.given a b) (branch_declared q h.given a bs ds) sound fine
        (block_good h n a b) (branches_good h n a bs last ds go)

    else_good : (h : Here) (n : ℕ) (a : Around) (e : GenerateElse) → Each Sound (else_requests make src q h n a e) → Fine (else_declared q h.given a e)
        → Good h.path (Keyed (labels (else_declared q h.given a e)) n (n + 1)) (else_requests make src q h n a e)
    else_good h n a no_generate_else sound fine = record { begins = tt; related = tt }
    else_good h n a (generate_else b) sound fine = block_good h n a b sound fine

  -- ---- a module

  module_good : (u : Use) (m : Module) → Each Sound (module_requests make src q u m) → Made u.path (module_requests make src q u m)
  module_good u m (begins, (tokens, (clean, rest))) =
      let s : Scope = module_scope q u m in
      let fs : List Found = header_needs u.given no_type nothing_known m.parameters ++ each_of (port_needs (at_entry u m).known) (ports_of m) in
      let rs : List Request = items_requests make src q (inside u s) 1 (at_entry u m) m.items in
      let own : List Declared = declared q u.given (at_entry u m) m.items in
      let g : Good u.path (Keyed (labels own) 1 (1 + constructs m.items)) (failing fs ++ rs) =
      past_failing u.path (Keyed (labels own) 1 (1 + constructs m.items)) fs rs rest
      (λ k. items_good (inside u s) 1 (at_entry u m) m.items k
      (last_fine (map parameter_by (header_worth u.given no_type nothing_known m.parameters)) (header_ports (at_entry u m).known None (ports_of m)) own
      (labels_differ s.level.declared clean))) in
      let K : Step → Type 0 = Keyed (labels own) 1 (1 + constructs m.items) in
      record {
        under = (([], nothing_more u.path), each_so (BeginsAt u.path K) (UnderAt u.path) (λ r b. (b.0 ∷ b.1.0, b.1.1.0)) (opened (failing fs ++ rs)) g.begins);
        related = (
          each_so (BeginsAt u.path K) (Related s)
              (λ r b. inr (begins_so u.path K (IsOwn (labels s.level.declared)) (λ x k. wider (map parameter_by (header_worth u.given no_type nothing_known m.parameters))
              (header_ports (at_entry u m).known None (ports_of m)) own x (own_of (labels own) 1 (1 + constructs m.items) x k)) (path_of r) b))
              (opened (failing fs ++ rs)) g.begins,
          g.related,
        );
      }

made_so_deep : (src : Source) (q : Limits) (d : ℕ) → MakesApart (instance_requests src q d)
made_so_deep src q zero u m sound = absurd sound.0
made_so_deep src q (suc d) u m sound = module_good (instance_requests src q d) (made_so_deep src q d) src q u m sound

-- all that a source asks for
pub all_related : (src : Source) (q : Limits) (m : Module) → Each Sound (all_requests q src m) → Pairwise Related (opened (all_requests q src m))
all_related src q m sound = (made_so_deep src q q.depth (top_use m) m sound).related
