-- One element more of what is gathered, where each may be a fault.
use Rattle.std.proofs.Common.{◌≡◌, refl, sym, ap, ◌∙◌, Bool, true, false, List, [], ◌∷◌, ◌++◌, Some, None, map, append_assoc, if◌then◌else◌}
use Rattle.std.specs.Prelude.{Option, Result, Ok, Err}
use Rattle.std.specs.Option.{option_map}
use Rattle.vl_value.specs.Order.{is_before, lesser}
use Rattle.vl_value.specs.Order as order
use Rattle.vl_value.proofs.OrderLaws.{lesser_joined}
use Rattle.vl_found.specs.declared.Found.{Found}
use Rattle.vl_found.specs.View.{found, first_of, earlier}
use Rattle.vl_sized.specs.Told.{joined_to, joint}
use Rattle.vl_sized.specs.Plain.{judged, plain_pick}
use Rattle.vl_tree.specs.SyntaxView as view
use Rattle.vl_tree.specs.declared.expression.Select.{Select}
use Rattle.vl_tree.specs.declared.expression.Expr.{Expr}
use Rattle.vl_value.specs.Constant.{Sight}
use Rattle.vl_width.specs.Objects.{Numbering}
use Rattle.vl_sized.specs.declared.picks.Picked.{Picked}
use Rattle.vl_sized.specs.Sensed.{Pick, Picks, one_more, picks_joined, picked_fault, picked}
use Rattle.vl_sized.proofs.Least.{lesser_some, lesser_left}

-- ---- of two faults the lesser

found_if : (b : Bool) (f g : Found) → found (if b then g else f) ≡ (if b then found g else found f)
found_if true f g = refl
found_if false f g = refl

pub found_earlier : (f g : Found) → found (earlier f g) ≡ first_of (found f) (found g)
found_earlier f g = found_if (is_before (found g) (found f)) f g

some_same : (f g : order.Found) → Some f ≡ Some g → f ≡ g
some_same f g e = cc

first_assoc : (f g h : order.Found) → first_of (first_of f g) h ≡ first_of f (first_of g h)
first_assoc f g h = some_same _ _
    (sym (lesser_some (first_of f g) h) ∙ ap (λ o. lesser o (Some h)) (sym (lesser_some f g)) ∙ lesser_joined (Some f) (Some g) (Some h)
    ∙ ap (lesser (Some f)) (lesser_some g h) ∙ lesser_some f (first_of g h))

-- ---- lists

abbrev pub with_last : {X : Type 0} → List X → X → List X
with_last xs x = xs ++ x ∷ []

abbrev pub all_joint : {X : Type 0} → Result (List X) order.Found → Result (List X) order.Found → Result (List X) order.Found
all_joint a b = joint (λ xs ys. xs ++ ys) a b

map_last : {X Y : Type 0} (k : X → Y) (xs : List X) (x : X) → map k (xs ++ x ∷ []) ≡ map k xs ++ k x ∷ []
map_last k [] x = refl
map_last k (y ∷ xs) x = ap (λ l. k y ∷ l) (map_last k xs x)

pub judged_joined : {X Y : Type 0} (k : X → Y) (a : Result (List X) Found) (b : Result X Found)
    → judged (map k) (joined_to a b) ≡ joint with_last (judged (map k) a) (judged k b)
judged_joined k (Ok xs) (Ok x) = ap Ok (map_last k xs x)
judged_joined k (Ok xs) (Err g) = refl
judged_joined k (Err f) (Ok x) = refl
judged_joined k (Err f) (Err g) = ap Err (found_earlier f g)

-- one more of what is done, or of what is left
pub moved_on : {X : Type 0} (a : Result (List X) order.Found) (b : Result X order.Found) (rest : Result (List X) order.Found)
    → all_joint (joint with_last a b) rest ≡ all_joint a (joint ◌∷◌ b rest)
moved_on (Ok xs) (Ok x) (Ok ys) = ap Ok (append_assoc xs (x ∷ []) ys)
moved_on (Ok xs) (Ok x) (Err h) = refl
moved_on (Ok xs) (Err g) (Ok ys) = refl
moved_on (Ok xs) (Err g) (Err h) = refl
moved_on (Err f) (Ok x) (Ok ys) = refl
moved_on (Err f) (Ok x) (Err h) = refl
moved_on (Err f) (Err g) (Ok ys) = refl
moved_on (Err f) (Err g) (Err h) = ap Err (first_assoc f g h)

-- before the first and after the last
pub none_done : {X : Type 0} (r : Result (List X) order.Found) → all_joint (Ok []) r ≡ r
none_done (Ok xs) = refl
none_done (Err f) = refl

pub none_left : {X : Type 0} (r : Result (List X) order.Found) → all_joint r (Ok []) ≡ r
none_left (Ok xs) = ap Ok (nil_right xs)
  where
    nil_right : {X : Type 0} (xs : List X) → xs ++ [] ≡ xs
    nil_right [] = refl
    nil_right (x ∷ xs) = ap (λ l. x ∷ l) (nil_right xs)
none_left (Err f) = refl

-- a loop's step: what is done goes on by one, what is left begins with that one
pub one_done : {X Y : Type 0} (k : X → Y) (a r : Result (List X) Found) (b : Result X Found) (y : Result Y order.Found) (left rest : Result (List Y) order.Found)
    (whole : Result (List Y) order.Found) → r ≡ joined_to a b → judged k b ≡ y → left ≡ joint ◌∷◌ y rest
    → all_joint (judged (map k) a) left ≡ whole → all_joint (judged (map k) r) rest ≡ whole
one_done k a r b y left rest whole e h l i =
    ap (λ x. all_joint (judged (map k) x) rest) e ∙ ap (λ x. all_joint x rest) (judged_joined k a b)
    ∙ ap (λ x. all_joint (joint with_last (judged (map k) a) x) rest) h
    ∙ moved_on (judged (map k) a) y rest ∙ ap (all_joint (judged (map k) a)) (sym l) ∙ i

-- ---- selects

pub picks_moved : (a : Picks) (f : Option order.Found) (k : Pick) (rest : Picks)
    → picks_joined (one_more a f k) rest ≡ picks_joined a (record { fault = lesser f rest.fault; list = k ∷ rest.list })
picks_moved a f k rest = λ i. record { fault = lesser_joined a.fault f rest.fault i; list = append_assoc a.list (k ∷ []) rest.list i }

pub pick_done : (a r : Picks) (f : Option order.Found) (k : Pick) (left rest whole : Picks) → r ≡ one_more a f k
    → left ≡ record { fault = lesser f rest.fault; list = k ∷ rest.list } → picks_joined a left ≡ whole → picks_joined r rest ≡ whole
pick_done a r f k left rest whole e l i =
    ap (λ x. picks_joined x rest) e ∙ picks_moved a f k rest ∙ ap (picks_joined a) (sym l) ∙ i

pub no_picks_left : (a : Picks) → picks_joined a (record { fault = None; list = [] }) ≡ a
no_picks_left a = λ i. record { fault = lesser_left a.fault i; list = nil_right a.list i }
  where
    nil_right : {X : Type 0} (xs : List X) → xs ++ [] ≡ xs
    nil_right [] = refl
    nil_right (x ∷ xs) = ap (λ l. x ∷ l) (nil_right xs)

pub pick_more : (a r : Picks) (f g : Option order.Found) (k j : Pick) (left rest whole : Picks) → r ≡ one_more a f k → f ≡ g → k ≡ j
    → left ≡ record { fault = lesser g rest.fault; list = j ∷ rest.list } → picks_joined a left ≡ whole → picks_joined r rest ≡ whole
pick_more a r f g k j left rest whole e fg kj l i = pick_done a r g j left rest whole (e ∙ (λ x. one_more a (fg x) (kj x))) l i

-- a select of the program that is this one, with the least fault of its operands
abbrev pub IsPicked : Sight → Numbering → Select Expr → Picked → Type 0
IsPicked s ns k p = (option_map found p.fault ≡ picked_fault s (view.read_select k)) × (plain_pick ns p.pick ≡ picked s (view.read_select k))
