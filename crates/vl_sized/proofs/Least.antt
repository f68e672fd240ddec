-- Lists of faults and the least of them.
use Rattle.std.proofs.Common.{◌≡◌, refl, sym, ap, ℕ, ◌==◌, Bool, true, false, List, [], ◌∷◌, Some, None, map, length, append-nil, if◌then◌else◌}
use Rattle.std.specs.Prelude.{Option, Ok, ℤ, pos, int_lt, unsigned_abs, ◌*◌, ◌+◌, ◌-ℤ◌}
use Rattle.vl_tree.specs.Syntax.{Place, Selects, no_select, more_select, index, part, upward, downward}
use Rattle.vl_tree.specs.declared.fault.FaultKind.TheVariants.{NotConstant, BadSelect, TooWide, ZeroReplication}
use Rattle.vl_value.specs.Paths.{Path}
use Rattle.vl_value.specs.Things.{Shape, Thing, signal, memory, constant, routine}
use Rattle.vl_value.specs.Constant.{Sight}
use Rattle.vl_value.specs.Order.{Found, at, is_before, lesser, least}
use Rattle.vl_value.specs.Faults as f
use Rattle.vl_value.specs.Faults.{is_along}
use Rattle.vl_value.proofs.OrderLaws.{least_joined}
use Rattle.vl_width.specs.Known.{is_width}
use Rattle.vl_found.specs.View.{first_of}
use Rattle.vl_sized.specs.Told.{told, mapped, joint, fault_in}
use Rattle.vl_sized.specs.Sensed as s
use Rattle.vl_sized.specs.Sensed.{Pick, one, span, up, down}

-- ---- values or faults

some_if : (b : Bool) (g h : Found) → (if b then Some g else Some h) ≡ Some (if b then g else h)
some_if true g h = refl
some_if false g h = refl

pub lesser_some : (g h : Found) → lesser (Some g) (Some h) ≡ Some (first_of g h)
lesser_some g h = some_if (is_before h g) h g

pub lesser_left : (o : Option Found) → lesser o None ≡ o
lesser_left None = refl
lesser_left (Some g) = refl

pub told_mapped : {X Y : Type 0} (k : X → Y) (o : Option Found) (x : X) → mapped k (told o x) ≡ told o (k x)
told_mapped k None x = refl
told_mapped k (Some g) x = refl

pub told_joint : {X Y Z : Type 0} (k : X → Y → Z) (o p : Option Found) (x : X) (y : Y)
    → joint k (told o x) (told p y) ≡ told (lesser o p) (k x y)
told_joint k None None x y = refl
told_joint k None (Some h) x y = refl
told_joint k (Some g) None x y = refl
told_joint k (Some g) (Some h) x y = ap (λ o. told o (k x y)) (sym (lesser_some g h))

pub told_fault : {X : Type 0} (o : Option Found) (x : X) → fault_in (told o x) ≡ o
told_fault None x = refl
told_fault (Some g) x = refl

-- what stands beside a fault doesn't matter
pub told_if : {X : Type 0} (o : Option Found) (x y : X) → (o ≡ None → x ≡ y) → told o x ≡ told o y
told_if None x y h = ap Ok (h refl)
told_if (Some g) x y h = refl

-- ---- lists that aren't empty

some_joined : (g : Found) (o : Option Found) → (h : Found) × (lesser (Some g) o ≡ Some h)
some_joined g None = (g, refl)
some_joined g (Some h) = (first_of g h, lesser_some g h)

pub least_some : (g : Found) (gs : List Found) → (h : Found) × (least (g ∷ gs) ≡ Some h)
least_some g gs = some_joined g (least gs)

if_none : (t : Bool) (g : Found) → least (if t then [] else g ∷ []) ≡ (if t then None else Some g)
if_none true g = refl
if_none false g = refl

-- ---- the definition's faults, each with its least

pub wide_least : (p : Place) (fs : List Found) (w : ℕ) → least (f.wide p fs w) ≡ s.if_wide p (least fs) w
wide_least p [] w = if_none (is_width w) (at p TooWide)
wide_least p (g ∷ gs) w = let h = least_some g gs in ap (λ o. s.if_wide p o w) (sym h.1)

copied_test : (t : Bool) (g : Found) (gs : List Found) (o : Option Found) → least gs ≡ o
    → least (if t then g ∷ [] else gs) ≡ (if t then Some g else o)
copied_test true g gs o h = refl
copied_test false g gs o h = h

pub copied_least : (p : Place) (fs : List Found) (n : Option ℤ) (w : ℕ) → least (f.copied p fs n w) ≡ s.if_copied p (least fs) n w
copied_least p fs None w = refl
copied_least p fs (Some z) w =
    copied_test (int_lt z (pos 1)) (at p ZeroReplication) (f.wide p fs (unsigned_abs z * w)) (s.if_wide p (least fs) (unsigned_abs z * w))
    (wide_least p fs (unsigned_abs z * w))

along_test : (t : Bool) (g : Found) (gs : List Found) (o : Option Found) → least gs ≡ o
    → least (if t then gs else g ∷ []) ≡ (if t then o else Some g)
along_test true g gs o h = h
along_test false g gs o h = refl

abbrev pub chosen_of : Pick → f.Chosen
chosen_of (one b) = f.one
chosen_of (span a b) = f.span a b
chosen_of (up b n) = f.many n
chosen_of (down b n) = f.many n

covered_least : (sh : Shape) (p : Place) (fs : List Found) (k : Pick)
    → least (f.covered sh p fs (chosen_of k)) ≡ s.if_covered sh p (least fs) k
covered_least sh p fs (one b) = refl
covered_least sh p fs (span None None) = refl
covered_least sh p fs (span None (Some b)) = refl
covered_least sh p fs (span (Some a) None) = refl
covered_least sh p fs (span (Some a) (Some b)) =
    along_test (is_along sh a b) (at p BadSelect) (f.wide p fs (unsigned_abs (a -ℤ b) + 1)) (s.if_wide p (least fs) (unsigned_abs (a -ℤ b) + 1))
    (wide_least p fs (unsigned_abs (a -ℤ b) + 1))
covered_least sh p fs (up b n) = copied_least p fs n 1
covered_least sh p fs (down b n) = copied_least p fs n 1

vector_least : (sh : Shape) (p : Place) (fs : List Found) (ks : List Pick)
    → least (f.of_vector sh p fs (map chosen_of ks)) ≡ s.of_vector sh p (least fs) ks
vector_least sh p fs [] = refl
vector_least sh p fs (k ∷ []) = covered_least sh p fs k
vector_least sh p fs (k ∷ j ∷ ks) = refl

word_least : (q : Path) (sh : Shape) (first last : ℕ) (p : Place) (fs : List Found) (ks : List Pick)
    → least (f.of_name (Some (memory q sh first last)) p fs (map chosen_of ks)) ≡ s.of_word sh p (least fs) ks
word_least q sh first last p fs [] = refl
word_least q sh first last p fs (one b ∷ ks) = vector_least sh p fs ks
word_least q sh first last p fs (span a b ∷ ks) = refl
word_least q sh first last p fs (up b n ∷ ks) = refl
word_least q sh first last p fs (down b n ∷ ks) = refl

pub name_least : (o : Option Thing) (p : Place) (fs : List Found) (ks : List Pick)
    → least (f.of_name o p fs (map chosen_of ks)) ≡ s.of_name o p (least fs) ks
name_least None p fs ks = refl
name_least (Some (signal q sh)) p fs ks = vector_least sh p fs ks
name_least (Some (memory q sh first last)) p fs ks = word_least q sh first last p fs ks
name_least (Some (constant w g n)) p fs [] = refl
name_least (Some (constant w g n)) p fs (k ∷ ks) = refl
name_least (Some (routine true q sh shs)) p fs ks = vector_least sh p fs ks
name_least (Some (routine false q sh shs)) p fs ks = refl

pub call_least : (o : Option Thing) (p : Place) (n : ℕ) → least (f.of_call o p n) ≡ s.of_call o p n
call_least None p n = refl
call_least (Some (signal q sh)) p n = refl
call_least (Some (memory q sh first last)) p n = refl
call_least (Some (constant w g k)) p n = refl
call_least (Some (routine inside q sh shs)) p n = if_none (n == length shs) _

pub needed_least : (b : Bool) (p : Place) (fs : List Found) → least (f.needed b p fs) ≡ s.needed b p (least fs)
needed_least true p fs = ap least (append-nil fs)
needed_least false p fs = least_joined fs (at p NotConstant ∷ [])

-- the selects as both have them
pub chosen_list : (g : Sight) (ks : Selects) → f.chosen g ks ≡ map chosen_of (s.all_picked g ks).list
chosen_list g no_select = refl
chosen_list g (more_select p (index e) ks) = ap (λ l. f.one ∷ l) (chosen_list g ks)
chosen_list g (more_select p (part a b) ks) = ap (λ l. f.chosen_by g (part a b) ∷ l) (chosen_list g ks)
chosen_list g (more_select p (upward b w) ks) = ap (λ l. f.chosen_by g (upward b w) ∷ l) (chosen_list g ks)
chosen_list g (more_select p (downward b w) ks) = ap (λ l. f.chosen_by g (downward b w) ∷ l) (chosen_list g ks)
