-- The execution of a statement (IEEE 1364-2005, clause 9; $display and the like 17.1, $stop 17.4). It gives the store after it, its writes
-- in order, and its events. A blocking assignment changes the store at once (9.2.1); a nonblocking one is only listed (9.2.2).
-- This project's own: a loop's header runs over constants; $stop and $fatal are assertions, after which the block goes on.
use Rattle.std.specs.Prelude.{ℕ, zero, suc, ◌+◌, ◌/◌, ◌^◌, ◌==◌, Bool, true, false, ◌&&◌, ◌||◌, if◌then◌else◌, max, List, [], ◌∷◌, ◌++◌, ℤ, pos, negsuc, Option, Some, bytes_eq, unwrap_or, codes}
use Rattle.dt_core.specs.declared.limits.TheConstants.{MAX_STATEMENTS}
use Rattle.bit_ops.specs.Operators as ops
use Rattle.message_format.specs.Formatted.{Value, formatted}
use Rattle.vl_tree.specs.Syntax as t
use Rattle.vl_tree.specs.Syntax.{Place, Expr, Exprs, no_expr, more_expr, Target, Targets, name, targets, no_target, more_target, Assignment, blocking, nonblocking, Print, display, write, Printed, format, Loop, Stmt, Stmts, no_stmt, more_stmt, Branches, no_branch, more_branch, Otherwise, no_else, else_stmt, Arms, no_arm, more_arm, default_arm}
use Rattle.vl_value.specs.Paths.{Text, Path, same_path}
use Rattle.vl_value.specs.Things.{Shape, width_of, place_of, word_place, Thing, signal, memory, constant, routine}
use Rattle.vl_value.specs.Meaning.{Context, Meaning, own, true_of, assigned, Picked, meaning, meanings, picked, open_bits, matches}
use Rattle.vl_value.specs.Constant.{Sight}

-- ---- where a statement stands

-- the names in sight, and the text of the scope's path
pub record Station : Type 0 where
  pub sight : Sight
  pub path : Text

-- a moment: the words of each object; a net or a variable is word 0, a memory's words count from the least index
abbrev pub Store : Type 0
Store = Path → ℕ → ℕ

-- no function is called: designs that have one aren't built yet
abbrev pub no_calls : Path → List ℕ → ℕ
no_calls p ns = 0

abbrev pub context : Station → Store → Context
context c m = record { find = c.sight; word = m; calls = no_calls }

-- ---- writes

-- some bits of one word of an object: so many from a place upward, in a word of the width `whole`
pub record Spot : Type 0 where
  pub path : Path
  pub word : ℤ
  pub whole : ℕ
  pub low : ℤ
  pub width : ℕ

pub record Write : Type 0 where
  pub spot : Spot
  pub value : ℕ

abbrev pub is_word : ℤ → ℕ → Bool
is_word (pos n) k = n == k
is_word (negsuc n) k = false

-- the store after a write: bits outside the word are lost, and so is a word that isn't there, since nothing reads it
abbrev pub stored : Write → Store → Store
stored w m p k = if same_path w.spot.path p && is_word w.spot.word k
    then ops.insert w.spot.whole w.spot.low w.spot.width w.value (m p k) else m p k

-- writes done in order, so that the last one to a place wins
abbrev pub all_stored : List Write → Store → Store
all_stored [] m = m
all_stored (w ∷ ws) m = all_stored ws (stored w m)

-- ---- targets (6.1)

abbrev pub spot_by : Path → ℤ → Shape → List Picked → Spot
spot_by p k sh [] = record { path = p; word = k; whole = width_of sh; low = pos 0; width = width_of sh }
spot_by p k sh (r ∷ more) =
    record { path = p; word = k; whole = width_of sh; low = place_of sh r.from r.count; width = r.count }

-- of a memory the first select is the word's index; in a function's body its name is a variable
abbrev pub spot_of : Option Thing → List Picked → List Spot
spot_of (Some (signal p sh)) ks = spot_by p (pos 0) sh ks ∷ []
spot_of (Some (memory p sh first last)) (k ∷ ks) = spot_by p (word_place first last k.from) sh ks ∷ []
spot_of (Some (routine true p sh shs)) ks = spot_by p (pos 0) sh ks ∷ []
spot_of _ ks = []

-- the spots of a target from left to right, whose selects are evaluated now
abbrev mutual
  pub spots : Context → Target → List Spot
  spots c (name x ks) = spot_of (c.find x.text) (picked c ks)
  spots c (targets p ts) = all_spots c ts

  pub all_spots : Context → Targets → List Spot
  all_spots c no_target = []
  all_spots c (more_target g ts) = spots c g ++ all_spots c ts

abbrev pub spots_width : List Spot → ℕ
spots_width [] = 0
spots_width (s ∷ ss) = s.width + spots_width ss

-- a value shared out, its high bits to the first spot
abbrev pub shares : List Spot → ℕ → List Write
shares [] n = []
shares (s ∷ ss) n = record { spot = s; value = ops.low s.width (n / 2 ^ spots_width ss) } ∷ shares ss n

-- the target takes a value at the larger of both widths, and cut to its own (5.5.3)
abbrev pub writes_of : Context → Target → Meaning → List Write
writes_of c g m = let ss : List Spot = spots c g in shares ss (assigned (spots_width ss) m)

-- ---- outcomes

-- a piece of text, or an assertion that fires: where its statement stands, and whether it is spelt $fatal
pub data Event : Type 0 where
  said : Text → Event
  stopped : Place → Bool → Event

pub record Outcome : Type 0 where
  pub after : Store
  pub writes : List Write
  pub events : List Event

abbrev pub quiet : Store → Outcome
quiet m = record { after = m; writes = []; events = [] }

abbrev pub happens : Store → Event → Outcome
happens m e = record { after = m; writes = []; events = e ∷ [] }

-- an outcome, and then what follows from the store after it
abbrev pub followed : Outcome → (Store → Outcome) → Outcome
followed o f = let q : Outcome = f o.after in
    record { after = q.after; writes = o.writes ++ q.writes; events = o.events ++ q.events }

abbrev pub assigns : Store → Assignment → List Write → Outcome
assigns m blocking ws = record { after = all_stored ws m; writes = ws; events = [] }
assigns m nonblocking ws = record { after = m; writes = ws; events = [] }

-- ---- loops (9.6)

-- the shape of a loop's variable; of a name that is no variable, which is a fault, that of an integer
abbrev pub variable_shape : Option Thing → Shape
variable_shape (Some (signal p sh)) = sh
variable_shape _ = record { left = 31; right = 0; signed = true }

abbrev pub loop_shape : Sight → Loop → Shape
loop_shape s l = variable_shape (s l.variable.text)

-- the names in sight in a turn, in which the variable is a constant
abbrev pub in_turn : Loop → Shape → ℕ → Sight → Sight
in_turn l sh n s y = if bytes_eq l.variable.text y then Some (constant (width_of sh) sh.signed n) else s y

-- the value that the variable takes of an expression of the header
abbrev pub header_value : Shape → Sight → Expr → ℕ
header_value sh s e = assigned (width_of sh) (meaning (record { find = s; word = λ p k. 0; calls = no_calls }) e)

abbrev pub header_holds : Sight → Expr → Bool
header_holds s e = true_of (meaning (record { find = s; word = λ p k. 0; calls = no_calls }) e)

-- the values of the variable, turn by turn from one on, until the condition is 0; so many at most
abbrev pub turns_from : ℕ → Shape → Sight → Loop → ℕ → List ℕ
turns_from zero sh s l n = []
turns_from (suc k) sh s l n = let u : Sight = in_turn l sh n s in
    elim (header_holds u l.condition) [
      | true ↦ n ∷ turns_from k sh s l (header_value sh u l.step)
      | false ↦ []
    ]

abbrev pub turns : Sight → Loop → List ℕ
turns s l = let sh : Shape = loop_shape s l in turns_from MAX_STATEMENTS sh s l (header_value sh s l.first)

-- the names in sight in each turn
abbrev pub turn_sights : Sight → Loop → List ℕ → List Sight
turn_sights s l [] = []
turn_sights s l (n ∷ ns) = in_turn l (loop_shape s l) n s ∷ turn_sights s l ns

-- a statement in each turn, one after another
abbrev pub over : (Station → Store → Outcome) → Station → List Sight → Store → Outcome
over f c [] m = quiet m
over f c (u ∷ us) m = followed (f (record c { sight = u }) m) (over f c us)

-- ---- cases (9.5)

abbrev pub widest : List Meaning → ℕ
widest [] = 0
widest (m ∷ ms) = max m.width (widest ms)

abbrev pub all_signed : List Meaning → Bool
all_signed [] = true
all_signed (m ∷ ms) = m.signed && all_signed ms

-- what the items of all arms mean
abbrev pub items_of : Context → Arms → List Meaning
items_of c no_arm = []
items_of c (more_arm es s more) = meanings c es ++ items_of c more
items_of c (default_arm p z s more) = items_of c more

-- how a selector is compared: whether by casez, at which width and sign, and its value there
pub record Compared : Type 0 where
  pub wild : Bool
  pub width : ℕ
  pub signed : Bool
  pub value : ℕ

abbrev pub compared : Context → Bool → Expr → Arms → Compared
compared c z e arms =
    let m : Meaning = meaning c e in
    let ms : List Meaning = m ∷ items_of c arms in
    record { wild = z; width = widest ms; signed = all_signed ms; value = m.at (widest ms) (all_signed ms) }

abbrev pub is_item : Context → Compared → Expr → Bool
is_item c k e = matches k.width (if k.wild then open_bits e else 0) ((meaning c e).at k.width k.signed) k.value

-- whether one of the items is equal to the selector
abbrev pub is_met : Context → Compared → Exprs → Bool
is_met c k no_expr = false
is_met c k (more_expr e es) = is_item c k e || is_met c k es

-- ---- texts: arguments are self-determined (17.1.1)

abbrev pub shown : List Meaning → List Value
shown [] = []
shown (m ∷ ms) = record { width = m.width; signed = m.signed; value = own m } ∷ shown ms

abbrev pub message : Station → Store → Text → Exprs → Text
message c m f es = unwrap_or (formatted c.path f (shown (meanings (context c m) es))) []

abbrev pub printed_text : Station → Store → Printed → Text
printed_text c m (format p f es) = message c m f es
printed_text c m _ = []

-- $display ends its line
abbrev pub print_end : Print → Text
print_end display = codes "\n"
print_end write = []

-- ---- statements

abbrev mutual
  pub execute : Station → Store → Stmt → Outcome
  execute c m (t.empty p) = quiet m
  execute c m (t.block p x ss) = execute_all c m ss
  execute c m (t.conditional bs e) = execute_branches c m bs (execute_else c m e)
  execute c m (t.select p z e arms) =
      execute_arms c m (compared (context c m) z e arms) arms (execute_default c m arms)
  execute c m (t.loop p l s) = over (λ d n. execute d n s) c (turn_sights c.sight l (turns c.sight l)) m
  execute c m (t.assign g a p e) = assigns m a (writes_of (context c m) g (meaning (context c m) e))
  execute c m (t.print p k a) = happens m (said (printed_text c m a ++ print_end k))
  execute c m (t.file_print p e q f es) = happens m (said (message c m f es))
  execute c m (t.stop p a) = happens m (stopped p false)
  execute c m (t.fatal p z) = happens m (stopped p true)

  pub execute_all : Station → Store → Stmts → Outcome
  execute_all c m no_stmt = quiet m
  execute_all c m (more_stmt s ss) = followed (execute c m s) (λ n. execute_all c n ss)

  -- the first branch whose condition holds, else what is given (9.4)
  pub execute_branches : Station → Store → Branches → Outcome → Outcome
  execute_branches c m no_branch o = o
  execute_branches c m (more_branch p e s bs) o = elim (true_of (meaning (context c m) e)) [
    | true ↦ execute c m s
    | false ↦ execute_branches c m bs o
  ]

  pub execute_else : Station → Store → Otherwise → Outcome
  execute_else c m no_else = quiet m
  execute_else c m (else_stmt s) = execute c m s

  -- the first arm with an item that is equal, else what is given (9.5)
  pub execute_arms : Station → Store → Compared → Arms → Outcome → Outcome
  execute_arms c m k no_arm o = o
  execute_arms c m k (more_arm es s more) o = elim (is_met (context c m) k es) [
    | true ↦ execute c m s
    | false ↦ execute_arms c m k more o
  ]
  execute_arms c m k (default_arm p z s more) o = execute_arms c m k more o

  -- the first default arm, wherever it stands
  pub execute_default : Station → Store → Arms → Outcome
  execute_default c m no_arm = quiet m
  execute_default c m (more_arm es s more) = execute_default c m more
  execute_default c m (default_arm p z s more) = execute c m s
