-- Instances and generate scopes from the top down, in preorder (IEEE 1364-2005, clauses 12.1 to 12.5), with the faults of
-- phase 4 on the way. What a text asks for is a list of requests; `specs/Walk` says how far it is heard.
use Rattle.std.specs.Prelude.{ℕ, zero, suc, ◌+◌, Bool, true, false, if◌then◌else◌, List, [], ◌∷◌, ◌++◌, map, bytes_eq, Option, Some, None}
use Rattle.vl_tree.specs.declared.fault.FaultKind.TheVariants.{UnknownModule, TooDeep, Misplaced}
use Rattle.vl_tree.specs.Syntax.{Place, Name, Port, Binds, Instance, Item, Items, GenerateBlock, GenerateBranches, GenerateElse, Module, Source, parameter, directed, instances, region, generate_loop, generate_if, no_item, more_item, single, several, no_generate_branch, more_generate_branch, no_generate_else, generate_else}
use Rattle.vl_value.specs.Paths.{Text, Path, Step, named}
use Rattle.vl_value.specs.Meaning.{Meaning, true_of}
use Rattle.vl_value.specs.Order.{Found, at}
use Rattle.vl_design.specs.Lists.{each_of}
use Rattle.vl_design.specs.Limits.{Limits}
use Rattle.vl_design.specs.Constants.{Known, nothing_known, value_of, needs}
use Rattle.vl_design.specs.Parameters.{Given, no_type, after_header, header_needs, header_worth, given_of, binds_faults}
use Rattle.vl_design.specs.Declarations.{Declared, parameter_by, plain_declared, item_needs, header_ports, port_needs}
use Rattle.vl_design.specs.Generate.{Around, entered, behind, in_turn, genvars_in, has_one_genvar, turns_of, step_of, label_of, turn_number, constructs_of, is_if, label_declared, loop_declared, items_tokens, turn_tokens}

-- ---- scopes

-- what a scope declares; in a turn of a loop also the genvar's name and its number
pub record Level : Type 0 where
  pub path : Path
  pub declared : List Declared
  pub turn : Option (Text × ℕ)

-- how an instance is connected: the scopes in which it stands, from the innermost to its module, and its parentheses
pub record Joined : Type 0 where
  pub outer : List Level
  pub binds : Option Binds

-- what makes a scope: an instance of a module, which is connected unless it is the top, or a block
pub data Origin : Type 0 where
  instance_of : Module → Option Joined → Origin
  block : Origin

-- an instance or a generate scope: its level and those around it, from the innermost to its module, and its items
pub record Scope : Type 0 where
  pub origin : Origin
  pub level : Level
  pub outer : List Level
  pub items : Items

abbrev pub levels : Scope → List Level
levels s = s.level ∷ s.outer

-- ---- what is asked for

pub data Request : Type 0 where
  -- an instance begins, whose name stands there
  instance_begins : Place → Request
  -- so many expanded tokens
  expands : ℕ → Request
  opens : Scope → Request
  fails : Found → Request

abbrev pub failing : List Found → List Request
failing fs = map fails fs

-- an instance that is asked for
pub record Use : Type 0 where
  pub place : Place
  pub path : Path
  pub given : List Given
  pub joined : Option Joined

-- where an item stands: the values given to parameters, in a module alone; the scopes around it; whether in a block
pub record Here : Type 0 where
  pub given : List Given
  pub path : Path
  pub levels : List Level
  pub in_block : Bool

-- makes an instance of a module
abbrev pub Maker : Type 0
Maker = Use → Module → List Request

abbrev pub module_at : Source → Text → Option Module
module_at [] x = None
module_at (m ∷ ms) x = if bytes_eq m.name.text x then Some m else module_at ms x

abbrev pub each_instance : Maker → Here → List Given → Module → List Instance → List Request
each_instance make h gs m [] = []
each_instance make h gs m (i ∷ is) = make (record {
  place = i.name.place;
  path = h.path ++ named i.name.text ∷ [];
  given = gs;
  joined = Some (record { outer = h.levels; binds = i.binds });
}) m ++ each_instance make h gs m is

-- instances of a name, which has to be a module's; else they count, and have nothing in them
abbrev pub instances_by : Maker → Here → Known → Name → Option Module → Option (Option Binds) → List Instance → List Request
instances_by make h k x None ps is =
    fails (at x.place UnknownModule) ∷ map (λ (i : Instance). instance_begins i.name.place) is
instances_by make h k x (Some m) ps is =
    failing (binds_faults k m ps) ++ each_instance make h (given_of k m ps) m is

-- `input`, `output` and `parameter` stand in no block
abbrev pub misplaced : Bool → Item → List Found
misplaced true (directed d xs) = at d.place Misplaced ∷ []
misplaced true (parameter p false s r vs) = at p Misplaced ∷ []
misplaced _ i = []

-- ---- what a scope declares; n is the number of the next generate construct

-- the first branch whose condition isn't 0, or what is given; none where a condition is faulty
abbrev pub taken : {A : Type 0} → Option Meaning → List A → List A → List A → List A
taken None fs here there = fs
taken (Some m) fs here there = if true_of m then here else there

abbrev mutual
  pub declared_by : Limits → List Given → Around → Item → List Declared
  declared_by q gs a (region p is) = declared q gs a is
  declared_by q gs a (generate_loop p l b) =
      if has_one_genvar a l then loop_declared (turns_of q p a l) b else []
  declared_by q gs a (generate_if bs e) = branch_declared q gs a bs (else_declared q gs a e)
  declared_by q gs a i = plain_declared gs a.known i

  pub declared : Limits → List Given → Around → Items → List Declared
  declared q gs a no_item = []
  declared q gs a (more_item i is) = declared_by q gs a i ++ declared q gs (behind gs a i) is

  pub block_declared : Limits → List Given → Around → GenerateBlock → List Declared
  block_declared q gs a (single i) = if is_if i then declared_by q gs a i else []
  block_declared q gs a (several p x is) = label_declared (several p x is)

  pub branch_declared : Limits → List Given → Around → GenerateBranches → List Declared → List Declared
  branch_declared q gs a no_generate_branch last = last
  branch_declared q gs a (more_generate_branch p e b bs) last =
      taken (value_of a.known e) [] (block_declared q gs a b) (branch_declared q gs a bs last)

  pub else_declared : Limits → List Given → Around → GenerateElse → List Declared
  else_declared q gs a no_generate_else = []
  else_declared q gs a (generate_else b) = block_declared q gs a b

-- ---- requests of items

-- what is in sight in a block, what it declares, and its items
abbrev pub body_around : GenerateBlock → Around → Around
body_around (single i) a = entered (more_item i no_item) a
body_around (several p x is) a = entered is a

abbrev pub body_declared : Limits → Around → GenerateBlock → List Declared
body_declared q a (single i) = declared_by q [] a i
body_declared q a (several p x is) = declared q [] a is

abbrev pub body_items : GenerateBlock → Items
body_items (single i) = more_item i no_item
body_items (several p x is) = is

abbrev pub block_scope : Limits → Here → Step → Option (Text × ℕ) → Around → GenerateBlock → Scope
block_scope q h st t a b = record {
  origin = block;
  level = record { path = h.path ++ st ∷ []; declared = body_declared q (body_around b a) b; turn = t };
  outer = h.levels;
  items = body_items b;
}

abbrev pub within : Scope → Here
within s = record { given = []; path = s.level.path; levels = levels s; in_block = true }

-- the scope of a block, and the requests of its items
abbrev pub in_scope : Limits → Here → Step → Option (Text × ℕ) → Around → GenerateBlock → (Here → Around → List Request) → List Request
in_scope q h st t a b f =
    opens (block_scope q h st t a b) ∷ f (within (block_scope q h st t a b)) (body_around b a)

abbrev pub turn_step : ℕ → GenerateBlock → ℕ → Step
turn_step n b k = step_of n (label_of b) (Some (turn_number k))

abbrev mutual
  pub item_requests : Maker → Source → Limits → Here → ℕ → Around → Item → List Request
  item_requests make src q h n a (instances x ps is) = instances_by make h a.known x (module_at src x.text) ps is
  item_requests make src q h n a (region p is) = items_requests make src q h n a is
  item_requests make src q h n a (generate_loop p l b) = if has_one_genvar a l
      then each_of (λ k. expands (turn_tokens b) ∷ scope_requests make src q h (turn_step n b k)
      (Some (l.variable.text, k)) (in_turn l.variable.text k a) b) (turns_of q p a l).numbers
      ++ failing (turns_of q p a l).faults
      else fails (at p Misplaced) ∷ []
  item_requests make src q h n a (generate_if bs e) = branch_requests make src q h n a bs (else_requests make src q h n a e)
  item_requests make src q h n a i = failing (misplaced h.in_block i ++ item_needs h.given a.known i)

  pub items_requests : Maker → Source → Limits → Here → ℕ → Around → Items → List Request
  items_requests make src q h n a no_item = []
  items_requests make src q h n a (more_item i is) =
      item_requests make src q h n a i ++ items_requests make src q h (n + constructs_of i) (behind h.given a i) is

  -- a block that makes a scope
  pub scope_requests : Maker → Source → Limits → Here → Step → Option (Text × ℕ) → Around → GenerateBlock → List Request
  scope_requests make src q h st t a (single i) =
      in_scope q h st t a (single i) (λ g c. item_requests make src q g 1 c i)
  scope_requests make src q h st t a (several p x is) =
      in_scope q h st t a (several p x is) (λ g c. items_requests make src q g 1 c is)

  -- a branch that is taken; an `if` that stands directly as one makes no scope
  pub block_requests : Maker → Source → Limits → Here → ℕ → Around → GenerateBlock → List Request
  block_requests make src q h n a (single i) = if is_if i then item_requests make src q h n a i
      else in_scope q h (step_of n None None) None a (single i) (λ g c. item_requests make src q g 1 c i)
  block_requests make src q h n a (several p x is) =
      in_scope q h (step_of n x None) None a (several p x is) (λ g c. items_requests make src q g 1 c is)

  pub branch_requests : Maker → Source → Limits → Here → ℕ → Around → GenerateBranches → List Request → List Request
  branch_requests make src q h n a no_generate_branch last = last
  branch_requests make src q h n a (more_generate_branch p e b bs) last = taken (value_of a.known e)
      (failing (needs a.known e)) (block_requests make src q h n a b) (branch_requests make src q h n a bs last)

  pub else_requests : Maker → Source → Limits → Here → ℕ → Around → GenerateElse → List Request
  else_requests make src q h n a no_generate_else = []
  else_requests make src q h n a (generate_else b) = block_requests make src q h n a b

-- ---- requests of instances

abbrev pub ports_of : Module → List Port
ports_of m = elim m.ports [ Some ps ↦ ps | None ↦ [] ]

-- the constants of a header, and no name from outside the module
abbrev pub at_entry : Use → Module → Around
at_entry u m = record {
  known = after_header u.given no_type nothing_known m.parameters;
  is_genvar = genvars_in m.items (λ x. false);
}

abbrev pub module_declared : Limits → Use → Module → List Declared
module_declared q u m = map parameter_by (header_worth u.given no_type nothing_known m.parameters)
    ++ (header_ports (at_entry u m).known None (ports_of m) ++ declared q u.given (at_entry u m) m.items)

abbrev pub module_scope : Limits → Use → Module → Scope
module_scope q u m = record {
  origin = instance_of m u.joined;
  level = record { path = u.path; declared = module_declared q u m; turn = None };
  outer = [];
  items = m.items;
}

abbrev pub inside : Use → Scope → Here
inside u s = record { given = u.given; path = u.path; levels = levels s; in_block = false }

abbrev pub module_requests : Maker → Source → Limits → Use → Module → List Request
module_requests make src q u m = instance_begins u.place ∷ (expands (items_tokens m.items)
    ∷ (opens (module_scope q u m)
    ∷ (failing (header_needs u.given no_type nothing_known m.parameters ++ each_of (port_needs (at_entry u m).known) (ports_of m))
    ++ items_requests make src q (inside u (module_scope q u m)) 1 (at_entry u m) m.items)))

-- an instance in which so many may lie in one another, itself among them
abbrev pub instance_requests : Source → Limits → ℕ → Maker
instance_requests src q zero u m = fails (at u.place TooDeep) ∷ (instance_begins u.place ∷ [])
instance_requests src q (suc d) u m = module_requests (instance_requests src q d) src q u m

abbrev pub top_use : Module → Use
top_use m = record { place = m.name.place; path = []; given = []; joined = None }

-- all that a source asks for, from its top down
abbrev pub all_requests : Limits → Source → Module → List Request
all_requests q src m = instance_requests src q q.depth (top_use m) m
