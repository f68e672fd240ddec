-- How far a design is built, and the faults of phase 4 (this project's own; the top by IEEE 1364-2005, 12.1.1). Building ends
-- behind the first instance of too many, or where the expanded tokens are too many, so each text is built in bounded work.
use Rattle.std.specs.Prelude.{ℕ, suc, ◌+◌, Bool, true, false, ◌||◌, if◌then◌else◌, nat_lt, filter, List, [], ◌∷◌, ◌++◌, bytes_eq, Option, Some, None, not}
use Rattle.std.specs.List.{list_any}
use Rattle.vl_tree.specs.declared.fault.FaultKind.TheVariants.{DuplicateModule, NoTop, TooManyInstances, Expanded}
use Rattle.vl_tree.specs.Syntax.{Place, Item, Items, GenerateBlock, GenerateBranches, GenerateElse, Module, Source, instances, region, generate_loop, generate_if, no_item, more_item, single, several, no_generate_branch, more_generate_branch, no_generate_else, generate_else}
use Rattle.vl_value.specs.Paths.{Text}
use Rattle.vl_value.specs.Order.{Found, at}
use Rattle.vl_design.specs.Limits.{Limits}
use Rattle.vl_design.specs.Scopes.{Scope, Request, instance_begins, expands, opens, fails, module_at, all_requests}

-- ---- hearing requests

-- what was built: how many instances and expanded tokens, whether it ended, the faults and the scopes so far, in order
pub record Built : Type 0 where
  pub instances : ℕ
  pub tokens : ℕ
  pub ended : Bool
  pub faults : List Found
  pub scopes : List Scope

abbrev pub nothing_built : Built
nothing_built = record { instances = 0; tokens = 0; ended = false; faults = []; scopes = [] }

-- ends with a fault
abbrev pub ended_with : Found → Built → Built
ended_with f b = record b { ended = true; faults = b.faults ++ f ∷ [] }

-- a request, where the top's name stands at a place
abbrev pub built : Limits → Place → Request → Built → Built
built q top (instance_begins p) b = let c : Built = record b { instances = suc b.instances } in
    if nat_lt q.instances c.instances then ended_with (at p TooManyInstances) c else c
built q top (expands n) b = let c : Built = record b { tokens = b.tokens + n } in
    if nat_lt q.tokens c.tokens then ended_with (at top Expanded) c else c
built q top (opens s) b = record b { scopes = b.scopes ++ s ∷ [] }
built q top (fails f) b = record b { faults = b.faults ++ f ∷ [] }

abbrev pub heard : Limits → Place → Request → Built → Built
heard q top e b = if b.ended then b else built q top e b

abbrev pub all_heard : Limits → Place → List Request → Built → Built
all_heard q top [] b = b
all_heard q top (e ∷ es) b = all_heard q top es (heard q top e b)

abbrev pub build : Limits → Source → Module → Built
build q src m = all_heard q m.name.place (all_requests q src m) nothing_built

-- ---- the top

-- whether an item instantiates a module of a name, in any branch or block
abbrev mutual
  pub instantiates : Text → Item → Bool
  instantiates x (instances m ps is) = bytes_eq m.text x
  instantiates x (region p is) = some_instantiates x is
  instantiates x (generate_loop p l b) = block_instantiates x b
  instantiates x (generate_if bs e) = branches_instantiate x bs || else_instantiates x e
  instantiates x _ = false

  pub some_instantiates : Text → Items → Bool
  some_instantiates x no_item = false
  some_instantiates x (more_item i is) = instantiates x i || some_instantiates x is

  pub block_instantiates : Text → GenerateBlock → Bool
  block_instantiates x (single i) = instantiates x i
  block_instantiates x (several p l is) = some_instantiates x is

  pub branches_instantiate : Text → GenerateBranches → Bool
  branches_instantiate x no_generate_branch = false
  branches_instantiate x (more_generate_branch p e b bs) = block_instantiates x b || branches_instantiate x bs

  pub else_instantiates : Text → GenerateElse → Bool
  else_instantiates x no_generate_else = false
  else_instantiates x (generate_else b) = block_instantiates x b

abbrev pub has_module : Source → Text → Bool
has_module src x = list_any (λ (m : Module). bytes_eq m.name.text x) src

-- the first module of each name, which alone counts
abbrev pub first_of_name : Source → Source → Source
first_of_name before [] = []
first_of_name before (m ∷ ms) = (if has_module before m.name.text then [] else m ∷ []) ++ first_of_name (m ∷ before) ms

abbrev pub is_instantiated : Source → Module → Bool
is_instantiated src m = list_any (λ (n : Module). some_instantiates m.name.text n.items) src

-- those that none of them instantiates
abbrev pub roots : Source → List Module
roots src = filter (λ m. not (is_instantiated src m)) src

abbrev pub only_one : List Module → Option Module
only_one (m ∷ []) = Some m
only_one _ = None

-- the module that is asked for, or the one root
abbrev pub top_of : Source → Option Text → Option Module
top_of src (Some x) = module_at src x
top_of src None = only_one (roots (first_of_name [] src))

-- ---- faults of phase 4

-- a second module of a name
abbrev pub duplicate_modules : Source → Source → List Found
duplicate_modules before [] = []
duplicate_modules before (m ∷ ms) =
    (if has_module before m.name.text then at m.name.place DuplicateModule ∷ [] else [])
    ++ duplicate_modules (m ∷ before) ms

-- the first token, which is that of the first module
abbrev pub first_token : Source → Place
first_token [] = record { token = 0; line = 1 }
first_token (m ∷ ms) = record { token = 0; line = m.place.line }

abbrev pub building_faults : Limits → Source → Option Module → List Found
building_faults q src None = at (first_token src) NoTop ∷ []
building_faults q src (Some m) = (build q src m).faults

abbrev pub hierarchy_faults : Limits → Source → Option Text → List Found
hierarchy_faults q src top = duplicate_modules [] src ++ building_faults q src (top_of src top)
