-- What names stand for, by the numbers of scopes, as the things of `vl_value`. This project's own.
use Rattle.std.specs.Prelude.{ℕ, ◌∷◌, [], slice_get, List, Option, Some, None}
use Rattle.vl_value.specs.Paths.{Text, Path, below}
use Rattle.vl_value.specs.Things as v
use Rattle.vl_design.specs.Scopes.{Scope, levels}
use Rattle.vl_design.specs.Declarations as d
use Rattle.vl_design.specs.Objects.{counted, first_named, level_thing, sight, body_sight, routine_thing}
use Rattle.vl_design.specs.LoopVariables.{is_routine}
use Rattle.vl_width.specs.Objects.{plain_constant}
use Rattle.vl_declares.specs.Plain.{plain_routine}
use Rattle.vl_objects.specs.Plain.{plain_range}
use Rattle.vl_scopes.specs.Plain.{path_at}
use Rattle.vl_sight.specs.declared.thing.Thing.{Thing}
use Rattle.vl_sight.specs.declared.thing.Thing.TheVariants as t
use Rattle.vl_sight.specs.declared.thing.Seen as code_seen
use Rattle.vl_sight.specs.declared.thing.Inside.{Inside}
use Rattle.vl_sight.specs.declared.thing.Inside.TheVariants as i
use Rattle.vl_sight.specs.declared.thing.Owner.{Owner}
use Rattle.vl_sight.specs.declared.thing.Owner.TheVariants as o

-- what a scope of a path has under a name
abbrev pub plain_thing : Path → Text → Thing → v.Thing
plain_thing p x (t.Signal r) = v.signal (below p x) (plain_range r)
plain_thing p x (t.Memory r first last) = v.memory (below p x) (plain_range r) first last
plain_thing p x (t.Constant c) = plain_constant c
plain_thing p x (t.Function inside r) = routine_thing inside p (plain_routine r.now)

abbrev pub seen_thing : List Scope → Text → code_seen.Seen → v.Thing
seen_thing ss x s = plain_thing (path_at ss (Some s.scope)) x s.thing

-- in the body of a function of a name
abbrev pub inside_thing : List Scope → Text → Text → Inside → v.Thing
inside_thing ss f x (i.Local k r) = v.signal (below (below (path_at ss (Some k)) f) x) (plain_range r)
inside_thing ss f x (i.Around s) = seen_thing ss x s

-- ---- what is in sight

-- in the scope of a number alone
abbrev pub thing_at : List Scope → ℕ → Text → Option v.Thing
thing_at ss k x = elim (slice_get ss k) [ Some s ↦ level_thing s.level x | None ↦ None ]

-- in the body of a function of a name of a scope
abbrev pub function_sight : Scope → Text → Text → Option v.Thing
function_sight s f = elim (first_named is_routine f (counted s.level)) [
  | Some (d.routine r) ↦ body_sight s.level s.outer r
  | _ ↦ sight (levels s)
]

abbrev pub sight_inside : List Scope → ℕ → Text → Text → Option v.Thing
sight_inside ss k f x = elim (slice_get ss k) [ Some s ↦ function_sight s f x | None ↦ None ]

-- ---- nets and variables

-- a name below the path of the scope of a number
abbrev pub own_path : List Scope → Text → Option ℕ → List Path
own_path ss x None = []
own_path ss x (Some k) = below (path_at ss (Some k)) x ∷ []

-- or below that of its function of a name
abbrev pub owned_path : List Scope → Text → Text → Option Owner → List Path
owned_path ss f x None = []
owned_path ss f x (Some (o.Scope k)) = below (path_at ss (Some k)) x ∷ []
owned_path ss f x (Some (o.Function k)) = below (below (path_at ss (Some k)) f) x ∷ []
