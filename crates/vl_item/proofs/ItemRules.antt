-- The rules of `always`, `initial`, functions and instances.
use Rattle.std.proofs.Common.{◌≡◌, List, [], ◌∷◌, refl, sym, ◌∙◌, ap, subst, ℕ}
use Rattle.std.specs.Prelude.{Option, false}
use Rattle.vl_tree.specs.declared.token.Key.TheVariants as w
use Rattle.vl_tree.specs.declared.token.Mark.TheVariants as m
use Rattle.vl_tree.specs.Token as k
use Rattle.vl_tree.specs.Syntax.{Place, Name, Stmt, empty, Event, any_read, Binds, Instance, Function, bit_result}
use Rattle.vl_tree.specs.Syntax.{Item, always, initial, function, instances}
use Rattle.vl_tree.specs.Placed.{Placed, at}
use Rattle.vl_tree.specs.Piece.{commas}
use Rattle.vl_tree.specs.Statements.{stmt_at, NoElse}
use Rattle.vl_tree.specs.Modules.{event_at, instance_at, function_at}
use Rattle.vl_tree.specs.Depth.{stmt_depths, event_depths, instance_depths, function_depths, item_depths}
use Rattle.vl_read.specs.Reading.{Any}
use Rattle.vl_read.specs.Commas.{EndsCommas}
use Rattle.vl_read.proofs.TokenRules.{somewhere}
use Rattle.vl_read.proofs.Leads.{Leads, leads_on, leads_less, leads_as}
use Rattle.vl_simple.specs.Simple.{rest_of}
use Rattle.vl_simple.proofs.Heads.{some_stmt}
use Rattle.vl_declaration.specs.Laws.{some_name}
use Rattle.vl_declaration.proofs.Parts.{Part, Joins, both, Turns, whole, passed, found, named, listed, ends_at, agree, free}
use Rattle.vl_header.specs.Laws.{instance_laws}
use Rattle.vl_header.specs.Readers.{NoHash}
use Rattle.vl_header.proofs.BindRules.{parameter_binds}
use Rattle.vl_item.specs.declared.start.Start.TheVariants as start
use Rattle.vl_item.specs.Readers.{sorted_at}

semicolon_commas : (p : Place) (z : List Placed) → EndsCommas Any (at (k.mark m.Semicolon) p ∷ z)
semicolon_commas p z = (λ h. absurd cc, tt)

no_hash : (is : List Instance) (a z : List Placed) → commas instance_at is a z → NoHash a
no_hash [] a z c = absurd c
no_hash (x ∷ xs) a z (mid, (m1, h, c), r) = subst NoHash (sym h) (λ q. absurd cc)

module _ (d : ℕ) where
  abbrev pub statement : Part Stmt
  statement = record { at = stmt_at; depths = stmt_depths d; may = NoElse; seen = Any; some = some_stmt NoElse }

  -- ---- always

  abbrev pub event : Part Event
  event = record {
    at = event_at;
    depths = event_depths d;
    may = Any;
    seen = Any;
    some = λ z f.
        let star : List Placed = at (k.mark m.Star) somewhere ∷ z in
        (any_read, at (k.mark m.At) somewhere ∷ star, (star, (somewhere, refl), (somewhere, refl)));
  }

  pub always_j1 : Joins event statement
  always_j1 u a z c = free

  abbrev pub always_1 : Part (Event × Stmt)
  always_1 = both event statement always_j1

  pub always_j0 : Joins (found d (k.key w.Always)) always_1
  always_j0 u a z c = free

  abbrev pub always_0 : Part (Place × (Event × Stmt))
  always_0 = both (found d (k.key w.Always)) always_1 always_j0

  always_out : (u : Item) (us z : List Placed) → sorted_at start.Always u us z → Any z
      → (x : Place × (Event × Stmt)) × always_0.at x us z × (u ≡ always x.0 x.1.0 x.1.1)
  always_out (always p e b) us z (i, c) g = ((p, (e, b)), c, refl)
  always_out u us z (i, c) g = absurd cc

  pub always_whole : (ts : List Placed)
      → Turns always_0 ts (sorted_at start.Always) (item_depths d) NoElse Any ts (λ x. always x.0 x.1.0 x.1.1)
  always_whole ts =
      whole always_0 (sorted_at start.Always) (item_depths d) (λ x. always x.0 x.1.0 x.1.1) (λ x. refl)
      (λ x us z c. (refl, c)) always_out ts

  -- ---- initial

  pub initial_j0 : Joins (found d (k.key w.Initial)) statement
  initial_j0 u a z c = free

  abbrev pub initial_0 : Part (Place × Stmt)
  initial_0 = both (found d (k.key w.Initial)) statement initial_j0

  initial_out : (u : Item) (us z : List Placed) → sorted_at start.Initial u us z → Any z
      → (x : Place × Stmt) × initial_0.at x us z × (u ≡ initial x.0 x.1)
  initial_out (initial p b) us z (i, c) g = ((p, b), c, refl)
  initial_out u us z (i, c) g = absurd cc

  pub initial_whole : (ts : List Placed)
      → Turns initial_0 ts (sorted_at start.Initial) (item_depths d) NoElse Any ts (λ x. initial x.0 x.1)
  initial_whole ts =
      whole initial_0 (sorted_at start.Initial) (item_depths d) (λ x. initial x.0 x.1) (λ x. refl) (λ x us z c. (refl, c)) initial_out ts

  -- ---- functions

  abbrev pub some_function : Function
  some_function = record {
    place = somewhere;
    automatic = false;
    signed = false;
    result = bit_result;
    name = some_name;
    ports = [];
    declarations = [];
    body = empty somewhere;
  }

  -- what stands after `function`
  abbrev pub function_tail : Part Function
  function_tail = record {
    at = λ f us z. function_at f (at (k.key w.Function) f.place ∷ us) z;
    depths = λ f. rest_of (function_depths d f);
    may = NoElse;
    seen = Any;
    some = λ z f.
        let d : List Placed = at (k.key w.Endfunction) somewhere ∷ z in
        let c : List Placed = at (k.mark m.Semicolon) somewhere ∷ d in
        let b : List Placed = at (k.mark m.Semicolon) somewhere ∷ c in
        let a : List Placed = at (k.name []) somewhere ∷ b in (
          some_function,
          a,
          (a, refl, (a, refl, (a, refl, (a, refl, (b, refl, (b, refl, (c, (somewhere, refl), (c, refl, (d, refl, (somewhere, refl)))))))))),
        );
  }

  pub function_j0 : Joins (found d (k.key w.Function)) function_tail
  function_j0 u a z c = free

  abbrev pub function_0 : Part (Place × Function)
  function_0 = both (found d (k.key w.Function)) function_tail function_j0

  -- a function whose word stands at this place
  abbrev pub put : Place → Function → Function
  put p f = record {
    place = p;
    automatic = f.automatic;
    signed = f.signed;
    result = f.result;
    name = f.name;
    ports = f.ports;
    declarations = f.declarations;
    body = f.body;
  }

  function_into : (x : Place × Function) (us z : List Placed) → function_0.at x us z
      → sorted_at start.Function (function (put x.0 x.1)) us z
  function_into (p, f) us z (mid, h, (m1, i, r)) =
      let e : mid ≡ m1 = cc in
      (refl, (m1, h ∙ ap (λ v. at (k.key w.Function) p ∷ v) e, r))

  function_out : (u : Item) (us z : List Placed) → sorted_at start.Function u us z → Any z
      → (x : Place × Function) × function_0.at x us z × (u ≡ function (put x.0 x.1))
  function_out (function f) us z (i, (mid, h, r)) g = ((f.place, f), (mid, h, (mid, refl, r)), refl)
  function_out u us z (i, c) g = absurd cc

  pub function_whole : (ts : List Placed)
      → Turns function_0 ts (sorted_at start.Function) (item_depths d) NoElse Any ts (λ x. function (put x.0 x.1))
  function_whole ts =
      whole function_0 (sorted_at start.Function) (item_depths d) (λ x. function (put x.0 x.1)) (λ x. refl) function_into function_out ts

  same_out : (u : Item) (us z : List Placed) → sorted_at start.Function u us z → Any z
      → (x : Function) × function_at x us z × (u ≡ function x)
  same_out (function f) us z (i, c) g = (f, c, refl)
  same_out u us z (i, c) g = absurd cc

  pub function_part : (p : Place) (ts us : List Placed) → ts ≡ at (k.key w.Function) p ∷ us
      → Leads function_at (function_depths d) Any Any (at (k.key w.Function) p ∷ us)
      (sorted_at start.Function) (item_depths d) NoElse Any ts function
  function_part p ts us h =
      let vs : List Placed = at (k.key w.Function) p ∷ us in
      subst (λ v. Leads function_at (function_depths d) Any Any vs (sorted_at start.Function) (item_depths d) NoElse Any v function) (sym h)
      (leads_on (leads_less function_at (function_depths d) Any Any NoElse Any (λ z f. tt) (λ z g. tt) vs)
      (leads_as function_at (function_depths d) (sorted_at start.Function) (item_depths d) NoElse Any function (λ x. refl)
      (λ x us z c. (refl, c)) same_out vs))

  -- ---- instances

  abbrev pub instance_list : Part (List Instance)
  instance_list = listed instance_at instance_depths Any instance_laws d

  abbrev pub instances_3 : Part (Unit {0})
  instances_3 = passed d (k.mark m.Semicolon)

  pub instances_j2 : Joins instance_list instances_3
  instances_j2 u a z c = ends_at (EndsCommas Any) (k.mark m.Semicolon) semicolon_commas a z c

  abbrev pub instances_2 : Part (List Instance × Unit {0})
  instances_2 = both instance_list instances_3 instances_j2

  pub instances_j1 : Joins (parameter_binds d NoHash) instances_2
  instances_j1 u a z (mid, c, r) = agree (no_hash u.0 a mid c) (no_hash u.0 a mid c)

  abbrev pub instances_1 : Part (Option (Option Binds) × (List Instance × Unit {0}))
  instances_1 = both (parameter_binds d NoHash) instances_2 instances_j1

  pub instances_j0 : Joins (named d) instances_1
  instances_j0 u a z c = free

  abbrev pub instances_0 : Part (Name × (Option (Option Binds) × (List Instance × Unit {0})))
  instances_0 = both (named d) instances_1 instances_j0

  instances_out : (u : Item) (us z : List Placed) → sorted_at start.Instances u us z → Any z
      → (x : Name × (Option (Option Binds) × (List Instance × Unit {0}))) × instances_0.at x us z × (u ≡ instances x.0 x.1.0 x.1.1.0)
  instances_out (instances n b is) us z (i, c) g = ((n, (b, (is, tt))), c, refl)
  instances_out u us z (i, c) g = absurd cc

  pub instances_whole : (ts : List Placed)
      → Turns instances_0 ts (sorted_at start.Instances) (item_depths d) NoElse Any ts (λ x. instances x.0 x.1.0 x.1.1.0)
  instances_whole ts =
      leads_on (whole instances_0 (sorted_at start.Instances) (item_depths d) (λ x. instances x.0 x.1.0 x.1.1.0) (λ x. refl)
      (λ x us z c. (refl, c)) instances_out ts)
      (leads_less (sorted_at start.Instances) (item_depths d) Any Any NoElse Any (λ z f. tt) (λ z g. tt) ts)
