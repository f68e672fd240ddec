-- Statements and branches in a row, one more at each turn of a loop; and the leaves among statements.
use Rattle.std.proofs.Common.{◌≡◌, ℕ, ◌+◌, ◌<◌, true, List, [], ◌∷◌, ◌++◌, length, get_or, drop, sym, ap, subst, ◌∙◌, arith}
use Rattle.std.specs.Prelude.{Some, Result, Ok, Err, OnOk}
use Rattle.std.proofs.Math.Nat.{mod-lt}
use Rattle.std.proofs.lemmas.Nat.{pow_pos}
use Rattle.std.proofs.lemmas.List.{at_drop_more}
use Rattle.flat_ir.specs.declared.design.Role.TheVariants as role
use Rattle.flat_ir.specs.declared.design.Signal.{Signal}
use Rattle.flat_ir.specs.declared.design.Node.{Node}
use Rattle.flat_ir.specs.declared.design.Deed.TheVariants as d
use Rattle.flat_ir.specs.declared.design.Action.{Action}
use Rattle.flat_ir.specs.FlatRun.{values_from}
use Rattle.vl_tree.specs.declared.tree.Stmt as stmt_code
use Rattle.vl_tree.specs.declared.tree.Branch as branch_code
use Rattle.vl_tree.specs.View.{expr, stmt, stmts, branches}
use Rattle.vl_tree.specs.Tree.{Text, Module, Expr, Stmt, assign, Stmts, no_stmt, more_stmt, Branches, no_branch, more_branch, no_else, else_stmt}
use Rattle.vl_meaning.specs.Objects.{width_of}
use Rattle.vl_meaning.specs.Faults.{are_stmts, are_branches}
use Rattle.vl_meaning.specs.Expression.{meaning, assigned}
use Rattle.vl_meaning.specs.Statement.{Outcome, quiet, execute, execute_all, execute_branches, execute_else}
use Rattle.vl_proc.specs.Ports.{found}
use Rattle.vl_proc.specs.Lowers.{context, Makes, Adds, Branched}
use Rattle.vl_proc.proofs.Ports.{both_true, found_width}
use Rattle.vl_proc.proofs.Sees.{writes_to}
use Rattle.vl_proc.proofs.Values.{grown_length}
use Rattle.vl_proc.proofs.Builds.{adds_none, adds_then, adds_one, does_write}

-- ---- statements in a row

-- where the rest is added too, all is
pub record Continues (m : Module) (start now : List Node) (before so_far : List Action) (condition : ℕ) (rest all : Stmts) : Type 0 where
  pub here : condition < length now
  pub sound : are_stmts m rest ≡ true
  pub then_adds : (last : List Node) (final : List Action) → Adds m now last so_far final condition (λ row state. execute_all (context m row state) rest)
      → Adds m start last before final condition (λ row state. execute_all (context m row state) all)

pub continues_more : (m : Module) (start now next : List Node) (before so_far further : List Action) (k : ℕ) (s : Stmt) (rest all : Stmts) → Continues m start now before so_far k (more_stmt s rest) all
    → Adds m now next so_far further k (λ row state. execute (context m row state) s) → Continues m start next before further k rest all
continues_more m start now next before so_far further k s rest all c a =
    let longer : k < length next = omega (arith, c.here, grown_length m now next a.grown) in
    record {
      here = longer;
      sound = (both_true _ _ c.sound).1;
      then_adds = λ last final b. c.then_adds last final
          (adds_then m now next last so_far further final k (λ row state. execute (context m row state) s) (λ row state. execute_all (context m row state) rest) longer a b);
    }

pub continues_end : (m : Module) (start now : List Node) (before so_far : List Action) (k : ℕ) (all : Stmts) → Continues m start now before so_far k no_stmt all
    → Adds m start now before so_far k (λ row state. execute_all (context m row state) all)
continues_end m start now before so_far k all c = c.then_adds now so_far (adds_none m now so_far k)

-- the statements from a place on
pub stmts_from : (all : List stmt_code.Stmt) (i : ℕ) (s : stmt_code.Stmt) → i < length all → s ≡ get_or all i s → stmts (drop i all) ≡ more_stmt (stmt s) (stmts (drop (i + 1) all))
stmts_from all i s h e = at_drop_more stmts all i s h ∙ ap (λ (x : stmt_code.Stmt). more_stmt (stmt x) (stmts (drop (i + 1) all))) (sym e)

-- ---- branches in a row

-- where what follows the rest is added too, all is
pub record Chains (m : Module) (start now : List Node) (before so_far : List Action) (condition left : ℕ) (rest all : Branches) : Type 0 where
  pub here : left < length now
  pub sound : are_branches m rest ≡ true
  pub then_adds : (last : List Node) (final : List Action) (o : List ℕ → List ℕ → Outcome) → Adds m now last so_far final left (λ row state. execute_branches (context m row state) rest (o row state))
      → Adds m start last before final condition (λ row state. execute_branches (context m row state) all (o row state))

pub chains_more : (m : Module) (start now next : List Node) (before so_far further : List Action) (k left less : ℕ) (e : Expr) (s : Stmt) (rest all : Branches)
    → Chains m start now before so_far k left (more_branch e s rest) all → Branched m now next so_far further left less (more_branch e s no_branch) → Chains m start next before further k less rest all
chains_more m start now next before so_far further k left less e s rest all c b = record {
  here = b.here;
  sound = (both_true _ _ c.sound).1;
  then_adds = λ last final o a. c.then_adds last final o (b.then_adds last final (λ row state. execute_branches (context m row state) rest (o row state)) a);
}

pub branches_from : (all : List (branch_code.Branch stmt_code.Stmt)) (i : ℕ) (b : branch_code.Branch stmt_code.Stmt) → i < length all → b ≡ get_or all i b
    → branches (drop i all) ≡ more_branch (expr b.condition) (stmt b.body) (branches (drop (i + 1) all))
branches_from all i b h e = at_drop_more branches all i b h ∙ ap (λ (x : branch_code.Branch stmt_code.Stmt). more_branch (expr x.condition) (stmt x.body) (branches (drop (i + 1) all))) (sym e)

-- a chain, and then the last part where the rest of the condition holds, or nothing
pub chain_then : {E : Type 0} (m : Module) (start now last : List Node) (before so_far final : List Action) (k left : ℕ) (bs : Branches) (s : Stmt) (r : Result (Unit {0}) E)
    → Branched m start now before so_far k left bs → OnOk r (Adds m now last so_far final left (λ row state. execute (context m row state) s))
    → OnOk r (Adds m start last before final k (λ row state. execute_branches (context m row state) bs (execute_else (context m row state) (else_stmt s))))
chain_then m start now last before so_far final k left bs s (Ok u) b a = b.then_adds last final (λ row state. execute (context m row state) s) a
chain_then m start now last before so_far final k left bs s (Err e) b a = tt

pub chain_ends : (m : Module) (start now : List Node) (before so_far : List Action) (k left : ℕ) (bs : Branches) → Branched m start now before so_far k left bs
    → Adds m start now before so_far k (λ row state. execute_branches (context m row state) bs (execute_else (context m row state) no_else))
chain_ends m start now before so_far k left bs b = b.then_adds now so_far (λ row state. quiet) (adds_none m now so_far left)

-- ---- leaves

pub write_adds : {E : Type 0} (m : Module) (x : Text) (v : Expr) (s : Signal) (old mid new : List Node) (before behind : List Action) (k j a : ℕ) (r : Result (Unit {0}) E) → k < length old
    → found m.clock 0 0 m.ports x ≡ Some s → s.role ≡ role.Register j → Makes m old mid a (λ row state. assigned s.width (meaning (context m row state) v)) → new ≡ mid
    → OnOk r (behind ≡ before ++ record { condition = k; deed = d.Write j a } ∷ []) → OnOk r (Adds m old new before behind k (λ row state. execute (context m row state) (assign x v)))
write_adds m x v s old mid new before behind k j a (Err z) h f c made e w = tt
write_adds m x v s old mid new before behind k j a (Ok u) h f c made e w =
    let to = writes_to m x s j f c in
    let same : s.width ≡ width_of m.ports x = found_width m.clock 0 0 m.ports x s f in
    subst (λ (ns : List Node). Adds m old ns before behind k (λ row state. execute (context m row state) (assign x v))) (sym e)
    (adds_one m old mid before behind k (d.Write j a) (λ row state. execute (context m row state) (assign x v)) made.grown (omega (arith, h, grown_length m old mid made.grown)) (to.there, made.here) w
    (λ row state p q. does_write m (values_from row state [] mid) x j a (assigned (width_of m.ports x) (meaning (context m row state) v)) to
    (made.is row state p q ∙ ap (λ (t : ℕ). assigned t (meaning (context m row state) v)) same) (mod-lt _ (pow_pos (width_of m.ports x)))))
