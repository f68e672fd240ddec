-- Tokens of declarations and functions, part by part.
use Rattle.std.proofs.Common.{◌≡◌, refl, ℕ, ◌+◌, false, List, [], ◌∷◌, ◌++◌, length, map, Option, Some, None, arith}
use Rattle.std.specs.Prelude.{◌==◌}
use Rattle.vl_tree.specs.declared.item.FunctionPort.{FunctionPort}
use Rattle.vl_tree.specs.Syntax as t
use Rattle.vl_tree.specs.SyntaxView as view
use Rattle.vl_tree.specs.Syntax.{Place, Name, Range}
use Rattle.vl_tree.specs.Depth.{enclosed, one_if, depths_of, comma_depths, more_depths, each_depth, expr_depths, stmt_depths, binds_depths, instance_depths, named_bind_depths, parameter_binds_depths, event_depths, sensed_depths, function_port_depths, function_ports_depths, function_type_depths, function_declaration_depths, function_depths}
use Rattle.vl_design.proofs.TokenLaws.{lengthened, expr_alike, binds_alike, sensed_alike, function_port_alike, function_declaration_alike, stmt_alike}
use Rattle.vl_tokens.specs.Counted.{in_list}

within : (d : ℕ) (xs : List ℕ) → length (enclosed d xs) ≡ 2 + length xs
within d xs = let h = lengthened xs (d ∷ []) in omega (arith, h)

-- a part has as many tokens at each depth
abbrev IsAlike : {A : Type 0} → (ℕ → A → List ℕ) → Type 0
IsAlike {A} f = (d e : ℕ) (a : A) → length (f d a) ≡ length (f e a)

of_option : {A : Type 0} → (f : ℕ → A → List ℕ) → IsAlike f → (d e : ℕ) (o : Option A) → length (depths_of f d o) ≡ length (depths_of f e o)
of_option f h d e None = refl
of_option f h d e (Some a) = h d e a

of_each : {A : Type 0} → (f : ℕ → A → List ℕ) → IsAlike f → (d e : ℕ) (l : List A) → length (each_depth f d l) ≡ length (each_depth f e l)
of_each f h d e [] = refl
of_each f h d e (a ∷ more) =
    let x = lengthened (f d a) (each_depth f d more) in let y = lengthened (f e a) (each_depth f e more) in
    let n = h d e a in let m = of_each f h d e more in omega (arith, x, y, n, m)

of_more : {A : Type 0} → (f : ℕ → A → List ℕ) → IsAlike f → (d e : ℕ) (l : List A) → length (more_depths f d l) ≡ length (more_depths f e l)
of_more f h d e [] = refl
of_more f h d e (a ∷ more) =
    let x = lengthened (f d a) (more_depths f d more) in let y = lengthened (f e a) (more_depths f e more) in
    let n = h d e a in let m = of_more f h d e more in omega (arith, x, y, n, m)

of_commas : {A : Type 0} → (f : ℕ → A → List ℕ) → IsAlike f → (d e : ℕ) (l : List A) → length (comma_depths f d l) ≡ length (comma_depths f e l)
of_commas f h d e [] = refl
of_commas f h d e (a ∷ more) =
    let x = lengthened (f d a) (more_depths f d more) in let y = lengthened (f e a) (more_depths f e more) in
    let n = h d e a in let m = of_more f h d e more in omega (arith, x, y, n, m)

pub bind_tokens : (b : t.NamedBind) → length (named_bind_depths 0 b) ≡ 4 + length (depths_of expr_depths 0 b.value)
bind_tokens b =
    let h = within 0 (depths_of expr_depths 1 b.value) in let a = of_option expr_depths expr_alike 1 0 b.value in omega (arith, h, a)

pub instance_tokens : (i : t.Instance) → length (instance_depths 0 i) ≡ 3 + length (depths_of binds_depths 0 i.binds)
instance_tokens i =
    let h = within 0 (depths_of binds_depths 1 i.binds) in let a = of_option binds_depths binds_alike 1 0 i.binds in omega (arith, h, a)

pub given_tokens : (b : Option t.Binds) → length (parameter_binds_depths 0 b) ≡ 3 + length (depths_of binds_depths 0 b)
given_tokens b =
    let h = within 0 (depths_of binds_depths 1 b) in let a = of_option binds_depths binds_alike 1 0 b in omega (arith, h, a)

pub sensed_tokens : (xs : List t.Sensed) → length (event_depths 0 (t.sensed xs)) ≡ 3 + in_list sensed_depths false xs
sensed_tokens xs =
    let h = within 0 (comma_depths sensed_depths 1 xs) in let a = of_commas sensed_depths sensed_alike 1 0 xs in omega (arith, h, a)

pub ports_tokens : (x : t.FunctionPort) (more : List t.FunctionPort)
    → length (function_ports_depths 0 (x ∷ more)) ≡ 2 + in_list function_port_depths false (x ∷ more)
ports_tokens x more =
    let h = within 0 (comma_depths function_port_depths 1 (x ∷ more)) in
    let a = of_commas function_port_depths function_port_alike 1 0 (x ∷ more) in omega (arith, h, a)

-- a word, a type, names, and a semicolon
pub declared_tokens : (ts cs : List ℕ) → length (0 ∷ (ts ++ (cs ++ (0 ∷ [])))) ≡ length ts + (2 + length cs)
declared_tokens ts cs = let h = lengthened ts (cs ++ (0 ∷ [])) in let k = lengthened cs (0 ∷ []) in omega (arith, h, k)

pub worded_tokens : (cs : List ℕ) → length (0 ∷ (cs ++ (0 ∷ []))) ≡ 2 + length cs
worded_tokens cs = let k = lengthened cs (0 ∷ []) in omega (arith, k)

pub more_declarations : (x : t.FunctionDeclaration) (more : List t.FunctionDeclaration)
    → length (each_depth function_declaration_depths 0 (x ∷ more))
    ≡ length (function_declaration_depths 0 x) + length (each_depth function_declaration_depths 0 more)
more_declarations x more = lengthened (function_declaration_depths 0 x) (each_depth function_declaration_depths 0 more)

pub whole_tokens : (f : t.Function) → length (function_depths 0 f)
    ≡ (length (one_if 0 f.automatic) + (length (one_if 0 f.signed) + length (function_type_depths 0 f.result)))
    + (length (function_ports_depths 0 f.ports) + (length (each_depth function_declaration_depths 0 f.declarations) + (4 + length (stmt_depths 0 f.body))))
whole_tokens f =
    let s = stmt_depths 1 f.body in let ds = each_depth function_declaration_depths 1 f.declarations in
    let ps = function_ports_depths 0 f.ports in let r = function_type_depths 0 f.result in
    let e = s ++ (0 ∷ []) in
    let h1 = lengthened s (0 ∷ []) in let h2 = lengthened ds e in
    let h3 = lengthened ps (0 ∷ (ds ++ e)) in let h4 = lengthened r (0 ∷ (ps ++ (0 ∷ (ds ++ e)))) in
    let h5 = lengthened (one_if 0 f.signed) (r ++ (0 ∷ (ps ++ (0 ∷ (ds ++ e))))) in
    let h6 = lengthened (one_if 0 f.automatic) (one_if 0 f.signed ++ (r ++ (0 ∷ (ps ++ (0 ∷ (ds ++ e)))))) in
    let a = stmt_alike 1 0 f.body in let b = of_each function_declaration_depths function_declaration_alike 1 0 f.declarations in
    omega (arith, h1, h2, h3, h4, h5, h6, a, b)

pub some_ports : (all : List FunctionPort) → (length all == 0) ≡ false
    → length (function_ports_depths 0 (map view.function_port all)) ≡ 2 + in_list function_port_depths false (map view.function_port all)
some_ports [] e = absurd cc
some_ports (x ∷ more) e = ports_tokens (view.function_port x) (map view.function_port more)
