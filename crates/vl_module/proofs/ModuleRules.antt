-- The rules of ports, of the clocked block and of the module.
use Rattle.std.proofs.Common.{◌≡◌, ℕ, ◌∷◌, [], ◌++◌, List, map, refl, sym, ap, subst, Ok, Err}
use Rattle.std.specs.Prelude.{Result, IfErr, IsErrAnd}
use Rattle.vl_tree.specs.declared.token.Token as declared
use Rattle.vl_tree.specs.declared.token.Key.TheVariants as w
use Rattle.vl_tree.specs.declared.token.Mark.TheVariants as m
use Rattle.vl_tree.specs.Token.{Tokens, Literal, all_coded}
use Rattle.vl_tree.specs.Tree.{Text, Stmts, Port, input, output, Module}
use Rattle.vl_tree.specs.Grammar.{word, mark, name_at, port_at, more_ports_at, always_at, module_at, ◌then◌}
use Rattle.vl_module.specs.declared.SynFault.{SynFault}
use Rattle.vl_module.specs.declared.SynFault.TheVariants as fault
use Rattle.vl_module.specs.Reading.{Any, Took, NoTree, Refuses, IsRefused, one}
use Rattle.vl_module.specs.Rules.{closing, output_at, ports_end, header_at, clocked_at}
use Rattle.vl_module.proofs.Pieces.{lead, trail, pair, took_lead, no_lead_2, took_pair, no_pair_1, no_pair_2, took_trail, no_trail_1, no_trail_2, took_as, no_as}

-- ---- ports

abbrev output_tree : (Literal × Literal) × Text → Port
output_tree x = output x.1 x.0.0 x.0.1

module _ (d : ℕ) (ts : Tokens) where
  module _ (us : Tokens) (h : Took (one (word d w.Input)) Any tt ts us) where
    input_out : (u : Port) (z : Tokens) → port_at d u ts z → Any z → (x : Text) × (u ≡ input x) × lead (word d w.Input) (name_at d) x ts z
    input_out (input n) z c g = (n, refl, c)
    input_out (output n l r) z c g = let i = h.here.1.1 in let j = c.1.1.1 in absurd cc

    pub input_none : NoTree (name_at d) Any us → NoTree (port_at d) Any ts
    input_none n = no_as (lead (word d w.Input) (name_at d)) (port_at d) Any input ts input_out (no_lead_2 (word d w.Input) (name_at d) ts us h n)

    pub input_took : (x : Text) (rest : Tokens) → Took (name_at d) Any x us rest → Took (port_at d) Any (input x) ts rest
    input_took x rest p = took_as (lead (word d w.Input) (name_at d)) (port_at d) Any input ts input_out (λ y z c. c) x rest (took_lead (word d w.Input) (name_at d) ts us h x rest p)

  output_into : (x : (Literal × Literal) × Text) (z : Tokens) → output_at d x ts z → port_at d (output_tree x) ts z
  output_into x z c =
      let q = c.2.2 in
      let r = q.1 in
      let e = r.2.2.2 in
      (c.0, c.1, (c.2.0, c.2.1, (r.0, r.1, (r.2.0, r.2.1, (r.2.2.0, r.2.2.1, (e.0, e.1, (q.0, e.2, q.2)))))))

  output_back : (n : Text) (l r : Literal) (z : Tokens) → port_at d (output n l r) ts z → output_at d ((l, r), n) ts z
  output_back n l r z c =
      let q = c.2.2 in
      let e = q.2.2.2 in
      (c.0, c.1, (c.2.0, c.2.1, (e.2.0, (q.0, q.1, (q.2.0, q.2.1, (q.2.2.0, q.2.2.1, (e.0, e.1, e.2.1)))), e.2.2)))

  module _ (f : NoTree (one (word d w.Input)) Any ts) where
    output_out : (u : Port) (z : Tokens) → port_at d u ts z → Any z → (x : (Literal × Literal) × Text) × (u ≡ output_tree x) × output_at d x ts z
    output_out (input n) z c g = absurd (f tt c.0 c.1 tt)
    output_out (output n l r) z c g = (((l, r), n), refl, output_back n l r z c)

    pub output_none : NoTree (output_at d) Any ts → NoTree (port_at d) Any ts
    output_none n = no_as (output_at d) (port_at d) Any output_tree ts output_out n

    pub output_took : (x : (Literal × Literal) × Text) (rest : Tokens) → Took (output_at d) Any x ts rest → Took (port_at d) Any (output_tree x) ts rest
    output_took x rest p = took_as (output_at d) (port_at d) Any output_tree ts output_out output_into x rest p

-- ---- the list of ports

-- what comes after a port
abbrev pub more_end : List Port → Tokens → Tokens → Type 0
more_end ps = more_ports_at 1 ps then closing 0

abbrev port_list : Port × List Port → List Port
port_list x = x.0 ∷ x.1

module _ (ts : Tokens) where
  port_out : (u : List Port) (z : Tokens) → ports_end u ts z → Any z → (x : Port × List Port) × (u ≡ port_list x) × pair (port_at 1) more_end x ts z
  port_out [] z c g = absurd c.1
  port_out (p ∷ ps) z c g = ((p, ps), refl, (c.1.0, c.1.1, (c.0, c.1.2, c.2)))

  port_into : (x : Port × List Port) (z : Tokens) → pair (port_at 1) more_end x ts z → ports_end (port_list x) ts z
  port_into x z c = (c.2.0, (c.0, c.1, c.2.1), c.2.2)

  pub ports_none_1 : NoTree (port_at 1) Any ts → NoTree ports_end Any ts
  ports_none_1 n = no_as (pair (port_at 1) more_end) ports_end Any port_list ts port_out (no_pair_1 (port_at 1) more_end ts n)

  module _ (p : Port) (us : Tokens) (h : Took (port_at 1) Any p ts us) where
    pub ports_none_2 : NoTree more_end Any us → NoTree ports_end Any ts
    ports_none_2 n = no_as (pair (port_at 1) more_end) ports_end Any port_list ts port_out (no_pair_2 (port_at 1) more_end ts p us h n)

    pub ports_took : (ps : List Port) (rest : Tokens) → Took more_end Any ps us rest → Took ports_end Any (p ∷ ps) ts rest
    ports_took ps rest q = took_as (pair (port_at 1) more_end) ports_end Any port_list ts port_out port_into (p, ps) rest (took_pair (port_at 1) more_end ts p us h ps rest q)

  module _ (us : Tokens) (h : Took (one (mark 1 m.Comma)) Any tt ts us) where
    comma_out : (u : List Port) (z : Tokens) → more_end u ts z → Any z → (x : List Port) × (u ≡ x) × lead (mark 1 m.Comma) ports_end x ts z
    comma_out [] z c g = let i = h.here.1.1 in let e : ts ≡ c.0 = c.1 in let j = c.2.1.1.1 in absurd cc
    comma_out (p ∷ ps) z c g = (p ∷ ps, refl, (c.1.0, c.1.1, (c.0, c.1.2, c.2)))

    comma_into : (x : List Port) (z : Tokens) → lead (mark 1 m.Comma) ports_end x ts z → more_end x ts z
    comma_into [] z c = absurd c.2.1
    comma_into (p ∷ ps) z c = (c.2.0, (c.0, c.1, c.2.1), c.2.2)

    pub comma_none : NoTree ports_end Any us → NoTree more_end Any ts
    comma_none n = no_as (lead (mark 1 m.Comma) ports_end) more_end Any (λ x. x) ts comma_out (no_lead_2 (mark 1 m.Comma) ports_end ts us h n)

    pub comma_took : (ps : List Port) (rest : Tokens) → Took ports_end Any ps us rest → Took more_end Any ps ts rest
    comma_took ps rest q = took_as (lead (mark 1 m.Comma) ports_end) more_end Any (λ x. x) ts comma_out comma_into ps rest (took_lead (mark 1 m.Comma) ports_end ts us h ps rest q)

  module _ (f : NoTree (one (mark 1 m.Comma)) Any ts) where
    abbrev no_more : Unit {0} → List Port
    no_more x = []

    closed_out : (u : List Port) (z : Tokens) → more_end u ts z → Any z → (x : Unit {0}) × (u ≡ no_more x) × one (closing 0) x ts z
    closed_out [] z c g = (tt, refl, subst (λ x. closing 0 x z) (sym c.1) c.2)
    closed_out (p ∷ ps) z c g = absurd (f tt c.1.0 c.1.1 tt)

    pub closed_none : NoTree (one (closing 0)) Any ts → NoTree more_end Any ts
    closed_none n = no_as (one (closing 0)) more_end Any no_more ts closed_out n

    pub closed_took : (rest : Tokens) → Took (one (closing 0)) Any tt ts rest → Took more_end Any [] ts rest
    closed_took rest q = took_as (one (closing 0)) more_end Any no_more ts closed_out (λ x z c. (ts, refl, c)) tt rest q

-- ---- the module

-- the header, the clocked block and `endmodule`
abbrev M1 : Text × Stmts → Tokens → Tokens → Type 0
M1 = trail (clocked_at 1) (word 0 w.Endmodule)

abbrev M0 : (Text × List Port) × (Text × Stmts) → Tokens → Tokens → Type 0
M0 = pair header_at M1

abbrev module_tree : (Text × List Port) × (Text × Stmts) → Module
module_tree x = record { name = x.0.0; ports = x.0.1; clock = x.1.0; body = x.1.1 }

always_into : (clock : Text) (body : Stmts) (ts z : Tokens) → clocked_at 1 (clock, body) ts z → always_at 1 clock body ts z
always_into clock body ts z c =
    let q = c.1 in
    let r = q.2.2.2 in
    (q.0, q.1, (q.2.0, q.2.1, (q.2.2.0, q.2.2.1, (r.0, r.1, (r.2.0, r.2.1, (c.0, r.2.2, c.2))))))

always_back : (clock : Text) (body : Stmts) (ts z : Tokens) → always_at 1 clock body ts z → clocked_at 1 (clock, body) ts z
always_back clock body ts z c =
    let r = c.2.2.2 in
    let e = r.2.2 in
    (e.0, (c.0, c.1, (c.2.0, c.2.1, (c.2.2.0, c.2.2.1, (r.0, r.1, (r.2.0, r.2.1, e.1))))), e.2)

module _ (ts : Tokens) where
  module_into : (x : (Text × List Port) × (Text × Stmts)) (z : Tokens) → M0 x ts z → module_at (module_tree x) ts z
  module_into x z c =
      let q = c.1 in
      let r = q.2.2 in
      let e = c.2 in
      (q.0, q.1, (q.2.0, q.2.1, (r.0, r.1, (r.2.0, r.2.1, (r.2.2.0, r.2.2.1, (c.0, r.2.2.2, (e.0, always_into x.1.0 x.1.1 c.0 e.0 e.1, e.2)))))))

  module_out : (u : Module) (z : Tokens) → module_at u ts z → Any z → (x : (Text × List Port) × (Text × Stmts)) × (u ≡ module_tree x) × M0 x ts z
  module_out u z c g =
      let r = c.2.2 in
      let q = r.2.2.2 in
      let e = q.2 in (
        ((u.name, u.ports), (u.clock, u.body)),
        refl,
        (q.0, (c.0, c.1, (c.2.0, c.2.1, (r.0, r.1, (r.2.0, r.2.1, (r.2.2.0, r.2.2.1, q.1))))), (e.0, always_back u.clock u.body q.0 e.0 e.1, e.2)),
      )

  pub module_none_1 : NoTree header_at Any ts → NoTree module_at Any ts
  module_none_1 n = no_as M0 module_at Any module_tree ts module_out (no_pair_1 header_at M1 ts n)

  module _ (x : Text × List Port) (us : Tokens) (h : Took header_at Any x ts us) where
    pub module_none_2 : NoTree (clocked_at 1) Any us → NoTree module_at Any ts
    module_none_2 n =
        no_as M0 module_at Any module_tree ts module_out (no_pair_2 header_at M1 ts x us h
        (no_trail_1 (clocked_at 1) Any (word 0 w.Endmodule) (λ a z c. tt) us n))

    module _ (y : Text × Stmts) (vs : Tokens) (p : Took (clocked_at 1) Any y us vs) where
      pub module_none_3 : NoTree (one (word 0 w.Endmodule)) Any vs → NoTree module_at Any ts
      module_none_3 n =
          no_as M0 module_at Any module_tree ts module_out (no_pair_2 header_at M1 ts x us h
          (no_trail_2 (clocked_at 1) Any (word 0 w.Endmodule) (λ a z c. tt) us y vs p n))

      pub module_took : (rest : Tokens) → Took (one (word 0 w.Endmodule)) Any tt vs rest → Took module_at Any (module_tree (x, y)) ts rest
      module_took rest q =
          took_as M0 module_at Any module_tree ts module_out module_into (x, y) rest (took_pair header_at M1 ts x us h y rest
          (took_trail (clocked_at 1) Any (word 0 w.Endmodule) (λ a z c. tt) us y vs p rest q))

-- ---- lists of the code so far, and what comes after them

pub map-one : {A B : Type 0} (f : A → B) (xs : List A) (a : A) (more : List B) → map f (xs ++ a ∷ []) ++ more ≡ map f xs ++ (f a ∷ more)
map-one f [] a more = refl
map-one f (b ∷ xs) a more = ap (λ w. f b ∷ w) (map-one f xs a more)

pub append-none : {A : Type 0} (xs : List A) → xs ++ [] ≡ xs
append-none [] = refl
append-none (a ∷ xs) = ap (λ w. a ∷ w) (append-none xs)

-- ---- all of the tokens

is_refused : (ts : Tokens) (e : SynFault) → Refuses module_at Any ts e → IsRefused ts e
is_refused ts fault.NoTree r = λ n d. r n [] d tt
is_refused ts fault.Memory r = tt

pub refused : {X : Type 0} (ts : Tokens) (e : SynFault) → Refuses module_at Any ts e → (result : Result X SynFault) → IsErrAnd result (λ y. y ≡ e) → IfErr result (IsRefused ts)
refused ts e r (Ok x) h = tt
refused ts e r (Err y) h = subst (IsRefused ts) (sym h) (is_refused ts e r)

pub none_left : (us : List declared.Token) → [] ≡ all_coded us → us ≡ []
none_left [] e = refl
none_left (a ∷ us) e = absurd cc
