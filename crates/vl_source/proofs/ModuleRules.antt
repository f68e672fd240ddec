-- The rules of modules, and of modules in a row.
use Rattle.std.proofs.Common.{◌≡◌, ℕ, List, [], ◌∷◌, ◌++◌, refl, sym, ◌∙◌, ap, subst, map, arith}
use Rattle.std.specs.Prelude.{Option, Some, None}
use Rattle.vl_tree.specs.declared.token.Key.TheVariants as w
use Rattle.vl_tree.specs.declared.token.Mark.TheVariants as m
use Rattle.vl_tree.specs.declared.item.Module as module_code
use Rattle.vl_tree.specs.Token as k
use Rattle.vl_tree.specs.Syntax.{Place, Name, HeaderParameter, Port, Items, Module}
use Rattle.vl_tree.specs.SyntaxView as view
use Rattle.vl_tree.specs.Placed.{Placed, at, kind_of}
use Rattle.vl_tree.specs.Piece.{mark, name_at}
use Rattle.vl_tree.specs.Modules.{header_parameters_at, source_at}
use Rattle.vl_tree.specs.Depth.{header_parameters_depths, source_depths}
use Rattle.vl_read.specs.Reading.{Took, Any, Both, BothDepths}
use Rattle.vl_read.specs.Tokens.{one, one_deep}
use Rattle.vl_read.proofs.Pieces.{Productive, link_any, took_empty}
use Rattle.vl_read.proofs.Leads.{Leads, leads_on, leads_less, leads_as, leads_after}
use Rattle.vl_read.proofs.TokenRules.{somewhere, link_kind_first}
use Rattle.vl_simple.proofs.Steps.{Joint}
use Rattle.vl_header.specs.Readers.{NoHash, closed_ports_at, closed_ports_depths}
use Rattle.vl_source.specs.Readers.{NoParen, header_ports_at, header_ports_depths, module_rest_at, module_rest_depths, NoModule}
use Rattle.vl_source.specs.Readers.{closed_items_at, closed_items_depths}
use Rattle.vl_source.proofs.ItemRules.{some_closed}

-- ---- ports

no_ports_out : (u : Option (List Port)) (a : Placed) (y z : List Placed) → (kind_of a ≡ k.mark m.OpenParen → ⊥)
    → header_ports_at u (a ∷ y) z
    → (u ≡ None) × (z ≡ a ∷ y)
no_ports_out None a y z n c = (refl, sym c)
no_ports_out (Some ps) a y z n (mid, (p, h), r) =
    let i : a ≡ at (k.mark m.OpenParen) p = cc in
    absurd (n (ap kind_of i))

no_ports_end : (u : Option (List Port)) (z : List Placed) → header_ports_at u [] z → (u ≡ None) × (z ≡ [])
no_ports_end None z c = (refl, sym c)
no_ports_end (Some ps) z (mid, (p, h), r) = absurd cc

pub no_ports : (ts : List Placed) → NoParen ts → Took header_ports_at header_ports_depths NoParen NoParen None ts ts
no_ports ts n =
    took_empty header_ports_at header_ports_depths NoParen NoParen None (λ z. refl) refl ts
    (λ a more e u y z c g. no_ports_out u a y z (subst NoParen e n) c) (λ u z c g. no_ports_end u z c)

ports_out : (p : Place) (u : Option (List Port)) (us z : List Placed) → header_ports_at u (at (k.mark m.OpenParen) p ∷ us) z → NoParen z
    → (x : List Port) × closed_ports_at x us z × (u ≡ Some x)
ports_out p None us z c g = absurd ((subst NoParen (sym c) g) refl)
ports_out p (Some ps) us z (mid, (q, h), r) g =
    let i : mid ≡ us = cc in
    (ps, subst (λ y. closed_ports_at ps y z) i r, refl)

pub some_ports : (p : Place) (ts us : List Placed) → ts ≡ at (k.mark m.OpenParen) p ∷ us
    → Leads closed_ports_at (closed_ports_depths 0) Any Any us header_ports_at header_ports_depths NoParen NoParen ts Some
some_ports p ts us h =
    leads_on (leads_less closed_ports_at (closed_ports_depths 0) Any Any NoParen NoParen (λ z g. tt) (λ z g. tt) us)
    (leads_after closed_ports_at (closed_ports_depths 0) header_ports_at header_ports_depths NoParen NoParen Some
    (at (k.mark m.OpenParen) p) 0 (omega arith)
    (λ x. refl) (λ x us z c. (us, (p, refl), c)) (ports_out p) ts us h)

-- ---- the parts of a module

abbrev pub M4 : Unit {0} × Items → List Placed → List Placed → Type 0
M4 = Both (one (mark m.Semicolon)) (closed_items_at w.Endmodule)

abbrev pub D4 : Unit {0} × Items → List ℕ
D4 = BothDepths (one_deep 0) (closed_items_depths 0)

abbrev pub M3 : Option (List Port) × (Unit {0} × Items) → List Placed → List Placed → Type 0
M3 = Both header_ports_at M4

abbrev pub D3 : Option (List Port) × (Unit {0} × Items) → List ℕ
D3 = BothDepths header_ports_depths D4

abbrev pub M2 : List HeaderParameter × (Option (List Port) × (Unit {0} × Items)) → List Placed → List Placed → Type 0
M2 = Both header_parameters_at M3

abbrev pub D2 : List HeaderParameter × (Option (List Port) × (Unit {0} × Items)) → List ℕ
D2 = BothDepths (header_parameters_depths 0) D3

abbrev pub M1 : Name × (List HeaderParameter × (Option (List Port) × (Unit {0} × Items))) → List Placed → List Placed → Type 0
M1 = Both name_at M2

abbrev pub D1 : Name × (List HeaderParameter × (Option (List Port) × (Unit {0} × Items))) → List ℕ
D1 = BothDepths (one_deep 0) D2

some_4 : Productive M4 Any
some_4 z f =
    let o = some_closed w.Endmodule tt Any z f in
    ((tt, o.0), at (k.mark m.Semicolon) somewhere ∷ o.1, (o.1, (somewhere, refl), o.2))

some_3 : Productive M3 Any
some_3 z f = let o = some_4 z f in ((None, o.0), o.1, (o.1, refl, o.2))

some_2 : Productive M2 Any
some_2 z f = let o = some_3 z f in (([], o.0), o.1, (o.1, refl, o.2))

pub semicolon_next : Joint (one (mark m.Semicolon)) (one_deep 0) (closed_items_at w.Endmodule) (closed_items_depths 0) Any Any Any Any
semicolon_next = record { link = link_any (closed_items_at w.Endmodule) Any Any (some_closed w.Endmodule tt Any) }

pub ports_next : Joint header_ports_at header_ports_depths M4 D4 Any Any NoParen NoParen
ports_next = record {
  link = link_kind_first (k.mark m.Semicolon) Any Any NoParen (λ p z h. absurd cc) (closed_items_at w.Endmodule)
      (some_closed w.Endmodule tt Any);
}

hash_3 : (u : Option (List Port) × (Unit {0} × Items)) (a z : List Placed) → M3 u a z → NoHash a
hash_3 (None, (x, is)) a z (mid, e, (m1, (p, h), r)) = subst NoHash (sym (e ∙ h)) (λ i. absurd cc)
hash_3 (Some ps, (x, is)) a z (mid, (m1, (p, h), t), r) = subst NoHash (sym h) (λ i. absurd cc)

pub parameters_next : Joint header_parameters_at (header_parameters_depths 0) M3 D3 Any Any NoHash NoHash
parameters_next = record {
  link = record {
    some = λ z f. let o = some_3 z f in (o.0, o.1, o.2, hash_3 o.0 o.1 z o.2);
    empty = λ u z c f. hash_3 u z z c;
    starts = λ u a z c g. hash_3 u a z c;
  };
}

pub name_next : Joint name_at (one_deep 0) M2 D2 Any Any Any Any
name_next = record { link = link_any M2 Any Any some_2 }

module _ (p : Place) where
  abbrev pub make_module : Name × (List HeaderParameter × (Option (List Port) × (Unit {0} × Items))) → Module
  make_module x = record {
    place = p;
    name = x.0;
    parameters = x.1.0;
    ports = x.1.1.0;
    items = x.1.1.1.1;
  }

  module_out : (u : Module) (us z : List Placed) → module_rest_at p u us z → Any z
      → (x : Name × (List HeaderParameter × (Option (List Port) × (Unit {0} × Items)))) × M1 x us z × (u ≡ make_module x)
  module_out u us z (mid, h, r) g =
      let e : u.place ≡ p = cc in
      let i : mid ≡ us = cc in (
        (u.name, (u.parameters, (u.ports, (tt, u.items)))),
        subst (λ y. M1 (u.name, (u.parameters, (u.ports, (tt, u.items)))) y z) i r,
        (λ n. record { place = e n; name = u.name; parameters = u.parameters; ports = u.ports; items = u.items }),
      )

  pub module_parts : (ts : List Placed) → Leads M1 D1 Any Any ts (module_rest_at p) module_rest_depths Any Any ts make_module
  module_parts ts =
      leads_as M1 D1 (module_rest_at p) module_rest_depths Any Any make_module (λ x. refl) (λ x us z c. (us, refl, c)) module_out ts

  -- ---- modules in a row

  abbrev pub MS : Module × List Module → List Placed → List Placed → Type 0
  MS = Both (module_rest_at p) source_at

  abbrev pub MSD : Module × List Module → List ℕ
  MSD = BothDepths module_rest_depths source_depths

  pub module_next : Joint (module_rest_at p) module_rest_depths source_at source_depths NoModule NoModule Any Any
  module_next = record { link = link_any source_at NoModule NoModule (λ z f. ([], z, refl)) }

  source_out : (u : List Module) (us z : List Placed) → source_at u (at (k.key w.Module) p ∷ us) z → NoModule z
      → (x : Module × List Module) × MS x us z × (u ≡ x.0 ∷ x.1)
  source_out [] us z c g = absurd ((subst NoModule (sym c) g) refl)
  source_out (x ∷ xs) us z c g = ((x, xs), c, refl)

  -- after `module`
  pub source_part : (ts us : List Placed) → ts ≡ at (k.key w.Module) p ∷ us
      → Leads MS MSD NoModule NoModule us source_at source_depths NoModule NoModule ts (λ x. x.0 ∷ x.1)
  source_part ts us h =
      leads_after MS MSD source_at source_depths NoModule NoModule (λ x. x.0 ∷ x.1) (at (k.key w.Module) p) 0 (omega arith) (λ x. refl)
      (λ x us z c. c) source_out ts us h

no_more : (u : List Module) (a : Placed) (y z : List Placed) → (kind_of a ≡ k.key w.Module → ⊥) → source_at u (a ∷ y) z
    → (u ≡ []) × (z ≡ a ∷ y)
no_more [] a y z n c = (refl, sym c)
no_more (x ∷ xs) a y z n (mid, (m1, h, t), r) =
    let i : a ≡ at (k.key w.Module) x.place = cc in
    absurd (n (ap kind_of i))

no_more_end : (u : List Module) (z : List Placed) → source_at u [] z → (u ≡ []) × (z ≡ [])
no_more_end [] z c = (refl, sym c)
no_more_end (x ∷ xs) z (mid, (m1, h, t), r) = absurd cc

pub source_none : (ts : List Placed) → NoModule ts → Took source_at source_depths NoModule NoModule [] ts ts
source_none ts n =
    took_empty source_at source_depths NoModule NoModule [] (λ z. refl) refl ts
    (λ a more e u y z c g. no_more u a y z (subst NoModule e n) c) (λ u z c g. no_more_end u z c)

-- a module more
pub map_one : (xs : List module_code.Module) (x : module_code.Module) (more : List Module)
    → map view.module_tree (xs ++ x ∷ []) ++ more ≡ map view.module_tree xs ++ (view.module_tree x ∷ more)
map_one [] x more = refl
map_one (a ∷ xs) x more = ap (λ y. view.module_tree a ∷ y) (map_one xs x more)
