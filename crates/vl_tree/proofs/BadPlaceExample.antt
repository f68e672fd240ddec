-- `module m; assign = 1; endmodule` is bad at token 4.
use Rattle.std.proofs.Common.{arith, ◌≡◌, ◌++◌, refl, sym, List, [], ◌∷◌, true, false}
use Rattle.std.specs.Prelude.{codes, take, Option, Some, None}
use Rattle.vl_tree.specs.declared.token.Key.TheVariants as w
use Rattle.vl_tree.specs.declared.token.Mark.TheVariants as m
use Rattle.vl_tree.specs.Syntax as t
use Rattle.vl_tree.specs.Syntax.{Module, Source, Item, Items, Target, HeaderParameter, Port, Driven, Directed}
use Rattle.vl_tree.specs.Token.{Kind}
use Rattle.vl_tree.specs.Placed.{Placed, at}
use Rattle.vl_tree.specs.Token as k
use Rattle.vl_tree.specs.Piece.{word, maybe, in_parens}
use Rattle.vl_tree.specs.Statements.{target_at}
use Rattle.vl_tree.specs.Modules.{item_at, items_at, module_at, source_at, header_parameters_at, ports_at, directed_at}
use Rattle.vl_tree.specs.Derives.{IsBad}
use Rattle.vl_tree.proofs.SyntaxExamples.{spot, numbered, id, named, plain, decimal_of, bare_module, one}

abbrev pub bad_tokens : List Placed
bad_tokens = numbered 0 (k.key w.Module ∷ id (codes "m") ∷ k.mark m.Semicolon ∷ k.key w.Assign ∷ k.mark m.Equals
    ∷ k.number (decimal_of 1) ∷ k.mark m.Semicolon ∷ k.key w.Endmodule ∷ [])

-- what would make a source of the first four
abbrev pub mended : List Placed
mended = numbered 4 (id (codes "x") ∷ k.mark m.Equals ∷ id (codes "y") ∷ k.mark m.Semicolon ∷ k.key w.Endmodule ∷ [])

abbrev pub mended_tree : Source
mended_tree = bare_module (one (t.continuous (spot 3) (record {
  target = t.name (named
      (codes "x") 4) t.no_select;
  place = spot 5;
  value = plain (codes "y") 6;
} ∷ [])))

abbrev pub a3 : Placed
a3 = at (k.key w.Assign) (spot 3)

abbrev pub e4 : Placed
e4 = at (k.mark m.Equals) (spot 4)

pub no_target : (x : Target) (z mid : List Placed) → target_at x (e4 ∷ z) mid → ⊥
no_target (t.name n ss) z mid (a, e, r) = absurd cc
no_target (t.targets p xs) z mid (a, e, r) = absurd cc

pub no_directed : (d : t.Direction) (x : Directed) (z mid : List Placed) → x.direction ≡ d → directed_at x (a3 ∷ e4
    ∷ z) mid → ⊥
no_directed t.input x z mid i (a, e, r) = let f = rw i at e in absurd cc
no_directed t.output x z mid i (a, e, r) = let f = rw i at e in absurd cc

pub no_item_here : (i : Item) (z mid : List Placed) → item_at i (a3 ∷ e4 ∷ z) mid → ⊥
no_item_here (t.continuous p []) z mid (a, e, (b, q, r)) = q
no_item_here (t.continuous p (x ∷ more)) z mid (a, e, (b, (c, (f, g, h), q), r)) =
    let s : a ≡ e4 ∷ z = cc in
    no_target x.target z f (rw s at g)
no_item_here (t.parameter p true s r vs) z mid (a, e, q) = absurd cc
no_item_here (t.parameter p false s r vs) z mid (a, e, q) = absurd cc
no_item_here (t.directed d ns) z mid (a, e, q) = no_directed d.direction d z a refl e
no_item_here (t.nets p s r ns) z mid (a, e, q) = absurd cc
no_item_here (t.registers p s r vs) z mid (a, e, q) = absurd cc
no_item_here (t.integer p vs) z mid (a, e, q) = absurd cc
no_item_here (t.genvar p ns) z mid (a, e, q) = absurd cc
no_item_here (t.always p v b) z mid (a, e, q) = absurd cc
no_item_here (t.initial p b) z mid (a, e, q) = absurd cc
no_item_here (t.function f) z mid (a, e, q) = absurd cc
no_item_here (t.instances n b is) z mid (a, e, q) = absurd cc
no_item_here (t.region p is) z mid (a, e, q) = absurd cc
no_item_here (t.generate_loop p l b) z mid (a, e, q) = absurd cc
no_item_here (t.generate_if t.no_generate_branch o) z mid d = d
no_item_here (t.generate_if (t.more_generate_branch p c b bs) o) z mid (a, e, q) = absurd cc

pub no_items : (is : Items) (z mid rest : List Placed) → items_at is (a3 ∷ e4 ∷ z) mid → word w.Endmodule mid rest → ⊥
no_items t.no_item z mid rest e (p, f) = absurd cc
no_items (t.more_item i is) z mid rest (a, q, r) f = no_item_here i z a q

abbrev pub semicolon : Placed
semicolon = at (k.mark m.Semicolon) (spot 2)

pub no_parameters : (ps : List HeaderParameter) (y mid : List Placed) → header_parameters_at ps (semicolon
    ∷ y) mid → mid ≡ semicolon ∷ y
no_parameters [] y mid e = sym e
no_parameters (t.declared_parameter p s r n v ∷ more) y mid (a, (b, e), q) = absurd cc
no_parameters (t.next_parameter n v ∷ more) y mid d = absurd d

pub no_ports : (ps : Option (List Port)) (y mid : List Placed) → maybe (λ ps. in_parens (ports_at ps)) ps (semicolon
    ∷ y) mid → mid ≡ semicolon ∷ y
no_ports None y mid e = sym e
no_ports (Some ps) y mid (a, (b, e), q) = absurd cc

pub no_module : (x : Module) (z mid : List Placed) → module_at x (numbered 0 (k.key w.Module ∷ id (codes "m") ∷ [])
    ++ semicolon ∷ a3 ∷ e4 ∷ z) mid → ⊥
no_module x z mid (m1, e1, (m2, e2, (m3, q, (m4, ports, (m5, (p, e5), (m6, is, f)))))) =
    let s2 : m2 ≡ semicolon ∷ a3 ∷ e4 ∷ z = cc in
    let s3 = no_parameters x.parameters (a3 ∷ e4 ∷ z) m3 (rw s2 at q) in
    let s4 = no_ports x.ports (a3 ∷ e4 ∷ z) m4 (rw s3 at ports) in
    let s5 : m5 ≡ a3 ∷ e4 ∷ z = cc in
    no_items x.items z m6 mid (rw s5 at is) f

pub no_source : (s : Source) (z rest : List Placed) → source_at s (take 5 bad_tokens ++ z) rest → rest ≡ [] → ⊥
no_source [] z rest e i = absurd cc
no_source (x ∷ more) z rest (a, q, r) i = no_module x z a q

pub bad_at_4 : IsBad source_at bad_tokens 4
bad_at_4 = record {
  reach = record {
    within = omega arith;
    before = (
      mended,
      (
        mended_tree,
        (
          _,
          (
            _,
            refl,
            (
              _,
              refl,
              (
                _,
                refl,
                (
                  _,
                  refl,
                  (
                    _,
                    (_, refl),
                    (
                      _,
                      (
                        _,
                        (
                          _,
                          refl,
                          (
                            _,
                            (_, (_, (_, refl, refl), (_, refl, (_, refl, refl))), refl),
                            (_, refl),
                          ),
                        ),
                        refl,
                      ),
                      (_, refl),
                    ),
                  ),
                ),
              ),
            ),
          ),
          refl,
        ),
      ),
    );
    at = λ l b. no_source b.1.0 b.0 [] b.1.1 refl;
  };
  none = λ d. no_source d.0 (numbered 5 (k.number (decimal_of 1) ∷ k.mark m.Semicolon ∷ k.key w.Endmodule
      ∷ [])) [] d.1 refl;
}
