-- Placed lists that derive, each with its derivation, and lists that don't.
use Rattle.std.proofs.Common.{zero, suc, get_or, arith, ℕ, ◌≡◌, refl, List, [], ◌∷◌, true, false}
use Rattle.std.specs.Prelude.{codes, Some, None}
use Rattle.bit_ops.specs.declared.operator.Binary.TheVariants as two
use Rattle.vl_tree.specs.declared.token.Key.TheVariants as w
use Rattle.vl_tree.specs.declared.token.Mark.TheVariants as m
use Rattle.vl_tree.specs.Syntax as t
use Rattle.vl_tree.specs.Token.{Literal}
use Rattle.vl_tree.specs.Syntax.{Place, Name, Source, Expr, Item, Items}
use Rattle.vl_tree.specs.Token.{Kind}
use Rattle.vl_tree.specs.Placed.{Placed, at}
use Rattle.vl_tree.specs.Token as k
use Rattle.vl_tree.specs.Modules.{source_at}
use Rattle.vl_tree.specs.Depth.{expr_depths, source_depths}

abbrev pub spot : ℕ → Place
spot n = record { token = n; line = 1 }

abbrev pub numbered : ℕ → List Kind → List Placed
numbered n [] = []
numbered n (a ∷ more) = at a (spot n) ∷ numbered (suc n) more

abbrev pub id : List ℕ → Kind
id s = k.name s

abbrev pub named : List ℕ → ℕ → Name
named s n = record { text = s; place = spot n }

-- a name alone as an expression
abbrev pub plain : List ℕ → ℕ → Expr
plain s n = t.read (named s n) t.no_select

abbrev pub decimal_of : ℕ → Literal
decimal_of n = record { width = 32; sized = false; signed = true; value = n; wild = 0 }

-- a module without parameters and ports
abbrev pub bare_module : Items → Source
bare_module is = record { place = spot 0; name = named (codes "m") 1; parameters = []; ports = None; items = is } ∷ []

abbrev pub one : Item → Items
one i = t.more_item i t.no_item

-- module m; wire w = (a + b * c); endmodule
abbrev pub net_tokens : List Placed
net_tokens = numbered 0 (k.key w.Module ∷ id (codes "m") ∷ k.mark m.Semicolon ∷ k.key w.Wire ∷ id (codes "w")
    ∷ k.mark m.Equals ∷ k.mark m.OpenParen
    ∷ id (codes "a") ∷ k.mark m.Plus ∷ id (codes "b") ∷ k.mark m.Star ∷ id (codes "c") ∷ k.mark m.CloseParen
    ∷ k.mark m.Semicolon ∷ k.key w.Endmodule ∷ [])

abbrev pub net_tree : Source
net_tree = bare_module (one (t.nets (spot 3) false None (record {
  name = named (codes "w") 4;
  value = Some (t.group (spot 6)
      (t.chain (plain (codes "a") 7) (t.more_link two.Add (spot 8) (t.chain (plain (codes "b") 9)
      (t.more_link two.Mul (spot 10) (plain (codes "c") 11) t.no_link)) t.no_link)));
} ∷ [])))

pub net_derives : source_at net_tree net_tokens []
net_derives = (
  _,
  (
    _,
    refl,
    (
      _,
      refl,
      (
        _,
        refl,
        (
          _,
          refl,
          (
            _,
            (_, refl),
            (
              _,
              (
                _,
                (
                  _,
                  refl,
                  (
                    _,
                    (_, refl, refl),
                    (
                      _,
                      (
                        _,
                        (
                          _,
                          refl,
                          (
                            _,
                            (_, refl),
                            (
                              _,
                              refl,
                              (
                                _,
                                (
                                  _,
                                  (omega arith, (_, refl, refl)),
                                  (
                                    _,
                                    (refl, (m.Plus, refl, refl)),
                                    (
                                      _,
                                      (
                                        omega arith,
                                        (
                                          _,
                                          (omega arith, (_, refl, refl)),
                                          (
                                            _,
                                            (refl, (m.Star, refl, refl)),
                                            (
                                              _,
                                              (
                                                omega arith,
                                                (_, refl, refl),
                                              ),
                                              refl,
                                            ),
                                          ),
                                        ),
                                      ),
                                      refl,
                                    ),
                                  ),
                                ),
                                (_, refl),
                              ),
                            ),
                          ),
                        ),
                        refl,
                      ),
                      (_, refl),
                    ),
                  ),
                ),
                refl,
              ),
              (_, refl),
            ),
          ),
        ),
      ),
    ),
  ),
  refl,
)

pub net_depths : source_depths net_tree ≡ 0 ∷ 0 ∷ 0 ∷ 1 ∷ 1 ∷ 1 ∷ 1 ∷ 2 ∷ 2 ∷ 2 ∷ 2 ∷ 2 ∷ 1 ∷ 1 ∷ 0 ∷ []
net_depths = refl

-- module m; initial if (a) x = b; else if (c) if (d) ; else ; endmodule
abbrev pub choice_tokens : List Placed
choice_tokens = numbered 0 (k.key w.Module ∷ id (codes "m") ∷ k.mark m.Semicolon ∷ k.key w.Initial ∷ k.key w.If
    ∷ k.mark m.OpenParen ∷ id (codes "a") ∷ k.mark m.CloseParen
    ∷ id (codes "x") ∷ k.mark m.Equals ∷ id (codes "b") ∷ k.mark m.Semicolon ∷ k.key w.Else ∷ k.key w.If
    ∷ k.mark m.OpenParen ∷ id (codes "c") ∷ k.mark m.CloseParen
    ∷ k.key w.If ∷ k.mark m.OpenParen ∷ id (codes "d") ∷ k.mark m.CloseParen ∷ k.mark m.Semicolon ∷ k.key w.Else
    ∷ k.mark m.Semicolon ∷ k.key w.Endmodule ∷ [])

-- the last `else` is that of the nearest `if`
abbrev pub choice_tree : Source
choice_tree = bare_module (one (t.initial (spot 3) (t.conditional (t.more_branch (spot 4) (plain (codes "a") 6)
    (t.assign (t.name (named (codes "x") 8) t.no_select) t.blocking (spot 9) (plain (codes "b") 10))
    (t.more_branch (spot 13) (plain (codes "c") 15) (t.conditional (t.more_branch (spot 17) (plain (codes "d") 19)
    (t.empty (spot 21)) t.no_branch) (t.else_stmt (t.empty (spot 23)))) t.no_branch)) t.no_else)))

pub choice_derives : source_at choice_tree choice_tokens []
choice_derives = (
  _,
  (
    _,
    refl,
    (
      _,
      refl,
      (
        _,
        refl,
        (
          _,
          refl,
          (
            _,
            (_, refl),
            (
              _,
              (
                _,
                (
                  _,
                  refl,
                  (
                    _,
                    refl,
                    (
                      _,
                      (
                        _,
                        (_, refl),
                        (_, (_, refl, refl), (_, refl)),
                      ),
                      (
                        _,
                        (
                          _,
                          (_, refl, refl),
                          (
                            _,
                            refl,
                            (
                              _,
                              (_, refl, refl),
                              (_, refl),
                            ),
                          ),
                        ),
                        (
                          _,
                          (
                            _,
                            (_, refl),
                            (
                              _,
                              refl,
                              (
                                _,
                                (_, (_, refl), (_, (_, refl, refl), (_, refl))),
                                (
                                  _,
                                  (
                                    _,
                                    refl,
                                    (
                                      _,
                                      (_, (_, refl), (_, (_, refl, refl), (_, refl))),
                                      (_, refl, (_, refl, (_, (_, refl), (refl, refl)))),
                                    ),
                                  ),
                                  refl,
                                ),
                              ),
                            ),
                          ),
                          (refl, λ e. absurd cc),
                        ),
                      ),
                    ),
                  ),
                ),
                refl,
              ),
              (_, refl),
            ),
          ),
        ),
      ),
    ),
  ),
  refl,
)

pub choice_depths : source_depths choice_tree ≡ 0 ∷ 0 ∷ 0 ∷ 1 ∷ 1 ∷ 1 ∷ 2 ∷ 1 ∷ 2 ∷ 2 ∷ 2 ∷ 2 ∷ 1 ∷ 1 ∷ 1 ∷ 2 ∷ 1
    ∷ 2 ∷ 2 ∷ 3 ∷ 2 ∷ 3 ∷ 2 ∷ 3 ∷ 0 ∷ []
choice_depths = refl

-- module m; genvar i; for (i = 0; i < 4; i = i + 1) begin : g n u(.a(b[i])); end endmodule
abbrev pub generate_tokens : List Placed
generate_tokens = numbered 0 (k.key w.Module ∷ id (codes "m") ∷ k.mark m.Semicolon ∷ k.key w.Genvar ∷ id (codes "i")
    ∷ k.mark m.Semicolon ∷ k.key w.For ∷ k.mark m.OpenParen
    ∷ id (codes "i") ∷ k.mark m.Equals ∷ k.number (decimal_of 0) ∷ k.mark m.Semicolon ∷ id (codes "i")
    ∷ k.mark m.Less ∷ k.number (decimal_of 4) ∷ k.mark m.Semicolon
    ∷ id (codes "i") ∷ k.mark m.Equals ∷ id (codes "i") ∷ k.mark m.Plus ∷ k.number (decimal_of 1)
    ∷ k.mark m.CloseParen ∷ k.key w.Begin ∷ k.mark m.Colon ∷ id (codes "g")
    ∷ id (codes "n") ∷ id (codes "u") ∷ k.mark m.OpenParen ∷ k.mark m.Dot ∷ id (codes "a") ∷ k.mark m.OpenParen
    ∷ id (codes "b") ∷ k.mark m.OpenBracket ∷ id (codes "i") ∷ k.mark m.CloseBracket
    ∷ k.mark m.CloseParen ∷ k.mark m.CloseParen ∷ k.mark m.Semicolon ∷ k.key w.End ∷ k.key w.Endmodule ∷ [])

abbrev pub generate_tree : Source
generate_tree = bare_module (t.more_item (t.genvar (spot 3) (named (codes "i") 4 ∷ [])) (one (t.generate_loop (spot 6)
    (record {
      variable = named (codes "i") 8;
      first = t.number (spot 10) (decimal_of 0);
      condition = t.chain (plain (codes "i") 12) (t.more_link two.Lt (spot 13) (t.number (spot 14)
          (decimal_of 4)) t.no_link);
      stepped = named (codes "i") 16;
      step = t.chain (plain (codes "i") 18) (t.more_link two.Add (spot 19) (t.number (spot 20)
          (decimal_of 1)) t.no_link);
    })
    (t.several (spot 22) (Some (named (codes "g") 24)) (one (t.instances (named (codes "n") 25) None (record {
      name = named (codes "u") 26;
      binds = Some (t.by_name (record {
        place = spot 28;
        name = named (codes "a") 29;
        value = Some (t.read (named (codes "b") 31) (t.more_select (spot 32) (t.index (plain
            (codes "i") 33)) t.no_select));
      } ∷ []));
    } ∷ [])))))))

pub generate_derives : source_at generate_tree generate_tokens []
generate_derives = (
  _,
  (
    _,
    refl,
    (
      _,
      refl,
      (
        _,
        refl,
        (
          _,
          refl,
          (
            _,
            (_, refl),
            (
              _,
              (
                _,
                (
                  _,
                  refl,
                  (
                    _,
                    (_, refl, refl),
                    (_, refl),
                  ),
                ),
                (
                  _,
                  (
                    _,
                    refl,
                    (
                      _,
                      (
                        _,
                        (_, refl),
                        (
                          _,
                          (
                            _,
                            refl,
                            (
                              _,
                              (_, refl),
                              (
                                _,
                                refl,
                                (
                                  _,
                                  (_, refl),
                                  (
                                    _,
                                    (
                                      _,
                                      (omega arith, (_, refl, refl)),
                                      (_, (refl, (m.Less, refl, refl)), (_, (omega arith, refl), refl)),
                                    ),
                                    (
                                      _,
                                      (_, refl),
                                      (
                                        _,
                                        refl,
                                        (
                                          _,
                                          (_, refl),
                                          (
                                            _,
                                            (omega arith, (_, refl, refl)),
                                            (
                                              _,
                                              (refl, (m.Plus, refl, refl)),
                                              (
                                                _,
                                                (omega arith, refl),
                                                refl,
                                              ),
                                            ),
                                          ),
                                        ),
                                      ),
                                    ),
                                  ),
                                ),
                              ),
                            ),
                          ),
                          (_, refl),
                        ),
                      ),
                      (
                        _,
                        refl,
                        (
                          _,
                          (_, (_, refl), refl),
                          (
                            _,
                            (
                              _,
                              (
                                _,
                                refl,
                                (
                                  _,
                                  refl,
                                  (
                                    _,
                                    (
                                      _,
                                      (
                                        _,
                                        refl,
                                        (
                                          _,
                                          (_, refl),
                                          (
                                            _,
                                            (
                                              _,
                                              (
                                                _,
                                                refl,
                                                (
                                                  _,
                                                  refl,
                                                  (
                                                    _,
                                                    (_, refl),
                                                    (
                                                      _,
                                                      (
                                                        _,
                                                        refl,
                                                        (
                                                          _,
                                                          refl,
                                                          (
                                                            _,
                                                            (_, refl, refl),
                                                            (_, (_, refl), refl),
                                                          ),
                                                        ),
                                                      ),
                                                      (_, refl),
                                                    ),
                                                  ),
                                                ),
                                              ),
                                              refl,
                                            ),
                                            (_, refl),
                                          ),
                                        ),
                                      ),
                                      refl,
                                    ),
                                    (_, refl),
                                  ),
                                ),
                              ),
                              refl,
                            ),
                            (_, refl),
                          ),
                        ),
                      ),
                    ),
                  ),
                  refl,
                ),
              ),
              (_, refl),
            ),
          ),
        ),
      ),
    ),
  ),
  refl,
)

-- module m; always @(posedge c) {a, b[i <= j]} <= d <= e; endmodule
abbrev pub assign_tokens : List Placed
assign_tokens = numbered 0 (k.key w.Module ∷ id (codes "m") ∷ k.mark m.Semicolon ∷ k.key w.Always ∷ k.mark m.At
    ∷ k.mark m.OpenParen ∷ k.key w.Posedge ∷ id (codes "c") ∷ k.mark m.CloseParen
    ∷ k.mark m.OpenBrace ∷ id (codes "a") ∷ k.mark m.Comma ∷ id (codes "b") ∷ k.mark m.OpenBracket ∷ id (codes "i")
    ∷ k.mark m.LessEqual ∷ id (codes "j") ∷ k.mark m.CloseBracket ∷ k.mark m.CloseBrace
    ∷ k.mark m.LessEqual ∷ id (codes "d") ∷ k.mark m.LessEqual ∷ id (codes "e") ∷ k.mark m.Semicolon
    ∷ k.key w.Endmodule ∷ [])

-- the first <= outside brackets is the assignment
abbrev pub assign_tree : Source
assign_tree = bare_module (one (t.always (spot 3) (t.sensed (record {
  edge = t.positive_edge (spot 6);
  signal = plain
      (codes "c") 7;
} ∷ []))
    (t.assign (t.targets (spot 9) (t.more_target (t.name (named (codes "a") 10) t.no_select) (t.more_target (t.name
    (named (codes "b") 12) (t.more_select (spot 13)
    (t.index (t.chain (plain (codes "i") 14) (t.more_link two.Le (spot 15) (plain
    (codes "j") 16) t.no_link))) t.no_select)) t.no_target)))
    t.nonblocking (spot 19) (t.chain (plain (codes "d") 20) (t.more_link two.Le (spot 21) (plain
    (codes "e") 22) t.no_link)))))

pub assign_derives : source_at assign_tree assign_tokens []
assign_derives = (
  _,
  (
    _,
    refl,
    (
      _,
      refl,
      (
        _,
        refl,
        (
          _,
          refl,
          (
            _,
            (_, refl),
            (
              _,
              (
                _,
                (
                  _,
                  refl,
                  (
                    _,
                    (
                      _,
                      (_, refl),
                      (
                        _,
                        (_, refl),
                        (_, (_, (_, refl, (_, refl, refl)), refl), (_, refl)),
                      ),
                    ),
                    (
                      _,
                      (
                        _,
                        refl,
                        (
                          _,
                          (
                            _,
                            (_, refl, refl),
                            (
                              _,
                              (_, refl),
                              (
                                _,
                                (
                                  _,
                                  refl,
                                  (
                                    _,
                                    refl,
                                    (
                                      _,
                                      (
                                        _,
                                        (omega arith, (_, refl, refl)),
                                        (
                                          _,
                                          (refl, (m.LessEqual, refl, refl)),
                                          (_, (omega arith, (_, refl, refl)), refl),
                                        ),
                                      ),
                                      (_, (_, refl), refl),
                                    ),
                                  ),
                                ),
                                refl,
                              ),
                            ),
                          ),
                          (_, refl),
                        ),
                      ),
                      (
                        _,
                        refl,
                        (
                          _,
                          (
                            _,
                            (omega arith, (_, refl, refl)),
                            (
                              _,
                              (refl, (m.LessEqual, refl, refl)),
                              (
                                _,
                                (
                                  omega arith,
                                  (_, refl, refl),
                                ),
                                refl,
                              ),
                            ),
                          ),
                          (_, refl),
                        ),
                      ),
                    ),
                  ),
                ),
                refl,
              ),
              (_, refl),
            ),
          ),
        ),
      ),
    ),
  ),
  refl,
)

-- the number in this many parentheses
abbrev pub nested : ℕ → Expr
nested zero = t.number (spot 0) (decimal_of 1)
nested (suc n) = t.group (spot 0) (nested n)

-- module m; wire a = (((1))); endmodule
abbrev pub nested_tree : ℕ → Source
nested_tree n = bare_module (one (t.nets (spot 3) false None (record {
  name = named (codes "a") 4;
  value = Some
      (nested n);
} ∷ [])))

-- with 199 pairs of parentheses the number, at token 205, has depth 200, and with 200 pairs it is at token 206, too
-- deep
pub nested_fits : get_or (source_depths (nested_tree 199)) 205 0 ≡ 200
nested_fits = refl

pub nested_deep : get_or (source_depths (nested_tree 200)) 206 0 ≡ 201
nested_deep = refl

-- a ? b : c, whose b is enclosed
abbrev pub choice_value : Expr
choice_value = t.choose (t.more_choice (plain (codes "a") 0) (spot 1) (plain (codes "b") 2) t.no_choice) (plain
    (codes "c") 4)

pub choice_value_depths : expr_depths 0 choice_value ≡ 0 ∷ 0 ∷ 1 ∷ 0 ∷ 0 ∷ []
choice_value_depths = refl
