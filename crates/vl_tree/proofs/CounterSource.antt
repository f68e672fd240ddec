-- The counter of the worked examples, in the grammar of the whole language: its tree, and that its tokens derive it.
use Rattle.std.proofs.Common.{ℕ, false, List, [], ◌∷◌, Some, None, refl, arith}
use Rattle.std.specs.Prelude.{codes}
use Rattle.bit_ops.specs.declared.operator.Binary.TheVariants as two
use Rattle.vl_tree.specs.declared.token.Mark.TheVariants as m
use Rattle.vl_tree.specs.Syntax as t
use Rattle.vl_tree.specs.Syntax.{Place, Name, Expr, Stmt, Source}
use Rattle.vl_tree.specs.Placed.{placed}
use Rattle.vl_tree.specs.Derives.{IsSource}
use Rattle.vl_tree.proofs.Counter.{plain_decimal, sized_decimal}
use Rattle.vl_tree.proofs.GrammarExamples.{counter_tokens}

abbrev spot : ℕ → ℕ → Place
spot token line = record { token = token; line = line }

abbrev named : List ℕ → Place → Name
named text place = record { text = text; place = place }

abbrev pub counter_source : Source
counter_source = record {
  place = (spot 0 1);
  name = (named (codes "cnt") (spot 1 1));
  parameters = [];
  ports = Some (
      t.declared_port (record { place = (spot 3 1); direction = t.input; kept = None; signed = false; range = None }) (named (codes
      "clk") (spot 4 1)) ∷ t.declared_port (record {
        place = (spot 6 1);
        direction = t.input;
        kept = None;
        signed = false;
        range = None;
      }) (named (codes "rst") (spot 7 1)) ∷ t.declared_port (record {
        place = (spot 9 1);
        direction = t.input;
        kept = None;
        signed = false;
        range = None;
      }) (named (codes "en") (spot 10 1)) ∷ t.declared_port (record {
        place = (spot
            12 1);
        direction = t.output;
        kept = (Some t.reg);
        signed = false;
        range = (Some (record {
          place = (spot 14 1);
          left =
              (t.number (spot 15 1) (plain_decimal 3));
          right = (t.number (spot 17 1) (plain_decimal 0));
        }));
      }) (named (codes "r") (spot 19
      1)) ∷ []);
  items = t.more_item (t.always (spot 22 2) (t.sensed (record {
    edge = t.positive_edge (spot 25 2);
    signal =
        (t.read (named (codes "clk") (spot 26 2)) t.no_select);
  } ∷ [])) (t.block (spot 28 2) None (t.more_stmt (t.conditional
      (t.more_branch (spot 29 3) (t.read (named (codes "rst") (spot 31 3)) t.no_select) (t.assign (t.name (named (codes "r") (spot
      33 4)) t.no_select) t.nonblocking (spot 34 4) (t.number (spot 35 4) (sized_decimal 4 0))) (t.more_branch (spot 38 5) (t.read
      (named (codes "en") (spot 40 5)) t.no_select) (t.assign (t.name (named (codes "r") (spot 42 6)) t.no_select) t.nonblocking
      (spot 43 6) (t.chain (t.read (named (codes "r") (spot 44 6)) t.no_select) (t.more_link two.Add (spot 45 6) (t.number (spot 46
      6) (sized_decimal 4 1)) t.no_link))) t.no_branch)) t.no_else) (t.more_stmt (t.conditional (t.more_branch (spot 48 7) (t.chain
      (t.read (named (codes "r") (spot 50 7)) t.no_select) (t.more_link two.Eq (spot 51 7) (t.number (spot 52 7) (sized_decimal 4
      9)) t.no_link)) (t.block (spot 54 7) None (t.more_stmt (t.print (spot 55 8) t.display (t.format (spot 57 8) (codes
      "r hit %0d") (t.more_expr (t.read (named (codes "r") (spot 59 8)) t.no_select) t.no_expr))) (t.more_stmt (t.stop (spot 62 9)
      t.no_argument) t.no_stmt))) t.no_branch) t.no_else) t.no_stmt)))) t.no_item;
} ∷ []

pub counter_is_source : IsSource (placed 0 counter_tokens) counter_source
counter_is_source = record {
  derives = (
    _,
    (
      _,
      refl,
      (
        _,
        refl,
        (
          _,
          refl,
          (
            _,
            (
              _,
              (_, refl),
              (
                _,
                (
                  _,
                  (_, (_, refl, (_, refl, (_, refl, refl))), refl),
                  (
                    _,
                    (
                      _,
                      refl,
                    ),
                    (
                      _,
                      (_, (_, refl, (_, refl, (_, refl, refl))), refl),
                      (
                        _,
                        (_, refl),
                        (
                          _,
                          (
                            _,
                            (
                              _,
                              refl,
                              (
                                _,
                                refl,
                                (
                                  _,
                                  refl,
                                  refl,
                                ),
                              ),
                            ),
                            refl,
                          ),
                          (
                            _,
                            (_, refl),
                            (
                              _,
                              (
                                _,
                                (
                                  _,
                                  refl,
                                  (
                                    _,
                                    (_, refl),
                                    (
                                      _,
                                      refl,
                                      (
                                        _,
                                        refl,
                                        (
                                          _,
                                          refl,
                                          (
                                            _,
                                            (_, refl),
                                            (
                                              _,
                                              refl,
                                              (_, refl),
                                            ),
                                          ),
                                        ),
                                      ),
                                    ),
                                  ),
                                ),
                                refl,
                              ),
                              refl,
                            ),
                          ),
                        ),
                      ),
                    ),
                  ),
                ),
                (_, refl),
              ),
            ),
            (
              _,
              (_, refl),
              (
                _,
                (
                  _,
                  (
                    _,
                    refl,
                    (
                      _,
                      (
                        _,
                        (_, refl),
                        (
                          _,
                          (_, refl),
                          (_, (_, (_, refl, (_, refl, refl)), refl), (_, refl)),
                        ),
                      ),
                      (
                        _,
                        refl,
                        (
                          _,
                          refl,
                          (
                            _,
                            (
                              _,
                              (
                                _,
                                refl,
                                (
                                  _,
                                  (
                                    _,
                                    (_, refl),
                                    (
                                      _,
                                      (_, refl, refl),
                                      (_, refl),
                                    ),
                                  ),
                                  (
                                    _,
                                    (_, (_, refl, refl), (_, refl, (_, refl, (_, refl)))),
                                    (
                                      _,
                                      (
                                        _,
                                        (_, refl),
                                        (
                                          _,
                                          refl,
                                          (
                                            _,
                                            (_, (_, refl), (_, (_, refl, refl), (_, refl))),
                                            (
                                              _,
                                              (
                                                _,
                                                (_, refl, refl),
                                                (
                                                  _,
                                                  refl,
                                                  (
                                                    _,
                                                    (
                                                      _,
                                                      (
                                                        omega arith,
                                                        (
                                                          _,
                                                          refl,
                                                          refl,
                                                        ),
                                                      ),
                                                      (_, (refl, (m.Plus, refl, refl)), (_, (omega arith, refl), refl)),
                                                    ),
                                                    (_, refl),
                                                  ),
                                                ),
                                              ),
                                              refl,
                                            ),
                                          ),
                                        ),
                                      ),
                                      (
                                        refl,
                                        λ e. absurd
                                            cc,
                                      ),
                                    ),
                                  ),
                                ),
                              ),
                              (
                                _,
                                (
                                  _,
                                  refl,
                                  (
                                    _,
                                    (
                                      _,
                                      (_, refl),
                                      (
                                        _,
                                        (
                                          _,
                                          (omega arith, (_, refl, refl)),
                                          (
                                            _,
                                            (
                                              refl,
                                              (
                                                m.EqualEqual,
                                                refl,
                                                refl,
                                              ),
                                            ),
                                            (_, (omega arith, refl), refl),
                                          ),
                                        ),
                                        (_, refl),
                                      ),
                                    ),
                                    (
                                      _,
                                      (
                                        _,
                                        refl,
                                        (
                                          _,
                                          refl,
                                          (
                                            _,
                                            (
                                              _,
                                              (
                                                _,
                                                refl,
                                                (
                                                  _,
                                                  (
                                                    _,
                                                    (_, refl),
                                                    (
                                                      _,
                                                      (_, refl, (_, (_, refl), (_, (_, refl, refl), refl))),
                                                      (_, refl),
                                                    ),
                                                  ),
                                                  (_, refl),
                                                ),
                                              ),
                                              (
                                                _,
                                                (_, refl, (_, refl, (_, refl))),
                                                refl,
                                              ),
                                            ),
                                            (_, refl),
                                          ),
                                        ),
                                      ),
                                      (_, refl, (refl, λ e. absurd cc)),
                                    ),
                                  ),
                                ),
                                refl,
                              ),
                            ),
                            (_, refl),
                          ),
                        ),
                      ),
                    ),
                  ),
                  refl,
                ),
                (_, refl),
              ),
            ),
          ),
        ),
      ),
    ),
    refl,
  );
  shallow = (
    omega arith,
    (
      omega arith,
      (
        omega arith,
        (
          omega arith,
          (
            omega arith,
            (
              omega arith,
              (
                omega arith,
                (
                  omega arith,
                  (
                    omega
                        arith,
                    (
                      omega arith,
                      (
                        omega arith,
                        (
                          omega arith,
                          (
                            omega arith,
                            (
                              omega arith,
                              (
                                omega arith,
                                (
                                  omega arith,
                                  (
                                    omega arith,
                                    (
                                      omega arith,
                                      (
                                        omega arith,
                                        (
                                          omega arith,
                                          (
                                            omega arith,
                                            (
                                              omega arith,
                                              (
                                                omega arith,
                                                (
                                                  omega arith,
                                                  (
                                                    omega arith,
                                                    (
                                                      omega
                                                          arith,
                                                      (
                                                        omega arith,
                                                        (
                                                          omega arith,
                                                          (
                                                            omega arith,
                                                            (
                                                              omega arith,
                                                              (
                                                                omega arith,
                                                                (
                                                                  omega arith,
                                                                  (
                                                                    omega arith,
                                                                    (
                                                                      omega arith,
                                                                      (
                                                                        omega arith,
                                                                        (
                                                                          omega arith,
                                                                          (
                                                                            omega arith,
                                                                            (
                                                                              omega arith,
                                                                              (
                                                                                omega arith,
                                                                                (
                                                                                  omega arith,
                                                                                  (
                                                                                    omega arith,
                                                                                    (
                                                                                      omega arith,
                                                                                      (
                                                                                        omega
                                                                                            arith,
                                                                                        (
                                                                                          omega arith,
                                                                                          (
                                                                                            omega arith,
                                                                                            (
                                                                                              omega arith,
                                                                                              (
                                                                                                omega arith,
                                                                                                (
                                                                                                  omega arith,
                                                                                                  (
                                                                                                    omega arith,
                                                                                                    (
                                                                                                      omega arith,
                                                                                                      (
                                                                                                        omega arith,
                                                                                                        (
                                                                                                          omega arith,
                                                                                                          (
                                                                                                            omega arith,
                                                                                                            (
                                                                                                              omega arith,
                                                                                                              (
                                                                                                                omega arith,
                                                                                                                (
                                                                                                                  omega arith,
                                                                                                                  (
                                                                                                                    omega arith,
                                                                                                                    (
                                                                                                                      omega arith,
                                                                                                                      (
                                                                                                                        omega arith,
                                                                                                                        (
                                                                                                                          omega
                                                                                                                              arith,
                                                                                                                          (
                                                                                                                            omega arith,
                                                                                                                            (
                                                                                                                              omega arith,
                                                                                                                              (
                                                                                                                                omega arith,
                                                                                                                                (
                                                                                                                                  omega arith,
                                                                                                                                  (
                                                                                                                                    omega arith,
                                                                                                                                    (
                                                                                                                                      omega arith,
                                                                                                                                      (
                                                                                                                                        omega arith,
                                                                                                                                        tt,
                                                                                                                                      ),
                                                                                                                                    ),
                                                                                                                                  ),
                                                                                                                                ),
                                                                                                                              ),
                                                                                                                            ),
                                                                                                                          ),
                                                                                                                        ),
                                                                                                                      ),
                                                                                                                    ),
                                                                                                                  ),
                                                                                                                ),
                                                                                                              ),
                                                                                                            ),
                                                                                                          ),
                                                                                                        ),
                                                                                                      ),
                                                                                                    ),
                                                                                                  ),
                                                                                                ),
                                                                                              ),
                                                                                            ),
                                                                                          ),
                                                                                        ),
                                                                                      ),
                                                                                    ),
                                                                                  ),
                                                                                ),
                                                                              ),
                                                                            ),
                                                                          ),
                                                                        ),
                                                                      ),
                                                                    ),
                                                                  ),
                                                                ),
                                                              ),
                                                            ),
                                                          ),
                                                        ),
                                                      ),
                                                    ),
                                                  ),
                                                ),
                                              ),
                                            ),
                                          ),
                                        ),
                                      ),
                                    ),
                                  ),
                                ),
                              ),
                            ),
                          ),
                        ),
                      ),
                    ),
                  ),
                ),
              ),
            ),
          ),
        ),
      ),
    ),
  );
}
