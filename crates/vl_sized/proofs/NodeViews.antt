-- What nodes are worth, and what they read, kind by kind.
use Rattle.std.proofs.Common.{◌≡◌, ℕ, Bool, List, [], ◌∷◌, ◌++◌, rules, map, refl, ap, sym, ◌∙◌, append-nil, append_assoc}
use Rattle.bit_ops.specs.Applied as applied
use Rattle.bit_ops.specs.declared.operator.Unary.{Unary}
use Rattle.vl_value.specs.Reads.{Reading}
use Rattle.vl_width.specs.declared.number.Constant.{Constant}
use Rattle.vl_width.specs.declared.shape.Shape.{Shape}
use Rattle.vl_width.specs.Objects.{Numbering}
use Rattle.vl_width.specs.Terms.{At, number_at}
use Rattle.vl_sized.specs.declared.node.SizedNode.{SizedNode}
use Rattle.vl_sized.specs.declared.node.Source.{Source}
use Rattle.vl_sized.specs.declared.node.Part.{Part}
use Rattle.vl_sized.specs.declared.node.Test.{Test}
use Rattle.vl_sized.specs.declared.node.Step.{Step}
use Rattle.vl_sized.specs.declared.node.Step.TheVariants as step
use Rattle.vl_sized.specs.declared.node.Case.{Case}
use Rattle.vl_sized.specs.declared.node.Node.{Node, the_lemmas}
use Rattle.vl_sized.specs.declared.node.Node.TheVariants as n
use Rattle.vl_sized.specs.declared.node.Node.TheOpen.{Node-F}
use Rattle.vl_sized.specs.Moments.{Moment}
use Rattle.vl_sized.specs.Parts.{sized_by, part_by, source_by, test_by, step_by, case_by}
use Rattle.vl_sized.specs.Nodes as nodes
use Rattle.vl_sized.specs.Nodes.{worth, layer, at_of, reads_layer, reads_of, stepped, run, tested, tested_bit, among}
use Rattle.vl_sized.specs.Plain as plain
use Rattle.vl_sized.specs.Plain.{own_of, after_step, run_steps, chain_at, step_reading, steps_reading, chain_reading, after_test, run_tests, tests_read_by, tests_reading}

-- ---- values

pub at-number : (ns : Numbering) (t : Moment) (c : Constant) → at_of ns t (n.Number c) ≡ number_at c
at-number ns t c = search (rules, the_lemmas)

pub at-read : (ns : Numbering) (t : Moment) (sh : Shape) (x : Source Node) (p : Part Node)
    → at_of ns t (n.Read sh x p) ≡ layer ns t (Node-F.Read sh (source_by (at_of ns t) x) (part_by (at_of ns t) p))
at-read ns t sh x p = search (rules, the_lemmas)

pub at-call : (ns : Numbering) (t : Moment) (k : ℕ) (sh : Shape) (xs : List (SizedNode Node)) (ws : List Shape)
    → at_of ns t (n.Call k sh xs ws) ≡ layer ns t (Node-F.Call k sh (map (sized_by (at_of ns t)) xs) ws)
at-call ns t k sh xs ws = search (rules, the_lemmas)

pub at-cast : (ns : Numbering) (t : Moment) (s : Bool) (x : SizedNode Node)
    → at_of ns t (n.Cast s x) ≡ layer ns t (Node-F.Cast s (sized_by (at_of ns t) x))
at-cast ns t s x = search (rules, the_lemmas)

pub at-logarithm : (ns : Numbering) (t : Moment) (x : SizedNode Node)
    → at_of ns t (n.Logarithm x) ≡ layer ns t (Node-F.Logarithm (sized_by (at_of ns t) x))
at-logarithm ns t x = search (rules, the_lemmas)

pub at-concat : (ns : Numbering) (t : Moment) (xs : List (SizedNode Node))
    → at_of ns t (n.Concat xs) ≡ layer ns t (Node-F.Concat (map (sized_by (at_of ns t)) xs))
at-concat ns t xs = search (rules, the_lemmas)

pub at-copies : (ns : Numbering) (t : Moment) (k : ℕ) (xs : List (SizedNode Node))
    → at_of ns t (n.Copies k xs) ≡ layer ns t (Node-F.Copies k (map (sized_by (at_of ns t)) xs))
at-copies ns t k xs = search (rules, the_lemmas)

pub at-reduced : (ns : Numbering) (t : Moment) (f : Unary) (x : SizedNode Node)
    → at_of ns t (n.Reduced f x) ≡ layer ns t (Node-F.Reduced f (sized_by (at_of ns t) x))
at-reduced ns t f x = search (rules, the_lemmas)

pub at-unary : (ns : Numbering) (t : Moment) (f : Unary) (a : Node)
    → at_of ns t (n.Unary f a) ≡ (λ w s. applied.unary f w (at_of ns t a w s))
at-unary ns t f a = search (rules, the_lemmas)

pub at-choose : (ns : Numbering) (t : Moment) (ks : List (Case Node)) (b : Node)
    → at_of ns t (n.Choose ks b) ≡ layer ns t (Node-F.Choose (map (case_by (at_of ns t)) ks) (at_of ns t b))
at-choose ns t ks b = search (rules, the_lemmas)

-- ---- reads

pub reads-number : (ns : Numbering) (c : Constant) → reads_of ns (n.Number c) ≡ []
reads-number ns c = search (rules, the_lemmas)

pub reads-read : (ns : Numbering) (sh : Shape) (x : Source Node) (p : Part Node)
    → reads_of ns (n.Read sh x p) ≡ reads_layer ns (Node-F.Read sh (source_by (reads_of ns) x) (part_by (reads_of ns) p))
reads-read ns sh x p = search (rules, the_lemmas)

pub reads-call : (ns : Numbering) (k : ℕ) (sh : Shape) (xs : List (SizedNode Node)) (ws : List Shape)
    → reads_of ns (n.Call k sh xs ws) ≡ reads_layer ns (Node-F.Call k sh (map (sized_by (reads_of ns)) xs) ws)
reads-call ns k sh xs ws = search (rules, the_lemmas)

pub reads-cast : (ns : Numbering) (s : Bool) (x : SizedNode Node) → reads_of ns (n.Cast s x) ≡ reads_of ns x.node
reads-cast ns s x = search (rules, the_lemmas)

pub reads-logarithm : (ns : Numbering) (x : SizedNode Node) → reads_of ns (n.Logarithm x) ≡ reads_of ns x.node
reads-logarithm ns x = search (rules, the_lemmas)

pub reads-concat : (ns : Numbering) (xs : List (SizedNode Node))
    → reads_of ns (n.Concat xs) ≡ reads_layer ns (Node-F.Concat (map (sized_by (reads_of ns)) xs))
reads-concat ns xs = search (rules, the_lemmas)

pub reads-copies : (ns : Numbering) (k : ℕ) (xs : List (SizedNode Node))
    → reads_of ns (n.Copies k xs) ≡ reads_layer ns (Node-F.Copies k (map (sized_by (reads_of ns)) xs))
reads-copies ns k xs = search (rules, the_lemmas)

pub reads-reduced : (ns : Numbering) (f : Unary) (x : SizedNode Node) → reads_of ns (n.Reduced f x) ≡ reads_of ns x.node
reads-reduced ns f x = search (rules, the_lemmas)

pub reads-unary : (ns : Numbering) (f : Unary) (a : Node) → reads_of ns (n.Unary f a) ≡ reads_of ns a
reads-unary ns f a = search (rules, the_lemmas)

pub reads-choose : (ns : Numbering) (ks : List (Case Node)) (b : Node)
    → reads_of ns (n.Choose ks b) ≡ reads_layer ns (Node-F.Choose (map (case_by (reads_of ns)) ks) (reads_of ns b))
reads-choose ns ks b = search (rules, the_lemmas)

-- ---- chains

at-chain-map : (ns : Numbering) (t : Moment) (a : Node) (ks : List (Step Node))
    → at_of ns t (n.Chain a ks) ≡ layer ns t (Node-F.Chain (at_of ns t a) (map (step_by (at_of ns t)) ks))
at-chain-map ns t a ks = search (rules, the_lemmas)

step-same : (ns : Numbering) (t : Moment) (k : Step Node) → step_by (at_of ns t) k ≡ plain.step_at ns t k
step-same ns t (step.Alike f b) = refl
step-same ns t (step.Shift f x) = refl

run-map : (ns : Numbering) (t : Moment) (w : ℕ) (s : Bool) (k : ℕ) (ks : List (Step Node))
    → run w s k (map (step_by (at_of ns t)) ks) ≡ run_steps ns t w s k ks
run-map ns t w s k [] = refl
run-map ns t w s k (j ∷ ks) =
    ap (λ x. run w s (stepped w s k x) (map (step_by (at_of ns t)) ks)) (step-same ns t j) ∙ run-map ns t w s (stepped w s k (plain.step_at ns t j)) ks

pub at-chain : (ns : Numbering) (t : Moment) (a : Node) (ks : List (Step Node)) → at_of ns t (n.Chain a ks) ≡ chain_at ns t a ks
at-chain ns t a ks = at-chain-map ns t a ks ∙ (λ i w s. run-map ns t w s (at_of ns t a w s) ks i)

run-one-more : (ns : Numbering) (t : Moment) (w : ℕ) (s : Bool) (k : ℕ) (ks : List (Step Node)) (j : Step Node)
    → run_steps ns t w s k (ks ++ j ∷ []) ≡ stepped w s (run_steps ns t w s k ks) (plain.step_at ns t j)
run-one-more ns t w s k [] j = refl
run-one-more ns t w s k (i ∷ ks) j = run-one-more ns t w s (stepped w s k (plain.step_at ns t i)) ks j

pub at-one-more : (ns : Numbering) (t : Moment) (a : Node) (ks : List (Step Node)) (j : Step Node)
    → at_of ns t (n.Chain a (ks ++ j ∷ [])) ≡ after_step ns t (chain_at ns t a ks) j
at-one-more ns t a ks j = at-chain ns t a (ks ++ j ∷ []) ∙ (λ i w s. run-one-more ns t w s (at_of ns t a w s) ks j i)

reads-chain-map : (ns : Numbering) (a : Node) (ks : List (Step Node))
    → reads_of ns (n.Chain a ks) ≡ reads_layer ns (Node-F.Chain (reads_of ns a) (map (step_by (reads_of ns)) ks))
reads-chain-map ns a ks = search (rules, the_lemmas)

step-reads : (ns : Numbering) (k : Step Node) → nodes.step_reads (step_by (reads_of ns) k) ≡ step_reading ns k
step-reads ns (step.Alike f b) = refl
step-reads ns (step.Shift f x) = refl

steps-map : (ns : Numbering) (ks : List (Step Node)) → nodes.steps_read (map (step_by (reads_of ns)) ks) ≡ steps_reading ns ks
steps-map ns [] = refl
steps-map ns (k ∷ ks) = λ i. step-reads ns k i ++ steps-map ns ks i

pub reads-chain : (ns : Numbering) (a : Node) (ks : List (Step Node)) → reads_of ns (n.Chain a ks) ≡ chain_reading ns a ks
reads-chain ns a ks = reads-chain-map ns a ks ∙ ap (λ (l : List Reading). reads_of ns a ++ l) (steps-map ns ks)

steps-one-more : (ns : Numbering) (ks : List (Step Node)) (j : Step Node)
    → steps_reading ns (ks ++ j ∷ []) ≡ steps_reading ns ks ++ step_reading ns j
steps-one-more ns [] j = append-nil (step_reading ns j)
steps-one-more ns (k ∷ ks) j =
    ap (λ (l : List Reading). step_reading ns k ++ l) (steps-one-more ns ks j)
    ∙ sym (append_assoc (step_reading ns k) (steps_reading ns ks) (step_reading ns j))

pub reads-one-more : (ns : Numbering) (a : Node) (ks : List (Step Node)) (j : Step Node)
    → reads_of ns (n.Chain a (ks ++ j ∷ [])) ≡ chain_reading ns a ks ++ step_reading ns j
reads-one-more ns a ks j =
    reads-chain ns a (ks ++ j ∷ []) ∙ ap (λ (l : List Reading). reads_of ns a ++ l) (steps-one-more ns ks j)
    ∙ sym (append_assoc (reads_of ns a) (steps_reading ns ks) (step_reading ns j))

-- ---- tests

at-tests-map : (ns : Numbering) (t : Moment) (a : Node) (ks : List (Test Node))
    → at_of ns t (n.Tests a ks) ≡ layer ns t (Node-F.Tests (at_of ns t a) (map (test_by (at_of ns t)) ks))
at-tests-map ns t a ks = search (rules, the_lemmas)

tested-map : (ns : Numbering) (t : Moment) (a : At) (ks : List (Test Node))
    → tested a (map (test_by (at_of ns t)) ks) ≡ run_tests ns t a ks
tested-map ns t a [] = refl
tested-map ns t a (k ∷ ks) = tested-map ns t (after_test ns t a k) ks

pub at-tests : (ns : Numbering) (t : Moment) (a : Node) (ks : List (Test Node))
    → at_of ns t (n.Tests a ks) ≡ run_tests ns t (at_of ns t a) ks
at-tests ns t a ks = at-tests-map ns t a ks ∙ tested-map ns t (at_of ns t a) ks

tests-one-more : (ns : Numbering) (t : Moment) (a : At) (ks : List (Test Node)) (j : Test Node)
    → run_tests ns t a (ks ++ j ∷ []) ≡ after_test ns t (run_tests ns t a ks) j
tests-one-more ns t a [] j = refl
tests-one-more ns t a (k ∷ ks) j = tests-one-more ns t (after_test ns t a k) ks j

pub at-test-more : (ns : Numbering) (t : Moment) (a : Node) (ks : List (Test Node)) (j : Test Node)
    → at_of ns t (n.Tests a (ks ++ j ∷ [])) ≡ after_test ns t (run_tests ns t (at_of ns t a) ks) j
at-test-more ns t a ks j = at-tests ns t a (ks ++ j ∷ []) ∙ tests-one-more ns t (at_of ns t a) ks j

reads-tests-map : (ns : Numbering) (a : Node) (ks : List (Test Node))
    → reads_of ns (n.Tests a ks) ≡ reads_layer ns (Node-F.Tests (reads_of ns a) (map (test_by (reads_of ns)) ks))
reads-tests-map ns a ks = search (rules, the_lemmas)

tests-map : (ns : Numbering) (ks : List (Test Node)) → nodes.tests_read (map (test_by (reads_of ns)) ks) ≡ tests_read_by ns ks
tests-map ns [] = refl
tests-map ns (k ∷ ks) = ap (λ (l : List Reading). reads_of ns k.right.node ++ l) (tests-map ns ks)

pub reads-tests : (ns : Numbering) (a : Node) (ks : List (Test Node)) → reads_of ns (n.Tests a ks) ≡ tests_reading ns a ks
reads-tests ns a ks = reads-tests-map ns a ks ∙ ap (λ (l : List Reading). reads_of ns a ++ l) (tests-map ns ks)

reads-later : (ns : Numbering) (ks : List (Test Node)) (j : Test Node)
    → tests_read_by ns (ks ++ j ∷ []) ≡ tests_read_by ns ks ++ reads_of ns j.right.node
reads-later ns [] j = append-nil (reads_of ns j.right.node)
reads-later ns (k ∷ ks) j =
    ap (λ (l : List Reading). reads_of ns k.right.node ++ l) (reads-later ns ks j)
    ∙ sym (append_assoc (reads_of ns k.right.node) (tests_read_by ns ks) (reads_of ns j.right.node))

pub reads-test-more : (ns : Numbering) (a : Node) (ks : List (Test Node)) (j : Test Node)
    → reads_of ns (n.Tests a (ks ++ j ∷ [])) ≡ tests_reading ns a ks ++ reads_of ns j.right.node
reads-test-more ns a ks j =
    reads-tests ns a (ks ++ j ∷ []) ∙ ap (λ (l : List Reading). reads_of ns a ++ l) (reads-later ns ks j)
    ∙ sym (append_assoc (reads_of ns a) (tests_read_by ns ks) (reads_of ns j.right.node))
