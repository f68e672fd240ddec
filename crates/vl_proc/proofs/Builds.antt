-- Pieces of lowering put together.
use Rattle.std.proofs.Common.{◌≡◌, ℕ, ◌+◌, ◌<◌, ◌≤◌, ◌^◌, Bool, true, false, not, ◌&&◌, ◌==◌, if◌then◌else◌, List, [], ◌∷◌, ◌++◌, length, refl, sym, ap, subst, ◌∙◌, arith, append-nil, append_assoc}
use Rattle.std.specs.Prelude.{Option, Some, None, slice_index, slice_set}
use Rattle.std.proofs.lemmas.List.{get_or_append_left}
use Rattle.bit_ops.specs.Operators.{bit, holds}
use Rattle.flat_ir.specs.declared.design.Node.{Node}
use Rattle.flat_ir.specs.declared.design.Node.TheVariants as n
use Rattle.flat_ir.specs.declared.design.Deed.{Deed}
use Rattle.flat_ir.specs.declared.design.Deed.TheVariants as d
use Rattle.flat_ir.specs.declared.design.Action.{Action}
use Rattle.flat_ir.specs.Fired.{Event, said}
use Rattle.flat_ir.specs.Format.{format_text}
use Rattle.flat_ir.specs.FlatRun.{DeedFits, ShowsFits, values_from, is_done, after_deed, after_action, after_actions, argument, deed_events, action_events, flat_events}
use Rattle.flat_ir.specs.Names.{Fit}
use Rattle.vl_tree.specs.Tree.{Text, Module, Expr, Stmt, no_branch, more_branch}
use Rattle.vl_meaning.specs.Objects.{width_of, registers}
use Rattle.vl_meaning.specs.Expression.{Values, own, meaning}
use Rattle.vl_meaning.specs.Statement.{Write, Outcome, quiet, followed, stored, all_stored, writes, execute, execute_branches}
use Rattle.vl_meaning.specs.StandsFor.{input_widths, register_widths, by_names}
use Rattle.vl_proc.specs.Lowers.{context, node_value, Grown, Makes, ActionsFit, Done, gate, Adds, Branched}
use Rattle.vl_proc.proofs.Sees.{WritesTo}
use Rattle.vl_proc.proofs.Values.{values_length, values_grow, old_value, grown_none, grown_then, grown_length, added}

-- ---- actions at more values

-- a node's value where more values stand after
value_kept : (v w : List ℕ) (k : ℕ) → k < length v → slice_index (v ++ w) k ≡ slice_index v k
value_kept v w k h = get_or_append_left v w 0 k h

deed_kept : (r : ℕ) (v w : List ℕ) (x : Deed) (state : List ℕ) → DeedFits r (length v) x → after_deed (v ++ w) x state ≡ after_deed v x state
deed_kept r v w (d.Write j a) state f = ap (slice_set state j) (value_kept v w a f.1)
deed_kept r v w (d.Say format o) state f = refl
deed_kept r v w (d.Stop line) state f = refl

argument_kept : (v w : List ℕ) (o : Option ℕ) → ShowsFits (length v) o → argument (v ++ w) o ≡ argument v o
argument_kept v w None f = refl
argument_kept v w (Some a) f = ap (λ (x : ℕ). x ∷ []) (value_kept v w a f)

said_kept : (r : ℕ) (v w : List ℕ) (x : Deed) → DeedFits r (length v) x → deed_events (v ++ w) x ≡ deed_events v x
said_kept r v w (d.Write j a) f = refl
said_kept r v w (d.Say format o) f = ap (λ (xs : List ℕ). said (format_text format xs ++ 10 ∷ []) ∷ []) (argument_kept v w o f)
said_kept r v w (d.Stop line) f = refl

after_kept : (r : ℕ) (v w : List ℕ) (xs : List Action) (state : List ℕ) → ActionsFit r (length v) xs → after_actions (v ++ w) xs state ≡ after_actions v xs state
after_kept r v w [] state f = refl
after_kept r v w (x ∷ xs) state f =
    let c : is_done (v ++ w) x ≡ is_done v x = ap holds (value_kept v w x.condition f.0) in
    let e : after_action (v ++ w) x state ≡ after_action v x state =
    ap (λ (b : Bool). if b then after_deed (v ++ w) x.deed state else state) c ∙ ap (λ (s : List ℕ). if is_done v x then s else state) (deed_kept r v w x.deed state f.1) in
    ap (after_actions (v ++ w) xs) e ∙ after_kept r v w xs (after_action v x state) f.2

events_kept : (r : ℕ) (v w : List ℕ) (xs : List Action) → ActionsFit r (length v) xs → flat_events (v ++ w) xs ≡ flat_events v xs
events_kept r v w [] f = refl
events_kept r v w (x ∷ xs) f =
    let c : is_done (v ++ w) x ≡ is_done v x = ap holds (value_kept v w x.condition f.0) in
    let e : action_events (v ++ w) x ≡ action_events v x =
    ap (λ (b : Bool). if b then deed_events (v ++ w) x.deed else []) c ∙ ap (λ (es : List Event). if is_done v x then es else []) (said_kept r v w x.deed f.1) in
    ap (λ (es : List Event). es ++ flat_events (v ++ w) xs) e ∙ ap (λ (es : List Event). action_events v x ++ es) (events_kept r v w xs f.2)

done_kept : (m : Module) (v w : List ℕ) (xs : List Action) (o : Outcome) → ActionsFit (length (registers m)) (length v) xs → Done m v xs o → Done m (v ++ w) xs o
done_kept m v w xs o f h = record {
  after = λ state a. subst (λ (s : List ℕ). (by_names m s ≡ all_stored o.writes (by_names m state)) × Fit (register_widths m) s) (sym (after_kept (length (registers m)) v w xs state f)) (h.after state a);
  events = events_kept (length (registers m)) v w xs f ∙ h.events;
}

-- ---- actions in a row

after_append : (v : List ℕ) (xs ys : List Action) (state : List ℕ) → after_actions v (xs ++ ys) state ≡ after_actions v ys (after_actions v xs state)
after_append v [] ys state = refl
after_append v (x ∷ xs) ys state = after_append v xs ys (after_action v x state)

events_append : (v : List ℕ) (xs ys : List Action) → flat_events v (xs ++ ys) ≡ flat_events v xs ++ flat_events v ys
events_append v [] ys = refl
events_append v (x ∷ xs) ys = ap (λ (es : List Event). action_events v x ++ es) (events_append v xs ys) ∙ sym (append_assoc (action_events v x) (flat_events v xs) (flat_events v ys))

stored_append : (xs ys : List Write) (v : Values) → all_stored (xs ++ ys) v ≡ all_stored ys (all_stored xs v)
stored_append [] ys v = refl
stored_append (x ∷ xs) ys v = stored_append xs ys (stored x v)

done_then : (m : Module) (v : List ℕ) (xs ys : List Action) (o p : Outcome) → Done m v xs o → Done m v ys p → Done m v (xs ++ ys) (followed o p)
done_then m v xs ys o p a b = record {
  after = λ state f.
      let s : List ℕ = after_actions v xs state in
      let x = a.after state f in let y = b.after s x.1 in
      subst (λ (t : List ℕ). (by_names m t ≡ all_stored (o.writes ++ p.writes) (by_names m state)) × Fit (register_widths m) t) (sym (after_append v xs ys state))
      (y.0 ∙ ap (all_stored p.writes) x.0 ∙ sym (stored_append o.writes p.writes (by_names m state)), y.1);
  events = events_append v xs ys ∙ ap (λ (es : List Event). es ++ flat_events v ys) a.events ∙ ap (λ (es : List Event). o.events ++ es) b.events;
}

done_none : (m : Module) (v : List ℕ) → Done m v [] quiet
done_none m v = record { after = λ state f. (refl, f); events = refl }

deed_fits_longer : (r a b : ℕ) (x : Deed) → a ≤ b → DeedFits r a x → DeedFits r b x
deed_fits_longer r a b (d.Write j k) h f = (f.0, omega (arith, f.1))
deed_fits_longer r a b (d.Say format None) h f = tt
deed_fits_longer r a b (d.Say format (Some k)) h f = omega (arith, f)
deed_fits_longer r a b (d.Stop line) h f = tt

fit_longer : (r a b : ℕ) (xs : List Action) → a ≤ b → ActionsFit r a xs → ActionsFit r b xs
fit_longer r a b [] h f = tt
fit_longer r a b (x ∷ xs) h f = (omega (arith, f.0), deed_fits_longer r a b x.deed h f.1, fit_longer r a b xs h f.2)

fit_append : (r a : ℕ) (xs ys : List Action) → ActionsFit r a xs → ActionsFit r a ys → ActionsFit r a (xs ++ ys)
fit_append r a [] ys f g = g
fit_append r a (x ∷ xs) ys f g = (f.0, f.1, fit_append r a xs ys f.2 g)

-- ---- additions

gate_quiet : (b : Bool) → gate b quiet ≡ quiet
gate_quiet true = refl
gate_quiet false = refl

pub adds_none : (m : Module) (old : List Node) (before : List Action) (k : ℕ) → Adds m old old before before k (λ row state. quiet)
adds_none m old before k = record {
  grown = grown_none m old;
  actions = [];
  whole = sym (append-nil before);
  fit = tt;
  done = λ row state f g. subst (Done m (values_from row state [] old) []) (sym (gate_quiet (holds (node_value row state old k)))) (done_none m (values_from row state [] old));
}

-- the same under another condition or outcome
pub adds_as : (m : Module) (old new : List Node) (before behind : List Action) (k l : ℕ) (o p : List ℕ → List ℕ → Outcome)
    → ((row state : List ℕ) → Fit (input_widths m) row → Fit (register_widths m) state → gate (holds (node_value row state new k)) (o row state) ≡ gate (holds (node_value row state new l)) (p row state))
    → Adds m old new before behind k o → Adds m old new before behind l p
adds_as m old new before behind k l o p e a = record {
  grown = a.grown;
  actions = a.actions;
  whole = a.whole;
  fit = a.fit;
  done = λ row state f g. subst (Done m (values_from row state [] new) a.actions) (e row state f g) (a.done row state f g);
}

-- nodes were added before
pub adds_before : (m : Module) (old mid new : List Node) (before behind : List Action) (k : ℕ) (o : List ℕ → List ℕ → Outcome) → Grown m old mid → Adds m mid new before behind k o → Adds m old new before behind k o
adds_before m old mid new before behind k o g a = record { grown = grown_then m old mid new g a.grown; actions = a.actions; whole = a.whole; fit = a.fit; done = a.done }

gate_followed : (b : Bool) (o p : Outcome) → followed (gate b o) (gate b p) ≡ gate b (followed o p)
gate_followed true o p = refl
gate_followed false o p = refl

-- one addition and then another, under one condition
pub adds_then : (m : Module) (old mid new : List Node) (before between behind : List Action) (k : ℕ) (o p : List ℕ → List ℕ → Outcome) → k < length mid
    → Adds m old mid before between k o → Adds m mid new between behind k p → Adds m old new before behind k (λ row state. followed (o row state) (p row state))
adds_then m old mid new before between behind k o p h a b = record {
  grown = grown_then m old mid new a.grown b.grown;
  actions = a.actions ++ b.actions;
  whole = b.whole ∙ ap (λ (xs : List Action). xs ++ b.actions) a.whole ∙ append_assoc before a.actions b.actions;
  fit = fit_append (length (registers m)) (length new) a.actions b.actions (fit_longer (length (registers m)) (length mid) (length new) a.actions (grown_length m mid new b.grown) a.fit) b.fit;
  done = λ row state f g.
      let c : Bool = holds (node_value row state new k) in
      let w = values_grow m mid new b.grown row state in
      let u : List ℕ = values_from row state [] mid in
      let l : length mid ≡ length u = sym (values_length row state [] mid ∙ (let z : 0 + length mid ≡ length mid = omega arith in z)) in
      let fits : ActionsFit (length (registers m)) (length u) a.actions = subst (λ (q : ℕ). ActionsFit (length (registers m)) q a.actions) l a.fit in
      let first : Done m (values_from row state [] new) a.actions (gate c (o row state)) =
      subst (λ (vs : List ℕ). Done m vs a.actions (gate c (o row state))) (sym w.1) (done_kept m u w.0 a.actions (gate c (o row state)) fits
      (subst (λ (q : ℕ). Done m u a.actions (gate (holds q) (o row state))) (sym (old_value m mid new b.grown row state k h)) (a.done row state f g))) in
      subst (Done m (values_from row state [] new) (a.actions ++ b.actions)) (gate_followed c (o row state) (p row state))
      (done_then m (values_from row state [] new) a.actions b.actions (gate c (o row state)) (gate c (p row state)) first (b.done row state f g));
}

-- ---- one action

-- what a deed does at these values
pub record Does (m : Module) (values : List ℕ) (x : Deed) (o : Outcome) : Type 0 where
  pub after : (state : List ℕ) → Fit (register_widths m) state → (by_names m (after_deed values x state) ≡ all_stored o.writes (by_names m state)) × Fit (register_widths m) (after_deed values x state)
  pub events : deed_events values x ≡ o.events

-- an action with a test in place of its condition
tested_after : (m : Module) (v : List ℕ) (x : Deed) (o : Outcome) (b : Bool) → Does m v x o → (state : List ℕ) → Fit (register_widths m) state
    → (by_names m (if b then after_deed v x state else state) ≡ all_stored (gate b o).writes (by_names m state)) × Fit (register_widths m) (if b then after_deed v x state else state)
tested_after m v x o true h state f = h.after state f
tested_after m v x o false h state f = (refl, f)

tested_events : (m : Module) (v : List ℕ) (x : Deed) (o : Outcome) (b : Bool) → Does m v x o → (if b then deed_events v x else []) ++ [] ≡ (gate b o).events
tested_events m v x o true h = append-nil (deed_events v x) ∙ h.events
tested_events m v x o false h = refl

pub adds_one : (m : Module) (old new : List Node) (before behind : List Action) (k : ℕ) (x : Deed) (o : List ℕ → List ℕ → Outcome) → Grown m old new → k < length new
    → DeedFits (length (registers m)) (length new) x → behind ≡ before ++ record { condition = k; deed = x } ∷ []
    → ((row state : List ℕ) → Fit (input_widths m) row → Fit (register_widths m) state → Does m (values_from row state [] new) x (o row state)) → Adds m old new before behind k o
adds_one m old new before behind k x o g h f w does = record {
  grown = g;
  actions = record { condition = k; deed = x } ∷ [];
  whole = w;
  fit = (h, f, tt);
  done = λ row state a b.
      let v : List ℕ = values_from row state [] new in
      let y = does row state a b in
      record { after = tested_after m v x (o row state) (holds (slice_index v k)) y; events = tested_events m v x (o row state) (holds (slice_index v k)) y };
}

-- ---- branches

holds_bit : (b : Bool) → holds (bit b) ≡ b
holds_bit true = refl
holds_bit false = refl

not_not : (b : Bool) → not (not b) ≡ b
not_not true = refl
not_not false = refl

holds_not : (k : ℕ) → holds (bit (k == 0)) ≡ not (holds k)
holds_not k = holds_bit (k == 0) ∙ sym (not_not (k == 0))

gate_both : (a b : Bool) (o : Outcome) → gate (a && b) o ≡ gate a (gate b o)
gate_both true b o = refl
gate_both false b o = refl

-- the first outcome where the test holds, else the second
choose : (t : Bool) (o p : Outcome) → followed (gate t o) (gate (not t) p) ≡ elim t [ true ↦ o | false ↦ p ]
choose true o p = λ i. record { writes = append-nil o.writes i; events = append-nil o.events i }
choose false o p = refl

-- a test, its body under the condition and the test, and the rest under the condition and the failed test
pub branched_one : (m : Module) (n0 n1 n2 n3 n4 n5 : List Node) (before behind : List Action) (k t here failed rest : ℕ) (e : Expr) (s : Stmt) → k < length n0
    → Makes m n0 n1 t (λ row state. own (meaning (context m row state) e)) → here ≡ length n1 → n2 ≡ n1 ++ n.And k t ∷ []
    → Adds m n2 n3 before behind here (λ row state. execute (context m row state) s) → failed ≡ length n3 → n4 ≡ n3 ++ n.Not t ∷ [] → rest ≡ length n4 → n5 ≡ n4 ++ n.And k failed ∷ []
    → Branched m n0 n5 before behind k rest (more_branch e s no_branch)
branched_one m n0 n1 n2 n3 n4 n5 before behind k t here failed rest e s k_there test here_is n2_is body failed_is n4_is rest_is n5_is =
    let k1 : k < length n1 = omega (arith, k_there, grown_length m n0 n1 test.grown) in
    let made2 = added m n1 n1 n2 (n.And k t) here (λ row state. bit (holds (node_value row state n1 k) && holds (node_value row state n1 t))) (grown_none m n1) here_is n2_is (k1, test.here) (λ row state f g. refl) in
    let g13 = grown_then m n1 n2 n3 made2.grown body.grown in
    let l13 = grown_length m n1 n3 g13 in
    let k3 : k < length n3 = omega (arith, k1, l13) in
    let t3 : t < length n3 = omega (arith, test.here, l13) in
    let made4 = added m n3 n3 n4 (n.Not t) failed (λ row state. bit (node_value row state n3 t == 0)) (grown_none m n3) failed_is n4_is t3 (λ row state f g. refl) in
    let k4 : k < length n4 = omega (arith, k3, grown_length m n3 n4 made4.grown) in
    let made5 = added m n4 n4 n5 (n.And k failed) rest (λ row state. bit (holds (node_value row state n4 k) && holds (node_value row state n4 failed))) (grown_none m n4) rest_is n5_is (k4, made4.here)
    (λ row state f g. refl) in
    let g35 = grown_then m n3 n4 n5 made4.grown made5.grown in
    record {
      here = made5.here;
      then_adds = λ last final o r.
          let g5 = r.grown in
          let g4 = grown_then m n4 n5 last made5.grown g5 in
          let T : List ℕ → List ℕ → Bool = λ row state. holds (own (meaning (context m row state) e)) in
          let here_holds : (row state : List ℕ) → Fit (input_widths m) row → Fit (register_widths m) state → holds (node_value row state n3 here) ≡ (holds (node_value row state n3 k) && T row state) =
          λ row state f g. ap holds (old_value m n2 n3 body.grown row state here made2.here ∙ made2.is row state f g) ∙ holds_bit (holds (node_value row state n1 k) && holds (node_value row state n1 t))
          ∙ ap (λ (a : ℕ). holds a && holds (node_value row state n1 t)) (sym (old_value m n1 n3 g13 row state k k1)) ∙ ap (λ (a : ℕ). holds (node_value row state n3 k) && holds a) (test.is row state f g) in
          let failed_holds : (row state : List ℕ) → Fit (input_widths m) row → Fit (register_widths m) state → holds (node_value row state n4 failed) ≡ not (T row state) =
          λ row state f g. ap holds (made4.is row state f g) ∙ holds_not (node_value row state n3 t) ∙ ap (λ (a : ℕ). not (holds a)) (old_value m n1 n3 g13 row state t test.here ∙ test.is row state f g) in
          let rest_holds : (row state : List ℕ) → Fit (input_widths m) row → Fit (register_widths m) state → holds (node_value row state last rest) ≡ (holds (node_value row state last k) && not (T row state)) =
          λ row state f g. ap holds (old_value m n5 last g5 row state rest made5.here ∙ made5.is row state f g) ∙ holds_bit (holds (node_value row state n4 k) && holds (node_value row state n4 failed))
          ∙ ap (λ (a : ℕ). holds a && holds (node_value row state n4 failed)) (sym (old_value m n4 last g4 row state k k4)) ∙ ap (λ (b : Bool). holds (node_value row state last k) && b) (failed_holds row state f g) in
          let body0 = adds_before m n0 n2 n3 before behind here (λ row state. execute (context m row state) s) (grown_then m n0 n1 n2 test.grown made2.grown) body in
          let body1 = adds_as m n0 n3 before behind here k (λ row state. execute (context m row state) s) (λ row state. gate (T row state) (execute (context m row state) s))
          (λ row state f g. ap (λ (b : Bool). gate b (execute (context m row state) s)) (here_holds row state f g) ∙ gate_both (holds (node_value row state n3 k)) (T row state) (execute (context m row state) s)) body0 in
          let rest0 = adds_before m n3 n5 last behind final rest o g35 r in
          let rest1 = adds_as m n3 last behind final rest k o (λ row state. gate (not (T row state)) (o row state))
          (λ row state f g. ap (λ (b : Bool). gate b (o row state)) (rest_holds row state f g) ∙ gate_both (holds (node_value row state last k)) (not (T row state)) (o row state)) rest0 in
          let all = adds_then m n0 n3 last before behind final k (λ row state. gate (T row state) (execute (context m row state) s)) (λ row state. gate (not (T row state)) (o row state)) k3 body1 rest1 in
          adds_as m n0 last before final k k (λ row state. followed (gate (T row state) (execute (context m row state) s)) (gate (not (T row state)) (o row state)))
          (λ row state. execute_branches (context m row state) (more_branch e s no_branch) (o row state))
          (λ row state f g. ap (gate (holds (node_value row state last k))) (choose (T row state) (execute (context m row state) s) (o row state))) all;
    }

-- ---- deeds

pub does_write : (m : Module) (v : List ℕ) (x : Text) (j k n : ℕ) → WritesTo m x j → slice_index v k ≡ n → n < 2 ^ width_of m.ports x → Does m v (d.Write j k) (writes x n)
does_write m v x j k n w e l = record {
  after = λ state f. subst (λ (y : ℕ). (by_names m (slice_set state j y) ≡ stored (record { name = x; value = n }) (by_names m state)) × Fit (register_widths m) (slice_set state j y)) (sym e) (w.after state n f l);
  events = refl;
}
