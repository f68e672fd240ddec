use Rattle.std.proofs.Common.{◌≡◌, ◌<◌, ◌+◌, ◌-◌, ◌*◌, ℕ, true, false, List, ◌∷◌, length, get_or, drop, map, refl, sym, ap, ◌∙◌, subst, arith}
use Rattle.std.proofs.lemmas.List.{drop_all, drop_more}
use Rattle.std.specs.Prelude.{Some, None}
use Rattle.std.specs.Option.{option_map}
use Rattle.vl_tree.specs.SyntaxView as view
use Rattle.vl_tree.specs.declared.item.Instance.{Instance}
use Rattle.vl_views.specs.Blocks.{items_of, block_of, branches_of, else_of}
use Rattle.vl_views.proofs.ItemViews.{items-map, items-drop}
use Rattle.vl_constants.specs.Needed.{constants_of}
use Rattle.vl_parameters.specs.Plain.{plain_given}
use Rattle.vl_generate.specs.Choices.{block_tree, taken_of}
use Rattle.vl_generate.specs.Turning.{TurnsFrom}
use Rattle.vl_opening.specs.declared.walk.Walk.{Walk}
use Rattle.vl_opening.specs.declared.block.BlockSite.{BlockSite}
use Rattle.vl_opening.specs.Entering.{EntersBody, EntersInstance}
use Rattle.vl_opening.proofs.Entering.{walks_expand, walks_fail}
use Rattle.vl_walk.specs.declared.walking.Here.{Here}
use Rattle.vl_walk.specs.Library.{source_of, maker_of}
use Rattle.vl_walk.specs.Asked.{Supplies, place_of, use_of}
use Rattle.vl_walk.proofs.Weights.{item_weight, items_weight, block_weight, branches_weight, else_weight, source_weight, module_weight, element_less, block_most, found_less, instance_less, inside_less}
use Rattle.vl_walk.proofs.Items.{since_on, since_ended, since_end, passes_same, passes_region, passes_taken, passes_none, scope_made, scope_none, module_made, module_none}
use Rattle.vl_walk.proofs.Looping.{passes_turn, passes_other, passes_inner, loop_misplaced, loop_start, loop_ended, loop_end, loop_on}
use Rattle.vl_walk.proofs.Supplying.{among_start, among_on, among_end, among_ended}
use Rattle.vl_walk.proofs.walking.+walk.Goals as goal

-- ---- items

pub walk_items-walk_item-requires : goal.walk_items-walk_item-requires
walk_items-walk_item-requires u c =
    let s = source_weight (source_of c.args.modules.now) in let x = c.item-item.result in
    let smaller = element_less c.args.items.now c.loop-item.item-index x c.loop-item-test.true c.item-item.is in
    let less : c.args.here.depth * s + item_weight (view.item x) < u = omega (arith, c.decreases, smaller) in
    (less, (c.requires.finds, c.loop-item.invariant.is_open))

pub walk_items-returns-then-walk : goal.walk_items-returns-then-walk
walk_items-returns-then-walk u c =
    let all = c.args.items.now in let k = c.loop-item.item-index in let x = c.item-item.result in
    since_ended c.args.modules.now c.args.here (map plain_given c.args.given.now) c.args.frames.now c.loop-item.frames c.walk_item.new.frames
    c.args.walk.now c.loop-item.walk c.walk_item.new.walk c.args.n c.loop-item.number (items_of all) (items_of (drop k all))
    (items_of (drop (k + 1) all)) (view.item x) (items-drop all k x c.loop-item-test.true c.item-item.is) c.in_ok-walk_item.ensures
    c.loop-item.invariant c.if-walk.true

pub walk_items-loop-item-preserved : goal.walk_items-loop-item-preserved
walk_items-loop-item-preserved u c =
    let all = c.args.items.now in let k = c.loop-item.item-index in let x = c.item-item.result in
    since_on c.args.modules.now c.args.here (map plain_given c.args.given.now) c.args.frames.now c.loop-item.frames c.walk_item.new.frames
    c.args.walk.now c.loop-item.walk c.walk_item.new.walk c.args.n c.loop-item.number (items_of all) (items_of (drop k all))
    (items_of (drop (k + 1) all)) (view.item x) (items-drop all k x c.loop-item-test.true c.item-item.is) c.in_ok-walk_item.ensures
    c.loop-item.invariant c.in_ok-number.number c.in_ok-number.ensures c.if-walk.false

pub walk_items-returns : goal.walk_items-returns
walk_items-returns u c =
    let all = c.args.items.now in let k = c.loop-item.item-index in
    since_end c.args.modules.now c.args.here (map plain_given c.args.given.now) c.args.frames.now c.loop-item.frames c.args.walk.now
    c.loop-item.walk c.args.n c.loop-item.number (items_of all) (items_of (drop k all)) (ap items_of (drop_all k all c.loop-item-test.false))
    c.loop-item.invariant

-- ---- an item

pub walk_item-returns-in_ok-walk_instances-in-Instances : goal.walk_item-returns-in_ok-walk_instances-in-Instances
walk_item-returns-in_ok-walk_instances-in-Instances u c =
    let gs = map plain_given c.args.given.now in
    passes_same c.args.modules.now c.args.here gs c.args.n (view.item c.args.item.now) _ c.args.frames.now c.args.frames.now c.args.walk.now
    c.walk_instances.new.walk c.in-Instances.ensures
    (record { walks = c.in_ok-walk_instances-in-Instances.ensures gs; sight = λ go. refl; outer = refl })

pub walk_item-returns-in_ok-walk_items-in-Region : goal.walk_item-returns-in_ok-walk_items-in-Region
walk_item-returns-in_ok-walk_items-in-Region u c =
    let gs = map plain_given c.args.given.now in let is = items_of c.in-Region.items.now in
    passes_same c.args.modules.now c.args.here gs c.args.n (view.item c.args.item.now) _ c.args.frames.now c.walk_items.new.frames c.args.walk.now
    c.walk_items.new.walk c.in-Region.ensures.1
    (passes_region c.args.modules.now c.args.here gs c.args.n c.in-Region.ensures.0 is c.args.frames.now c.walk_items.new.frames c.args.walk.now
    c.walk_items.new.walk c.in_ok-walk_items-in-Region.ensures)

pub walk_item-returns-in_ok-walk_loop-in-Repeated : goal.walk_item-returns-in_ok-walk_loop-in-Repeated
walk_item-returns-in_ok-walk_loop-in-Repeated u c =
    let gs = map plain_given c.args.given.now in
    passes_same c.args.modules.now c.args.here gs c.args.n (view.item c.args.item.now) _ c.args.frames.now c.walk_loop.new.frames c.args.walk.now
    c.walk_loop.new.walk c.in-Repeated.ensures (c.in_ok-walk_loop-in-Repeated.ensures gs)

pub walk_item-walk_block-requires : goal.walk_item-walk_block-requires
walk_item-walk_block-requires u c =
    let s = source_weight (source_of c.args.modules.now) in let b = block_of c.in-Some.block.now in
    let bs = branches_of c.in-Chosen.branches.now in let e = else_of c.in-Chosen.last.now in
    let heavy : item_weight (view.item c.args.item.now) ≡ 4 + (branches_weight bs + else_weight e) = ap item_weight c.in-Chosen.ensures in
    let most = block_most (constants_of c.args.frames.now) bs e b
    (ap (option_map block_tree) (sym c.in-Some.is) ∙ c.in_ok-choice-in-Chosen.ensures.block) in
    let less : c.args.here.depth * s + (1 + block_weight b) < u = omega (arith, c.decreases, heavy, most) in
    (less, (c.requires.finds, c.requires.open))

pub walk_item-returns-in_ok-walk_block-in-Some : goal.walk_item-returns-in_ok-walk_block-in-Some
walk_item-returns-in_ok-walk_block-in-Some u c =
    let gs = map plain_given c.args.given.now in let w = c.args.walk.now in let choice = c.in_ok-choice-in-Chosen in
    let bs = branches_of c.in-Chosen.branches.now in let e = else_of c.in-Chosen.last.now in
    let f = c.args.frames.now in
    let next : Walk = record { progress = c.fail.new.self; scopes = w.scopes } in
    passes_same c.args.modules.now c.args.here gs c.args.n (view.item c.args.item.now) _ f c.walk_block.new.frames w c.walk_block.new.walk
    c.in-Chosen.ensures
    (passes_taken c.args.modules.now c.args.here gs c.args.n bs e f c.walk_block.new.frames w next c.walk_block.new.walk
    (walks_fail choice.choice.fault (taken_of (constants_of f) bs e).faults w next refl choice.ensures.fault c.fail.ensures) c.requires.open
    (block_of c.in-Some.block.now) (ap (option_map block_tree) (sym c.in-Some.is) ∙ choice.ensures.block) c.in_ok-walk_block-in-Some.ensures)

pub walk_item-returns-in-None : goal.walk_item-returns-in-None
walk_item-returns-in-None u c =
    let gs = map plain_given c.args.given.now in let w = c.args.walk.now in let choice = c.in_ok-choice-in-Chosen in
    let bs = branches_of c.in-Chosen.branches.now in let e = else_of c.in-Chosen.last.now in
    let f = c.args.frames.now in
    let next : Walk = record { progress = c.fail.new.self; scopes = w.scopes } in
    passes_same c.args.modules.now c.args.here gs c.args.n (view.item c.args.item.now) _ f f w next c.in-Chosen.ensures
    (passes_none c.args.modules.now c.args.here gs c.args.n bs e f f w next next
    (walks_fail choice.choice.fault (taken_of (constants_of f) bs e).faults w next refl choice.ensures.fault c.fail.ensures) c.requires.open
    (ap (option_map block_tree) (sym c.in-None.is) ∙ choice.ensures.block))

-- ---- blocks

pub walk_block-returns-in_ok-walk_item-in-Some : goal.walk_block-returns-in_ok-walk_item-in-Some
walk_block-returns-in_ok-walk_item-in-Some u c =
    passes_inner c.args.modules.now c.args.here (map plain_given c.args.given.now) c.args.n (block_of c.args.block.now) (view.item c.in-Some.inner.now)
    c.args.frames.now c.walk_item.new.frames c.args.walk.now c.walk_item.new.walk c.in-Some.ensures.0 c.in-Some.ensures.1
    c.in_ok-walk_item-in-Some.ensures

pub walk_block-returns-in_ok-walk_scope-in-None : goal.walk_block-returns-in_ok-walk_scope-in-None
walk_block-returns-in_ok-walk_scope-in-None u c =
    let site : BlockSite = record { within = c.args.here.scope; step = c.block_step.result; turn = None } in
    passes_other c.args.modules.now c.args.here (map plain_given c.args.given.now) c.args.n (block_of c.args.block.now) site c.args.frames.now
    c.walk_scope.new.frames c.args.walk.now c.walk_scope.new.walk c.in-None.ensures refl c.block_step.ensures refl
    c.in_ok-walk_scope-in-None.ensures

pub walk_scope-returns-in_ok-walk_items-in-Some : goal.walk_scope-returns-in_ok-walk_items-in-Some
walk_scope-returns-in_ok-walk_items-in-Some u c =
    let b = block_of c.args.block.now in let f = c.args.frames.now in let w = c.args.walk.now in
    let here : Here = record { scope = c.in-Some.scope; depth = c.args.depth; in_block = true } in
    scope_made c.args.modules.now c.args.depth c.args.site b f c.enter_block.new.frames w c.enter_block.new.walk c.walk_items.new.frames
    c.leave.new.self c.walk_items.new.walk here (items_of c.items_in.result.now)
    (subst (λ n. EntersBody c.args.site b f c.enter_block.new.frames w c.enter_block.new.walk n) c.in-Some.is c.in_ok-scope.ensures) refl refl
    c.items_in.ensures c.in_ok-walk_items-in-Some.ensures c.leave.ensures

pub walk_scope-returns-in-None : goal.walk_scope-returns-in-None
walk_scope-returns-in-None u c =
    let b = block_of c.args.block.now in let f = c.args.frames.now in let w = c.args.walk.now in
    scope_none c.args.modules.now c.args.depth c.args.site b f c.enter_block.new.frames w c.enter_block.new.walk c.leave-in-None.new.self
    (subst (λ n. EntersBody c.args.site b f c.enter_block.new.frames w c.enter_block.new.walk n) c.in-None.is c.in_ok-scope.ensures)
    c.leave-in-None.ensures

-- ---- loops

pub walk_turn-returns : goal.walk_turn-returns
walk_turn-returns u c =
    let w = c.args.walk.now in let l = view.loop c.args.header.now in
    let next : Walk = record { progress = c.expand.new.self; scopes = w.scopes } in
    let site : BlockSite = record {
      within = c.args.here.scope;
      step = c.block_step.result;
      turn = Some (record { variable = record { ref_ptr = c.args.header.ref_ptr; now = c.args.header.now.variable }; number = c.args.number });
    } in
    passes_turn c.args.modules.now c.args.here c.args.n l (block_of c.args.block.now) c.args.number site c.args.frames.now c.walk_scope.new.frames w next
    c.walk_scope.new.walk refl (walks_expand c.turn_tokens.result _ w next refl c.turn_tokens.ensures c.expand.ensures) refl c.block_step.ensures refl
    c.in_ok-walk_scope.ensures

pub walk_loop-returns-then-not-is_genvar_loop : goal.walk_loop-returns-then-not-is_genvar_loop
walk_loop-returns-then-not-is_genvar_loop u c =
    loop_misplaced c.args.modules.now c.args.here c.args.n (view.place c.args.place) (view.loop c.args.header.now) (block_of c.args.block.now)
    c.args.frames.now c.args.walk.now c.fail_at.new.walk (sym c.if-not-is_genvar_loop.true ∙ c.is_genvar_loop.ensures) c.fail_at.ensures

pub walk_loop-turns-init : goal.walk_loop-turns-init
walk_loop-turns-init u c =
    loop_start c.args.modules.now c.args.here c.args.n (view.place c.args.place) (view.loop c.args.header.now) (block_of c.args.block.now)
    c.args.frames.now c.args.walk.now 4096 c.in_ok-taken.taken (sym c.if-not-is_genvar_loop.false ∙ c.is_genvar_loop.ensures) c.requires.open refl
    c.in_ok-taken.ensures

pub walk_loop-returns-in-End : goal.walk_loop-returns-in-End
walk_loop-returns-in-End u c =
    let p = view.place c.args.place in let l = view.loop c.args.header.now in let x = c.turns in
    let next : Walk = record { progress = c.fail.new.self; scopes = x.walk.scopes } in
    loop_end c.args.modules.now c.args.here c.args.n p l (block_of c.args.block.now) c.args.frames.now x.frames c.args.walk.now x.walk x.left x.taken
    x.invariant c.next_turn.new.frames next c.in-End.fault
    (subst (λ t. TurnsFrom p l x.left x.taken x.frames c.next_turn.new.frames t) c.in-End.is c.in_ok-fault.ensures)
    (λ fs e. walks_fail c.in-End.fault fs x.walk next refl e c.fail.ensures)

pub walk_loop-turns-preserved : goal.walk_loop-turns-preserved
walk_loop-turns-preserved u c =
    let p = view.place c.args.place in let l = view.loop c.args.header.now in let x = c.turns in
    loop_on c.args.modules.now c.args.here c.args.n p l (block_of c.args.block.now) c.args.frames.now x.frames c.args.walk.now x.walk x.left x.taken
    x.invariant c.next_turn.new.frames c.walk_turn.new.frames c.leave.new.self c.walk_turn.new.walk c.in-Turn.number c.in-Turn.following
    (subst (λ t. TurnsFrom p l x.left x.taken x.frames c.next_turn.new.frames t) c.in-Turn.is c.in_ok-fault.ensures)
    c.in_ok-walk_turn-in-Turn.ensures c.leave.ensures

pub walk_loop-returns : goal.walk_loop-returns
walk_loop-returns u c =
    let x = c.turns in
    loop_ended c.args.modules.now c.args.here c.args.n (view.place c.args.place) (view.loop c.args.header.now) (block_of c.args.block.now)
    c.args.frames.now x.frames c.args.walk.now x.walk x.left x.taken x.invariant c.turns-test.false

pub walk_loop-overflow_sub-left : goal.walk_loop-overflow_sub-left
walk_loop-overflow_sub-left u c =
    let p = view.place c.args.place in let l = view.loop c.args.header.now in let x = c.turns in
    let made = subst (λ t. TurnsFrom p l x.left x.taken x.frames c.next_turn.new.frames t) c.in-Turn.is c.in_ok-fault.ensures in
    let some_left = (made x.invariant.faults x.invariant.told).some_left in
    omega (arith, some_left)

pub walk_loop-turns-smaller : goal.walk_loop-turns-smaller
walk_loop-turns-smaller u c =
    let p = view.place c.args.place in let l = view.loop c.args.header.now in let x = c.turns in
    let made = subst (λ t. TurnsFrom p l x.left x.taken x.frames c.next_turn.new.frames t) c.in-Turn.is c.in_ok-fault.ensures in
    let some_left = (made x.invariant.faults x.invariant.told).some_left in
    omega (arith, some_left)

-- ---- instances

one_further : (all : List Instance) (i : ℕ) (a : Instance) → i < length all → a ≡ get_or all i a
    → map view.instance (drop i all) ≡ view.instance a ∷ map view.instance (drop (i + 1) all)
one_further all i a below is = ap (map view.instance) (drop_more all i a below)
    ∙ ap (λ (y : Instance). view.instance y ∷ map view.instance (drop (i + 1) all)) (sym is)

pub walk_instances-loop-instance-init : goal.walk_instances-loop-instance-init
walk_instances-loop-instance-init u c =
    let m = c.args.modules.now in let x = view.name c.args.name.now in let ps = option_map (option_map view.binds) c.args.values.now in
    let is = map view.instance c.args.instances.now in let f = c.args.frames.now in let w = c.args.walk.now in
    let s = subst (λ o. Supplies m (constants_of f) x ps is w c.supply_of.new.walk o) c.in-Some.is c.in_ok-supplied.ensures in
    among_start m c.args.here x ps is f (map plain_given c.as_slice-given.result.now) (view.module_tree c.in-Some.supplied.parent.now) w
    c.supply_of.new.walk c.requires.open s.0 (ap (map plain_given) c.as_slice-given.ensures.value ∙ s.1) s.2

pub walk_instances-returns-then-walk : goal.walk_instances-returns-then-walk
walk_instances-returns-then-walk u c =
    among_ended c.args.modules.now c.args.here (view.name c.args.name.now) (option_map (option_map view.binds) c.args.values.now)
    (map view.instance c.args.instances.now) c.args.frames.now (map plain_given c.as_slice-given.result.now)
    (view.module_tree c.in-Some.supplied.parent.now) c.args.walk.now c.loop-instance.walk
    (map view.instance (drop c.loop-instance.instance-index c.args.instances.now)) c.if-walk.true c.loop-instance.invariant

pub walk_instances-walk_module-requires : goal.walk_instances-walk_module-requires
walk_instances-walk_module-requires u c =
    let m = c.args.modules.now in let x = view.name c.args.name.now in let ps = option_map (option_map view.binds) c.args.values.now in
    let is = map view.instance c.args.instances.now in let f = c.args.frames.now in let w = c.args.walk.now in
    let parent = view.module_tree c.in-Some.supplied.parent.now in let gs = map plain_given c.as_slice-given.result.now in
    let s = subst (λ o. Supplies m (constants_of f) x ps is w c.supply_of.new.walk o) c.in-Some.is c.in_ok-supplied.ensures in
    let fits = instance_less c.args.here.depth (source_weight (source_of m)) (items_weight parent.items) (found_less (source_of m) x.text parent s.0) in
    let less : module_weight (source_weight (source_of m)) c.args.here.depth (items_weight parent.items) < u = omega (arith, c.decreases, fits) in (
      less,
      (
        c.requires.finds,
        (
          use_of (place_of c.loop-instance.walk c.args.here gs) gs (view.instance c.instance-item.result),
          c.instance_site-site.ensures _ gs c.args.here.in_block,
        ),
      ),
    )

pub walk_instances-loop-instance-preserved : goal.walk_instances-loop-instance-preserved
walk_instances-loop-instance-preserved u c =
    let all = c.args.instances.now in let k = c.loop-instance.instance-index in let i = c.instance-item.result in
    among_on c.args.modules.now c.args.here (view.name c.args.name.now) (option_map (option_map view.binds) c.args.values.now)
    (map view.instance all) c.args.frames.now (map plain_given c.as_slice-given.result.now)
    (view.module_tree c.in-Some.supplied.parent.now) c.args.walk.now c.loop-instance.walk c.walk_module.new.walk (view.instance i)
    (map view.instance (drop k all)) (map view.instance (drop (k + 1) all)) c.instance_site-site.result
    (one_further all k i c.loop-instance-test.true c.instance-item.is) c.instance_site-site.ensures c.in_ok-walk_module-in-Some.ensures
    c.loop-instance.invariant

pub walk_instances-returns-after-loop-instance : goal.walk_instances-returns-after-loop-instance
walk_instances-returns-after-loop-instance u c =
    let all = c.args.instances.now in let k = c.loop-instance.instance-index in
    among_end c.args.modules.now c.args.here (view.name c.args.name.now) (option_map (option_map view.binds) c.args.values.now)
    (map view.instance all) c.args.frames.now (map plain_given c.as_slice-given.result.now)
    (view.module_tree c.in-Some.supplied.parent.now) c.args.walk.now c.loop-instance.walk (map view.instance (drop k all))
    (ap (map view.instance) (drop_all k all c.loop-instance-test.false)) c.loop-instance.invariant

pub walk_instances-returns-in-None : goal.walk_instances-returns-in-None
walk_instances-returns-in-None u c =
    let m = c.args.modules.now in let x = view.name c.args.name.now in let ps = option_map (option_map view.binds) c.args.values.now in
    let is = map view.instance c.args.instances.now in let f = c.args.frames.now in let w = c.args.walk.now in
    λ gs. subst (λ o. Supplies m (constants_of f) x ps is w c.supply_of.new.walk o) c.in-None.is c.in_ok-supplied.ensures
    (maker_of m c.args.here.depth) (place_of w c.args.here gs)

-- ---- a module

pub walk_module-walk_items-requires : goal.walk_module-walk_items-requires
walk_module-walk_items-requires u c =
    let m = c.args.modules.now in let parent = view.module_tree c.args.parent.now in let gs = map plain_given c.args.given.now in
    let s = source_weight (source_of m) in let is = items_of c.as_slice-items.result.now in
    let enters = subst (λ o. EntersInstance c.args.site gs parent c.args.walk.now c.enter_module.new.walk o) c.in-Some.is c.in_ok-entered.ensures in
    let some_left : 0 < c.args.depth = omega (arith, c.if-depth-eq0.false) in
    let same : items_weight is ≡ items_weight parent.items =
    ap items_weight (ap items_of c.as_slice-items.ensures ∙ sym (items-map c.args.parent.now.items)) in
    let fits = inside_less c.args.depth s (items_weight parent.items) some_left in
    let less : (c.args.depth - 1) * s + items_weight is < u = omega (arith, c.decreases, same, fits) in
    (less, (c.requires.finds, (_, (enters c.requires.site.0 c.requires.site.1).entered.0)))

pub walk_module-returns-in_ok-walk_items-in-Some : goal.walk_module-returns-in_ok-walk_items-in-Some
walk_module-returns-in_ok-walk_items-in-Some u c =
    let m = c.args.modules.now in let parent = view.module_tree c.args.parent.now in let gs = map plain_given c.args.given.now in
    let enters = subst (λ o. EntersInstance c.args.site gs parent c.args.walk.now c.enter_module.new.walk o) c.in-Some.is c.in_ok-entered.ensures in
    let some_left : 0 < c.args.depth = omega (arith, c.if-depth-eq0.false) in
    let here : Here = record { scope = c.in-Some.entered.scope; depth = c.args.depth - 1; in_block = false } in
    module_made m c.args.depth c.args.site gs parent c.args.walk.now c.enter_module.new.walk some_left here c.in-Some.entered.frames
    c.walk_items.new.frames c.walk_items.new.walk (items_of c.as_slice-items.result.now) c.in-Some.entered enters refl refl refl refl
    (ap items_of c.as_slice-items.ensures ∙ sym (items-map c.args.parent.now.items)) c.in_ok-walk_items-in-Some.ensures

pub walk_module-returns-in-None : goal.walk_module-returns-in-None
walk_module-returns-in-None u c =
    let parent = view.module_tree c.args.parent.now in let gs = map plain_given c.args.given.now in
    let some_left : 0 < c.args.depth = omega (arith, c.if-depth-eq0.false) in
    module_none c.args.modules.now c.args.depth c.args.site gs parent c.args.walk.now c.enter_module.new.walk some_left
    (subst (λ o. EntersInstance c.args.site gs parent c.args.walk.now c.enter_module.new.walk o) c.in-None.is c.in_ok-entered.ensures)
