use Rattle.std.proofs.Common.{◌+◌, ◌*◌, drop, map}
use Rattle.std.specs.Option.{option_map}
use Rattle.vl_tree.specs.SyntaxView as view
use Rattle.vl_views.specs.Blocks.{items_of, block_of}
use Rattle.vl_parameters.specs.Plain.{plain_given}
use Rattle.vl_walk.specs.Library.{source_of}
use Rattle.vl_walk.proofs.Weights.{item_weight, items_weight, block_weight, source_weight, module_weight}
use Rattle.vl_walk.proofs.Items.{Since}
use Rattle.vl_walk.proofs.Looping.{InLoop}
use Rattle.vl_walk.proofs.Supplying.{AmongInstances}
use Rattle.vl_walk.proofs.walking.+walk.Given as goal

-- ---- what is left to walk through

abbrev pub decreases-walk_items : goal.decreases-walk_items
decreases-walk_items l = l.here.depth * source_weight (source_of l.modules.now) + items_weight (items_of l.items.now)

abbrev pub decreases-walk_item : goal.decreases-walk_item
decreases-walk_item l = l.here.depth * source_weight (source_of l.modules.now) + item_weight (view.item l.item.now)

abbrev pub decreases-walk_block : goal.decreases-walk_block
decreases-walk_block l = l.here.depth * source_weight (source_of l.modules.now) + (1 + block_weight (block_of l.block.now))

abbrev pub decreases-walk_scope : goal.decreases-walk_scope
decreases-walk_scope l = l.depth * source_weight (source_of l.modules.now) + block_weight (block_of l.block.now)

abbrev pub decreases-walk_loop : goal.decreases-walk_loop
decreases-walk_loop l = l.here.depth * source_weight (source_of l.modules.now) + (2 + block_weight (block_of l.block.now))

abbrev pub decreases-walk_turn : goal.decreases-walk_turn
decreases-walk_turn l = l.here.depth * source_weight (source_of l.modules.now) + (1 + block_weight (block_of l.block.now))

abbrev pub decreases-walk_instances : goal.decreases-walk_instances
decreases-walk_instances l = l.here.depth * source_weight (source_of l.modules.now) + 1

abbrev pub decreases-walk_module : goal.decreases-walk_module
decreases-walk_module l = module_weight (source_weight (source_of l.modules.now)) l.depth (items_weight (view.module_tree l.parent.now).items)

-- ---- items, turns and instances one after another

abbrev pub invariant-walk_items-loop-item : goal.invariant-walk_items-loop-item
invariant-walk_items-loop-item l = Since l.modules l.here (map plain_given l.given) l.fn.frames l.frames l.fn.walk l.walk l.n l.number
    (items_of l.items) (items_of (drop l.item-index l.items))

abbrev pub invariant-walk_loop-turns : goal.invariant-walk_loop-turns
invariant-walk_loop-turns l = InLoop l.modules l.here l.n (view.place l.place) (view.loop l.header) (block_of l.block) l.fn.frames l.frames
    l.fn.walk l.walk l.left l.taken

abbrev pub decreases-walk_loop-turns : goal.decreases-walk_loop-turns
decreases-walk_loop-turns l = l.left

abbrev pub invariant-walk_instances-loop-instance : goal.invariant-walk_instances-loop-instance
invariant-walk_instances-loop-instance l = AmongInstances l.modules l.here (view.name l.name) (option_map (option_map view.binds) l.values)
    (map view.instance l.instances) (map view.instance (drop l.instance-index l.instances)) l.frames (map plain_given l.given)
    (view.module_tree l.parent) l.fn.walk l.walk
