use Rattle.std.proofs.Common.{◌≡◌, map, length}
use Rattle.vl_width.specs.Terms.{branch, meant}
use Rattle.vl_width.specs.Known.{chosen_among}
use Rattle.vl_width.proofs.known.choose.Given as goal

abbrev pub invariant-loop-nearest : goal.invariant-loop-nearest
invariant-loop-nearest l =
    chosen_among (map branch l.left) (meant l.other) ≡ chosen_among (map branch l.fn.branches) (meant l.fn.last)

abbrev pub decreases-loop-nearest : goal.decreases-loop-nearest
decreases-loop-nearest l = length l.left
