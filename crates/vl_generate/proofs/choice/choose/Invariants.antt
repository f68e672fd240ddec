use Rattle.std.proofs.Common.{◌≡◌, drop}
use Rattle.vl_constants.specs.Needed.{constants_of}
use Rattle.vl_views.specs.Blocks.{branches_of, else_of}
use Rattle.vl_generate.specs.Choices.{taken_of}
use Rattle.vl_generate.proofs.choice.choose.Given as goal

-- what is taken is one of the branches that are left, or the last block
abbrev pub invariant-loop-branch : goal.invariant-loop-branch
invariant-loop-branch l = taken_of (constants_of l.frames) (branches_of (drop l.branch-index l.branches)) (else_of l.last)
    ≡ taken_of (constants_of l.frames) (branches_of l.branches) (else_of l.last)
