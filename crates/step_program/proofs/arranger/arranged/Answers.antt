use Rattle.step_program.specs.Arranging.{draft_from}
use Rattle.step_program.proofs.Arranges.{arranged_whole}
use Rattle.step_program.proofs.arranger.arranged.Goals as goal

pub finished-requires : goal.finished-requires
finished-requires c = (
  draft_from c.args.given c.args.entries.now,
  arranged_whole c.args.given c.args.total c.args.entries.now c.in_ok-arranger.arranger _ _ _ c.requires
      c.in_ok-arranger.ensures c.in_ok-hoist_all.ensures c.in_ok-place_in.ensures c.in_ok-place_all.ensures,
)

pub returns : goal.returns
returns c =
    c.finished.ensures (draft_from c.args.given c.args.entries.now)
    (arranged_whole c.args.given c.args.total c.args.entries.now c.in_ok-arranger.arranger _ _ _ c.requires
    c.in_ok-arranger.ensures c.in_ok-hoist_all.ensures c.in_ok-place_in.ensures c.in_ok-place_all.ensures)
