-- What the reader of targets answers: `vl_simple`'s.
pub use Rattle.vl_simple.specs.Targets.{BeginsTarget, EndsTarget, targets_of, ReadsTarget, ReadsTargets}
