-- The rules of targets: `vl_simple`'s.
pub use Rattle.vl_simple.proofs.TargetRules.{target-name, target-targets, joined, joined-of, target_laws, list_part}
