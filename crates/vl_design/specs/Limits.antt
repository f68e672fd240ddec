-- The most of what a design may have. This project's own.
use Rattle.std.specs.Prelude.{ℕ}
use Rattle.dt_core.specs.declared.limits.TheConstants.{MAX_SIGNALS, MAX_WORDS, MAX_INPUTS, MAX_INPUT_BITS}
use Rattle.vl_design.specs.declared.limits.TheConstants.{MAX_INSTANCES, MAX_INSTANCE_DEPTH, MAX_TURNS, MAX_EXPANDED}

-- instances, the top among them; their depth, where the top is at 1; turns of one generate loop; expanded tokens; signals;
-- words of all memories; data inputs of the top, and their bits together
pub record Limits : Type 0 where
  pub instances : ℕ
  pub depth : ℕ
  pub turns : ℕ
  pub tokens : ℕ
  pub signals : ℕ
  pub words : ℕ
  pub inputs : ℕ
  pub input_bits : ℕ

abbrev pub limits : Limits
limits = record {
  instances = MAX_INSTANCES;
  depth = MAX_INSTANCE_DEPTH;
  turns = MAX_TURNS;
  tokens = MAX_EXPANDED;
  signals = MAX_SIGNALS;
  words = MAX_WORDS;
  inputs = MAX_INPUTS;
  input_bits = MAX_INPUT_BITS;
}
