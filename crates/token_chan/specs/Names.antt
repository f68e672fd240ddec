-- What both ends of a channel name. This project's own.
use Rattle.std.specs.Prelude.{ℕ}
use Rattle.named_run.specs.Named.{RunData, no_run}

-- the run, the channel's number, and how many tokens it holds at most
pub record Name : Type 0 where
  pub run : RunData
  pub channel : ℕ
  pub depth : ℕ

abbrev pub name_of : RunData → ℕ → ℕ → Name
name_of run channel depth = record { run = run; channel = channel; depth = depth }

-- where nothing is named yet
abbrev pub no_name : Name
no_name = record { run = no_run 0; channel = 0; depth = 0 }
