use Rattle.std.proofs.Common.{◌≡◌, drop, map}
use Rattle.waveform.specs.Cycle.{form_variable}
use Rattle.waveform.specs.Vcd.{has_clock}
use Rattle.waveform.proofs.cycle.has_clock.Given as goal

-- no clock so far
abbrev pub invariant-loop-form : goal.invariant-loop-form
invariant-loop-form l = has_clock (map form_variable (drop l.form-index l.forms)) ≡ has_clock (map form_variable l.forms)
