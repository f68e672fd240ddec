-- The window of a failure, and its waveform. This project's own.
use Rattle.std.specs.Prelude.{◌≡◌, ℕ, zero, suc, ◌-◌, List, [], ◌∷◌, Option, Result, Ok, Err}
use Rattle.std.specs.Io.KnownBytes.{Appends}
use Rattle.dt_core.specs.Causes.{Rose, AppendsPart}
use Rattle.netlist.specs.Design.{Flat}
use Rattle.design_names.specs.Shown.{flat_scope}
use Rattle.waveform.specs.Vcd.{vcd_text}
use Rattle.waveform.specs.declared.fault.VcdFault.{VcdFault}
use Rattle.waveform.specs.declared.fault.VcdFault.TheVariants as fault
use Rattle.window_run.specs.Over.{shown_at}

-- the cycle in which the window of a failure in the cycle c begins, and how many cycles it has
abbrev pub window_start : ℕ → ℕ → ℕ
window_start lag c = c - lag

abbrev pub window_length : ℕ → ℕ → ℕ
window_length lag c = suc (c - window_start lag c)

-- g of the numbers from k on, n of them
abbrev pub from_on : {X : Type 0} → (ℕ → X) → ℕ → ℕ → List X
from_on g k zero = []
from_on g k (suc n) = g k ∷ from_on g (suc k) n

-- the waveform of n cycles from the first one on; that of the window of a failure in the cycle c
abbrev pub wave_of : Flat → List ℕ → List (List ℕ) → ℕ → ℕ → List ℕ
wave_of f order rows first n = vcd_text (flat_scope f) first (from_on (shown_at f order rows) first n)

abbrev pub window_text : Flat → List ℕ → List (List ℕ) → ℕ → ℕ → List ℕ
window_text f order rows lag c = wave_of f order rows (window_start lag c) (window_length lag c)

-- what a sink held and holds, and its count of faults before and now: a text was written whole; or a front of it, as the
-- sink failed, or as there was no memory
abbrev pub Waves : Option (List ℕ) → Option (List ℕ) → ℕ → ℕ → List ℕ → Result (Unit {0}) VcdFault → Type 0
Waves old new before now text (Ok u) = Appends old new text × (now ≡ before)
Waves old new before now text (Err fault.Write) = AppendsPart old new text × Rose before now
Waves old new before now text (Err fault.Memory) = AppendsPart old new text × (now ≡ before)
