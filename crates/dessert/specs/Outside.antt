-- The outside of a call at one moment: what the objects that were handed in hold, where that is known, and their counts of faults.
-- This project's own.
use Rattle.std.specs.Prelude.{ℕ, Bool, List, Option}
use Rattle.dt_io.specs.declared.outside.Files.{Ghosts as OfFiles}
use Rattle.dt_io.specs.declared.outside.Source.{Ghosts as OfSource}
use Rattle.dt_io.specs.declared.outside.Sink.{Ghosts as OfSink}

-- files: whether their contents are known, whether each that is there can be read, what the file of a name holds, and the count of
-- faults
pub record FilesAt : Type 0 where
  pub told : Bool
  pub reliable : Bool
  pub content : List ℕ → Option (List ℕ)
  pub faults : ℕ

-- a source: what is left of it, and the count of faults
pub record SourceAt : Type 0 where
  pub left : Option (List ℕ)
  pub faults : ℕ

-- a sink: what it holds, and the count of faults
pub record SinkAt : Type 0 where
  pub held : Option (List ℕ)
  pub faults : ℕ

-- all of them, and the count of steps
pub record Outside : Type 0 where
  pub files : FilesAt
  pub source : SourceAt
  pub out : SinkAt
  pub report : SinkAt
  pub steps : ℕ

-- ---- of objects, by the members of their traits

abbrev pub files_at : {F : Type 0} → OfFiles F → F → FilesAt
files_at g files = record { told = g.told files; reliable = g.reliable files; content = g.content files; faults = g.faults files }

abbrev pub source_at : {S : Type 0} → OfSource S → S → SourceAt
source_at g source = record { left = g.left source; faults = g.faults source }

abbrev pub sink_at : {V : Type 0} → OfSink V → V → SinkAt
sink_at g sink = record { held = g.held sink; faults = g.faults sink }

-- the streams, beside files that are at this
abbrev pub streams_at : {S V T : Type 0} → OfSource S → OfSink V → OfSink T → FilesAt → S → V → T → ℕ → Outside
streams_at s v t files source out report steps =
    record { files = files; source = source_at s source; out = sink_at v out; report = sink_at t report; steps = steps }

abbrev pub outside_at : {F S V T : Type 0} → OfFiles F → OfSource S → OfSink V → OfSink T → F → S → V → T → ℕ → Outside
outside_at f s v t files = streams_at s v t (files_at f files)
