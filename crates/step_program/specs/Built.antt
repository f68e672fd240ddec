-- What a builder's fields stand for. This project's own.
use Rattle.step_program.specs.Draft.{Draft}
use Rattle.step_program.specs.Arranging.{draft_from, AreEntries}
use Rattle.step_program.specs.declared.builder.Builder.TheInside.{Inside}

abbrev pub draft_of : Inside → Draft
draft_of a = draft_from a.given a.entries.items

abbrev pub IsBuilt : Inside → Type 0
IsBuilt a = AreEntries a.given a.next a.entries.items
