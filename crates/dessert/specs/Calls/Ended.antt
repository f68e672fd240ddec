-- The status that each end of a call is. This project's own.
use Rattle.dessert.specs.declared.ended.Ended.{Ended}
use Rattle.dessert.specs.declared.ended.Ended.TheVariants as e
use Rattle.dessert.specs.Answer.{Status, quiet, failure, usage, design, input, file, reading, writing, reporting, memory}

abbrev pub status_of : Ended → Status
status_of e.Quiet = quiet
status_of e.Failure = failure
status_of e.Usage = usage
status_of e.Design = design
status_of e.Input = input
status_of e.File = file
status_of e.Reading = reading
status_of e.Writing = writing
status_of e.Reporting = reporting
status_of e.Memory = memory
