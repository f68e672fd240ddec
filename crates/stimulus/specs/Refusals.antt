-- The names of refusals, as a report has them, and which of them a cut input has. This project's own.
use Rattle.std.specs.Prelude.{ℕ, Bool, true, false, List, codes}
use Rattle.stimulus.specs.declared.refusal.RefusalKind.{RefusalKind}
use Rattle.stimulus.specs.declared.refusal.RefusalKind.TheVariants as k

abbrev pub name_of : RefusalKind → List ℕ
name_of k.LineTooLong = codes "LineTooLong"
name_of k.Truncated = codes "Truncated"
name_of k.BadHeader = codes "BadHeader"
name_of k.UnknownInput = codes "UnknownInput"
name_of k.RepeatedInput = codes "RepeatedInput"
name_of k.MissingInput = codes "MissingInput"
name_of k.TooManyRows = codes "TooManyRows"
name_of k.WrongCount = codes "WrongCount"
name_of k.BadValue = codes "BadValue"
name_of k.TooLarge = codes "TooLarge"

-- whether further bytes may still make a stimulus of a text that is refused so
abbrev pub is_truncated : RefusalKind → Bool
is_truncated k.LineTooLong = false
is_truncated k.Truncated = true
is_truncated k.BadHeader = false
is_truncated k.UnknownInput = false
is_truncated k.RepeatedInput = false
is_truncated k.MissingInput = false
is_truncated k.TooManyRows = false
is_truncated k.WrongCount = false
is_truncated k.BadValue = false
is_truncated k.TooLarge = false
