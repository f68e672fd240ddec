-- What the definitions of words and reports mean together. This project's own.
use Rattle.std.specs.Prelude.{ℕ, ◌≡◌, ◌<◌, ◌^◌, List}
use Rattle.talk.specs.declared.answer.Answer.TheVariants as a
use Rattle.talk.specs.Report.{report_text}
use Rattle.talk.specs.Words.{Word, Job, IsWithinLimits, Asks, IsLine, IsFirstBad}

-- words ask for one job at most
abbrev pub OneJob : Type 0
OneJob = (words : List Word) (a b : Job) → Asks words a → Asks words b → a ≡ b

-- what words ask for is within the limits
abbrev pub JobsAreWithinLimits : Type 0
JobsAreWithinLimits = (words : List Word) (job : Job) → Asks words job → IsWithinLimits job

-- one word at most is the first bad one
abbrev pub OneNumber : Type 0
OneNumber = (words : List Word) (m n : ℕ) → IsFirstBad words m → IsFirstBad words n → m ≡ n

-- words with a bad one are no allowed line
abbrev pub BadIsNoLine : Type 0
BadIsNoLine = (words : List Word) (number : ℕ) → IsFirstBad words number → IsLine words → ⊥

-- the line for bad words has the number
abbrev pub UsageHasNumber : Type 0
UsageHasNumber = (m n : ℕ) → m < 2 ^ 32 → n < 2 ^ 32 → report_text (a.Usage m) ≡ report_text (a.Usage n) → m ≡ n
