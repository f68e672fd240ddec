-- What the text of a design is spelled of. Two phases read it, and the second looks at the text only where the first has no fault:
-- 1, its clean text (IEEE 1364-2005, 3.3 and 19); 2, the tokens of that (3.1 to 3.8). The phases' numbers are this project's own.
use Rattle.std.specs.Prelude.{ℕ, List, Result, Ok, Err}
pub use Rattle.vl_tree.specs.Fault.{Fault, fault}
use Rattle.vl_tree.specs.Token.{Tokens}
use Rattle.vl_pre.specs.Bytes.{Text}
use Rattle.vl_pre.specs.CleanText.{clean_text}
use Rattle.vl_lex.specs.Tokens.{tokens_of}

-- the tokens of a clean text, or its first fault
abbrev pub by_clean_text : Result Text Fault → Result Tokens Fault
by_clean_text (Ok text) = tokens_of text
by_clean_text (Err f) = Err f

-- the tokens of a text, or its first fault
abbrev pub spelled : List ℕ → Result Tokens Fault
spelled text = by_clean_text (clean_text text)
