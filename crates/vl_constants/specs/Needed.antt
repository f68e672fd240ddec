-- Constants that are needed, and ranges, as the program has them. This project's own.
use Rattle.std.specs.Prelude.{◌≡◌, Bool, Option, Some, None}
use Rattle.std.specs.Option.{option_map}
use Rattle.std.specs.Borrow.{Bor}
use Rattle.dt_core.specs.declared.place.Place.{Place}
use Rattle.vl_tree.specs.Syntax as t
use Rattle.vl_tree.specs.SyntaxView as view
use Rattle.vl_tree.specs.declared.expression.Range.{Range}
use Rattle.vl_value.specs.Paths.{Text}
use Rattle.vl_value.specs.Meaning.{Meaning, whole}
use Rattle.vl_value.specs.Order.{least}
use Rattle.vl_value.specs.Faults.{start}
use Rattle.vl_width.specs.declared.known.Known as code
use Rattle.vl_width.specs.Terms.{meant}
use Rattle.vl_found.specs.declared.Found.{Found}
use Rattle.vl_found.specs.View.{found}
use Rattle.vl_design.specs.Constants.{Known, is_faulty, value_of, needs}
use Rattle.vl_design.specs.Spans as d
use Rattle.vl_frames.specs.Marks.{around}
use Rattle.vl_frames.specs.declared.frames.Frames.{Frames}
use Rattle.vl_span.specs.declared.index.Bound.{Bound}
use Rattle.vl_span.specs.declared.span.Span.{Span}
use Rattle.vl_span.specs.Plain.{plain_bound, plain_span}

-- the constants in sight
abbrev pub constants_of : Frames → Known
constants_of f = (around f).known

-- the names of those that rest on a fault
abbrev pub faulty_in : Frames → Text → Bool
faulty_in f = λ x. is_faulty (constants_of f x)

-- an expression's first token, its meaning, and its fault
pub record Evaluates (k : Known) (e : t.Expr) (p : Place) (v : Option code.Known) (f : Option Found) : Type 0 where
  pub place : view.place p ≡ start e
  pub value : option_map meant v ≡ value_of k e
  pub fault : option_map found f ≡ least (needs k e)

-- ---- ranges

-- a range without its borrow, if there is one
abbrev pub range_tree : Option (Bor Range) → Option t.Range
range_tree = option_map (λ r. view.range r.now)

abbrev pub meant_in : Option (Bor code.Known) → Option Meaning
meant_in = option_map (λ k. meant k.now)

-- the number of a bound of this value
abbrev pub index_in : Option Meaning → d.Index
index_in None = d.missing
index_in (Some m) = d.index_of (whole m)

pub record HasBound (k : Known) (e : t.Expr) (b : Bound) (f : Option Found) : Type 0 where
  pub bound : plain_bound b ≡ d.bound k e
  pub fault : option_map found f ≡ least (needs k e)

pub record HasSpan (k : Known) (r : Option t.Range) (sp : Span) (f : Option Found) : Type 0 where
  pub span : plain_span sp ≡ d.optional_span k r
  pub fault : option_map found f ≡ least (d.range_needs k r)
