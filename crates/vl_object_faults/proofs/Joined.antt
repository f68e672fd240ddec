-- The least fault of all.
use Rattle.std.proofs.Common.{◌≡◌, List, ◌++◌, sym, ap, ◌∙◌}
use Rattle.std.specs.Prelude.{Option}
use Rattle.vl_tree.specs.declared.fault.FaultKind.TheVariants.{TooManyWords}
use Rattle.vl_value.specs.Order.{Found, lesser, least}
use Rattle.vl_value.proofs.OrderLaws.{least_joined}
use Rattle.vl_design.specs.Lists.{each_of}
use Rattle.vl_design.specs.Limits.{limits}
use Rattle.vl_design.specs.Scopes.{Scope}
use Rattle.vl_design.specs.ObjectFaults.{beyond, data_inputs, limit_faults, object_faults, scope_faults, told, words_of}
use Rattle.vl_top_clocks.specs.Data.{input_faults}
use Rattle.vl_object_faults.specs.Faults.{least_with, signal_faults}

abbrev word_faults : List Scope → List Found
word_faults ss = told (beyond limits.words 0 (each_of words_of ss)) TooManyWords

pub with_limits : (ss : List Scope) (words r : Option Found) → words ≡ least (word_faults ss) → r ≡ least_with ss words
    → r ≡ least (limit_faults limits ss)
with_limits ss words r are is =
    is ∙ ap (λ w. lesser (least (signal_faults ss)) w)
    (ap (λ w. lesser w (least (input_faults (data_inputs ss)))) are
    ∙ sym (least_joined (word_faults ss) (input_faults (data_inputs ss))))
    ∙ sym (least_joined (signal_faults ss) (word_faults ss ++ input_faults (data_inputs ss)))

pub of_all : (ss : List Scope) (own most r : Option Found) → own ≡ least (each_of scope_faults ss) → most ≡ least (limit_faults limits ss)
    → r ≡ lesser own most → r ≡ least (object_faults limits ss)
of_all ss own most r a b e =
    e ∙ (λ i. lesser (a i) (b i)) ∙ sym (least_joined (each_of scope_faults ss) (limit_faults limits ss))
