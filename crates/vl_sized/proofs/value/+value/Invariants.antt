use Rattle.std.proofs.Common.{◌≡◌, ◌+◌, ◌*◌, ◌++◌, drop, map}
use Rattle.std.specs.Prelude.{min}
use Rattle.dt_core.specs.declared.limits.TheConstants.{MAX_WIDTH}
use Rattle.bit_ops.specs.Operators.{low, concat}
use Rattle.vl_value.specs.Meaning as meaning
use Rattle.vl_width.specs.Objects.{plain_shape}
use Rattle.vl_width.specs.Terms.{At}
use Rattle.vl_sized.specs.Nodes.{at_of, among}
use Rattle.vl_sized.specs.Parts.{case_by}
use Rattle.vl_sized.specs.Plain.{meaning_of, run_steps, run_tests}
use Rattle.vl_sized.proofs.value.+value.Given as goal

abbrev pub invariant-after_steps-loop-step : goal.invariant-after_steps-loop-step
invariant-after_steps-loop-step g l = record {
  width : l.bits.width ≡ l.size.width;
  value : run_steps (g.V.Values.numbering l.values) (g.V.Values.moment l.values) l.size.width l.size.signed l.bits.value (drop l.step-index l.steps)
      ≡ run_steps (g.V.Values.numbering l.values) (g.V.Values.moment l.values) l.size.width l.size.signed l.fn.first.value l.steps;
}

abbrev pub invariant-after_tests-loop-test : goal.invariant-after_tests-loop-test
invariant-after_tests-loop-test g l =
    run_tests (g.V.Values.numbering l.values) (g.V.Values.moment l.values) (meaning.unsigned 1 l.bit).at (drop l.test-index l.tests)
    ≡ run_tests (g.V.Values.numbering l.values) (g.V.Values.moment l.values) (meaning.unsigned 1 l.fn.first).at l.tests

abbrev pub invariant-arguments-loop-k : goal.invariant-arguments-loop-k
invariant-arguments-loop-k g l =
    l.told.items ++ meaning.arguments (map plain_shape (drop l.k l.shapes))
    (map (meaning_of (g.V.Values.numbering l.values) (g.V.Values.moment l.values)) (drop l.k l.inputs))
    ≡ meaning.arguments (map plain_shape l.shapes) (map (meaning_of (g.V.Values.numbering l.values) (g.V.Values.moment l.values)) l.inputs)

abbrev pub invariant-first_true-loop-case : goal.invariant-first_true-loop-case
invariant-first_true-loop-case g l =
    (last : At) → among (map (case_by (at_of (g.V.Values.numbering l.values) (g.V.Values.moment l.values))) (drop l.case-index l.cases)) last l.size.width l.size.signed
    ≡ among (map (case_by (at_of (g.V.Values.numbering l.values) (g.V.Values.moment l.values))) l.cases) last l.size.width l.size.signed

abbrev pub invariant-together-loop-part : goal.invariant-together-loop-part
invariant-together-loop-part g l = record {
  width : min (l.all.width + meaning.widths (map (meaning_of (g.V.Values.numbering l.values) (g.V.Values.moment l.values)) (drop l.part-index l.parts))) MAX_WIDTH
      ≡ min (meaning.widths (map (meaning_of (g.V.Values.numbering l.values) (g.V.Values.moment l.values)) l.parts)) MAX_WIDTH;
  value : low MAX_WIDTH (concat (meaning.widths (map (meaning_of (g.V.Values.numbering l.values) (g.V.Values.moment l.values)) (drop l.part-index l.parts))) l.all.value
      (meaning.joined (map (meaning_of (g.V.Values.numbering l.values) (g.V.Values.moment l.values)) (drop l.part-index l.parts))))
      ≡ low MAX_WIDTH (meaning.joined (map (meaning_of (g.V.Values.numbering l.values) (g.V.Values.moment l.values)) l.parts));
}

-- where each stands in a round of calls that comes to no smaller tree
abbrev pub decreases-at : goal.decreases-at
decreases-at g l = 4 * goal.size-at g l

abbrev pub decreases-value : goal.decreases-value
decreases-value g l = 4 * goal.size-value g l + 1

abbrev pub decreases-arguments : goal.decreases-arguments
decreases-arguments g l = 4 * goal.size-arguments g l + 1

abbrev pub decreases-together : goal.decreases-together
decreases-together g l = 4 * goal.size-together g l + 1

abbrev pub decreases-after_tests : goal.decreases-after_tests
decreases-after_tests g l = 4 * goal.size-after_tests g l + 1

abbrev pub decreases-after_steps : goal.decreases-after_steps
decreases-after_steps g l = 4 * goal.size-after_steps g l + 1

abbrev pub decreases-first_true : goal.decreases-first_true
decreases-first_true g l = 4 * goal.size-first_true g l + 1

abbrev pub decreases-index_of : goal.decreases-index_of
decreases-index_of g l = 4 * goal.size-index_of g l + 2

abbrev pub decreases-number_in : goal.decreases-number_in
decreases-number_in g l = 4 * goal.size-number_in g l + 3

abbrev pub decreases-read : goal.decreases-read
decreases-read g l = 4 * goal.size-read g l + 3
