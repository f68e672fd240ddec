use Rattle.std.proofs.Common.{ℕ, suc, ◌≡◌, ◌+◌, ◌++◌, [], length, arith, sym, ap, ◌∙◌}
use Rattle.vl_design.specs.Lists.{each_of}
use Rattle.vl_design.specs.Objects.{counted_behind}
use Rattle.vl_design.specs.Design.{memory_in}
use Rattle.vl_declares.specs.Plain.{all_plain}
use Rattle.vl_scopes.specs.Plain.{plain_scopes}
use Rattle.vl_memories.specs.Numbered.{scope_at}
use Rattle.vl_memories.proofs.Adding.{first, declared_at, all_listed, one_scope}
use Rattle.vl_memories.proofs.memories.memories.Goals as goal

pub loop-k-preserved : goal.loop-k-preserved
loop-k-preserved c = λ f.
    let k = c.loop-k.k in let all = c.args.scopes.now in
    let g = λ (j : ℕ). each_of (memory_in (f j).level.path) (counted_behind [] (declared_at all j)) in
    let here = one_scope all k c.index-scopes-k.result (omega (arith, c.loop-k-test.true)) in
    let next : suc k ≡ k + 1 = omega arith in
    c.in_ok-push_all.ensures f
    ∙ (λ i. c.loop-k.invariant f i ++ each_of (memory_in (f k).level.path) (counted_behind [] ((ap all_plain c.as_slice.ensures.value ∙ sym here) i)))
    ∙ ap (λ m. first m g) next

pub returns : goal.returns
returns c =
    let all = c.args.scopes.now in let ss = plain_scopes all in
    let g = λ (j : ℕ). each_of (memory_in (scope_at ss j).level.path) (counted_behind [] (declared_at all j)) in
    let end : c.loop-k.k ≡ length all = omega (arith, c.loop-k-test.false) in
    c.loop-k.invariant (scope_at ss) ∙ ap (λ m. first m g) end
    ∙ all_listed (λ s ds. each_of (memory_in s.level.path) (counted_behind [] ds)) all
