use Rattle.std.proofs.Common.{◌≡◌, ℕ, ◌<◌, ◌≤◌, length, get_or, sym, ap, subst, ◌∙◌, arith}
use Rattle.std.specs.List.{sum}
use Rattle.std.proofs.lemmas.List.{with_items_is}
use Rattle.dt_core.specs.BitVectors.{widths_of}
use Rattle.dt_core.proofs.RowLaws.{widths_are_wide}
use Rattle.dt_core.proofs.row.Row.new.Goals as goal

pub invariant_of-result : goal.invariant_of-result
invariant_of-result c =
    let bytes = with_items_is c.in_ok-bytes.bytes c.pack.new.bytes (omega arith) in
    let widths : c.in_ok-widths.widths.items ≡ widths_of c.args.values.items = c.in_ok-widths.ensures ∙ ap widths_of c.as_slice.ensures.value in
    let bits : sum c.as_slice-2.result.now ≡ sum c.in_ok-widths.widths.items = ap sum c.as_slice-2.ensures.value in
    record {
      wide = subst (λ ws. (k : ℕ) → k < length ws → (1 ≤ get_or ws k 0) × (get_or ws k 0 ≤ 128)) (sym widths) (widths_are_wide c.args.values.items);
      tight = ap length bytes ∙ omega (arith, c.in_ok-bytes.ensures.len, c.div_ceil.ensures, c.in-Some.ensures.1);
      counted = omega (arith, c.in-Some.ensures.0);
    }
