use Rattle.std.proofs.Common.{◌≡◌, ◌-◌, ◌^◌, ◌++◌, ℕ, suc, subst, arith}
use Rattle.netlist.specs.Message.{digits}
use Rattle.message_text.proofs.RadixLaws.{digit_pushed}
use Rattle.message_text.proofs.radix.append_digits.Goals as goal

pub loop-left-preserved : goal.loop-left-preserved
loop-left-preserved c =
    let s = c.args.size in
    let n = c.args.value in
    let was = c.loop-left in
    let all = c.args.out.now.items ++ digits (2 ^ s) c.args.count n in
    let next : was.left ≡ suc (was.left - 1) = omega arith in
    record {
      few = omega arith;
      whole = digit_pushed s (was.left - 1) n c.digit_at.result was.out.items c.push.new.text.items all c.digit_at.ensures
          c.in_ok-push.ensures
          (subst (λ (k : ℕ). was.out.items ++ digits (2 ^ s) k n ≡ all) next was.invariant.whole);
    }
