use Rattle.std.proofs.Common.{rules, arith, ap, ◌%◌, ◌^◌, sym, ◌∙◌}
use Rattle.std.proofs.Math.Nat.{mod-lt, mod-eq_of_lt}
use Rattle.vl_lex.specs.Digits.{z_bits}
use Rattle.vl_lex.proofs.DigitLaws.{read_is, wild_next, wild_end}
use Rattle.vl_lex.proofs.digits.wild_after.Goals as goal

pub loop-byte-init : goal.loop-byte-init
loop-byte-init c = record {
  so_far = ap (λ x. x % 2 ^ 128) (read_is (z_bits c.args.bits) (2 ^ c.args.bits) c.args.before c.args.digits.now);
  small = search rules;
}

pub loop-byte-preserved : goal.loop-byte-preserved
loop-byte-preserved c =
    let e = c.wild_step-wild.ensures in
    record {
      so_far = rw e (wild_next (z_bits c.args.bits) (2 ^ c.args.bits) (2 ^ 128) c.loop-byte.wild c.loop-byte.byte-index c.args.digits.now (search rules) ∙ c.loop-byte.invariant.so_far);
      small = rw e (mod-lt _ {m = 2 ^ 128} (omega arith));
    }

pub returns : goal.returns
returns c =
    let m = mod-eq_of_lt c.loop-byte.invariant.small in
    sym m ∙ wild_end (z_bits c.args.bits) (2 ^ c.args.bits) (2 ^ 128) c.loop-byte.wild c.loop-byte.byte-index c.args.digits.now c.loop-byte-test.false ∙ c.loop-byte.invariant.so_far
