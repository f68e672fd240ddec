use Rattle.std.proofs.Common.{◌∙◌, ap, ℕ, ◌%◌, nat_eq}
use Rattle.std.specs.Int.Count.{ones}
use Rattle.bit_ops.proofs.Counted.{counted}
use Rattle.bit_ops.proofs.reduce.is_odd.Goals as goal

pub returns : goal.returns
returns c =
    ap (λ (n : ℕ). nat_eq (ones n % 2) 1) c.value.ensures ∙ ap (λ (n : ℕ). nat_eq (n % 2) 1) (counted c.args.a.width c.args.a.value c.args.a.fits)
