-- The line for bad words has their number.
use Rattle.std.proofs.Common.{arith, codes}
use Rattle.std.proofs.lemmas.List.{append_cancel_left, append_cancel_right}
use Rattle.std.proofs.lemmas.Fmt.{decimal_injective}
use Rattle.std.specs.Fmt.{decimal}
use Rattle.std.specs.Prelude.{◌++◌}
use Rattle.talk.specs.Laws.{UsageHasNumber}

pub usage_has_number : UsageHasNumber
usage_has_number m n small low e =
    let e1 = append_cancel_left (codes "usage: word ") (decimal m ++ codes "\n") (decimal n ++ codes "\n") e in
    let e2 = append_cancel_right (decimal m) (decimal n) (codes "\n") e1 in
    decimal_injective m n (omega (arith, small)) (omega (arith, low)) e2
