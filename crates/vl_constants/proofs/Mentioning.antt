-- One element after another.
use Rattle.std.proofs.Common.{◌≡◌, Bool, true, false}
use Rattle.std.specs.Prelude.{◌||◌}

-- the first part tells
pub by_first : (a b all : Bool) → a ≡ true → (a || b) ≡ all → true ≡ all
by_first true b all h e = e
by_first false b all h e = absurd cc

-- the first part doesn't
pub by_rest : (a b all : Bool) → a ≡ false → (a || b) ≡ all → b ≡ all
by_rest true b all h e = absurd cc
by_rest false b all h e = e

-- the second of three parts
pub by_second : (a b d all : Bool) → a ≡ false → b ≡ true → (a || (b || d)) ≡ all → true ≡ all
by_second true b d all h g e = absurd cc
by_second false true d all h g e = e
by_second false false d all h g e = absurd cc

pub by_third : (a b d all : Bool) → a ≡ false → b ≡ false → (a || (b || d)) ≡ all → d ≡ all
by_third true b d all h g e = absurd cc
by_third false true d all h g e = absurd cc
by_third false false d all h g e = e

-- ---- one of two in front of the rest

pub pair_first : (a b d all : Bool) → a ≡ true → ((a || b) || d) ≡ all → true ≡ all
pair_first true b d all h e = e
pair_first false b d all h e = absurd cc

pub pair_second : (a b d all : Bool) → a ≡ false → b ≡ true → ((a || b) || d) ≡ all → true ≡ all
pair_second true b d all h g e = absurd cc
pair_second false true d all h g e = e
pair_second false false d all h g e = absurd cc

pub pair_rest : (a b d all : Bool) → a ≡ false → b ≡ false → ((a || b) || d) ≡ all → d ≡ all
pair_rest true b d all h g e = absurd cc
pair_rest false true d all h g e = absurd cc
pair_rest false false d all h g e = e
