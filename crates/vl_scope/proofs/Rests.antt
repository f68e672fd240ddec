-- A test of each of a list, one on: the rest decides for all once one has passed, and all have failed once one has.
use Rattle.std.proofs.Common.{◌≡◌, Bool, true, false, ◌&&◌, sym, ap, ◌∙◌}

pub passed_on : (b rest all whole : Bool) → true ≡ b → all ≡ (b && rest) → all ≡ whole → rest ≡ whole
passed_on b rest all whole passed is same = ap (λ y. y && rest) passed ∙ sym is ∙ same

pub failed_at : (b rest all whole : Bool) → false ≡ b → all ≡ (b && rest) → all ≡ whole → false ≡ whole
failed_at b rest all whole failed is same = ap (λ y. y && rest) failed ∙ sym is ∙ same

-- a test of two parts
pub both_pass : (a b : Bool) → true ≡ a → true ≡ b → true ≡ (a && b)
both_pass a b h k = k ∙ ap (λ y. y && b) h

pub first_fails : (a b : Bool) → false ≡ a → false ≡ (a && b)
first_fails a b h = ap (λ y. y && b) h

pub second_fails : (a b : Bool) → true ≡ a → false ≡ b → false ≡ (a && b)
second_fails a b h k = k ∙ ap (λ y. y && b) h
